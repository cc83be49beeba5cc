-- A meeting in the run of a script, computed.
use Rattle.std.proofs.Common.{◌≡◌, ℕ, suc, ◌-◌, ◌<◌, ◌≤◌, ◌⊎◌, Bool, true, false, cond, List, [], ◌∷◌, inl, inr}
use Rattle.std.specs.Prelude.{◌==◌, nat_lt, nat_le}
use Rattle.std.specs.List.{list_all}
use Rattle.std.proofs.lemmas.Bool.{eqb-true, ltb-true, leb-true}
use Rattle.values.specs.Fleets.{sites, leader_of}
use Rattle.agreement.specs.Sites.{SiteSet, size, all_but}
use Rattle.agreement.specs.Statements.{Each}
use Rattle.runs.specs.Runs.{Behaviour, Event}
use Rattle.liveness.specs.Recovery.{proposals, prepares, commits, new_views, NotRefused, Times, Due, Meeting, HearCommits}
use Rattle.runs.specs.Happens.{opened_by}
use Rattle.liveness.specs.Scripts.{Script, calls, Played}
use Rattle.runs.proofs.Watching.{in_words}
use Rattle.runs.proofs.Happens.{among_four}
use Rattle.liveness.proofs.Lines.{Passed, played}
use Rattle.liveness.proofs.LineTests.{all_true, each_true, each_passes, passed_by, line_fits}
use Rattle.liveness.proofs.LinesMeet.{hears_all, hears_all_so, stays, stays_so, enters, enters_so, proposes_at, accepted_at, Proposing, proposes_so}

-- A meeting of the sites that follow the rules, in the run of a script. all_heard: whether the leader has heard the new-views of all
-- when it proposes; when, and who: that at this call none of these sites has decided.
module _ (rules : Behaviour) (s : Script) (good : SiteSet) (view : ℕ) (times : Times) (until : ℕ → ℕ) (all_heard : Bool) (when : ℕ) (who : SiteSet) where
  abbrev leader : ℕ
  leader = leader_of (sites 1 0) view

  -- the number of the call with which it proposes
  abbrev number : ℕ
  number = times.proposed - 1

  -- ---- tests ----

  abbrev site_enters : ℕ → Bool
  site_enters i = enters s i view (times.entered i)

  abbrev site_stays : ℕ → Bool
  site_stays i = stays s i (times.entered i) (until i)

  abbrev new_views_heard : ℕ → Bool
  new_views_heard i = hears_all s new_views view i (times.entered i) leader (times.entered leader) number

  abbrev proposal_heard : ℕ → Bool
  proposal_heard i = hears_all s proposals view leader times.proposed i (times.entered i) (times.proposal_heard i)

  abbrev proposal_in_turn : ℕ → Bool
  proposal_in_turn i = nat_le (times.proposal_heard i) (until i)

  abbrev prepares_heard : ℕ → ℕ → Bool
  prepares_heard i j = hears_all s prepares view i (times.proposal_heard i) j (times.entered j) (times.prepares_heard j)

  abbrev prepares_in_turn : ℕ → Bool
  prepares_in_turn i = nat_le (times.prepares_heard i) (until i)

  abbrev commits_heard : ℕ → ℕ → Bool
  commits_heard i j = hears_all s commits view i (times.prepares_heard i) j (times.entered j) (times.commits_heard j)

  abbrev run_tests : List Bool
  run_tests = list_all (λ (x : Event). good x.site) (calls s) ∷ list_all (λ (x : Event). in_words x.request) (calls s) ∷ list_all line_fits s.lines ∷ []

  abbrev view_tests : List Bool
  view_tests = good leader ∷ each_passes good site_enters ∷ each_passes good site_stays ∷ []

  abbrev due_or_accepted : Bool → Bool
  due_or_accepted b = cond b (each_passes good new_views_heard) (accepted_at s number)

  abbrev propose_tests : List Bool
  propose_tests =
      (suc number == times.proposed)
      ∷ proposes_at s number leader
      ∷ nat_le (times.entered leader) number
      ∷ due_or_accepted all_heard
      ∷ nat_le times.proposed (until leader)
      ∷ []

  abbrev hear_tests : List Bool
  hear_tests =
      each_passes good proposal_heard
      ∷ each_passes good proposal_in_turn
      ∷ each_passes good (λ i. each_passes good (prepares_heard i))
      ∷ each_passes good prepares_in_turn
      ∷ []

  -- what is computed of the run of a script, and of the meeting in it
  pub record Computed : Type 0 where
    pub goes : Passed rules good s when who
    pub run : all_true run_tests ≡ true
    pub views : all_true view_tests ≡ true
    pub propose : all_true propose_tests ≡ true
    pub hears : all_true hear_tests ≡ true

  -- and of commits
  abbrev pub all_commits_heard : Bool
  all_commits_heard = each_passes good (λ i. each_passes good (commits_heard i))

  -- ---- what they tell ----

  -- the script is played, and the sites meet
  pub record Meets : Type 0 where
    pub played : Played rules s good
    pub meeting : Meeting 1 0 (opened_by rules) (calls s) good good view times until

  module _ (inside : (i : ℕ) → good i ≡ true → nat_lt i 4 ≡ true) (c : Computed) where
    low : (i : ℕ) → good i ≡ true → i < 4
    low i h = ltb-true i 4 (inside i h)

    passes : (test : ℕ → Bool) → each_passes good test ≡ true → (i : ℕ) → good i ≡ true → test i ≡ true
    passes test h i k = passed_by good low test h i k

    all_pass : (test : ℕ → ℕ → Bool) → each_passes good (λ i. each_passes good (test i)) ≡ true → (i j : ℕ) → good i ≡ true → good j ≡ true → test i j ≡ true
    all_pass test h i j a b = passes (test i) (passes (λ i. each_passes good (test i)) h i a) j b

    of_run : Each (λ b. b ≡ true) run_tests
    of_run = each_true run_tests c.run

    of_views : Each (λ b. b ≡ true) view_tests
    of_views = each_true view_tests c.views

    of_propose : Each (λ b. b ≡ true) propose_tests
    of_propose = each_true propose_tests c.propose

    of_hears : Each (λ b. b ≡ true) hear_tests
    of_hears = each_true hear_tests c.hears

    fit : list_all line_fits s.lines ≡ true
    fit = of_run.1.1.0

    proposing : Proposing s rules good when who c.goes fit number leader
    proposing = proposes_so s rules good when who c.goes fit number leader of_propose.1.0

    -- the propose is due, if all new-views are heard then; if they are not, it is not refused all the same
    due_so : (b : Bool) → due_or_accepted b ≡ true
        → NotRefused (opened_by rules) (calls s) number proposing.calls.call ⊎ Due 1 0 (opened_by rules) (calls s) good good view times number proposing.calls.call proposing.value
    due_so true h =
        inr (record {
          legal = proposing.legal;
          roomy = proposing.roomy;
          hears_new_views = λ i g. hears_all_so s rules good when who c.goes fit new_views view i (times.entered i) leader (times.entered leader) number (passes new_views_heard h i g);
        })
    due_so false h = inl (proposing.accepted h)

    pub they_meet : size (all_but good) 4 ≤ 1 → Meets
    they_meet few =
        record {
          played = played s rules good when who c.goes few (λ i h. among_four i (inside i h)) of_run.0 of_run.1.0;
          meeting = record {
            follow = λ i h. h;
            led = of_views.0;
            enter = λ i h. enters_so s rules good when who c.goes fit i view (times.entered i) (passes site_enters of_views.1.0 i h);
            stay = λ i h. stays_so s rules good when who c.goes fit i (times.entered i) (until i) (passes site_stays of_views.1.1.0 i h);
            proposes = record {
              number = number;
              last = eqb-true (suc number) times.proposed of_propose.0;
              value = proposing.value;
              calls = proposing.calls;
              entered = leb-true (times.entered leader) number of_propose.1.1.0;
              due = due_so all_heard of_propose.1.1.1.0;
            };
            proposes_then = leb-true times.proposed (until leader) of_propose.1.1.1.1.0;
            hear_proposal = λ i h. hears_all_so s rules good when who c.goes fit proposals view leader times.proposed i (times.entered i) (times.proposal_heard i) (passes proposal_heard of_hears.0 i h);
            proposal_then = λ i h. leb-true (times.proposal_heard i) (until i) (passes proposal_in_turn of_hears.1.0 i h);
            hear_prepares = λ i j h k. hears_all_so s rules good when who c.goes fit prepares view i (times.proposal_heard i) j (times.entered j) (times.prepares_heard j) (all_pass prepares_heard of_hears.1.1.0 i j h k);
            prepares_then = λ i h. leb-true (times.prepares_heard i) (until i) (passes prepares_in_turn of_hears.1.1.1.0 i h);
          };
        }

    pub they_hear_commits : all_commits_heard ≡ true → HearCommits 1 0 (opened_by rules) (calls s) good good view times
    they_hear_commits h i j a b = hears_all_so s rules good when who c.goes fit commits view i (times.prepares_heard i) j (times.entered j) (times.commits_heard j) (all_pass commits_heard h i j a b)
