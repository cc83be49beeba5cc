-- Runs of sites that behave by the wrong rules, in which one site decides d and another e. Site 0 lies: it leads view 1.
use Rattle.std.specs.Prelude.{ℕ, ◌+◌, cond, List, [], ◌∷◌, ◌++◌, Some, None, Option, ◌==◌}
use Rattle.values.specs.declared.fix.Value.{Value}
use Rattle.values.specs.declared.fix.Report.{Report}
use Rattle.wire.specs.Contents.{Vote, Turn, Content, propose, commit, new_view}
use Rattle.agreement.specs.Examples.{d, e, viewed}
use Rattle.calls.specs.Calls.{to_propose, to_leave}
use Rattle.calls.specs.Examples.{claim, row, vote, moving, preparing, offer_d, offer_e}
use Rattle.liveness.specs.Scripts.{drafts, quiet, Line, on, hears, Script, script}

-- at the end of the run of the script, these two sites have decided d and e
pub record Case : Type 0 where
  pub script : Script
  pub of_d : ℕ
  pub of_e : ℕ

-- site i commits x in the view, by the prepares of the voters; the commit is row k
abbrev commit_by : ℕ → ℕ → Value → ℕ → List Vote → Content
commit_by i view x k votes = commit (claim i view x) (row k) votes

-- site i hears three prepares, and commits by them
abbrev hears_three : ℕ → Content → Content → Content → Content → List Line
hears_three i x y z said = hears i x quiet ∷ hears i y quiet ∷ hears i z (drafts said) ∷ []

-- ---- never asking: site 1 decides d, which all prepare, and site 2 hears forged prepares of e; no row is of those ----

abbrev pub forged : Case
forged =
    record {
      script =
          script (offer_d ∷ preparing 0 1 d 1 ∷ [])
          (hears 1 offer_d (drafts (preparing 1 1 d 2))
          ∷ hears 2 offer_d (drafts (preparing 2 1 d 3))
          ∷ hears 3 offer_d (drafts (preparing 3 1 d 4))
          ∷ (hears_three 1 (preparing 0 1 d 1) (preparing 1 1 d 2) (preparing 2 1 d 3) (commit_by 1 1 d 5 (vote 0 1 ∷ vote 1 2 ∷ vote 2 3 ∷ []))
          ++ (hears 1 (preparing 3 1 d 4) quiet
          ∷ (hears_three 2 (preparing 1 1 e 9) (preparing 2 1 e 9) (preparing 3 1 e 9) (commit_by 2 1 e 6 (vote 1 9 ∷ vote 2 9 ∷ vote 3 9 ∷ []))
          ++ (hears 2 (preparing 0 1 e 9) quiet ∷ [])))));
      of_d = 1;
      of_e = 2;
    }

-- ---- deciding with the first prepare: site 1 hears its own of d, and site 2 its own of e ----

abbrev pub own_prepares : Case
own_prepares =
    record {
      script =
          script (offer_d ∷ offer_e ∷ [])
          (hears 1 offer_d (drafts (preparing 1 1 d 2))
          ∷ hears 2 offer_e (drafts (preparing 2 1 e 3))
          ∷ hears 1 (preparing 1 1 d 2) quiet
          ∷ hears 2 (preparing 2 1 e 3) quiet
          ∷ []);
      of_d = 1;
      of_e = 2;
    }

-- ---- deciding e in a later view ----

-- Sites a and b leave for the view, and its leader, one of them, proposes e over the new-views of the liar and of these two. The
-- three prepare e, and commit it, and b hears their commits. A new-view of site i reports the prepare `reports i`. The liar's
-- messages are the rows from `lies` on, and what is drafted those from `said` on.
module _ (view leader a b : ℕ) (reports : ℕ → Option Report) (lies said : ℕ) where
  abbrev turn : ℕ → ℕ → Turn
  turn i k = moving i view (reports i) k

  abbrev liars_turn : Turn
  liars_turn = turn 0 lies

  abbrev liars_prepare : Content
  liars_prepare = preparing 0 view e (lies + 1)

  abbrev voters : List Vote
  voters = vote 0 (lies + 1) ∷ vote a (said + 3) ∷ vote b (said + 4) ∷ []

  abbrev liars_commit : Content
  liars_commit = commit_by 0 view e (lies + 2) voters

  abbrev later_lies : List Content
  later_lies = new_view liars_turn ∷ liars_prepare ∷ liars_commit ∷ []

  abbrev turn_a : Turn
  turn_a = turn a said

  abbrev turn_b : Turn
  turn_b = turn b (said + 1)

  abbrev offer : Content
  offer = propose (claim leader view e) (row (said + 2)) (liars_turn ∷ turn_a ∷ turn_b ∷ [])

  abbrev prepare_a : Content
  prepare_a = preparing a view e (said + 3)

  abbrev prepare_b : Content
  prepare_b = preparing b view e (said + 4)

  abbrev commit_a : Content
  commit_a = commit_by a view e (said + 5) voters

  abbrev commit_b : Content
  commit_b = commit_by b view e (said + 6) voters

  abbrev later_lines : List Line
  later_lines =
      on a (to_leave view) (drafts (new_view turn_a))
      ∷ on b (to_leave view) (drafts (new_view turn_b))
      ∷ hears leader (new_view liars_turn) quiet
      ∷ hears leader (new_view turn_a) quiet
      ∷ hears leader (new_view turn_b) quiet
      ∷ on leader (to_propose e) (drafts offer)
      ∷ hears a offer (drafts prepare_a)
      ∷ hears b offer (drafts prepare_b)
      ∷ (hears_three a liars_prepare prepare_a prepare_b commit_a
      ++ (hears_three b liars_prepare prepare_a prepare_b commit_b
      ++ (hears b liars_commit quiet ∷ hears b commit_a quiet ∷ hears b commit_b quiet ∷ [])))

-- ---- a smaller quorum: site 2 decides d too early, and in view 2 e is forced, since the liar and site 3 report it ----

abbrev too_early_reports : ℕ → Option Report
too_early_reports i = Some (viewed 1 (cond (i == 1) d e))

-- the voters for d
abbrev three_of_d : List Vote
three_of_d = vote 0 2 ∷ vote 1 7 ∷ vote 2 8 ∷ []

abbrev pub too_early : Case
too_early =
    record {
      script =
          script (offer_d ∷ offer_e ∷ preparing 0 1 d 2 ∷ commit_by 0 1 d 3 three_of_d ∷ later_lies 2 1 1 3 too_early_reports 4 11)
          (hears 1 offer_d (drafts (preparing 1 1 d 7))
          ∷ hears 2 offer_d (drafts (preparing 2 1 d 8))
          ∷ hears 3 offer_e (drafts (preparing 3 1 e 9))
          ∷ (hears_three 2 (preparing 0 1 d 2) (preparing 1 1 d 7) (preparing 2 1 d 8) (commit_by 2 1 d 10 three_of_d)
          ++ (hears 2 (commit_by 2 1 d 10 three_of_d) quiet
          ∷ hears 2 (commit_by 0 1 d 3 three_of_d) quiet
          ∷ later_lines 2 1 1 3 too_early_reports 4 11)));
      of_d = 2;
      of_e = 3;
    }

-- ---- forgetting the last prepare: site 3 decides d, sites 1 and 2 leave twice and report nothing, and in view 3 e is free ----

abbrev pub left_twice : Case
left_twice =
    record {
      script =
          script (offer_d ∷ preparing 0 1 d 1 ∷ later_lies 3 2 1 2 (λ i. None) 2 11)
          (hears 1 offer_d (drafts (preparing 1 1 d 5))
          ∷ hears 2 offer_d (drafts (preparing 2 1 d 6))
          ∷ hears 3 offer_d (drafts (preparing 3 1 d 7))
          ∷ (hears_three 3 (preparing 0 1 d 1) (preparing 1 1 d 5) (preparing 2 1 d 6) (commit_by 3 1 d 8 (vote 0 1 ∷ vote 1 5 ∷ vote 2 6 ∷ []))
          ++ (hears 3 (preparing 3 1 d 7) quiet
          ∷ on 1 (to_leave 2) (drafts (new_view (moving 1 2 (Some (viewed 1 d)) 9)))
          ∷ on 2 (to_leave 2) (drafts (new_view (moving 2 2 (Some (viewed 1 d)) 10)))
          ∷ later_lines 3 2 1 2 (λ i. None) 2 11)));
      of_d = 3;
      of_e = 2;
    }
