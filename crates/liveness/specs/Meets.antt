-- Three runs of four sites that keep what the promises on deciding ask for: three sites recover while the fourth lies; four decide
-- fast after a view change; and four decide fast in the first view.
use Rattle.std.specs.Prelude.{◌≡◌, ℕ, ◌+◌, ◌*◌, ◌≤◌, true, List, [], ◌∷◌, ◌++◌, Some, None, nat_lt}
use Rattle.values.specs.declared.fix.Value.{Value}
use Rattle.values.specs.Fleets.{sites, fast_quorum, progress_quorum}
use Rattle.values.specs.Refusals.{gathered_already}
use Rattle.wire.specs.Contents.{Turn, Content, propose, commit, new_view}
use Rattle.agreement.specs.Examples.{d, e, viewed}
use Rattle.agreement.specs.Sites.{SiteSet, size}
use Rattle.calls.specs.Calls.{to_propose, to_leave}
use Rattle.calls.specs.Examples.{row, claim, moving, vote, preparing, offer_d, offer_e}
use Rattle.liveness.specs.Recovery.{Times, Meeting, HearCommits}
use Rattle.runs.specs.Runs.{by_the_rules}
use Rattle.runs.specs.Happens.{all_but_0, opened_world}
use Rattle.liveness.specs.Scripts.{drafts, quiet, refuses, Line, on, hears, Script, script, calls, Played, Undecided}

-- a new-view of site i for view 2, tagged with row k, that reports a prepare of x in view 1; and one that reports none
abbrev pub turn_with : ℕ → Value → ℕ → Turn
turn_with i x k = moving i 2 (Some (viewed 1 x)) k

abbrev pub turn_without : ℕ → ℕ → Turn
turn_without i k = moving i 2 None k

-- the site of this new-view leaves for view 2 and drafts it
abbrev pub leaves : Turn → Line
leaves x = on x.head.site (to_leave 2) (drafts (new_view x))

-- site 1, which leads view 2, proposes d there
abbrev pub offering : ℕ → List Turn → Content
offering k xs = propose (claim 1 2 d) (row k) xs

-- ---- three sites recover ----

-- site 0 lies: it leads view 1, and proposes d to sites 1 and 2, and e to site 3; the leader of view 2 it tells that it prepared e
abbrev lie : Turn
lie = turn_with 0 e 2

abbrev pub recovery_offer : Content
recovery_offer = offering 9 (lie ∷ turn_with 1 d 6 ∷ turn_with 2 d 7 ∷ [])

-- in view 2 each of the others prepares d, and commits it with the prepares of all three
abbrev recovery_prepare : ℕ → Content
recovery_prepare i = preparing i 2 d (9 + i)

abbrev recovery_commit : ℕ → Content
recovery_commit i = commit (claim i 2 d) (row (12 + i)) (vote 1 10 ∷ vote 2 11 ∷ vote 3 12 ∷ [])

abbrev hears_three_prepares : ℕ → List Line
hears_three_prepares i = hears i (recovery_prepare 1) quiet ∷ hears i (recovery_prepare 2) quiet ∷ hears i (recovery_prepare 3) (drafts (recovery_commit i)) ∷ []

abbrev hears_three_commits : ℕ → List Line
hears_three_commits i = hears i (recovery_commit 1) quiet ∷ hears i (recovery_commit 2) quiet ∷ hears i (recovery_commit 3) quiet ∷ []

abbrev recovery_lines : List Line
recovery_lines =
    -- view 1: two sites prepare d, and each hears both prepares; one prepares e
    hears 1 offer_d (drafts (preparing 1 1 d 3))
    ∷ hears 2 offer_d (drafts (preparing 2 1 d 4))
    ∷ hears 3 offer_e (drafts (preparing 3 1 e 5))
    ∷ hears 1 (preparing 1 1 d 3) quiet
    ∷ hears 1 (preparing 2 1 d 4) quiet
    ∷ hears 2 (preparing 1 1 d 3) quiet
    ∷ hears 2 (preparing 2 1 d 4) quiet
    -- they leave for view 2, and its leader gathers three new-views, one of them the lie: that of site 3 comes too late
    ∷ leaves (turn_with 1 d 6)
    ∷ leaves (turn_with 2 d 7)
    ∷ leaves (turn_with 3 e 8)
    ∷ hears 1 (new_view lie) quiet
    ∷ hears 1 (new_view (turn_with 1 d 6)) quiet
    ∷ hears 1 (new_view (turn_with 2 d 7)) quiet
    ∷ hears 1 (new_view (turn_with 3 e 8)) (refuses gathered_already)
    -- it has heard all new-views of these three when it proposes: it is handed e, but two prepares of d force d
    ∷ on 1 (to_propose e) (drafts recovery_offer)
    ∷ hears 1 recovery_offer (drafts (recovery_prepare 1))
    ∷ hears 2 recovery_offer (drafts (recovery_prepare 2))
    ∷ hears 3 recovery_offer (drafts (recovery_prepare 3))
    ∷ (hears_three_prepares 1 ++ (hears_three_prepares 2 ++ (hears_three_prepares 3 ++ (hears_three_commits 1 ++ (hears_three_commits 2 ++ hears_three_commits 3)))))

abbrev pub recovery : Script
recovery = script (offer_d ∷ offer_e ∷ new_view lie ∷ []) recovery_lines

abbrev pub recovery_times : Times
recovery_times = record { entered = λ i. 7 + i; proposed = 15; proposal_heard = λ i. 15 + i; prepares_heard = λ i. 18 + 3 * i; commits_heard = λ i. 27 + 3 * i }

-- Sites 1 to 3 follow the rules, and are enough. They meet in view 2, and when its leader proposes, none of them has decided.
pub record Recovers : Type 0 where
  pub played : Played by_the_rules recovery all_but_0
  pub enough : progress_quorum 1 0 ≤ size all_but_0 (sites 1 0)
  pub meeting : Meeting 1 0 opened_world (calls recovery) all_but_0 all_but_0 2 recovery_times recovery_times.commits_heard
  pub hear_commits : HearCommits 1 0 opened_world (calls recovery) all_but_0 all_but_0 2 recovery_times
  pub undecided : (i : ℕ) → all_but_0 i ≡ true → Undecided by_the_rules recovery 14 i

-- ---- four sites decide fast ----

abbrev pub all_four : SiteSet
all_four i = nat_lt i 4

-- In a view all four hear this offer of d and prepare it. Then each hears the prepares of all, and commits d with the first three.
-- The offer is row k of the register, and the rows after it are the prepares and the commits.
module _ (view k : ℕ) (offer : Content) where
  abbrev fast_prepare : ℕ → Content
  fast_prepare i = preparing i view d (k + 1 + i)

  abbrev fast_commit : ℕ → Content
  fast_commit i = commit (claim i view d) (row (k + 5 + i)) (vote 0 (k + 1) ∷ vote 1 (k + 2) ∷ vote 2 (k + 3) ∷ [])

  abbrev hears_offer : ℕ → Line
  hears_offer i = hears i offer (drafts (fast_prepare i))

  abbrev hears_four_prepares : ℕ → List Line
  hears_four_prepares i =
      hears i (fast_prepare 0) quiet
      ∷ hears i (fast_prepare 1) quiet
      ∷ hears i (fast_prepare 2) (drafts (fast_commit i))
      ∷ hears i (fast_prepare 3) quiet
      ∷ []

  abbrev all_prepare : List Line
  all_prepare =
      hears_offer 0
      ∷ hears_offer 1
      ∷ hears_offer 2
      ∷ hears_offer 3
      ∷ (hears_four_prepares 0 ++ (hears_four_prepares 1 ++ (hears_four_prepares 2 ++ hears_four_prepares 3)))

-- when they do so, if n calls are made before these; that commits are heard is not asked for
abbrev fast_times : (ℕ → ℕ) → ℕ → ℕ → Times
fast_times entered proposed n = record { entered = entered; proposed = proposed; proposal_heard = λ i. n + 1 + i; prepares_heard = λ i. n + 8 + 4 * i; commits_heard = λ i. n + 8 + 4 * i }

-- ---- in view 2 ----

abbrev pub second_view_offer : Content
second_view_offer = offering 7 (turn_with 0 d 3 ∷ turn_with 1 d 4 ∷ turn_without 2 5 ∷ [])

abbrev second_view_lines : List Line
second_view_lines =
    -- view 1: two sites prepare d, and hear of it
    on 0 (to_propose d) (drafts offer_d)
    ∷ hears 0 offer_d (drafts (preparing 0 1 d 1))
    ∷ hears 1 offer_d (drafts (preparing 1 1 d 2))
    ∷ hears 0 (preparing 0 1 d 1) quiet
    ∷ hears 1 (preparing 0 1 d 1) quiet
    ∷ hears 1 (preparing 1 1 d 2) quiet
    -- all leave for view 2, and its leader gathers three new-views
    ∷ leaves (turn_with 0 d 3)
    ∷ leaves (turn_with 1 d 4)
    ∷ leaves (turn_without 2 5)
    ∷ leaves (turn_without 3 6)
    ∷ hears 1 (new_view (turn_with 0 d 3)) quiet
    ∷ hears 1 (new_view (turn_with 1 d 4)) quiet
    ∷ hears 1 (new_view (turn_without 2 5)) quiet
    -- the leader proposes before it has heard the last new-view: it is handed e, but two prepares of d force d
    ∷ on 1 (to_propose e) (drafts second_view_offer)
    -- that of site 3 comes too late
    ∷ hears 1 (new_view (turn_without 3 6)) (refuses gathered_already)
    ∷ all_prepare 2 7 second_view_offer

abbrev pub second_view : Script
second_view = script [] second_view_lines

abbrev pub second_view_times : Times
second_view_times = fast_times (λ i. 7 + i) 14 15

-- All four sites follow the rules, and are enough. They meet in view 2, and when its leader proposes, none of them has decided.
-- The leader proposes before it has heard the last new-view, but is not refused.
pub record DecidesFast : Type 0 where
  pub played : Played by_the_rules second_view all_four
  pub enough : fast_quorum 1 0 ≤ size all_four (sites 1 0)
  pub meeting : Meeting 1 0 opened_world (calls second_view) all_four all_four 2 second_view_times second_view_times.prepares_heard
  pub undecided : (i : ℕ) → all_four i ≡ true → Undecided by_the_rules second_view 13 i

-- ---- in the first view ----

-- its leader, site 0, proposes d, and nobody leaves
abbrev first_view_lines : List Line
first_view_lines = on 0 (to_propose d) (drafts offer_d) ∷ all_prepare 1 0 offer_d

abbrev pub first_view : Script
first_view = script [] first_view_lines

abbrev pub first_view_times : Times
first_view_times = fast_times (λ i. 0) 1 1

-- All four sites follow the rules, and are enough. They meet in view 1, where there are no new-views to hear.
pub record DecidesFirst : Type 0 where
  pub played : Played by_the_rules first_view all_four
  pub enough : fast_quorum 1 0 ≤ size all_four (sites 1 0)
  pub meeting : Meeting 1 0 opened_world (calls first_view) all_four all_four 1 first_view_times first_view_times.prepares_heard
