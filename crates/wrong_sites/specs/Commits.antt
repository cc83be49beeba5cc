-- Two runs of wrong sites that draft too little in view 2, because of what they drafted or decided in view 1. There the liar, site 0,
-- proposes d and prepares it, and so do those that hear the proposal. In view 2 d is forced, but too few commit it.
use Rattle.std.specs.Prelude.{ℕ, ◌+◌, ◌*◌, List, [], ◌∷◌, ◌++◌}
use Rattle.wire.specs.Contents.{Vote, Turn, Content, commit, new_view}
use Rattle.agreement.specs.Examples.{d, e}
use Rattle.calls.specs.Calls.{to_propose, to_read}
use Rattle.calls.specs.Examples.{row, claim, vote, committed_too, preparing, committing, offer_d}
use Rattle.runs.specs.Happens.{all_but_0}
use Rattle.liveness.specs.Recovery.{Times}
use Rattle.liveness.specs.Meets.{turn_with, turn_without, leaves, offering}
use Rattle.liveness.specs.Scripts.{drafts, quiet, Line, on, hears, script}
use Rattle.wrong_sites.specs.UndecidedRuns.{Case}

-- ---- view 1 ----

abbrev first_prepare : ℕ → Content
first_prepare i = preparing i 1 d (1 + i)

abbrev lies : List Content
lies = offer_d ∷ first_prepare 0 ∷ []

-- a commit of d in view 1 is made with these prepares
abbrev first_votes : List Vote
first_votes = vote 0 1 ∷ vote 1 2 ∷ vote 2 3 ∷ []

-- site i hears them, and its commit is row k
abbrev commits_first : ℕ → ℕ → List Line
commits_first i k = hears i (first_prepare 0) quiet ∷ hears i (first_prepare 1) quiet ∷ hears i (first_prepare 2) (drafts (committing i first_votes k)) ∷ []

-- ---- site 1 has committed, and drafts no commit in view 2 ----

abbrev shown_by_1 : Turn
shown_by_1 = committed_too (turn_with 1 d 5) d first_votes

abbrev offer_to_commit : Content
offer_to_commit = offering 8 (shown_by_1 ∷ turn_with 2 d 6 ∷ turn_without 3 7 ∷ [])

abbrev second_prepare : ℕ → Content
second_prepare i = preparing i 2 d (8 + i)

-- sites 2 and 3 commit d
abbrev second_commit : ℕ → Content
second_commit i = commit (claim i 2 d) (row (10 + i)) (vote 1 9 ∷ vote 2 10 ∷ vote 3 11 ∷ [])

abbrev hears_two_commits : ℕ → List Line
hears_two_commits i = hears i (second_commit 2) quiet ∷ hears i (second_commit 3) quiet ∷ []

-- they leave for view 2, where site 1 shows its commit certificate, and proposes
abbrev commit_missing_then : List Line
commit_missing_then =
    leaves shown_by_1
    ∷ leaves (turn_with 2 d 6)
    ∷ leaves (turn_without 3 7)
    ∷ hears 1 (new_view shown_by_1) quiet
    ∷ hears 1 (new_view (turn_with 2 d 6)) quiet
    ∷ hears 1 (new_view (turn_without 3 7)) quiet
    ∷ on 1 (to_propose e) (drafts offer_to_commit)
    ∷ hears 1 offer_to_commit (drafts (second_prepare 1))
    ∷ hears 2 offer_to_commit (drafts (second_prepare 2))
    ∷ hears 3 offer_to_commit (drafts (second_prepare 3))
    -- each hears three prepares, but site 1 drafts no commit
    ∷ hears 1 (second_prepare 1) quiet
    ∷ hears 1 (second_prepare 2) quiet
    ∷ hears 1 (second_prepare 3) quiet
    ∷ hears 2 (second_prepare 1) quiet
    ∷ hears 2 (second_prepare 2) quiet
    ∷ hears 2 (second_prepare 3) (drafts (second_commit 2))
    ∷ hears 3 (second_prepare 1) quiet
    ∷ hears 3 (second_prepare 2) quiet
    ∷ hears 3 (second_prepare 3) (drafts (second_commit 3))
    -- so each hears two commits
    ∷ (hears_two_commits 1 ++ (hears_two_commits 2 ++ (hears_two_commits 3 ++ (on 3 to_read quiet ∷ []))))

-- in view 1 sites 1 and 2 prepare d, and site 1 commits it
abbrev commit_missing_lines : List Line
commit_missing_lines = hears 1 offer_d (drafts (first_prepare 1)) ∷ hears 2 offer_d (drafts (first_prepare 2)) ∷ (commits_first 1 4 ++ commit_missing_then)

abbrev commit_missing_times : Times
commit_missing_times = record { entered = λ i. 5 + i; proposed = 12; proposal_heard = λ i. 12 + i; prepares_heard = λ i. 15 + 3 * i; commits_heard = λ i. 24 + 2 * i }

abbrev pub commit_missing : Case
commit_missing = record { script = script lies commit_missing_lines; good = all_but_0; view = 2; times = commit_missing_times; site = 3 }

-- ---- site 3 has decided, and drafts no prepare in view 2 ----

abbrev shown_by_3 : Turn
shown_by_3 = committed_too (turn_with 3 d 8) d first_votes

abbrev offer_to_prepare : Content
offer_to_prepare = offering 9 (turn_with 1 d 6 ∷ turn_with 2 d 7 ∷ shown_by_3 ∷ [])

-- sites 1 and 2 prepare d, and these two prepares are all
abbrev later_prepare : ℕ → Content
later_prepare i = preparing i 2 d (9 + i)

abbrev hears_two_prepares : ℕ → List Line
hears_two_prepares i = hears i (later_prepare 1) quiet ∷ hears i (later_prepare 2) quiet ∷ []

-- they leave for view 2, where site 3 shows its commit certificate, and site 1 proposes
abbrev prepare_missing_then : List Line
prepare_missing_then =
    leaves (turn_with 1 d 6)
    ∷ leaves (turn_with 2 d 7)
    ∷ leaves shown_by_3
    ∷ hears 1 (new_view (turn_with 1 d 6)) quiet
    ∷ hears 1 (new_view (turn_with 2 d 7)) quiet
    ∷ hears 1 (new_view shown_by_3) quiet
    ∷ on 1 (to_propose e) (drafts offer_to_prepare)
    -- site 3 drafts no prepare, so nobody hears three
    ∷ hears 1 offer_to_prepare (drafts (later_prepare 1))
    ∷ hears 2 offer_to_prepare (drafts (later_prepare 2))
    ∷ hears 3 offer_to_prepare quiet
    ∷ (hears_two_prepares 1 ++ (hears_two_prepares 2 ++ (hears_two_prepares 3 ++ (on 1 to_read quiet ∷ []))))

-- in view 1 all prepare d, and site 3 commits it, and decides it with the fourth prepare
abbrev prepare_missing_lines : List Line
prepare_missing_lines =
    hears 1 offer_d (drafts (first_prepare 1))
    ∷ hears 2 offer_d (drafts (first_prepare 2))
    ∷ hears 3 offer_d (drafts (first_prepare 3))
    ∷ (commits_first 3 5 ++ (hears 3 (first_prepare 3) quiet ∷ prepare_missing_then))

-- there are no commits to hear
abbrev prepare_missing_times : Times
prepare_missing_times = record { entered = λ i. 7 + i; proposed = 14; proposal_heard = λ i. 14 + i; prepares_heard = λ i. 17 + 2 * i; commits_heard = λ i. 23 }

abbrev pub prepare_missing : Case
prepare_missing = record { script = script lies prepare_missing_lines; good = all_but_0; view = 2; times = prepare_missing_times; site = 1 }
