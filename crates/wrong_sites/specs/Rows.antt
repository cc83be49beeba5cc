-- A run of sites that keep their rows when they leave: a prepare of view 1 keeps out that of view 2.
use Rattle.std.specs.Prelude.{ℕ, ◌+◌, ◌*◌, List, [], ◌∷◌, ◌++◌}
use Rattle.values.specs.Refusals.{equivocation}
use Rattle.wire.specs.Contents.{Content, propose, new_view}
use Rattle.agreement.specs.Examples.{d, e}
use Rattle.calls.specs.Calls.{to_propose, to_read}
use Rattle.calls.specs.Examples.{row, claim, preparing}
use Rattle.runs.specs.Happens.{all_but_0}
use Rattle.liveness.specs.Recovery.{Times}
use Rattle.liveness.specs.Scripts.{drafts, quiet, refuses, Line, on, hears, script}
use Rattle.liveness.specs.Meets.{turn_with, turn_without, leaves, offering}
use Rattle.wrong_sites.specs.UndecidedRuns.{Case}

-- site 0 lies: it proposes e to site 1 alone
abbrev first_offer : Content
first_offer = propose (claim 0 1 e) (row 0) []

abbrev first_prepare : Content
first_prepare = preparing 1 1 e 1

-- one prepare of e does not force it
abbrev second_offer : Content
second_offer = offering 5 (turn_with 1 e 2 ∷ turn_without 2 3 ∷ turn_without 3 4 ∷ [])

abbrev second_prepare : ℕ → Content
second_prepare i = preparing i 2 d (5 + i)

-- the row of site 1 still holds e: two prepares of d are too few to commit it
abbrev hears_one_refused : ℕ → List Line
hears_one_refused i = hears i (second_prepare 1) (refuses equivocation) ∷ hears i (second_prepare 2) quiet ∷ hears i (second_prepare 3) quiet ∷ []

abbrev kept_lines : List Line
kept_lines =
    -- view 1: one site prepares e, and all hear that
    hears 1 first_offer (drafts first_prepare)
    ∷ hears 1 first_prepare quiet
    ∷ hears 2 first_prepare quiet
    ∷ hears 3 first_prepare quiet
    -- they leave for view 2, and its leader gathers three new-views
    ∷ leaves (turn_with 1 e 2)
    ∷ leaves (turn_without 2 3)
    ∷ leaves (turn_without 3 4)
    ∷ hears 1 (new_view (turn_with 1 e 2)) quiet
    ∷ hears 1 (new_view (turn_without 2 3)) quiet
    ∷ hears 1 (new_view (turn_without 3 4)) quiet
    -- it is handed d, which is free, and all prepare d
    ∷ on 1 (to_propose d) (drafts second_offer)
    ∷ hears 1 second_offer (drafts (second_prepare 1))
    ∷ hears 2 second_offer (drafts (second_prepare 2))
    ∷ hears 3 second_offer (drafts (second_prepare 3))
    ∷ (hears_one_refused 1 ++ (hears_one_refused 2 ++ (hears_one_refused 3 ++ (on 1 to_read quiet ∷ []))))

abbrev kept_times : Times
kept_times = record { entered = λ i. 4 + i; proposed = 11; proposal_heard = λ i. 11 + i; prepares_heard = λ i. 14 + 3 * i; commits_heard = λ i. 23 }

abbrev pub rows_kept : Case
rows_kept = record { script = script (first_offer ∷ []) kept_lines; good = all_but_0; view = 2; times = kept_times; site = 1 }
