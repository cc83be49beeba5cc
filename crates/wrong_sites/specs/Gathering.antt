-- Runs of sites that gather wrongly, in which chosen sites meet in view 2, and nothing is proposed there.
use Rattle.std.specs.Prelude.{ℕ, List, [], ◌∷◌}
use Rattle.values.specs.Refusals.{gathered_already, bad_certificate, may_not_propose}
use Rattle.wire.specs.Contents.{Turn, new_view}
use Rattle.agreement.specs.Examples.{d, e}
use Rattle.calls.specs.Calls.{to_propose, to_read}
use Rattle.calls.specs.Examples.{committed_too, vote}
use Rattle.runs.specs.Happens.{all_but_0}
use Rattle.liveness.specs.Recovery.{Times}
use Rattle.liveness.specs.Scripts.{quiet, refuses, Line, on, hears, script}
use Rattle.liveness.specs.Meets.{turn_without, leaves}
use Rattle.wrong_sites.specs.UndecidedRuns.{Case}

-- Sites 1 to 3 leave with the first three calls. The last of the first n calls is the leader's propose, and is refused; nothing
-- is heard after that.
abbrev none_proposed : ℕ → Times
none_proposed n = record { entered = λ i. i; proposed = n; proposal_heard = λ i. n; prepares_heard = λ i. n; commits_heard = λ i. n }

-- ---- gathering too few ----

abbrev too_few_lines : List Line
too_few_lines =
    leaves (turn_without 1 0)
    ∷ leaves (turn_without 2 1)
    ∷ leaves (turn_without 3 2)
    -- the leader, site 1, refuses the last of three new-views, and so it may not propose
    ∷ hears 1 (new_view (turn_without 1 0)) quiet
    ∷ hears 1 (new_view (turn_without 2 1)) quiet
    ∷ hears 1 (new_view (turn_without 3 2)) (refuses gathered_already)
    ∷ on 1 (to_propose d) (refuses may_not_propose)
    ∷ on 1 to_read quiet
    ∷ []

abbrev pub too_few_gathered : Case
too_few_gathered = record { script = script [] too_few_lines; good = all_but_0; view = 2; times = none_proposed 7; site = 1 }

-- ---- gathering unchecked ----

-- site 0 lies: it shows a commit certificate for e, of prepares that nobody drafted; there is no row 9
abbrev false_turn : Turn
false_turn = committed_too (turn_without 0 0) e (vote 0 9 ∷ vote 1 9 ∷ vote 2 9 ∷ [])

abbrev unchecked_lines : List Line
unchecked_lines =
    leaves (turn_without 1 1)
    ∷ leaves (turn_without 2 2)
    ∷ leaves (turn_without 3 3)
    -- the leader gathers the lie, and so that of site 3 comes too late; the certificate that it has gathered is bad
    ∷ hears 1 (new_view false_turn) quiet
    ∷ hears 1 (new_view (turn_without 1 1)) quiet
    ∷ hears 1 (new_view (turn_without 2 2)) quiet
    ∷ hears 1 (new_view (turn_without 3 3)) (refuses gathered_already)
    ∷ on 1 (to_propose d) (refuses (bad_certificate 60 6 2))
    ∷ on 1 to_read quiet
    ∷ []

abbrev pub false_gathered : Case
false_gathered = record { script = script (new_view false_turn ∷ []) unchecked_lines; good = all_but_0; view = 2; times = none_proposed 8; site = 1 }
