-- Runs of the wrong sites, in which chosen sites meet, and one of them is left without a decision.
use Rattle.std.specs.Prelude.{ℕ, [], ◌∷◌}
use Rattle.values.specs.Refusals.{may_not_propose}
use Rattle.agreement.specs.Examples.{d}
use Rattle.agreement.specs.Sites.{SiteSet}
use Rattle.calls.specs.Calls.{to_propose, to_read}
use Rattle.liveness.specs.Recovery.{Times}
use Rattle.liveness.specs.Meets.{all_four}
use Rattle.liveness.specs.Scripts.{quiet, refuses, on, Script, script}

-- in the run of the script, the sites of `good` meet in the view; this site of them has not decided at the last call
pub record Case : Type 0 where
  pub script : Script
  pub good : SiteSet
  pub view : ℕ
  pub times : Times
  pub site : ℕ

-- ---- refusing all, and drafting nothing: in the first view there is nothing to hear ----

abbrev proposed_only : Times
proposed_only = record { entered = λ i. 0; proposed = 1; proposal_heard = λ i. 1; prepares_heard = λ i. 1; commits_heard = λ i. 1 }

abbrev pub all_refused : Case
all_refused = record { script = script [] (on 0 (to_propose d) (refuses may_not_propose) ∷ on 1 to_read quiet ∷ []); good = all_four; view = 1; times = proposed_only; site = 1 }

abbrev pub nothing_drafted : Case
nothing_drafted = record { script = script [] (on 0 (to_propose d) quiet ∷ on 1 to_read quiet ∷ []); good = all_four; view = 1; times = proposed_only; site = 1 }
