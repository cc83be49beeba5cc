-- The worked examples.
use Rattle.std.proofs.Common.{refl}
use Rattle.std.proofs.lemmas.Bool.{lt-ltb}
use Rattle.values.specs.Refusals.{limits, illegal}
use Rattle.values.specs.Fixes.{legal}
use Rattle.calls.specs.Calls.{propose_call}
use Rattle.calls.specs.Steps.{propose_steps}
use Rattle.agreement.proofs.Examples.{examples_hold}
use Rattle.site.specs.Examples.{WorkedExamples}

pub worked_examples : WorkedExamples
unfolding propose_call propose_steps legal
worked_examples =
    record {
      greatest = λ own less limit round four. rw four (rw (lt-ltb own 16 less) refl);
      no_more = λ limit round. (limits, refl, refl);
      too_great = λ own limit round. (limits, refl, refl);
      too_far = λ v m k books out room. (illegal 0, rw room refl, refl);
      no_track = λ v m k books out room. (illegal 0, rw room refl, refl);
      rules = examples_hold;
    }
