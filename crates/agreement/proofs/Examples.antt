-- The worked examples hold: each is computed.
use Rattle.std.proofs.Common.{refl}
use Rattle.values.specs.Fixes.{legal}
use Rattle.verdicts.specs.Rule.{finding}
use Rattle.agreement.specs.Examples.{Examples}

pub examples_hold : Examples
unfolding finding legal
examples_hold =
    record {
      four_sites = refl;
      four_fast = refl;
      four_recovery = refl;
      four_progress = refl;
      six_sites = refl;
      six_fast = refl;
      six_recovery = refl;
      six_progress = refl;
      greatest = refl;
      greatest_sites = refl;
      too_great = refl;
      too_far = λ p. refl;
      no_track = λ p. refl;
      commit_first = refl;
      two_prepares = refl;
      prepares_above = refl;
      lower_of_two = refl;
      two_of_three = refl;
      same_view = refl;
      lower_view = refl;
      neither = refl;
      two_commits = refl;
    }
