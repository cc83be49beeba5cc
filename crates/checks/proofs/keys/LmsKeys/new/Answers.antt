use Rattle.std.proofs.Common.{refl}
use Rattle.checks.proofs.Signers.{signed_is_vouched}
use Rattle.checks.proofs.keys.LmsKeys.new.Goals as goal

pub returns : goal.returns
returns c = record { over = refl; vouches = signed_is_vouched }
