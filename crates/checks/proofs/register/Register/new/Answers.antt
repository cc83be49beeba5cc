use Rattle.std.proofs.Common.{refl}
use Rattle.checks.proofs.Rows.{rows_are_vouched}
use Rattle.checks.proofs.register.Register.new.Goals as goal

pub returns : goal.returns
returns c = record { over = refl; vouches = rows_are_vouched }
