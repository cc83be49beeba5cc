use Rattle.std.proofs.Common.{rules}
use Rattle.std.proofs.Output.{has_written_append, has_written_of_eq}
use Rattle.hexadecimal.proofs.Printed.{printed_more}
use Rattle.hexadecimal.proofs.DigitsDisplay.fmt.Goals as goal

pub loop-byte-preserved : goal.loop-byte-preserved
loop-byte-preserved g c plain =
    has_written_of_eq _ _ _ _ _
    (printed_more c.args.self.now.0.now c.loop-byte.byte-index c.loop-byte-test.true (search rules))
    (has_written_append _ _ _ _ _ _ (c.loop-byte.invariant plain) (search rules))
