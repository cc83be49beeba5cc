use Rattle.std.proofs.Common.{◌≡◌}
use Rattle.sha256.specs.Sha256.{after}
use Rattle.sha256.proofs.compression.State.absorb.Given as goal

abbrev pub invariant-loop-block : goal.invariant-loop-block
invariant-loop-block l = l.state ≡ after l.block-index l.initial.state l.bytes
