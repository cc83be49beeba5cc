use Rattle.std.proofs.Common.{◌≡◌, length}
use Rattle.std.specs.Iterator.Adapters.{zip_second}
use Rattle.std.specs.Slice.Iter.{iter_rest}
use Rattle.sha256.specs.Sha256.{rounds}
use Rattle.sha256.proofs.compression.State.compress.Given as goal

abbrev pub invariant-loop-k : goal.invariant-loop-k
invariant-loop-k l = l.v ≡ rounds (length l.yielded) l.self (iter_rest (zip_second l.initial.k-iterator))
