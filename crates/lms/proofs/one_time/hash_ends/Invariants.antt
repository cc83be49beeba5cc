use Rattle.std.proofs.Common.{◌≡◌, ◌+◌, ◌*◌, ◌++◌, replicate}
use Rattle.buffers.specs.Lays.{Lays}
use Rattle.lms.specs.Lms.{D-PBLC, ends}
use Rattle.lms.proofs.one_time.hash_ends.Given as goal

abbrev pub invariant-loop-i : goal.invariant-loop-i
invariant-loop-i l =
    (l.next ≡ 22 + 32 * l.i) × Lays (replicate 1110 0) 0 ((l.start ++ D-PBLC) ++ ends 32 l.start l.steps l.strings l.i) l.text l.next
