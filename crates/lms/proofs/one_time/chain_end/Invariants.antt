use Rattle.std.proofs.Common.{◌≡◌, ◌-◌, length}
use Rattle.lms.specs.Lms.{chain}
use Rattle.lms.proofs.one_time.chain_end.Given as goal

abbrev pub invariant-loop-j : goal.invariant-loop-j
invariant-loop-j g l = (length l.reached ≡ g.row.N) × (l.reached ≡ chain g.row.N l.start l.i l.step l.string (l.j - l.step))
