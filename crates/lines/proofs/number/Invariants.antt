use Rattle.std.proofs.Common.{◌≡◌, Some, drop}
use Rattle.lines.specs.Numbers.{read_on}
use Rattle.lines.proofs.number.Given as goal

-- what is left goes on behind the number so far
abbrev pub invariant-loop-b : goal.invariant-loop-b
invariant-loop-b l = read_on (Some l.number) (drop l.b-index l.word) ≡ read_on (Some 0) l.word
