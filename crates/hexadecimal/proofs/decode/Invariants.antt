use Rattle.std.proofs.Common.{◌≡◌, [], drop, None}
use Rattle.std.specs.Option.{option_map}
use Rattle.hexadecimal.specs.Spelling.{spelled}
use Rattle.hexadecimal.proofs.decode.Given as goal

-- what is left spells the rest of the whole
abbrev pub invariant-loop-at : goal.invariant-loop-at
invariant-loop-at l = spelled (drop l.at l.text) l.at (option_map (λ d. d.value) l.so_far.high) l.so_far.bytes.items ≡ spelled l.text 0 None []
