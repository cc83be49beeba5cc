use Rattle.std.proofs.Common.{take}
use Rattle.std.specs.Fmt.{HasWritten, IsPlainFormatter}
use Rattle.hexadecimal.specs.Spelling.{text_of}
use Rattle.hexadecimal.proofs.DigitsDisplay.fmt.Given as goal

-- the text of the bytes so far is written
abbrev pub invariant-loop-byte : goal.invariant-loop-byte
invariant-loop-byte g l =
    IsPlainFormatter l.initial.f → HasWritten g.W.Write.write_str_gives l.initial.f (text_of (take l.byte-index l.byte-items)) l.f
