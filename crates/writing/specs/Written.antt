-- What the writers answer, and what they leave in out.
use Rattle.std.specs.Prelude.{ℕ, ◌+◌, cond, List, ◌++◌, length, take, drop, Ok, Err, Result, nat_le}
use Rattle.values.specs.Refusals.{Refused, short, layout}
use Rattle.wire.specs.declared.words.Malformed.{Malformed}
use Rattle.wire.specs.declared.statement.Statement.{Statement}
use Rattle.wire.specs.Contents.{statement_bytes, tag_bytes}
use Rattle.wire.specs.Layout.{draft_end}
use Rattle.messages.specs.Parts.{Pieces}

-- a tag that is longer than the limit is refused
abbrev pub tagging : ℕ → List ℕ → Result (List ℕ) Refused
tagging limit tag = cond (nat_le (length tag) limit) (Ok tag) (Err (layout 0))

-- a refusal leaves out as it was
abbrev pub refusing : Refused → List ℕ → Result ℕ Refused × List ℕ
refusing e out = (Err e, out)

-- bytes at the start of out, and their length answered; what lies behind them stays
abbrev pub filling : List ℕ → List ℕ → Result ℕ Refused × List ℕ
filling bytes out = (Ok (length bytes), bytes ++ drop (length bytes) out)

-- the same, if out is long enough
abbrev pub writing : List ℕ → List ℕ → Result ℕ Refused × List ℕ
writing bytes out = cond (nat_le (length bytes) (length out)) (filling bytes out) (refusing short out)

-- a draft: a statement and its attachment
unfoldable pub drafting : Statement → List ℕ → List ℕ → Result ℕ Refused × List ℕ
drafting s attachment out = writing (statement_bytes s ++ attachment) out

-- a whole message: statement, tag, attachment; the tag must not be longer than the limit
unfoldable pub sending_of : ℕ → Statement → List ℕ → List ℕ → List ℕ → Result ℕ Refused × List ℕ
sending_of limit s tag attachment out =
    cond (nat_le (length tag) limit) (writing (statement_bytes s ++ (tag_bytes tag ++ attachment)) out) (refusing (layout 0) out)

abbrev pub sending : ℕ → Pieces Statement → List ℕ → Result ℕ Refused × List ℕ
sending limit p out = sending_of limit p.statement p.tag.bytes p.attachment.bytes out

-- a draft whose statement ends at a place, with a tag put in there
abbrev pub sealed_bytes : List ℕ → ℕ → List ℕ → List ℕ
sealed_bytes draft end tag = take end draft ++ (tag_bytes tag ++ drop end draft)

abbrev pub sealing_by : List ℕ → List ℕ → List ℕ → Result ℕ Malformed → Result ℕ Refused × List ℕ
sealing_by draft tag out (Ok end) = filling (sealed_bytes draft end tag) out
sealing_by draft tag out (Err e) = refusing (layout e.place) out

-- first the tag's length, then the room in out, then the draft's layout
unfoldable pub sealing : ℕ → List ℕ → List ℕ → List ℕ → Result ℕ Refused × List ℕ
sealing limit draft tag out =
    cond (nat_le (length tag) limit)
    (cond (nat_le (length draft + (limit + 4)) (length out)) (sealing_by draft tag out (draft_end limit draft)) (refusing short out))
    (refusing (layout 0) out)
