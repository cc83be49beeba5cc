-- The laws of reading, writing and sealing.
use Rattle.std.specs.Prelude.{◌≡◌, ℕ, ◌+◌, ◌≤◌, List, [], ◌++◌, length, take, Some, None, Ok, Err, Result, FitsSigned}
use Rattle.std.specs.Int.{w32}
use Rattle.values.specs.declared.fix.Value.{Value}
use Rattle.values.specs.declared.fix.Fix.{Fix}
use Rattle.values.specs.Fixes.{fix_of, words_of}
use Rattle.values.specs.Refusals.{Refused, layout}
use Rattle.wire.specs.declared.words.Malformed.{Malformed}
use Rattle.wire.specs.declared.statement.Head.{Head}
use Rattle.wire.specs.declared.statement.Statement.{Statement}
use Rattle.wire.specs.Words.{word_at}
use Rattle.wire.specs.Contents.{kind_of, statement_bytes, tag_bytes, Content, propose, prepare, commit, new_view, statement_of, tag_of, attachment_bytes, message_bytes, draft_bytes, with_tag}
use Rattle.wire.specs.Layout.{message_of}
use Rattle.messages.specs.Parts.{Pieces, map_ok, locate, shortest_of}
use Rattle.writing.specs.Written.{sealing}
use Rattle.buffers.specs.Words.{Bytes}
use Rattle.packets.specs.Fits.{ValueFits, StatementFits, ContentFits}

-- ---- what reading answers ----

-- a fault is refused with number 3 and its place
abbrev pub faulted : {A : Type 0} → Result A Malformed → Result A Refused
faulted (Ok x) = Ok x
faulted (Err e) = Err (layout e.place)

-- the parts of the message that a packet is
abbrev pub reading_of : ℕ → List ℕ → Result (Pieces Statement) Refused
reading_of limit b = faulted (map_ok (locate b) (message_of limit b))

-- ---- the laws ----

-- the parts of a content: its tag stands behind its statement, its attachment behind its tag
abbrev pub parts_of : Content → Pieces Statement
parts_of m =
    record {
      statement = statement_of m;
      tag = record { place = length (statement_bytes (statement_of m)); bytes = tag_of m };
      attachment = record { place = length (statement_bytes (statement_of m)) + length (tag_bytes (tag_of m)); bytes = attachment_bytes m };
    }

-- what is written reads back as the same message, with its parts at their places
abbrev pub WrittenReadsBack : Type 0
WrittenReadsBack = (limit : ℕ) (m : Content) → limit ≤ 2048 → ContentFits limit m
    → (message_of limit (message_bytes m) ≡ Ok m) × (reading_of limit (message_bytes m) ≡ Ok (parts_of m))

-- bytes that read as a message are the ones that writing it gives
abbrev pub OneByteString : Type 0
OneByteString = (limit : ℕ) (b : List ℕ) (m : Content) → Bytes b → message_of limit b ≡ Ok m
    → (b ≡ message_bytes m) × ContentFits limit m

-- parts, written one behind the other
abbrev pub joined : Pieces Statement → List ℕ
joined p = statement_bytes p.statement ++ (tag_bytes p.tag.bytes ++ p.attachment.bytes)

-- the parts that are read, written one behind the other, are the packet
abbrev pub PartsAreThePacket : Type 0
PartsAreThePacket = (limit : ℕ) (b : List ℕ) (p : Pieces Statement) → Bytes b → reading_of limit b ≡ Ok p → joined p ≡ b

-- the number of the kind that is read is the packet's first word
abbrev pub KindIsTheFirstWord : Type 0
KindIsTheFirstWord = (limit : ℕ) (b : List ℕ) (p : Pieces Statement) → Bytes b → reading_of limit b ≡ Ok p
    → word_at b 0 ≡ Ok (kind_of p.statement)

-- two different statements never have the same bytes
abbrev pub StatementsToldApart : Type 0
StatementsToldApart = (s t : Statement) → StatementFits s → StatementFits t → statement_bytes s ≡ statement_bytes t → s ≡ t

-- a draft that is sealed reads back as its message, with the tag put in
abbrev pub SealedReadsBack : Type 0
SealedReadsBack = (limit : ℕ) (draft tag out : List ℕ) (n : ℕ) → limit ≤ 2048 → Bytes draft → (sealing limit draft tag out).0 ≡ Ok n
    → (m : Content) × (draft ≡ draft_bytes m) × (message_of limit (take n (sealing limit draft tag out).1) ≡ Ok (with_tag tag m))

-- the draft of a message is sealed, if the tag is short enough and out long enough
abbrev pub DraftsAreSealed : Type 0
DraftsAreSealed = (limit : ℕ) (m : Content) (tag out : List ℕ) → limit ≤ 2048 → ContentFits limit m → length tag ≤ limit → length (draft_bytes m) + (limit + 4) ≤ length out
    → (sealing limit (draft_bytes m) tag out).0 ≡ Ok (length (message_bytes (with_tag tag m)))

-- no message is shorter than the shortest of its kind, and there is one so short
abbrev pub Shortest : Type 0
Shortest =
    ((limit : ℕ) (b : List ℕ) (m : Content) → Bytes b → message_of limit b ≡ Ok m → (n : ℕ) × (shortest_of (kind_of (statement_of m)) ≡ Some n) × (n ≤ length b))
    × ((h : Head) (v : Value) →
    (Some (length (message_bytes (propose (record { head = h; value = v }) [] []))) ≡ shortest_of 1)
    × (Some (length (message_bytes (prepare (record { head = h; value = v }) []))) ≡ shortest_of 2)
    × (Some (length (message_bytes (commit (record { head = h; value = v }) [] []))) ≡ shortest_of 3)
    × (Some (length (message_bytes (new_view (record { head = h; prepared = None; committed = None; tag = [] })))) ≡ shortest_of 4))

-- three words are read as one fix, and one fix is written as three words
abbrev pub FixesAreWords : Type 0
FixesAreWords =
    ((v : Value) → ValueFits v → words_of (fix_of v) ≡ v)
    × ((f : Fix) → FitsSigned w32 f.longitude → FitsSigned w32 f.latitude → fix_of (words_of f) ≡ f)
