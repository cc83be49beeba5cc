-- Messages taken apart: the parts of a packet that readers answer, with their places.
use Rattle.std.specs.Prelude.{ℕ, ◌+◌, ◌-◌, cond, List, [], length, take, drop, Some, None, Ok, Err, Option, Result, ◌==◌}
use Rattle.wire.specs.declared.words.Malformed.{Malformed}
use Rattle.wire.specs.declared.tag.Part.{Part}
use Rattle.wire.specs.declared.statement.Claim.{Claim}
use Rattle.wire.specs.declared.statement.Statement.{Statement}
use Rattle.wire.specs.declared.statement.Statement.TheVariants as statement
use Rattle.wire.specs.Words.{bind}
use Rattle.wire.specs.Contents.{Content, statement_bytes, tag_bytes, statement_of, tag_of}
use Rattle.wire.specs.Layout.{tag_at, nothing_at, envelope_at, wholly}
use Rattle.messages.specs.declared.kind.Envelope.{Envelope}
use Rattle.messages.specs.declared.message.Message.{Message}
use Rattle.messages.specs.declared.message.Message.TheVariants as message

-- a part of a packet, and its place
pub record Cut : Type 0 where
  pub place : ℕ
  pub bytes : List ℕ

abbrev pub cut_of : Part → Cut
cut_of p = record { place = p.place; bytes = p.bytes.now }

-- a message taken apart
pub record Pieces (S : Type 0) : Type 0 where
  pub statement : S
  pub tag : Cut
  pub attachment : Cut

abbrev pub pieces_of : {S : Type 0} → Envelope S → Pieces S
pieces_of e = record { statement = e.statement; tag = cut_of e.tag; attachment = cut_of e.attachment }

abbrev pub envelope_read : {S : Type 0} → Result (Envelope S × ℕ) Malformed → Result (Pieces S × ℕ) Malformed
envelope_read (Ok p) = Ok (pieces_of p.0, p.1)
envelope_read (Err e) = Err e

-- a reading of which only the place behind is kept
abbrev pub ended : Result ℕ Malformed → Result (Unit {0} × ℕ) Malformed
ended r = bind r (λ end. Ok (tt, end))

-- statement, tag and attachment as they were read
abbrev pub pieced : {S : Type 0} → List ℕ → S × ℕ → List ℕ × ℕ → Unit {0} × ℕ → Pieces S
pieced b s t a =
    record {
      statement = s.0;
      tag = record { place = s.1; bytes = t.0 };
      attachment = record { place = t.1; bytes = take (a.1 - t.1) (drop t.1 b) };
    }

-- the parts of a message of one kind, by the readings of its statement and of its attachment
abbrev pub parts_at : {S : Type 0} → ℕ → (ℕ → Result (S × ℕ) Malformed) → (S → ℕ → Result ℕ Malformed) → ℕ → List ℕ → ℕ → Result (Pieces S × ℕ) Malformed
parts_at kind statement attachment limit b at =
    envelope_at kind statement (tag_at limit b) (λ s k. ended (attachment s k)) (pieced b) b at

-- the place behind the statement of a draft of one kind, by the same readings
abbrev pub draft_place : {S : Type 0} → ℕ → (ℕ → Result (S × ℕ) Malformed) → (S → ℕ → Result ℕ Malformed) → List ℕ → Result ℕ Malformed
draft_place kind statement attachment b = wholly b (envelope_at kind statement nothing_at (λ s k. ended (attachment s k)) (λ s t a. s.1) b 0)

-- the length of the shortest message of each kind
abbrev pub shortest_of : ℕ → Option ℕ
shortest_of k = cond (k == 1) (Some 36) (cond (k == 2) (Some 32) (cond (k == 3) (Some 36) (cond (k == 4) (Some 28) None)))

-- ---- whole messages ----

abbrev pub map_ok : {A B E : Type 0} → (A → B) → Result A E → Result B E
map_ok f (Ok x) = Ok (f x)
map_ok f (Err e) = Err e

-- what a reader's answer tells; a prepare attaches nothing
abbrev pub told : Message → Pieces Statement
told (message.Propose claim tag progress) = record { statement = statement.Propose claim; tag = cut_of tag; attachment = cut_of progress }
told (message.Prepare claim tag) = record { statement = statement.Prepare claim; tag = cut_of tag; attachment = record { place = tag.place + length (tag_bytes tag.bytes.now); bytes = [] } }
told (message.Commit claim tag certificate) = record { statement = statement.Commit claim; tag = cut_of tag; attachment = cut_of certificate }
told (message.NewView change tag certificate) = record { statement = statement.NewView change; tag = cut_of tag; attachment = cut_of certificate }

-- the parts of a statement's message
abbrev pub under : {S : Type 0} → (S → Statement) → Pieces S → Pieces Statement
under say p = record { statement = say p.statement; tag = p.tag; attachment = p.attachment }

-- those of a prepare, which attaches nothing
abbrev pub bare : Pieces Claim → Pieces Statement
bare p = record { statement = statement.Prepare p.statement; tag = p.tag; attachment = record { place = p.tag.place + length (tag_bytes p.tag.bytes); bytes = [] } }

-- the rest of a packet from a place on
abbrev pub rest_at : List ℕ → ℕ → Cut
rest_at b at = record { place = at; bytes = drop at b }

-- the parts of a content that b holds: the tag stands behind the statement, the attachment behind the tag
unfoldable pub locate : List ℕ → Content → Pieces Statement
locate b m =
    record {
      statement = statement_of m;
      tag = record { place = length (statement_bytes (statement_of m)); bytes = tag_of m };
      attachment = rest_at b (length (statement_bytes (statement_of m)) + length (tag_bytes (tag_of m)));
    }
