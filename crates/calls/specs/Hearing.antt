-- A packet that is heard, by the parts that were read from it.
use Rattle.std.specs.Prelude.{ℕ, Bool, true, List, [], Some, None, Ok, Err, Option, Result}
use Rattle.values.specs.declared.fix.Value.{Value}
use Rattle.verdicts.specs.declared.rule.Forcing.{Forcing}
use Rattle.verdicts.specs.Rule.{same}
use Rattle.wire.specs.declared.words.Malformed.{Malformed}
use Rattle.wire.specs.declared.statement.ViewChange.{ViewChange}
use Rattle.wire.specs.declared.statement.Statement.{Statement}
use Rattle.wire.specs.Contents.{Certified, Turn}
use Rattle.messages.specs.Parts.{Pieces}
use Rattle.records.specs.Books.{Books}
use Rattle.records.specs.Kept.{Membership, Kept}
use Rattle.calls.specs.Effects.{Effect}
use Rattle.calls.specs.Calls.{hear_leaves}

-- a new-view by its statement, its tag and the certificate of its commit
abbrev pub turn_with : ViewChange → List ℕ → Option Certified → Turn
turn_with c tag committed = record { head = c.head; prepared = c.prepared; committed = committed; tag = tag }

-- what a verdict lets be proposed, as the code has it
abbrev pub permitted : Option (Value × ℕ × Forcing) → Value → Bool
permitted None d = true
permitted (Some x) d = same x.0 d

-- what hearing a packet leaves, by its parts
abbrev pub heard_as : Membership → Kept → Books → List ℕ → Pieces Statement → Effect
heard_as m k books packet p = hear_leaves m k books packet p.statement p.tag.bytes

-- the new-views that were read
abbrev pub turns_of : Result (List Turn) Malformed → List Turn
turns_of (Ok xs) = xs
turns_of (Err e) = []
