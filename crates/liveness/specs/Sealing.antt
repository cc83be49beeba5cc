-- What sealing makes of a draft of a run.
use Rattle.std.specs.Prelude.{◌≡◌, ℕ, ◌+◌, ◌≤◌, List, ◌++◌, length, Ok}
use Rattle.wire.specs.declared.statement.Statement.{Statement}
use Rattle.wire.specs.Contents.{statement_bytes, tag_bytes}
use Rattle.packets.specs.Fits.{StatementFits}
use Rattle.checks.specs.Vouching.{Vouched}
use Rattle.records.specs.Books.{Books}
use Rattle.records.specs.Kept.{Kept}
use Rattle.calls.specs.Effects.{message, Effect}
use Rattle.calls.specs.Calls.{to_seal, performed}
use Rattle.runs.specs.Runs.{Event, draft_left, after, Comes}
use Rattle.runs.specs.Promises.{InEveryRun}

-- a draft once it is sealed: the tag stands behind the statement, before what the draft attaches
abbrev pub sealed : Statement → List ℕ → List ℕ → List ℕ
sealed s attached tag = statement_bytes s ++ (tag_bytes tag ++ attached)

-- in every run, any site that is lent enough can seal a draft: the message has the tag behind the draft's statement
abbrev pub DraftsAreSealed : Type 0
DraftsAreSealed =
    InEveryRun (λ f t limit round good w es.
    (past : List Event) (e : Event) (s : Statement) (attached : List ℕ) → Comes es past e → StatementFits s → draft_left (after w past) e ≡ statement_bytes s ++ attached
    → (v : Vouched) (own : ℕ) (k : Kept) (books : Books) (tag : List ℕ) (out : ℕ) → length tag ≤ limit → length (statement_bytes s ++ attached) + (limit + 4) ≤ out
    → (x : Effect) × (performed v (record { f = f; t = t; limit = limit; own = own }) k books out (to_seal (statement_bytes s ++ attached) tag) ≡ Ok x)
    × (x.output ≡ message (sealed s attached tag)))
