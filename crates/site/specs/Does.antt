-- What a call does at a site, and what it leaves in the books.
use Rattle.std.specs.Prelude.{ℕ, List, Result}
use denote.MutBor.{MutBor}
use Rattle.values.specs.Refusals.{Refused}
use Rattle.checks.specs.Vouching.{Vouched}
use Rattle.records.specs.Books.{Books}
use Rattle.records.specs.Kept.{membership_of, kept_of}
use Rattle.calls.specs.declared.record.Record.{Record}
use Rattle.calls.specs.Effects.{Effect}
use Rattle.calls.specs.Calls.{Request, performed}

-- by the record in code, with a check, books, and so many bytes of out
abbrev pub does : Vouched → Record → Books → ℕ → Request → Result Effect Refused
does v r books out request = performed v (membership_of r.member) (kept_of r.round) books out request

-- the books that were lent to be written, as the call left them
abbrev pub left : MutBor (List ℕ) × (MutBor (List ℕ) × (MutBor (List ℕ) × Unit {0})) → Books
left b = record { tags = b.0.now; certificate = b.1.0.now; views = b.1.1.0.now }
