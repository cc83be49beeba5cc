-- Sites that behave otherwise than the rules say.
use Rattle.std.specs.Prelude.{ℕ, List, Ok, Err, Result}
use Rattle.values.specs.Refusals.{Refused}
use Rattle.records.specs.Books.{Books}
use Rattle.records.specs.Kept.{Membership, Kept}
use Rattle.calls.specs.Effects.{Effect}
use Rattle.calls.specs.Calls.{Request, to_propose, to_hear, to_leave, to_seal, to_judge, to_read, performed, asks}
use Rattle.runs.specs.Runs.{Behaviour}

-- what comes of a call, made of what comes of it by the rules, which is the last argument
abbrev pub Instead : Type 0
Instead = Membership → Kept → Books → Request → Result Effect Refused → Result Effect Refused

-- a site that asks its check what the rules ask, and of whose calls this comes
abbrev pub doing : Instead → Behaviour
doing other = record { performs = λ v m k books out r. other m k books r (performed v m k books out r); asks = asks }

-- the same of hears only, and of leaves only; all other calls are as by the rules
abbrev pub of_hears : (Membership → Kept → Books → List ℕ → Result Effect Refused → Result Effect Refused) → Instead
of_hears other m k books (to_hear packet) r = other m k books packet r
of_hears other m k books (to_propose d) r = r
of_hears other m k books (to_leave view) r = r
of_hears other m k books (to_seal written tag) r = r
of_hears other m k books (to_judge view certificate) r = r
of_hears other m k books to_read r = r

abbrev pub of_leaves : (Kept → Result Effect Refused → Result Effect Refused) → Instead
of_leaves other m k books (to_leave view) r = other k r
of_leaves other m k books (to_propose d) r = r
of_leaves other m k books (to_hear packet) r = r
of_leaves other m k books (to_seal written tag) r = r
of_leaves other m k books (to_judge view certificate) r = r
of_leaves other m k books to_read r = r

-- what a call that is not refused leaves instead
abbrev pub but : (Effect → Effect) → Result Effect Refused → Result Effect Refused
but change (Ok x) = Ok (change x)
but change (Err e) = Err e
