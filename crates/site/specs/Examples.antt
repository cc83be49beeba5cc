-- Worked examples, as one statement: over what open answers, what judging finds, and what is refused, by number.
use Rattle.std.specs.Prelude.{◌≡◌, ℕ, ◌<◌, true, Ok, Err, Result}
use Rattle.values.specs.declared.fix.Value.{Value}
use Rattle.values.specs.Refusals.{Refused}
use Rattle.checks.specs.Vouching.{Vouched}
use Rattle.agreement.specs.Examples.{words, Examples}
use Rattle.records.specs.Sizes.{sizes_of, covers}
use Rattle.records.specs.Books.{Books, lent_sizes}
use Rattle.records.specs.Kept.{Membership, Kept, fresh, opening}
use Rattle.calls.specs.Calls.{to_propose, performed}

-- it is refused with this number
abbrev pub Refuses : {A : Type 0} → ℕ → Result A Refused → Type 0
Refuses n r = (e : Refused) × (r ≡ Err e) × (e.number ≡ n)

-- it opens, in view 1 with nothing heard
abbrev pub Opens : ℕ → ℕ → ℕ → Type 0
Opens f t own = (limit round : ℕ) → limit ≡ 4 → opening f t own limit round ≡ Ok (record { f = f; t = t; limit = limit; own = own }, fresh round)

-- no site proposes it, whatever its record and its books, if what is lent is long enough
abbrev pub MayNotBeProposed : ℕ → Value → Type 0
MayNotBeProposed n d =
    (v : Vouched) (m : Membership) (k : Kept) (books : Books) (out : ℕ) → covers (lent_sizes books out) (sizes_of m.f m.t m.limit) ≡ true
    → Refuses n (performed v m k books out (to_propose d))

pub record WorkedExamples : Type 0 where
  -- sixteen sites are the most: the last of them opens, and there is no seventeenth
  pub greatest : (own : ℕ) → own < 16 → Opens 3 3 own
  pub no_more : (limit round : ℕ) → Refuses 1 (opening 3 3 16 limit round)
  -- seventeen sites are too many
  pub too_great : (own limit round : ℕ) → Refuses 1 (opening 4 2 own limit round)
  -- a longitude and a track number outside their limits
  pub too_far : MayNotBeProposed 7 (words 7 108000001 30000000)
  pub no_track : MayNotBeProposed 7 (words 1000 600000 30000000)
  -- the quorums of four sites and of six, and what certificates come to
  pub rules : Examples
