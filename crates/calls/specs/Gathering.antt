-- The new-views that a leader has gathered, and how they are read where they lie.
use Rattle.std.specs.Prelude.{ℕ, zero, suc, ◌+◌, Bool, cond, List, [], ◌∷◌, ◌++◌, length, Ok, Err, Result, nat_lt, slice_index}
use Rattle.buffers.specs.Words.{word_bytes}
use Rattle.values.specs.Fleets.{sites}
use Rattle.wire.specs.declared.words.Malformed.{Malformed}
use Rattle.wire.specs.Words.{bind}
use Rattle.wire.specs.Contents.{Turn}
use Rattle.wire.specs.Layout.{turn_at, wholly}
use Rattle.records.specs.Sizes.{view_row}
use Rattle.records.specs.Books.{held_row}
use Rattle.records.specs.Kept.{Membership, Kept}

-- of so many numbers from low on, those that pass a test
abbrev pub members : (ℕ → Bool) → ℕ → ℕ → List ℕ
members p low zero = []
members p low (suc n) = cond (p low) (low ∷ members p (suc low) n) (members p (suc low) n)

-- the bytes of each, one behind the other
abbrev pub joined : (ℕ → List ℕ) → List ℕ → List ℕ
joined bytes [] = []
joined bytes (x ∷ xs) = bytes x ++ joined bytes xs

-- a reading, with its places counted from so many bytes earlier
abbrev pub placed : {A : Type 0} → ℕ → Result A Malformed → Result A Malformed
placed by (Ok x) = Ok x
placed by (Err e) = Err (record { place = by + e.place })

-- the whole bytes as one new-view
abbrev pub turn_of : ℕ → List ℕ → Result Turn Malformed
turn_of limit b = wholly b (turn_at limit b 0)

module _ (m : Membership) (k : Kept) where
  -- the new-view of a site is gathered
  abbrev pub is_gathered : ℕ → Bool
  is_gathered j = nat_lt 0 (slice_index k.lengths.views j)

  -- the sites whose new-views are gathered, ascending
  abbrev pub gathered : List ℕ
  gathered = members is_gathered 0 (sites m.f m.t)

  -- as they lie in the view book
  module _ (views : List ℕ) where
    -- the new-view of a site
    abbrev pub gathered_turn : ℕ → List ℕ
    gathered_turn j = held_row views (view_row m.f m.t m.limit) k.lengths.views j

    -- the progress certificate that they make
    abbrev pub own_progress : List ℕ
    own_progress = word_bytes (length gathered) ++ joined gathered_turn gathered

    -- each read as one new-view; places are those in that certificate
    abbrev pub turns_read : ℕ → List ℕ → Result (List Turn) Malformed
    turns_read place [] = Ok []
    turns_read place (j ∷ js) =
        bind (placed place (turn_of m.limit (gathered_turn j))) (λ x.
        bind (turns_read (place + length (gathered_turn j)) js) (λ xs.
        Ok (x ∷ xs)))
