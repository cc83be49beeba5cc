-- The register: rows of statements that were made.
use Rattle.std.specs.Prelude.{◌≡◌, ℕ, ◌-◌, ◌*◌, ◌^◌, ◌<◌, ◌≤◌, true, cond, ◌&&◌, List, ◌++◌, length, take, drop, replicate, Some, None, Option, ◌==◌, nat_le}
use Rattle.std.proofs.Common.{leb-true}
use Rattle.std.specs.Str.{bytes_eq}
use Rattle.buffers.specs.Words.{word_from, word_bytes}
use Rattle.checks.specs.Vouching.{Vouched, Short, both}

-- a row of 72 bytes: a site, the length of its statement, and the statement filled with zeros to 64 bytes
abbrev pub row_bytes : ℕ → List ℕ → List ℕ
row_bytes site m = word_bytes site ++ (word_bytes (length m) ++ (m ++ replicate (64 - length m) 0))

-- the row of a statement, if it is short enough to have one
abbrev pub row_of : ℕ → List ℕ → Option (List ℕ)
row_of site m = cond (nat_le (length m) 64) (Some (row_bytes site m)) None

-- row number k of a register; it is cut, or empty, if the register ends before
abbrev pub row_at : List ℕ → ℕ → List ℕ
row_at rows k = take 72 (drop (72 * k) rows)

-- a tag of four bytes names a row, and that is the statement's row
abbrev pub registered : List ℕ → Vouched
registered rows site m tag =
    nat_le (length m) 64 && length tag == 4 && bytes_eq (row_at rows (word_from tag 0)) (row_bytes site m)

pub Short-registered : (rows : List ℕ) → Short (registered rows)
Short-registered rows site m tag e = leb-true (length m) 64 (both (nat_le (length m) 64) _ (both (nat_le (length m) 64 && _) _ e))

-- a register vouches for the statement of each of its rows, by the row's number
abbrev pub RowsAreVouched : Type 0
RowsAreVouched = (front back m : List ℕ) (k site : ℕ) → length front ≡ 72 * k → k < 2 ^ 32 → length m ≤ 64
    → registered (front ++ (row_bytes site m ++ back)) site m (word_bytes k) ≡ true
