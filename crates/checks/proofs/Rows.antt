-- The rows of a register.
use Rattle.std.proofs.Common.{◌≡◌, ℕ, ◌+◌, ◌*◌, ◌/◌, ◌<◌, ◌≤◌, Bor, Option, Bool, true, false, leb, List, ◌++◌, length, take, drop, Some, None, sym, refl, ap, ◌∙◌, arith, length-append, length-drop, length-take}
use Rattle.std.proofs.lemmas.List.{drop_at, take_at, length-replicate}
use Rattle.std.proofs.lemmas.Bool.{le-leb, leb-true, eq-eqb}
use Rattle.std.proofs.lemmas.Option.{cond_some}
use Rattle.std.specs.Str.{bytes_eq}
use Rattle.std.specs.Simd.{first_chunks}
use Rattle.std.specs.Option.{option_eq}
use Rattle.std.specs.Slice.{IsItemAt}
use Rattle.lms.specs.Lms.{nth}
use Rattle.lms.proofs.Texts.{chunk_is}
use Rattle.buffers.specs.Words.{word_from, word_bytes}
use Rattle.buffers.proofs.Equal.{equal, apart}
use Rattle.buffers.proofs.Held.{whole, word_held}
use Rattle.checks.specs.Registers.{row_bytes, row_of, row_at, registered, RowsAreVouched}

pub length-row : (site : ℕ) (m : List ℕ) → length m ≤ 64 → length (row_bytes site m) ≡ 72
length-row site m h = simp (length-append, length-replicate) (omega arith)

-- a row that is cut, or past the register's end, is no statement's
pub no_row : (rows : List ℕ) (k site : ℕ) (m : List ℕ) → length m ≤ 64 → length rows < 72 * k + 72 → bytes_eq (row_at rows k) (row_bytes site m) ≡ false
no_row rows k site m h cut =
    apart (row_at rows k) (row_bytes site m) (λ e. omega (arith, ap length e, length-row site m h, length-take 72 (drop (72 * k) rows), length-drop (72 * k) rows))

module _ (rows : List ℕ) (site : ℕ) (m tag row : List ℕ) (k : ℕ) (has : Some row ≡ row_of site m) (four : length tag ≡ 4) (names : k ≡ word_from tag 0) where
  -- a statement that has a row is short enough
  made : (leb (length m) 64 ≡ true) × (row_bytes site m ≡ row)
  made = cond_some (leb (length m) 64) (row_bytes site m) row (sym has)

  -- the register vouches for the statement if the row that the tag names is the statement's
  pub vouched_by_row : bytes_eq (row_at rows k) row ≡ registered rows site m tag
  vouched_by_row = rw (made.0, eq-eqb (length tag) 4 four, sym made.1, names) refl

  pub past_the_end : length rows < 72 * k + 72 → false ≡ registered rows site m tag
  past_the_end cut =
      sym (no_row rows k site m (leb-true (length m) 64 made.0) cut) ∙ ap (bytes_eq (row_at rows k)) made.1 ∙ vouched_by_row

  -- what code finds of the row that the tag names
  pub found_row : (cs : List (List ℕ)) (found : Option (Bor (List ℕ))) (its : Bor (List ℕ)) (r : Bool) → cs ≡ first_chunks 72 (length rows / 72) rows → length cs ≡ length rows / 72 → its.now ≡ row → IsItemAt cs k found → r ≡ option_eq (λ (x y : Bor (List ℕ)). bytes_eq x.now y.now) found (Some its) → r ≡ registered rows site m tag
  unfolding nth
  found_row cs None its r ec en ei h e = let past : length cs ≤ k = h.3 in e ∙ past_the_end (omega arith)
  found_row cs (Some x) its r ec en ei h e =
      let within : k < length cs = h.3.0 in
      e ∙ ap (λ l. bytes_eq l its.now) (h.1 ∙ chunk_is 72 (length rows / 72) k rows cs x.now ec (omega arith)) ∙ ap (bytes_eq (row_at rows k)) ei ∙ vouched_by_row

-- each row is vouched for, by its number
pub rows_are_vouched : RowsAreVouched
rows_are_vouched before back m k site lf hk hm =
    let rows = before ++ (row_bytes site m ++ back) in
    let number : word_from (word_bytes k) 0 ≡ k = word_held (word_bytes k) 0 k hk (whole (word_bytes k)) in
    let row : row_at rows k ≡ row_bytes site m = ap (take 72) (drop_at before (row_bytes site m ++ back) (72 * k) lf) ∙ take_at (row_bytes site m) back 72 (length-row site m hm) in
    rw (le-leb (length m) 64 hm, number, row) (equal (row_bytes site m))
