-- Rows of a book, when bytes are laid over one of them.
use Rattle.std.proofs.Common.{◌≡◌, ◌≢◌, ℕ, suc, ◌+◌, ◌-◌, ◌*◌, ◌≤◌, ◌<◌, ltb, List, ◌++◌, length, take, drop, set, sym, refl, ap, ◌∙◌, inl, inr, append_assoc, arith, length-append, mul-le-mul_right, suc-mul}
use Rattle.std.proofs.lemmas.List.{drop-drop, drop-take, drop_at, take_at, take-take, length-take-le, get_or-set_same}
use Rattle.std.proofs.lemmas.Bool.{cases_Bool, ltb-true, ltb-false}
use Rattle.buffers.specs.Lays.{laid, Lays}
use Rattle.buffers.proofs.Laying.{before}
use Rattle.records.specs.Books.{book_row, held_row}

module _ (o : List ℕ) (at : ℕ) (xs : List ℕ) (inside : at + length xs ≤ length o) where
  lays : Lays o at xs (laid o at xs) (at + length xs)
  lays = record { is = refl; ends = refl; inside = inside }

  pub laid_before : (low n : ℕ) → low + n ≤ at → take n (drop low (laid o at xs)) ≡ take n (drop low o)
  laid_before low n h = sym (drop-take low n (laid o at xs)) ∙ ap (drop low) (before (low + n) lays h) ∙ drop-take low n o

  pub laid_there : drop at (laid o at xs) ≡ xs ++ drop (at + length xs) o
  unfolding laid
  laid_there = drop_at (take at o) (xs ++ drop (at + length xs) o) at (length-take-le at o (omega arith))

  pub laid_behind : (low : ℕ) → at + length xs ≤ low → drop low (laid o at xs) ≡ drop low o
  unfolding laid
  laid_behind low h =
      let n = at + length xs in
      let rest = low - n in
      let e : n + rest ≡ low = omega arith in
      let split : laid o at xs ≡ (take at o ++ xs) ++ drop n o = sym (append_assoc (take at o) xs (drop n o)) in
      let long : length (take at o ++ xs) ≡ n = omega (arith, length-append (take at o) xs, length-take-le at o (omega arith)) in
      let front : drop n (laid o at xs) ≡ drop n o = ap (drop n) split ∙ drop_at (take at o ++ xs) (drop n o) n long in
      ap (λ (k : ℕ). drop k (laid o at xs)) (sym e) ∙ sym (drop-drop rest n (laid o at xs)) ∙ ap (drop rest) front ∙ drop-drop rest n o ∙ ap (λ (k : ℕ). drop k o) e

module _ (o : List ℕ) (size i : ℕ) (xs : List ℕ) (fits : length xs ≤ size) (inside : i * size + length xs ≤ length o) where
  -- every other row stays
  pub other_row : (j : ℕ) → j ≢ i → book_row (laid o (i * size) xs) size j ≡ book_row o size j
  other_row j apart = elim (cases_Bool (ltb j i)) [
    | inl h ↦
        let low : suc j ≤ i = ltb-true j i h in
        laid_before o (i * size) xs inside (j * size) size (omega (arith, suc-mul j size, mul-le-mul_right size low))
    | inr h ↦
        let high : suc i ≤ j = (let l : i ≤ j = ltb-false j i h in omega arith) in
        ap (take size) (laid_behind o (i * size) xs inside (j * size) (omega (arith, suc-mul i size, mul-le-mul_right size high)))
  ]

  -- and the row holds what was laid there
  pub own_row : (lengths : List ℕ) → i < length lengths → held_row (laid o (i * size) xs) size (set lengths i (length xs)) i ≡ xs
  own_row lengths h =
      let l = laid o (i * size) xs in
      ap (λ (n : ℕ). take n (take size (drop (i * size) l))) (get_or-set_same lengths i (length xs) 0 h)
      ∙ take-take (length xs) size (drop (i * size) l) fits
      ∙ ap (take (length xs)) (laid_there o (i * size) xs inside)
      ∙ take_at xs (drop (i * size + length xs) o) (length xs) refl

-- a row of one of so many sites is inside a book that has rows for them all
pub row_inside : (i n size long len : ℕ) → i < n → n * size ≤ len → long ≤ size → i * size + long ≤ len
row_inside i n size long len h k fits = omega (arith, suc-mul i size, mul-le-mul_right size h)
