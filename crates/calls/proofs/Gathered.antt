-- How many new-views are gathered.
use Rattle.std.proofs.Common.{◌≡◌, ℕ, zero, suc, ◌+◌, Bool, true, false, cond, List, [], ◌∷◌, length, take, refl, sym, ap, ◌∙◌, arith}
use Rattle.std.specs.Prelude.{count_by, slice_index}
use Rattle.verdicts.proofs.Counts.{bit, count, count_is}
use Rattle.calls.specs.Gathering.{members}

one_more : (b : Bool) (x : ℕ) (xs : List ℕ) → length (cond b (x ∷ xs) xs) ≡ bit b + length xs
one_more true x xs = omega arith
one_more false x xs = omega arith

-- none of the numbers behind the things passes
none_from : (q : ℕ → Bool) (n low : ℕ) → ((i : ℕ) → q (low + i) ≡ false) → length (members q low n) ≡ 0
none_from q zero low h = refl
none_from q (suc n) low h =
    let here : low + 0 ≡ low = omega arith in
    let first : q low ≡ false = ap q (sym here) ∙ h 0 in
    rw first (none_from q n (suc low) (λ i. let next : suc low + i ≡ low + suc i = omega arith in ap q next ∙ h (suc i)))

-- so many of the numbers from low on pass as do of the things that they number
members_from : (q p : ℕ → Bool) (n low : ℕ) (ys : List ℕ) → p 0 ≡ false → ((i : ℕ) → q (low + i) ≡ p (slice_index ys i)) → length (members q low n) ≡ count p (take n ys)
members_from q p zero low ys e h = refl
members_from q p (suc n) low [] e h = none_from q (suc n) low (λ i. h i ∙ e)
members_from q p (suc n) low (y ∷ ys) e h =
    let here : low + 0 ≡ low = omega arith in
    let first : q low ≡ p y = ap q (sym here) ∙ h 0 in
    let rest = members_from q p n (suc low) ys e (λ i. let next : suc low + i ≡ low + suc i = omega arith in ap q next ∙ h (suc i)) in
    one_more (q low) low (members q (suc low) n) ∙ rw (first, rest)

pub members_count : (p : ℕ → Bool) (n : ℕ) (xs : List ℕ) → p 0 ≡ false → length (members (λ j. p (slice_index xs j)) 0 n) ≡ count_by p (take n xs)
members_count p n xs e =
    members_from (λ j. p (slice_index xs j)) p n 0 xs e (λ i. let here : 0 + i ≡ i = omega arith in ap (λ j. p (slice_index xs j)) here)
    ∙ sym (count_is p (take n xs))
