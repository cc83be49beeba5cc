-- Members of a range of numbers, and how many they are.
use Rattle.std.proofs.Common.{◌≡◌, ◌≢◌, ℕ, zero, suc, ◌+◌, ◌≤◌, ◌<◌, ◌⊎◌, ◌↔◌, Bool, true, false, not, cond, List, [], ◌∷◌, length, replicate, slice_index_or, sym, refl, ap, ap₂, ◌∙◌, subst, inl, inr, arith}
use Rattle.std.proofs.lemmas.Bool.{ltb-false, not-true, cases_eq, eq-eqb, ne_eqb}
use Rattle.std.specs.Prelude.{nat_lt}
use Rattle.agreement.specs.Sites.{SiteSet, size, listed}
use Rattle.agreement.proofs.Count.{size_le}
use Rattle.calls.specs.Gathering.{members}

count_cond : (b : Bool) (x : ℕ) (xs : List ℕ) → length (cond b (x ∷ xs) xs) ≡ cond b 1 0 + length xs
count_cond true x xs = omega arith
count_cond false x xs = omega arith

one_more : (p : ℕ → Bool) (low n : ℕ) → length (members p low (suc n)) ≡ length (members p low n) + cond (p (low + n)) 1 0
one_more p low zero = let e : low + 0 ≡ low = omega arith in rw e (omega (arith, count_cond (p low) low []))
one_more p low (suc n) =
    let e : suc low + n ≡ low + suc n = omega arith in
    let ih : length (members p (suc low) (suc n)) ≡ length (members p (suc low) n) + cond (p (low + suc n)) 1 0 = subst (λ (k : ℕ). length (members p (suc low) (suc n)) ≡ length (members p (suc low) n) + cond (p k) 1 0) e (one_more p (suc low) n) in
    omega (arith, count_cond (p low) low (members p (suc low) (suc n)), count_cond (p low) low (members p (suc low) n), ih)

-- there are as many members as the set has sites
pub size_members : (p : ℕ → Bool) (n : ℕ) → length (members p 0 n) ≡ size p n
size_members p zero = refl
size_members p (suc n) =
    let e : 0 + n ≡ n = omega arith in
    let m : length (members p 0 (suc n)) ≡ length (members p 0 n) + cond (p n) 1 0 = subst (λ (k : ℕ). length (members p 0 (suc n)) ≡ length (members p 0 n) + cond (p k) 1 0) e (one_more p 0 n) in
    omega (arith, size_members p n, m)

-- ---- one site more ----

size_eq : (P Q : SiteSet) (n : ℕ) → ((j : ℕ) → j < n → Q j ≡ P j) → size Q n ≡ size P n
size_eq P Q zero h = refl
size_eq P Q (suc n) h = ap₂ (λ (b : Bool) (k : ℕ). cond b 1 0 + k) (h n (omega arith)) (size_eq P Q n (λ j l. h j (omega arith)))

size_plus : (P Q : SiteSet) (n i : ℕ) → i < n → P i ≡ false → Q i ≡ true → ((j : ℕ) → j ≢ i → Q j ≡ P j) → size Q n ≡ size P n + 1
size_plus P Q zero i l a b h = absurd (omega arith)
size_plus P Q (suc n) i l a b h = elim (cases_eq i n) [
  | inl e ↦
      let p : P n ≡ false = subst (λ (k : ℕ). P k ≡ false) e a in
      let q : Q n ≡ true = subst (λ (k : ℕ). Q k ≡ true) e b in
      let r : size Q n ≡ size P n = size_eq P Q n (λ j s. h j (λ t. absurd (omega arith))) in
      rw (p, q) (omega arith)
  | inr e ↦
      let r : size Q n ≡ size P n + 1 = size_plus P Q n i (omega arith) a b h in
      let s : Q n ≡ P n = h n (λ t. e (sym t)) in
      rw s (omega arith)
]

pub members_plus : (p q : ℕ → Bool) (n i : ℕ) → i < n → p i ≡ false → q i ≡ true → ((j : ℕ) → j ≢ i → q j ≡ p j) → length (members q 0 n) ≡ length (members p 0 n) + 1
members_plus p q n i l a b h = omega (arith, size_members p n, size_members q n, size_plus p q n i l a b h)

-- if all that pass one test pass another, these are no fewer
pub members_le : (p q : ℕ → Bool) (n : ℕ) → ((j : ℕ) → p j ≡ true → q j ≡ true) → length (members p 0 n) ≤ length (members q 0 n)
members_le p q n h = omega (arith, size_members p n, size_members q n, size_le p q n (λ j l. h j))

-- ---- who is listed ----

listed_cond : (b : Bool) (x : ℕ) (xs : List ℕ) (j : ℕ) → x ≢ j → listed (cond b (x ∷ xs) xs) j ≡ listed xs j
listed_cond true x xs j h = rw (ne_eqb x j h)
listed_cond false x xs j h = refl

listed_here : (b : Bool) (x : ℕ) (xs : List ℕ) → listed xs x ≡ false → listed (cond b (x ∷ xs) xs) x ≡ b
listed_here true x xs h = rw (eq-eqb x x refl)
listed_here false x xs h = h

listed_below : (p : ℕ → Bool) (low n j : ℕ) → j < low → listed (members p low n) j ≡ false
listed_below p low zero j l = refl
listed_below p low (suc n) j l = listed_cond (p low) low (members p (suc low) n) j (λ e. absurd (omega arith)) ∙ listed_below p (suc low) n j (omega arith)

pub listed_members : (p : ℕ → Bool) (low n j : ℕ) → low ≤ j → j < low + n → listed (members p low n) j ≡ p j
listed_members p low zero j a l = absurd (omega arith)
listed_members p low (suc n) j a l = elim (cases_eq low j) [
  | inl e ↦ subst (λ (k : ℕ). listed (members p low (suc n)) k ≡ p k) e (listed_here (p low) low (members p (suc low) n) (listed_below p (suc low) n low (omega arith)))
  | inr e ↦ listed_cond (p low) low (members p (suc low) n) j e ∙ listed_members p (suc low) n j (omega arith) (omega arith)
]

pub members_now : (p q : ℕ → Bool) (n i : ℕ) → q i ≡ true → ((j : ℕ) → j ≢ i → q j ≡ p j) → (j : ℕ) → j < n
    → (listed (members q 0 n) j ≡ true) ↔ ((j ≡ i) ⊎ (listed (members p 0 n) j ≡ true))
members_now p q n i b h j l =
    let new = listed_members q 0 n j (omega arith) (omega arith) in
    let old = listed_members p 0 n j (omega arith) (omega arith) in (
      λ e. elim (cases_eq j i) [
        | inl s ↦ inl s
        | inr s ↦ inr (old ∙ sym (h j s) ∙ sym new ∙ e)
      ],
      λ e. elim e [
        | inl s ↦ new ∙ ap q s ∙ b
        | inr s ↦ elim (cases_eq j i) [
          | inl t ↦ new ∙ ap q t ∙ b
          | inr t ↦ new ∙ h j t ∙ sym old ∙ s
        ]
      ],
    )

-- ---- a row that holds nothing ----

pub none_there : (n : ℕ) → not (nat_lt 0 n) ≡ true → n ≡ 0
none_there n h = omega (arith, ltb-false 0 n (not-true (nat_lt 0 n) h))

pub none_gathered : (n : ℕ) → n ≡ 0 → not (nat_lt 0 n) ≡ true
none_gathered n e = rw e

-- any of so many things that are all the same, and what is read behind them
pub blank : {A : Type 0} (n j : ℕ) (a : A) → slice_index_or (replicate n a) j a ≡ a
blank zero j a = refl
blank (suc n) zero a = refl
blank (suc n) (suc j) a = blank n j a

-- where none passes, there are no members
pub none_of : (p : ℕ → Bool) (low n : ℕ) → ((j : ℕ) → p j ≡ false) → members p low n ≡ []
none_of p low zero h = refl
none_of p low (suc n) h = rw (h low) (none_of p (suc low) n h)
