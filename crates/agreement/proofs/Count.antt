-- Counting: sets of sites that are large enough share a site of a third set, and a list that names sites in ascending order counts them.
use Rattle.std.proofs.Common.{◌≡◌, ℕ, zero, suc, ◌+◌, ◌<◌, ◌≤◌, Bool, true, false, not, ◌&&◌, ◌||◌, eqb, List, [], ◌∷◌, length, map, sym, refl, ap, inl, inr, arith}
use Rattle.std.proofs.lemmas.Bool.{eqb-true, eq-eqb, ne_eqb, and_parts, and_from, or_cases, or_left, or_right, cases_Bool, cases_eq, false≢true}
use Rattle.verdicts.proofs.Counts.{bit, bit_le, count}
use Rattle.agreement.specs.Sites.{SiteSet, size, both, all_but, Ascending, named}
use Rattle.agreement.specs.Statements.{Each}

-- ---- sets ----

-- what holds at each site holds of the sizes
pub size_le : (P Q : SiteSet) (n : ℕ) → ((i : ℕ) → i < n → P i ≡ true → Q i ≡ true) → size P n ≤ size Q n
size_le P Q zero h = omega arith
size_le P Q (suc n) h = omega (arith, bit_le (P n) (Q n) (h n (omega arith)), size_le P Q n (λ i l. h i (omega arith)))

bit_small : (b : Bool) → bit b ≤ 1
bit_small true = omega arith
bit_small false = omega arith

-- a set that another one has but for one site is larger by one at most
pub size_but : (P Q : SiteSet) (j n : ℕ) → ((k : ℕ) → (k ≡ j → ⊥) → P k ≡ true → Q k ≡ true) → size P n ≤ size Q n + 1
size_but P Q j zero h = omega arith
size_but P Q j (suc n) h = elim (cases_eq n j) [
  | inl e ↦ omega (arith, bit_small (P n), size_le P Q n (λ k l. h k (λ q. omega arith)))
  | inr ne ↦ omega (arith, bit_le (P n) (Q n) (h n ne), size_but P Q j n h)
]

meet_bit : (p q g : Bool) → bit p + bit q ≤ 1 + bit ((p && q) && g) + bit (not g)
meet_bit true true true = omega arith
meet_bit true true false = omega arith
meet_bit true false true = omega arith
meet_bit true false false = omega arith
meet_bit false true true = omega arith
meet_bit false true false = omega arith
meet_bit false false true = omega arith
meet_bit false false false = omega arith

-- two sets meet in the third, but for what the sizes leave room for
pub meet : (P Q G : SiteSet) (n : ℕ) → size P n + size Q n ≤ n + size (both (both P Q) G) n + size (all_but G) n
meet P Q G zero = omega arith
meet P Q G (suc n) = omega (arith, meet_bit (P n) (Q n) (G n), meet P Q G n)

-- a set of one site or more has one
pub someone : (P : SiteSet) (n : ℕ) → 0 < size P n → (i : ℕ) × (i < n) × (P i ≡ true)
someone P zero h = absurd (omega arith)
someone P (suc n) h = elim (cases_Bool (P n)) [
  | inl e ↦ (n, omega arith, e)
  | inr e ↦ let r = someone P n (omega (arith, ap bit e)) in (r.0, omega (arith, r.1), r.2)
]

-- two sets of more than n + f sites together, of which at most f are outside G, share a site of G
pub shared : (P Q G : SiteSet) (n f : ℕ) → size (all_but G) n ≤ f → n + f < size P n + size Q n → (i : ℕ) × (i < n) × (P i ≡ true) × (Q i ≡ true) × (G i ≡ true)
shared P Q G n f few h =
    let r = someone (both (both P Q) G) n (omega (arith, meet P Q G n)) in
    let a = and_parts (P r.0 && Q r.0) (G r.0) r.2 in
    let b = and_parts (P r.0) (Q r.0) a.0 in
    (r.0, r.1, b.0, b.1, a.1)

every : SiteSet
every i = true

size_every : (n : ℕ) → size every n ≡ n
unfolding every
size_every zero = refl
size_every (suc n) = omega (arith, size_every n)

-- two sets share as many sites as their sizes leave no room for
pub shared_size : (P Q : SiteSet) (n : ℕ) → size P n + size Q n ≤ n + size (both P Q) n
shared_size P Q zero = omega arith
shared_size P Q (suc n) = omega (arith, both_bit (P n) (Q n), shared_size P Q n)
  where
    both_bit : (p q : Bool) → bit p + bit q ≤ 1 + bit (p && q)
    both_bit true true = omega arith
    both_bit true false = omega arith
    both_bit false true = omega arith
    both_bit false false = omega arith

-- a set of more than f sites has one of G
pub good_one : (P G : SiteSet) (n f : ℕ) → size (all_but G) n ≤ f → f < size P n → (i : ℕ) × (i < n) × (P i ≡ true) × (G i ≡ true)
good_one P G n f few h =
    let r = shared P every G n f few (omega (arith, size_every n)) in
    (r.0, r.1, r.2, r.4)

size_same : (P Q : SiteSet) (n : ℕ) → ((i : ℕ) → i < n → P i ≡ Q i) → size P n ≡ size Q n
size_same P Q zero h = refl
size_same P Q (suc n) h = omega (arith, ap bit (h n (omega arith)), size_same P Q n (λ i l. h i (omega arith)))

pub size_none : (n : ℕ) → size (λ i. false) n ≡ 0
size_none zero = refl
size_none (suc n) = omega (arith, size_none n)

-- ---- lists ----

bit_taken : (x b r : Bool) → x ≡ true → r ≡ false → bit ((x && b) || r) ≡ bit b
bit_taken x b r p q = grind arith

bit_passed : (x b r : Bool) → x ≡ false → bit ((x && b) || r) ≡ bit r
bit_passed x b r p = rw p

-- one more site, above which all the others stand
one_size : (k : ℕ) (b : Bool) (rest : SiteSet) (n : ℕ) → ((i : ℕ) → i ≤ k → rest i ≡ false) → k < n
    → size (λ i. (eqb k i && b) || rest i) n ≡ bit b + size rest n
one_size k b rest zero h l = absurd (omega arith)
one_size k b rest (suc m) h l = elim (cases_eq k m) [
  | inl e ↦ omega (
    arith,
    bit_taken (eqb k m) b (rest m) (eq-eqb k m e) (h m (omega arith)),
    ap bit (h m (omega arith)),
    size_same (λ i. (eqb k i && b) || rest i) rest m (λ i j. rw (ne_eqb k i (λ q. omega arith))),
  )
  | inr ne ↦ omega (arith, bit_passed (eqb k m) b (rest m) (ne_eqb k m ne), one_size k b rest m h (omega arith))
]

pub count_map : {A B : Type 0} (g : A → B) (p : B → Bool) (xs : List A) → count p (map g xs) ≡ count (λ x. p (g x)) xs
count_map g p [] = refl
count_map g p (x ∷ xs) = omega (arith, count_map g p xs)

module _ {A : Type 0} where
  pub count_all : (xs : List A) → count (λ x. true) xs ≡ length xs
  count_all [] = refl
  count_all (x ∷ xs) = omega (arith, count_all xs)

  -- two tests that pass more often than the list is long pass at one member
  pub overlap : (p q : A → Bool) (xs : List A) → length xs < count p xs + count q xs → (x : A) × (p x ≡ true) × (q x ≡ true)
  overlap p q [] h = absurd (omega arith)
  overlap p q (x ∷ xs) h = elim (cases_Bool (p x)) [
    | inl e ↦ elim (cases_Bool (q x)) [
      | inl k ↦ (x, e, k)
      | inr k ↦ overlap p q xs (omega (arith, ap bit k, ap bit e))
    ]
    | inr e ↦ overlap p q xs (omega (arith, ap bit e, bit_small (q x)))
  ]

  -- the sites that a list names
  module _ (key : A → ℕ) where
    named_low : (p : A → Bool) (xs : List A) (low n : ℕ) → Ascending key low n xs → (i : ℕ) → i < low → named key p xs i ≡ false
    named_low p [] low n a i l = refl
    named_low p (x ∷ xs) low n a i l = rw (ne_eqb (key x) i (λ q. omega arith)) (named_low p xs (suc (key x)) n a.2 i (omega arith))

    -- a list in ascending order names as many sites as it has members
    pub count_size : (p : A → Bool) (xs : List A) (low n : ℕ) → Ascending key low n xs → count p xs ≡ size (named key p xs) n
    count_size p [] low n a = sym (size_none n)
    count_size p (x ∷ xs) low n a =
        omega (
          arith,
          count_size p xs (suc (key x)) n a.2,
          one_size (key x) (p x) (named key p xs) n (λ i l. named_low p xs (suc (key x)) n a.2 i (omega arith)) a.1,
        )

    -- a site that is named stands with a member that passes
    pub named_member : (R : A → Type 0) (p : A → Bool) (xs : List A) → Each R xs → (i : ℕ) → named key p xs i ≡ true
        → (x : A) × R x × (key x ≡ i) × (p x ≡ true)
    named_member R p [] rs i h = absurd (false≢true h)
    named_member R p (x ∷ xs) rs i h = elim (or_cases (eqb (key x) i && p x) (named key p xs i) h) [
      | inl e ↦ let a = and_parts (eqb (key x) i) (p x) e in (x, rs.0, eqb-true (key x) i a.0, a.1)
      | inr e ↦ named_member R p xs rs.1 i e
    ]

    -- a site that is named for one test is named for another that its member passes
    pub named_again : (R : A → Type 0) (q p : A → Bool) (xs : List A) → Each R xs → (i : ℕ) → named key q xs i ≡ true
        → ((x : A) → R x → key x ≡ i → q x ≡ true → p x ≡ true) → named key p xs i ≡ true
    named_again R q p [] rs i h f = h
    named_again R q p (x ∷ xs) rs i h f = elim (or_cases (eqb (key x) i && q x) (named key q xs i) h) [
      | inl e ↦
          let a = and_parts (eqb (key x) i) (q x) e in
          or_left (eqb (key x) i && p x) (named key p xs i)
          (and_from (eqb (key x) i) (p x) a.0 (f x rs.0 (eqb-true (key x) i a.0) a.1))
      | inr e ↦ or_right (eqb (key x) i && p x) (named key p xs i) (named_again R q p xs rs.1 i e f)
    ]
