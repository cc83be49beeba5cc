-- Counting the reports of a value, and the highest number that passes a test.
use Rattle.std.proofs.Common.{◌≡◌, ℕ, zero, suc, ◌+◌, ◌≤◌, Bool, true, false, cond, ◌&&◌, eqb, leb, ◌⊎◌, List, [], ◌∷◌, Some, None, Option, sym, refl, ap, ◌∙◌, inl, inr, arith}
use Rattle.std.specs.List.{count_by}
use Rattle.std.proofs.lemmas.List.Sums.{sum_by-cons}
use Rattle.std.proofs.lemmas.Bool.{eqb-true, eq-eqb, leb-true, le-leb, and_parts, and_from, cases_Bool, cases_eq, false≢true, true≢false}
use Rattle.values.specs.declared.fix.Value.{Value}
use Rattle.values.specs.declared.fix.Report.{Report}
use Rattle.verdicts.specs.declared.rule.Reported.{Reported}
use Rattle.verdicts.specs.Rule.{same, reaches, reporters, highest}

-- ---- values and reports ----

pub same_eq : (a b : Value) → same a b ≡ true → a ≡ b
same_eq a b h =
    let x = and_parts (eqb a.first b.first && eqb a.second b.second) (eqb a.third b.third) h in
    let y = and_parts (eqb a.first b.first) (eqb a.second b.second) x.0 in
    λ i. record {
      first = eqb-true a.first b.first y.0 i;
      second = eqb-true a.second b.second y.1 i;
      third = eqb-true a.third b.third x.1 i;
    }

pub eq_same : (a b : Value) → a ≡ b → same a b ≡ true
eq_same a b e = rw (eq-eqb a.first b.first (cc), eq-eqb a.second b.second (cc), eq-eqb a.third b.third (cc))

pub reaches_some : (d : Value) (v : ℕ) (o : Option Report) → reaches d v o ≡ true → (r : Report) × (o ≡ Some r) × (d ≡ r.value) × (v ≤ r.view)
reaches_some d v None h = absurd (false≢true h)
reaches_some d v (Some r) h =
    let x = and_parts (same d r.value) (leb v r.view) h in
    (r, refl, same_eq d r.value x.0, leb-true v r.view x.1)

pub some_reaches : (d : Value) (v : ℕ) (r : Report) → d ≡ r.value → v ≤ r.view → reaches d v (Some r) ≡ true
some_reaches d v r e h = and_from (same d r.value) (leb v r.view) (eq_same d r.value e) (le-leb v r.view h)

pub reaches_low : (d : Value) (v w : ℕ) (o : Option Report) → v ≤ w → reaches d w o ≡ true → reaches d v o ≡ true
reaches_low d v w None l h = h
reaches_low d v w (Some r) l h =
    let x = and_parts (same d r.value) (leb w r.view) h in
    and_from (same d r.value) (leb v r.view) x.0 (le-leb v r.view (omega (arith, leb-true w r.view x.1)))

-- ---- counts ----

abbrev pub bit : Bool → ℕ
bit b = cond b 1 0

pub bit_le : (a b : Bool) → (a ≡ true → b ≡ true) → bit a ≤ bit b
bit_le true b h = omega (arith, ap bit (h refl))
bit_le false b h = omega arith

-- how many members of a list pass a test
abbrev pub count : {A : Type 0} → (A → Bool) → List A → ℕ
count p [] = 0
count p (x ∷ xs) = bit (p x) + count p xs

module _ {A : Type 0} where
  pub count_is : (p : A → Bool) (xs : List A) → count_by p xs ≡ count p xs
  count_is p [] = refl
  count_is p (x ∷ xs) = sum_by-cons (λ y. cond (p y) 1 0) x xs ∙ ap (λ n. bit (p x) + n) (count_is p xs)

  pub count_le : (p q : A → Bool) (xs : List A) → ((x : A) → p x ≡ true → q x ≡ true) → count p xs ≤ count q xs
  count_le p q [] h = omega arith
  count_le p q (x ∷ xs) h = omega (arith, bit_le (p x) (q x) (h x), count_le p q xs h)

-- how many report a prepare of d with a view of at least v, counted by recursion
abbrev pub support : Value → ℕ → List Reported → ℕ
support d v es = count (λ (e : Reported). reaches d v e.prepared) es

pub support_is : (d : Value) (v : ℕ) (es : List Reported) → reporters d v es ≡ support d v es
support_is d v es = count_is (λ (e : Reported). reaches d v e.prepared) es

-- a lower view has as many reporters
pub reporters_low : (d : Value) (v w : ℕ) (es : List Reported) → v ≤ w → reporters d w es ≤ reporters d v es
reporters_low d v w es h =
    omega (
      arith,
      support_is d v es,
      support_is d w es,
      count_le (λ (e : Reported). reaches d w e.prepared) (λ e. reaches d v e.prepared) es (λ e k. reaches_low d v w e.prepared h k),
    )

-- ---- the highest number that passes ----

pub highest_ge : (p : ℕ → Bool) (top v : ℕ) → v ≤ top → p v ≡ true → v ≤ highest p top
highest_ge p zero v l h = l
highest_ge p (suc top) v l h = elim (cases_Bool (p (suc top))) [
  | inl e ↦ rw e l
  | inr e ↦ rw e (highest_ge p top v (elim (cases_eq v (suc top)) [
    | inl q ↦ absurd (true≢false (sym h ∙ ap p q ∙ e))
    | inr ne ↦ omega arith
  ]) h)
]

pub highest_or : (p : ℕ → Bool) (top : ℕ) → (highest p top ≡ 0) ⊎ (p (highest p top) ≡ true)
highest_or p zero = inl refl
highest_or p (suc top) = elim (cases_Bool (p (suc top))) [ inl e ↦ inr (rw e e) | inr e ↦ rw e (highest_or p top) ]
