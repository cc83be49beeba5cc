-- A fast certificate's view is the highest reported one that enough reports reach.
use Rattle.std.proofs.Common.{◌≡◌, ℕ, ◌+◌, ◌<◌, ◌≤◌, max, Bool, true, cond, ◌&&◌, leb, ◌⊎◌, List, [], ◌∷◌, length, get_or, take, drop, Some, None, Option, sym, refl, ap, ◌∙◌, inl, inr, arith}
use Rattle.std.specs.List.{count_by}
use Rattle.std.proofs.lemmas.List.{take_all, at_drop_more}
use Rattle.std.proofs.lemmas.List.Sums.{count_by_more_yes, sum_by-take-le}
use Rattle.std.proofs.lemmas.Bool.{leb-true, le-leb, lt-leb, cond-true, cond-false, and_parts, and_from, cases_Bool, cases_lt, false≢true}
use Rattle.values.specs.declared.fix.Value.{Value}
use Rattle.values.specs.declared.fix.Report.{Report}
use Rattle.verdicts.specs.declared.rule.Reported.{Reported}
use Rattle.verdicts.specs.Rule.{same, reported_view, reaches, reporters, top_prepared, fast_view, fast_from, fast_among}
use Rattle.verdicts.proofs.Counts.{eq_same, reaches_some, some_reaches, reaches_low, bit, bit_le, count, support_is, highest_ge, highest_or}

-- the view of a report of d that q of es reach, 0 otherwise
abbrev pub reach_at : ℕ → List Reported → Value → Option Report → ℕ
reach_at q es d None = 0
reach_at q es d (Some r) = cond (same d r.value && leb q (reporters d r.view es)) r.view 0

-- the highest of these
abbrev pub reach : ℕ → List Reported → Value → List Reported → ℕ
reach q es d [] = 0
reach q es d (x ∷ xs) = max (reach_at q es d x.prepared) (reach q es d xs)

abbrev Each : (Reported → Type 0) → List Reported → Type 0
Each P [] = Unit {0}
Each P (x ∷ xs) = P x × Each P xs

each_of : (P Q : Reported → Type 0) (xs : List Reported) → ((x : Reported) → P x → Q x) → Each P xs → Each Q xs
each_of P Q [] f h = tt
each_of P Q (x ∷ xs) f h = (f x h.0, each_of P Q xs f h.1)

count_each : (p q : Reported → Bool) (xs : List Reported) → Each (λ x. p x ≡ true → q x ≡ true) xs → count p xs ≤ count q xs
count_each p q [] h = omega arith
count_each p q (x ∷ xs) h = omega (arith, bit_le (p x) (q x) h.0, count_each p q xs h.1)

count_none : (p : Reported → Bool) (xs : List Reported) → Each (λ x. p x ≡ true → ⊥) xs → count p xs ≡ 0
count_none p [] h = refl
count_none p (x ∷ xs) h = elim (cases_Bool (p x)) [ inl e ↦ absurd (h.0 e) | inr e ↦ omega (arith, ap bit e, count_none p xs h.1) ]

-- more entries reach a view that all who reach v reach
reporters_each : (d : Value) (v w : ℕ) (es : List Reported) → Each (λ x. reaches d v x.prepared ≡ true → reaches d w x.prepared ≡ true) es → reporters d v es ≤ reporters d w es
reporters_each d v w es h = omega (arith, support_is d v es, support_is d w es, count_each (λ e. reaches d v e.prepared) (λ e. reaches d w e.prepared) es h)

module _ (q : ℕ) (es : List Reported) (d : Value) (v : ℕ) where
  -- the lowest of the reports of d from v on
  record Lowest (xs : List Reported) (r : Report) : Type 0 where
    from : v ≤ r.view
    of : d ≡ r.value
    reached : reach_at q es d (Some r) ≤ reach q es d xs
    all : Each (λ x. reaches d v x.prepared ≡ true → reaches d r.view x.prepared ≡ true) xs

  at_report : (a : ℕ) (o : Option Report) (r : Report) → o ≡ Some r → d ≡ r.value → a ≤ r.view → reaches d a o ≡ true
  at_report a o r e k l = rw e (some_reaches d a r k l)

  lowest : (xs : List Reported) → Each (λ x. reaches d v x.prepared ≡ true → ⊥) xs ⊎ ((r : Report) × Lowest xs r)
  lowest [] = inl tt
  lowest (x ∷ xs) = elim (cases_Bool (reaches d v x.prepared)) [
    | inl e ↦
        let s = reaches_some d v x.prepared e in
        let at : reach_at q es d x.prepared ≡ reach_at q es d (Some s.0) = ap (λ (o : Option Report). reach_at q es d o) s.1 in
        elim (lowest xs) [
          | inl none ↦ inr (
            s.0,
            record {
              from = s.3;
              of = s.2;
              reached = omega arith;
              all = (
                (λ h. at_report s.0.view x.prepared s.0 s.1 s.2 (omega arith)),
                each_of (λ y. reaches d v y.prepared ≡ true → ⊥) (λ y. reaches d v y.prepared ≡ true → reaches d s.0.view y.prepared ≡ true) xs (λ y f h. absurd (f h)) none,
              );
            },
          )
          | inr r ↦ elim (cases_lt r.0.view s.0.view) [
            | inl l ↦ inr (
              r.0,
              record {
                from = r.1.from;
                of = r.1.of;
                reached = omega (arith, r.1.reached);
                all = ((λ h. at_report r.0.view x.prepared s.0 s.1 s.2 (omega arith)), r.1.all);
              },
            )
            | inr l ↦ inr (
              s.0,
              record {
                from = s.3;
                of = s.2;
                reached = omega arith;
                all = (
                  (λ h. at_report s.0.view x.prepared s.0 s.1 s.2 (omega arith)),
                  each_of (λ y. reaches d v y.prepared ≡ true → reaches d r.0.view y.prepared ≡ true) (λ y. reaches d v y.prepared ≡ true → reaches d s.0.view y.prepared ≡ true) xs
                      (λ y f h. reaches_low d s.0.view r.0.view y.prepared l (f h)) r.1.all,
                );
              },
            )
          ]
        ]
    | inr e ↦ elim (lowest xs) [
      | inl none ↦ inl ((λ h. absurd (false≢true (sym e ∙ h))), none)
      | inr r ↦ inr (
        r.0,
        record {
          from = r.1.from;
          of = r.1.of;
          reached = omega (arith, r.1.reached);
          all = ((λ h. absurd (false≢true (sym e ∙ h))), r.1.all);
        },
      )
    ]
  ]

  -- a view that q entries reach is at most the highest reported one
  reach_ge : 1 ≤ q → q ≤ reporters d v es → v ≤ reach q es d es
  reach_ge one h = elim (lowest es) [
    | inl none ↦ absurd (omega (arith, support_is d v es, count_none (λ x. reaches d v x.prepared) es none))
    | inr r ↦
        let more = reporters_each d v r.0.view es r.1.all in
        let t : same d r.0.value && leb q (reporters d r.0.view es) ≡ true =
        and_from (same d r.0.value) (leb q (reporters d r.0.view es)) (eq_same d r.0.value r.1.of) (le-leb q (reporters d r.0.view es) (omega arith)) in
        let is : reach_at q es d (Some r.0) ≡ r.0.view = rw t in
        omega (arith, r.1.from, r.1.reached)
  ]

module _ (q : ℕ) (es : List Reported) (d : Value) where
  reach_at_or : (o : Option Report) → (reach_at q es d o ≤ reported_view o) × ((reach_at q es d o ≡ 0) ⊎ (q ≤ reporters d (reach_at q es d o) es))
  reach_at_or None = (omega arith, inl refl)
  reach_at_or (Some r) = elim (cases_Bool (same d r.value && leb q (reporters d r.view es))) [
    | inl e ↦ rw e (omega arith, inr (leb-true q (reporters d r.view es) (and_parts (same d r.value) (leb q (reporters d r.view es)) e).1))
    | inr e ↦ rw e (omega arith, inl refl)
  ]

  reach_or : (xs : List Reported) → (reach q es d xs ≤ top_prepared xs) × ((reach q es d xs ≡ 0) ⊎ (q ≤ reporters d (reach q es d xs) es))
  reach_or [] = (omega arith, inl refl)
  reach_or (x ∷ xs) =
      let a = reach_at_or x.prepared in
      let b = reach_or xs in (
        omega (arith, a.0, b.0),
        elim (cases_lt (reach_at q es d x.prepared) (reach q es d xs)) [
          | inl l ↦ let is : max (reach_at q es d x.prepared) (reach q es d xs) ≡ reach q es d xs = omega arith in rw is b.1
          | inr l ↦ let is : max (reach_at q es d x.prepared) (reach q es d xs) ≡ reach_at q es d x.prepared = omega arith in rw is a.1
        ],
      )

  pub reach_is : 1 ≤ q → reach q es d es ≡ fast_view q es d
  reach_is one =
      let a = reach_or es in
      let low : reach q es d es ≤ fast_view q es d = elim a.1 [
        | inl z ↦ omega arith
        | inr k ↦ highest_ge (λ v. leb q (reporters d v es)) (top_prepared es) (reach q es d es) a.0 (le-leb q (reporters d (reach q es d es) es) k)
      ] in
      let high : fast_view q es d ≤ reach q es d es = elim (highest_or (λ v. leb q (reporters d v es)) (top_prepared es)) [
        | inl z ↦ omega arith
        | inr k ↦ reach_ge q es d (fast_view q es d) one (leb-true q (reporters d (fast_view q es d) es) k)
      ] in
      omega arith

-- ---- the search for a value with a fast certificate ----

module _ (q : ℕ) (es : List Reported) (i : ℕ) (z : Reported) (l : i < length es) where
  at_candidate : (o : Option Report) → (get_or es i z).prepared ≡ o → fast_among q es (drop i es) ≡ fast_from q es o (fast_among q es (drop (i + 1) es))
  at_candidate o e = at_drop_more (fast_among q es) es i z l ∙ ap (λ (x : Option Report). fast_from q es x (fast_among q es (drop (i + 1) es))) e

  -- enough entries report the candidate's value
  pub candidate_yes : (r : Report) → (get_or es i z).prepared ≡ Some r → q ≤ reporters r.value 1 es
      → fast_among q es (drop i es) ≡ Some (record { view = fast_view q es r.value; value = r.value })
  candidate_yes r e k = at_candidate (Some r) e ∙ cond-true _ _ _ (le-leb q (reporters r.value 1 es) k)

  -- too few do
  pub candidate_no : (r : Report) → (get_or es i z).prepared ≡ Some r → reporters r.value 1 es < q
      → fast_among q es (drop i es) ≡ fast_among q es (drop (i + 1) es)
  candidate_no r e k = at_candidate (Some r) e ∙ cond-false _ _ _ (lt-leb q (reporters r.value 1 es) k)

  pub candidate_none : (get_or es i z).prepared ≡ None → fast_among q es (drop i es) ≡ fast_among q es (drop (i + 1) es)
  candidate_none e = at_candidate None e

-- so many of the entries up to i report d
abbrev pub counted : Value → List Reported → ℕ → ℕ
counted d es i = count_by (λ e. reaches d 1 e.prepared) (take i es)

pub counted_more : (d : Value) (es : List Reported) (i : ℕ) (z : Reported) → i < length es → reaches d 1 (get_or es i z).prepared ≡ true → counted d es (i + 1) ≡ counted d es i + 1
counted_more d es i z l e = count_by_more_yes (λ (x : Reported). reaches d 1 x.prepared) es i z l e

pub counted_front : (d : Value) (es : List Reported) (i : ℕ) → counted d es i ≤ reporters d 1 es
counted_front d es i = sum_by-take-le (λ (e : Reported). cond (reaches d 1 e.prepared) 1 0) es i

pub counted_all : (d : Value) (es : List Reported) (i : ℕ) → length es ≤ i → counted d es i ≡ reporters d 1 es
counted_all d es i l = ap (λ (xs : List Reported). reporters d 1 xs) (take_all i es l)
