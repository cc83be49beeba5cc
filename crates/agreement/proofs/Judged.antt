-- What the entries of a progress certificate come to: the fast certificate that is found, the commits of the highest view, the finding.
use Rattle.std.proofs.Common.{◌≡◌, ℕ, zero, suc, ◌<◌, ◌≤◌, Bool, true, eqb, ltb, leb, ◌⊎◌, List, [], ◌∷◌, length, Some, None, Option, sym, refl, ap, ◌∙◌, subst, inl, inr, arith}
use Rattle.std.proofs.lemmas.Bool.{eqb-true, eq-eqb, leb-true, le-leb, ltb-true, ltb-false, and_parts, and_from, cases_Bool, cases_eq, false≢true, true≢false}
use Rattle.values.specs.declared.fix.Value.{Value}
use Rattle.values.specs.declared.fix.Report.{Report}
use Rattle.verdicts.specs.declared.rule.Reported.{Reported}
use Rattle.verdicts.specs.Rule.{same, reported_view, reaches, reporters, highest, top_prepared, fast_view, fast_from, fast_among, fast_certificate, fast_support, top_committed, add_committed, committed_in, all_same, by_commits, weigh, Finding, free, forced, conflict, By, by_fast, by_commit, finding}
use Rattle.agreement.specs.Statements.{Each, Of, Forces, Allows}
use Rattle.verdicts.proofs.Counts.{same_eq, eq_same, reaches_some, bit, support, support_is, highest_ge}

-- ---- options ----

pub none_some : {A : Type 0} (a : A) → None ≡ Some a → ⊥
none_some a p = let z : ◌≡◌ {A = ℕ} 0 1 = cc in omega arith

pub some_inj : {A : Type 0} (a b : A) → Some a ≡ Some b → a ≡ b
some_inj a b p = cc

-- ---- reports ----

-- a view that is reached is at most the highest reported one
support_top : (d : Value) (v : ℕ) (es : List Reported) → 0 < support d v es → v ≤ top_prepared es
support_top d v [] h = absurd (omega arith)
support_top d v (x ∷ xs) h = elim (cases_Bool (reaches d v x.prepared)) [
  | inl e ↦ let r = reaches_some d v x.prepared e in omega (arith, r.3, ap reported_view r.1)
  | inr e ↦ omega (arith, support_top d v xs (omega (arith, ap bit e)))
]

pub reporters_top : (d : Value) (v : ℕ) (es : List Reported) → 0 < reporters d v es → v ≤ top_prepared es
reporters_top d v es h = support_top d v es (omega (arith, support_is d v es))

-- ---- the highest number that passes ----

highest_passes : (p : ℕ → Bool) (top v : ℕ) → 1 ≤ v → v ≤ top → p v ≡ true → p (highest p top) ≡ true
highest_passes p zero v one l h = absurd (omega arith)
highest_passes p (suc top) v one l h = elim (cases_Bool (p (suc top))) [
  | inl e ↦ rw e e
  | inr e ↦ rw e (highest_passes p top v one (elim (cases_eq v (suc top)) [
    | inl q ↦ absurd (true≢false (sym h ∙ ap p q ∙ e))
    | inr ne ↦ omega arith
  ]) h)
]

-- ---- the fast certificate ----

module _ (q : ℕ) (es : List Reported) (one : 1 ≤ q) where
  -- the fast certificate of a report's value
  abbrev certificate : Report → Report
  certificate s = record { view = fast_view q es s.value; value = s.value }

  Right : Report → Type 0
  Right r = (r.view ≡ fast_view q es r.value) × (q ≤ reporters r.value 1 es)

  right_from : (o rest : Option Report) (r : Report) → (rest ≡ Some r → Right r) → fast_from q es o rest ≡ Some r → Right r
  unfolding Right
  right_from None rest r ih h = ih h
  right_from (Some s) rest r ih h = elim (cases_Bool (leb q (reporters s.value 1 es))) [
    | inl e ↦
        let k : certificate s ≡ r = some_inj (certificate s) r (rw e at h) in
        subst (λ (x : Report). (x.view ≡ fast_view q es x.value) × (q ≤ reporters x.value 1 es)) k (refl, leb-true q (reporters s.value 1 es) e)
    | inr e ↦ ih (rw e at h)
  ]

  fast_right : (xs : List Reported) (r : Report) → fast_among q es xs ≡ Some r → Right r
  fast_right [] r h = absurd (none_some r h)
  fast_right (x ∷ xs) r h = right_from x.prepared (fast_among q es xs) r (fast_right xs r) h

  -- q entries report the value of the fast certificate with its view or a higher one
  pub fast_reported : (r : Report) → fast_certificate q es ≡ Some r → q ≤ reporters r.value r.view es
  unfolding Right
  fast_reported r h =
      let k = fast_right es r h in
      rw k.0 (leb-true q (reporters r.value (fast_view q es r.value) es)
      (highest_passes (λ v. leb q (reporters r.value v es)) (top_prepared es) 1 (omega arith) (reporters_top r.value 1 es (omega (arith, k.1)))
      (le-leb q (reporters r.value 1 es) k.1)))

  -- its view is the highest
  pub fast_highest : (r : Report) (v : ℕ) → fast_certificate q es ≡ Some r → q ≤ reporters r.value v es → v ≤ r.view
  unfolding Right
  fast_highest r v h k =
      rw (fast_right es r h).0
      (highest_ge (λ v. leb q (reporters r.value v es)) (top_prepared es) v (reporters_top r.value v es (omega arith)) (le-leb q (reporters r.value v es) k))

  pub fast_low : (r : Report) → fast_certificate q es ≡ Some r → 1 ≤ r.view
  unfolding Right
  fast_low r h = fast_highest r 1 h (fast_right es r h).1

  finds_from : (d : Value) (o rest : Option Report) → q ≤ reporters d 1 es → (reaches d 1 o ≡ true) ⊎ ((r : Report) × (rest ≡ Some r))
      → (r : Report) × (fast_from q es o rest ≡ Some r)
  finds_from d None rest k (inl h) = absurd (false≢true h)
  finds_from d None rest k (inr r) = r
  finds_from d (Some s) rest k (inl h) =
      let e : d ≡ s.value = same_eq d s.value (and_parts (same d s.value) (leb 1 s.view) h).0 in
      let l : leb q (reporters s.value 1 es) ≡ true = rw (← e) (le-leb q (reporters d 1 es) k) in
      (certificate s, rw l)
  finds_from d (Some s) rest k (inr r) = elim (cases_Bool (leb q (reporters s.value 1 es))) [
    | inl e ↦ (certificate s, rw e)
    | inr e ↦ (r.0, rw e r.1)
  ]

  found_among : (d : Value) (xs : List Reported) → q ≤ reporters d 1 es → 0 < support d 1 xs → (r : Report) × (fast_among q es xs ≡ Some r)
  found_among d [] k h = absurd (omega arith)
  found_among d (x ∷ xs) k h = elim (cases_Bool (reaches d 1 x.prepared)) [
    | inl e ↦ finds_from d x.prepared (fast_among q es xs) k (inl e)
    | inr e ↦ finds_from d x.prepared (fast_among q es xs) k (inr (found_among d xs k (omega (arith, ap bit e))))
  ]

  -- a value that q entries report makes a fast certificate
  pub fast_found : (d : Value) → q ≤ reporters d 1 es → (r : Report) × (fast_certificate q es ≡ Some r)
  fast_found d k = found_among d es k (omega (arith, support_is d 1 es))

-- ---- the commits ----

full_from : (w : ℕ) (o : Option Report) (rest : List Value) → 1 ≤ w → (w ≡ reported_view o) ⊎ (0 < length rest) → 0 < length (add_committed w o rest)
full_from w None rest l (inl e) = absurd (omega arith)
full_from w None rest l (inr h) = h
full_from w (Some r) rest l (inl e) = rw (eq-eqb w r.view e) (omega arith)
full_from w (Some r) rest l (inr h) = elim (cases_Bool (eqb w r.view)) [
  | inl e ↦ rw e (omega arith)
  | inr e ↦ rw e h
]

-- some value is committed in the highest view
pub committed_full : (w : ℕ) (es : List Reported) → 1 ≤ w → w ≡ top_committed es → 0 < length (committed_in w es)
committed_full w [] l e = absurd (omega arith)
committed_full w (x ∷ xs) l e = elim (cases_eq w (top_committed xs)) [
  | inl k ↦ full_from w x.committed (committed_in w xs) l (inr (committed_full w xs l k))
  | inr k ↦ full_from w x.committed (committed_in w xs) l (inl (omega arith))
]

of_committed : (P : Value → Type 0) (w : ℕ) (o : Option Report) (rest : List Value)
    → Of (λ r. r.view ≡ w → P r.value) o → Each P rest → Each P (add_committed w o rest)
of_committed P w None rest h k = k
of_committed P w (Some r) rest h k = elim (cases_Bool (eqb w r.view)) [
  | inl e ↦ rw e (h (sym (eqb-true w r.view e)), k)
  | inr e ↦ rw e k
]

-- what holds of each value reported as committed in view w holds of each that is found there
pub committed_each : (P : Value → Type 0) (w : ℕ) (es : List Reported)
    → Each (λ e. Of (λ r. r.view ≡ w → P r.value) e.committed) es → Each P (committed_in w es)
committed_each P w [] h = tt
committed_each P w (x ∷ xs) h = of_committed P w x.committed (committed_in w xs) h.0 (committed_each P w xs h.1)

-- each view is at most the highest
pub top_each : (es : List Reported) → Each (λ e. reported_view e.committed ≤ top_committed es) es
top_each es = go es (top_committed es) (omega arith)
  where
    go : (xs : List Reported) (w : ℕ) → top_committed xs ≤ w → Each (λ e. reported_view e.committed ≤ w) xs
    go [] w h = tt
    go (x ∷ xs) w h = (omega arith, go xs w (omega arith))

-- ---- the finding ----

all_are : (d e : Value) (ds : List Value) → e ≡ d → Each (λ x. x ≡ d) ds → all_same e ds ≡ true
all_are d e [] p h = refl
all_are d e (x ∷ xs) p h = and_from (same e x) (all_same e xs) (eq_same e x (p ∙ sym h.0)) (all_are d e xs p h.1)

pub by_commits_forces : (w : ℕ) (ds : List Value) (d : Value) → 1 ≤ w → 0 < length ds → Each (λ x. x ≡ d) ds → Forces (by_commits w ds) d
by_commits_forces zero ds d l k h = absurd (omega arith)
by_commits_forces (suc w) [] d l k h = absurd (omega arith)
by_commits_forces (suc w) (e ∷ es) d l k h = rw (all_are d e es h.0 h.1) h.0

weigh_forces : (o : Option Report) (w : ℕ) (ds : List Value) (v : ℕ) (d : Value)
    → (v ≤ w → Forces (by_commits w ds) d)
    → ((r : Report) → o ≡ Some r → w < r.view → r.value ≡ d)
    → ((r : Report) × (o ≡ Some r) × (v ≤ r.view)) ⊎ (v ≤ w)
    → Forces (weigh o w ds) d
weigh_forces None w ds v d slow quick (inl r) = absurd (none_some r.0 r.1)
weigh_forces None w ds v d slow quick (inr l) = slow l
weigh_forces (Some s) w ds v d slow quick reach = elim (cases_Bool (ltb w s.view)) [
  | inl e ↦ rw e (quick s refl (ltb-true w s.view e))
  | inr e ↦ rw e (slow (elim reach [
    | inl r ↦ let k : s.view ≡ r.0.view = cc r.1 in omega (arith, ltb-false w s.view e, r.2)
    | inr l ↦ l
  ]))
]

-- the finding forces d if the commits of the highest view do, a fast certificate above that view does, and one of both reaches v
pub finding_forces : (f t : ℕ) (es : List Reported) (v : ℕ) (d : Value)
    → (v ≤ top_committed es → Forces (by_commits (top_committed es) (committed_in (top_committed es) es)) d)
    → ((r : Report) → fast_certificate (fast_support f t) es ≡ Some r → top_committed es < r.view → r.value ≡ d)
    → ((r : Report) × (fast_certificate (fast_support f t) es ≡ Some r) × (v ≤ r.view)) ⊎ (v ≤ top_committed es)
    → Forces (finding f t es) d
unfolding finding
finding_forces f t es v d slow quick reach =
    weigh_forces (fast_certificate (fast_support f t) es) (top_committed es) (committed_in (top_committed es) es) v d slow quick reach

forced_conflict : (r : Report) (b : By) → forced r b ≡ conflict → ⊥
forced_conflict r b p = let z : ◌≡◌ {A = ℕ} 0 1 = cc in omega arith

free_conflict : free ≡ conflict → ⊥
free_conflict p = let z : ◌≡◌ {A = ℕ} 0 1 = cc in omega arith

each_other : (P : Value → Type 0) (d : Value) (ds : List Value) → ((a b : Value) → P a → P b → a ≡ b) → P d → Each P ds → Each (λ x. x ≡ d) ds
each_other P d [] one k h = tt
each_other P d (x ∷ xs) one k h = (one x d h.0 k, each_other P d xs one k h.1)

by_commits_certain : (P : Value → Type 0) (w : ℕ) (ds : List Value) → ((a b : Value) → P a → P b → a ≡ b) → Each P ds → by_commits w ds ≡ conflict → ⊥
by_commits_certain P zero ds one h k = free_conflict k
by_commits_certain P (suc w) [] one h k = free_conflict k
by_commits_certain P (suc w) (d ∷ ds) one h k =
    let e : all_same d ds ≡ true = all_are d d ds refl (each_other P d ds one h.0 h.1) in
    forced_conflict (record { view = suc w; value = d }) by_commit (rw e at k)

weigh_certain : (P : Value → Type 0) (o : Option Report) (w : ℕ) (ds : List Value) → ((a b : Value) → P a → P b → a ≡ b) → Each P ds → weigh o w ds ≡ conflict → ⊥
weigh_certain P None w ds one h k = by_commits_certain P w ds one h k
weigh_certain P (Some r) w ds one h k = elim (cases_Bool (ltb w r.view)) [
  | inl e ↦ forced_conflict r by_fast (rw e at k)
  | inr e ↦ by_commits_certain P w ds one h (rw e at k)
]

-- where one value at most can be committed in the highest view, no finding is a conflict
pub finding_certain : (P : Value → Type 0) (f t : ℕ) (es : List Reported) → ((a b : Value) → P a → P b → a ≡ b) → Each P (committed_in (top_committed es) es)
    → finding f t es ≡ conflict → ⊥
unfolding finding
finding_certain P f t es one h k =
    weigh_certain P (fast_certificate (fast_support f t) es) (top_committed es) (committed_in (top_committed es) es) one h k

-- a finding that forces d allows no other value
pub forces_only : (x : Finding) (d e : Value) → Forces x d → Allows x e → e ≡ d
forces_only free d e h k = absurd h
forces_only (forced r b) d e h k = sym k ∙ h
forces_only conflict d e h k = absurd h
