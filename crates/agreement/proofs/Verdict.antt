-- The finding is the one that the rule gives.
use Rattle.std.proofs.Common.{◌≡◌, ℕ, zero, suc, ◌<◌, ◌≤◌, true, false, ltb, List, [], ◌∷◌, length, Some, None, Option, sym, refl, ap, ◌∙◌, subst, inl, inr, arith}
use Rattle.std.proofs.lemmas.Bool.{eq-eqb, ltb-true, ltb-false, and_parts, and_cases, cases_Bool, cases_lt, true≢false}
use Rattle.std.specs.Prelude.{◌==◌}
use Rattle.values.specs.declared.fix.Value.{Value}
use Rattle.values.specs.declared.fix.Report.{Report}
use Rattle.values.specs.Fleets.{progress_quorum}
use Rattle.verdicts.specs.declared.rule.Reported.{Reported}
use Rattle.verdicts.specs.Rule.{same, reported_view, reporters, fast_certificate, fast_support, top_committed, add_committed, committed_in, all_same, by_commits, weigh, finding}
use Rattle.agreement.specs.Statements.{Each, Of}
use Rattle.agreement.specs.Laws.{Commits, NoneAbove, FastForces, Found}
use Rattle.verdicts.proofs.Counts.{same_eq, eq_same, reporters_low}
use Rattle.agreement.proofs.Judged.{none_some, fast_reported, fast_highest, fast_low, fast_found, committed_full, committed_each}
use Rattle.agreement.proofs.Laws.{one_fast_value, fast_is_highest}

-- ---- the commits ----

abbrev viewed : ℕ → Value → Report
viewed v d = record { view = v; value = d }

commits_top : (es : List Reported) (r : Report) → Commits r es → r.view ≤ top_committed es
commits_top [] r h = absurd h
commits_top (e ∷ es) r (inl h) = omega (arith, ap reported_view h)
commits_top (e ∷ es) r (inr h) = omega (arith, commits_top es r h)

of_some : (P : Report → Type 0) (o : Option Report) → ((r : Report) → o ≡ Some r → P r) → Of P o
of_some P None h = tt
of_some P (Some r) h = h r refl

-- what holds of each reported commit holds at each entry
each_commit : (P : Report → Type 0) (es : List Reported) → ((r : Report) → Commits r es → P r) → Each (λ e. Of P e.committed) es
each_commit P [] h = tt
each_commit P (e ∷ es) h = (of_some P e.committed (λ r k. h r (inl k)), each_commit P es (λ r k. h r (inr k)))

-- the values found in view w are committed there
found_commits : (w : ℕ) (es : List Reported) → Each (λ d. Commits (viewed w d) es) (committed_in w es)
found_commits w es =
    committed_each (λ d. Commits (viewed w d) es) w es
    (each_commit (λ r. r.view ≡ w → Commits (viewed w r.value) es) es
    (λ r h e. subst (λ (v : ℕ). Commits (viewed v r.value) es) e h))

added_one : (P : Value → Type 0) (w : ℕ) (rest : List Value) (o : Option Report) (r : Report) → o ≡ Some r → r.view ≡ w → Each P (add_committed w o rest) → P r.value
added_one P w rest o r e k h =
    let a : Each P (add_committed w (Some r) rest) = subst (λ (x : Option Report). Each P (add_committed w x rest)) e h in
    (rw (eq-eqb w r.view (sym k)) at a).0

added_rest : (P : Value → Type 0) (w : ℕ) (rest : List Value) (o : Option Report) → Each P (add_committed w o rest) → Each P rest
added_rest P w rest None h = h
added_rest P w rest (Some r) h = elim (cases_Bool (w == r.view)) [
  | inl e ↦ (rw e at h).1
  | inr e ↦ rw e at h
]

-- and what holds of each value found in view w holds of each committed there
commits_found : (P : Value → Type 0) (w : ℕ) (es : List Reported) (r : Report) → Commits r es → r.view ≡ w → Each P (committed_in w es) → P r.value
commits_found P w [] r h k p = absurd h
commits_found P w (e ∷ es) r (inl h) k p = added_one P w (committed_in w es) e.committed r h k p
commits_found P w (e ∷ es) r (inr h) k p = commits_found P w es r h k (added_rest P w (committed_in w es) e.committed p)

-- ---- their values ----

same_all : (d : Value) (ds : List Value) → all_same d ds ≡ true → Each (λ x. x ≡ d) ds
same_all d [] h = tt
same_all d (e ∷ es) h = let p = and_parts (same d e) (all_same d es) h in (sym (same_eq d e p.0), same_all d es p.1)

another : (P : Value → Type 0) (d : Value) (ds : List Value) → Each P ds → all_same d ds ≡ false → (e : Value) × P e × (d ≡ e → ⊥)
another P d [] p h = absurd (true≢false h)
another P d (e ∷ es) p h = elim (and_cases (same d e) (all_same d es) h) [
  | inl k ↦ (e, p.0, λ q. true≢false (sym (eq_same d e q) ∙ k))
  | inr k ↦ another P d es p.1 k
]

-- ---- the finding ----

module _ (q : ℕ) (es : List Reported) where
  by_commits_found : (w : ℕ) (ds : List Value) → NoneAbove q es w → (1 ≤ w → 0 < length ds)
      → Each (λ d. Commits (viewed w d) es) ds
      → ((d : Value) (r : Report) → Commits r es → r.view ≡ w → Each (λ x. x ≡ d) ds → r.value ≡ d)
      → Found q es (by_commits w ds)
  by_commits_found zero ds none full here all = none
  by_commits_found (suc w) [] none full here all = absurd (omega (arith, full (omega arith)))
  by_commits_found (suc w) (d ∷ ds) none full here all = elim (cases_Bool (all_same d ds)) [
    | inl e ↦ rw e (record {
      low = omega arith;
      reported = here.0;
      no_other = λ s h k. all d s h k (refl, same_all d ds e);
      none_above = none;
    })
    | inr e ↦
        let x = another (λ d. Commits (viewed (suc w) d) es) d ds here.1 e in
        rw e (record {
          one = viewed (suc w) d;
          other = viewed (suc w) x.0;
          low = omega arith;
          same_view = refl;
          two_values = x.2;
          one_reported = here.0;
          other_reported = x.1;
          none_above = none;
        })
  ]

  weigh_found : (o : Option Report) (w : ℕ) (ds : List Value)
      → ((r : Report) → o ≡ Some r → w < r.view → FastForces q es r)
      → (((r : Report) → o ≡ Some r → r.view ≤ w) → Found q es (by_commits w ds))
      → Found q es (weigh o w ds)
  weigh_found None w ds quick slow = slow (λ r h. absurd (none_some r h))
  weigh_found (Some s) w ds quick slow = elim (cases_Bool (ltb w s.view)) [
    | inl e ↦ rw e (quick s refl (ltb-true w s.view e))
    | inr e ↦ rw e (slow (λ r h. let k : s ≡ r = cc in omega (arith, ap (λ (x : Report). x.view) k, ltb-false w s.view e)))
  ]

-- in a progress certificate, no fast certificate is above the one that is found
none_higher : (f t : ℕ) (es : List Reported) (w : ℕ) → length es ≤ progress_quorum f t
    → ((r : Report) → fast_certificate (fast_support f t) es ≡ Some r → r.view ≤ w)
    → (d : Value) (v : ℕ) → w < v → reporters d v es < fast_support f t
none_higher f t es w few low d v l = elim (cases_lt (reporters d v es) (fast_support f t)) [
  | inl k ↦ k
  | inr k ↦
      let one : 1 ≤ fast_support f t = omega arith in
      let high : fast_support f t ≤ reporters d 1 es = omega (arith, reporters_low d 1 v es (omega arith)) in
      let r = fast_found (fast_support f t) es one d high in
      let value : r.0.value ≡ d =
      one_fast_value f t es r.0.value d few
      (omega (
        arith,
        fast_reported (fast_support f t) es one r.0 r.1,
        reporters_low r.0.value 1 r.0.view es (fast_low (fast_support f t) es one r.0 r.1),
      ))
      high in
      absurd (omega (arith, low r.0 r.1, fast_highest (fast_support f t) es one r.0 v r.1 (rw value (omega arith))))
]

pub finding_found : (f t : ℕ) (es : List Reported) → length es ≤ progress_quorum f t → Found (fast_support f t) es (finding f t es)
unfolding finding
finding_found f t es few =
    let q = fast_support f t in
    let w = top_committed es in
    weigh_found q es (fast_certificate q es) w (committed_in w es)
    (λ r h l. record {
      fast = (fast_is_highest q es (omega arith)).0 r h;
      above = λ s k. omega (arith, commits_top es s k);
    })
    (λ low.
    by_commits_found q es w (committed_in w es)
    (record { fast = none_higher f t es w few low; commits = λ r h. commits_top es r h })
    (λ one. committed_full w es one refl)
    (found_commits w es)
    (λ d r h k p. commits_found (λ x. x ≡ d) w es r h k p))
