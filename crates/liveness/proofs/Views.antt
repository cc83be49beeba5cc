-- In which view a site is: in that for which it left, as long as it stays.
use Rattle.std.proofs.Common.{◌≡◌, ℕ, zero, suc, ◌≤◌, ◌⊎◌, true, List, length, take, Ok, Err, Result, refl, sym, ap, ◌∙◌, subst, inl, inr, arith}
use Rattle.std.proofs.lemmas.Bool.{eq-eqb, ne_eqb, cases_eq}
use Rattle.values.specs.Refusals.{Refused}
use Rattle.checks.specs.Vouching.{Vouched}
use Rattle.agreement.specs.Sites.{SiteSet}
use Rattle.records.specs.Books.{Books}
use Rattle.records.specs.Kept.{Kept}
use Rattle.calls.specs.Effects.{Effect}
use Rattle.calls.specs.Calls.{Request, to_hear, to_leave, performed, kept_after}
use Rattle.calls.proofs.Laws.{only_these, leave_reports}
use Rattle.runs.specs.Runs.{Site, World, Event, result, left, after, Run}
use Rattle.liveness.specs.Recovery.{At, CallOf, Leaves, Enters, Stays}
use Rattle.runs.proofs.Standing.{member, opens}
use Rattle.liveness.proofs.Moments.{one_request, next_moment, moment_cases}
use Rattle.liveness.proofs.Present.{site, performs, comes_to, call_as, left_as}

pub hear_or_leave : {P : Type 0} (packet : List ℕ) (view : ℕ) → to_hear packet ≡ to_leave view → P
hear_or_leave packet view e = absurd (let z : ◌≡◌ {A = ℕ} 0 1 = cc in omega arith)

module _ {f t limit round : ℕ} {good : SiteSet} {w : World} {es : List Event} (run : Run f t limit round good w es) where
  abbrev at : ℕ → ℕ → Site
  at p i = site run p i

  abbrev leaves : ℕ → ℕ → ℕ → Type 0
  leaves p i view = Leaves w es p i view

  -- the view stays, or the site leaves for another
  abbrev Moves : ℕ → ℕ → Type 0
  Moves p i = ((at (suc p) i).kept.view ≡ (at p i).kept.view) ⊎ ((view : ℕ) × leaves p i view × ((at (suc p) i).kept.view ≡ view))

  own_call : (p : ℕ) (e : Event) (c : At es p e) → Moves p e.site
  own_call p e c = by_result (result (after w (take p es)) e) refl
    where
      here : at (suc p) e.site ≡ left (after w (take p es)) e
      here = ap (λ (z : World). z e.site) (next_moment w es p e c) ∙ rw (eq-eqb e.site e.site refl) refl

      by_result : (r : Result Effect Refused) → result (after w (take p es)) e ≡ r → Moves p e.site
      by_result (Err x) h = inl (ap (λ (z : Site). z.kept.view) here ∙ rw h refl)
      by_result (Ok x) h =
          let now : (at (suc p) e.site).kept ≡ x.kept = ap (λ (z : Site). z.kept) here ∙ rw h refl in
          elim (only_these.views e.check (member f t limit round e.site) (at p e.site).kept (at p e.site).books (length e.out) e.request x (sym (comes_to run p e c) ∙ h)) [
            | inl q ↦ inl (ap (λ (z : Kept). z.view) now ∙ q)
            | inr q ↦ inr (x.kept.view, record { calls = record { call = e; at = c; by = refl; request = q.0 }; done = (x, h) }, ap (λ (z : Kept). z.view) now)
          ]

  step_view : (p i : ℕ) → Moves p i
  step_view p i = elim (moment_cases es p) [
    | inl c ↦ elim (cases_eq i c.0.site) [
      | inl q ↦ subst (Moves p) (sym q) (own_call p c.0 c.1)
      | inr ne ↦ inl (ap (λ (z : World). (z i).kept.view) (next_moment w es p c.0 c.1) ∙ rw (ne_eqb i c.0.site ne) refl)
    ]
    | inr q ↦ inl (ap (λ (z : List Event). (after w z i).kept.view) q)
  ]

  -- a hear stays in the view
  pub hear_stays : (q j : ℕ) (packet : List ℕ) → CallOf w es q j (to_hear packet) → (at (suc q) j).kept.view ≡ (at q j).kept.view
  hear_stays q j packet c = elim (step_view q j) [
    | inl e ↦ e
    | inr l ↦ hear_or_leave packet l.0 (one_request w es q q j j (to_hear packet) (to_leave l.0) refl c l.1.calls)
  ]

  -- after a leave, the site is in the view
  left_for : (p i view : ℕ) → leaves p i view → (at (suc p) i).kept.view ≡ view
  left_for p i view l =
      let m = member f t limit round i in
      let z = at p i in
      let e = l.calls.call in
      let done : performs run p i e (to_leave view) ≡ Ok l.done.0 = sym (call_as run l.calls) ∙ l.done.1 in
      ap (λ (z : Site). z.kept.view) (left_as run l.calls l.done.0 l.done.1)
      ∙ (leave_reports e.check m z.kept z.books (length e.out) view l.done.0 done).view_is

  entered : (i view from : ℕ) → good i ≡ true → Enters w es i view from → (at from i).kept.view ≡ view
  entered i view from g (inl l) = subst (λ (n : ℕ). (at n i).kept.view ≡ view) l.1 (left_for l.0 i view l.2)
  entered i view from g (inr first) =
      let opened = ap (λ (k : Kept). k.view) (opens f t limit round i (w i) (run.behave i g) (run.opened i g) (run.books i g).2).1 in
      subst (λ (n : ℕ). (at n i).kept.view ≡ view) (sym first.1) (opened ∙ sym first.0)

  -- a site is in the view that it entered as long as it stays
  pub in_view : (low high i view : ℕ) → good i ≡ true → Enters w es i view low → Stays w es i low high → (p : ℕ) → low ≤ p → p ≤ high → (at p i).kept.view ≡ view
  in_view low high i view g enters stays zero a b = let start : low ≡ 0 = omega arith in subst (λ (n : ℕ). (at n i).kept.view ≡ view) start (entered i view low g enters)
  in_view low high i view g enters stays (suc p) a b = elim (cases_eq low (suc p)) [
    | inl q ↦ subst (λ (n : ℕ). (at n i).kept.view ≡ view) q (entered i view low g enters)
    | inr ne ↦ elim (step_view p i) [
      | inl e ↦ e ∙ in_view low high i view g enters stays p (omega (arith, ne)) (omega arith)
      | inr m ↦ absurd (stays p m.0 (omega (arith, ne)) (omega arith) m.1)
    ]
  ]

  -- ---- what stays while the view does ----

  -- what no call ends that stays in the view
  abbrev pub Lasting : ℕ → (Kept → Type 0) → Type 0
  Lasting i P =
      (v : Vouched) (k : Kept) (books : Books) (out : ℕ) (r : Request) → (kept_after k (performed v (member f t limit round i) k books out r)).view ≡ k.view
      → P k → P (kept_after k (performed v (member f t limit round i) k books out r))

  module _ (i : ℕ) (P : Kept → Type 0) (lasting : Lasting i P) where
    own_call_lasts : (p : ℕ) (e : Event) (c : At es p e) → e.site ≡ i → (at (suc p) i).kept.view ≡ (at p i).kept.view → P (at p i).kept → P (at (suc p) i).kept
    own_call_lasts p e c by same h =
        let z = at p i in
        let calls : CallOf w es p i e.request = record { call = e; at = c; by = by; request = refl } in
        let after_it : (at (suc p) i).kept ≡ (left (after w (take p es)) e).kept = ap (λ (s : World). (s i).kept) (next_moment w es p e c) ∙ rw (eq-eqb i e.site (sym by)) refl in
        let now : (at (suc p) i).kept ≡ kept_after z.kept (performs run p i e e.request) =
        after_it
        ∙ subst (λ (n : ℕ). (left (after w (take p es)) e).kept ≡ kept_after (at p n).kept (result (after w (take p es)) e)) by refl
        ∙ ap (kept_after z.kept) (call_as run calls) in
        subst P (sym now) (lasting e.check z.kept z.books (length e.out) e.request (ap (λ (k : Kept). k.view) (sym now) ∙ same) h)

    pub call_lasts : (p : ℕ) → (at (suc p) i).kept.view ≡ (at p i).kept.view → P (at p i).kept → P (at (suc p) i).kept
    call_lasts p same h = elim (moment_cases es p) [
      | inl c ↦ elim (cases_eq i c.0.site) [
        | inl q ↦ own_call_lasts p c.0 c.1 (sym q) same h
        | inr ne ↦ subst P (sym (ap (λ (z : World). (z i).kept) (next_moment w es p c.0 c.1) ∙ rw (ne_eqb i c.0.site ne) refl)) h
      ]
      | inr q ↦ subst P (sym (ap (λ (z : List Event). (after w z i).kept) q)) h
    ]

    pub lasts_in_view : (a b view : ℕ) → ((p : ℕ) → a ≤ p → p ≤ b → (at p i).kept.view ≡ view) → a ≤ b → P (at a i).kept → P (at b i).kept
    lasts_in_view a zero view views l h = let first : a ≡ zero = omega arith in subst (λ (n : ℕ). P (at n i).kept) first h
    lasts_in_view a (suc b) view views l h = elim (cases_eq a (suc b)) [
      | inl q ↦ subst (λ (n : ℕ). P (at n i).kept) q h
      | inr ne ↦ call_lasts b (views (suc b) l (omega arith) ∙ sym (views b (omega (arith, ne)) (omega arith)))
          (lasts_in_view a b view (λ p x y. views p x (omega arith)) (omega (arith, ne)) h)
    ]
