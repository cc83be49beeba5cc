-- A run as one site sees it: its own calls, and no others.
use Rattle.std.proofs.Common.{◌≡◌, ℕ, cond, List, [], ◌∷◌, length, refl, sym, ap, ◌∙◌, subst, inl, inr}
use Rattle.std.proofs.lemmas.Bool.{eq-eqb, ne_eqb, cases_eq}
use Rattle.std.specs.Prelude.{◌==◌}
use Rattle.checks.specs.Vouching.{Vouched}
use Rattle.agreement.specs.Statements.{Each}
use Rattle.records.specs.Kept.{Membership, fresh}
use Rattle.calls.specs.Calls.{asks, kept_after, books_after}
use Rattle.calls.specs.Laws.{OfBytes, Standing, Called, after_call, after_calls, opened, standing, KeepsTo, KeepsToCalls}
use Rattle.runs.specs.Runs.{by_the_rules, Site, World, Event, questions, next, after, Comes, OfWords}
use Rattle.runs.proofs.Standing.{packets_of_bytes}

abbrev pub called : Event → Called
called e = record { check = e.check; out = length e.out; request = e.request }

-- the calls of site i, without those of the others
abbrev pub own : ℕ → List Event → List Called
own i [] = []
own i (e ∷ es) = cond (e.site == i) (called e ∷ own i es) (own i es)

-- a site of this membership that follows the rules, as it stands
abbrev pub site_of : Membership → Standing → Site
site_of m s = record { behaviour = by_the_rules; member = m; kept = s.kept; books = s.books }

-- what a call leaves of its site
abbrev left_of : Event → Site → Site
left_of e z =
    let r = z.behaviour.performs e.check z.member z.kept z.books (length e.out) e.request in
    record { behaviour = z.behaviour; member = z.member; kept = kept_after z.kept r; books = books_after z.books r }

own_here : (i : ℕ) (e : Event) (es : List Event) → e.site ≡ i → own i (e ∷ es) ≡ called e ∷ own i es
own_here i e es q = rw (eq-eqb e.site i q) refl

own_else : (i : ℕ) (e : Event) (es : List Event) → (e.site ≡ i → ⊥) → own i (e ∷ es) ≡ own i es
own_else i e es ne = rw (ne_eqb e.site i ne) refl

pub own_bytes : (i : ℕ) (es : List Event) → Each (λ (e : Event). OfWords e.request) es → Each (λ (a : Called). OfBytes a.request) (own i es)
own_bytes i [] h = tt
own_bytes i (e ∷ es) h =
    let Fine : List Called → Type 0 = Each (λ (a : Called). OfBytes a.request) in
    elim (cases_eq e.site i) [
      | inl q ↦ subst Fine (sym (own_here i e es q)) (packets_of_bytes e.request h.0, own_bytes i es h.1)
      | inr ne ↦ subst Fine (sym (own_else i e es ne)) (own_bytes i es h.1)
    ]

-- v says yes to each question that site i asked and was told yes
abbrev KeepsToOwn : ℕ → Vouched → World → List Event → Type 0
KeepsToOwn i v w es = (past : List Event) (e : Event) → Comes es past e → e.site ≡ i → KeepsTo v e.check (questions (after w past) e)

module _ (i : ℕ) (m : Membership) where
  -- a call of the site, and one of another
  next_here : (s : Standing) (w : World) (e : Event) → w i ≡ site_of m s → e.site ≡ i → next w e i ≡ site_of m (after_call m s (called e))
  next_here s w e h q = rw (eq-eqb i e.site (sym q)) (ap (left_of e) (ap w q ∙ h))

  next_else : (w : World) (e : Event) → (e.site ≡ i → ⊥) → next w e i ≡ w i
  next_else w e ne = rw (ne_eqb i e.site (λ q. ne (sym q))) refl

  stands_after : (s : Standing) (w : World) (es : List Event) → w i ≡ site_of m s → after w es i ≡ site_of m (after_calls m s (own i es))
  stands_after s w [] h = h
  stands_after s w (e ∷ es) h = elim (cases_eq e.site i) [
    | inl q ↦ stands_after (after_call m s (called e)) (next w e) es (next_here s w e h q) ∙ ap (λ (z : List Called). site_of m (after_calls m s z)) (sym (own_here i e es q))
    | inr ne ↦ stands_after s (next w e) es (next_else w e ne ∙ h) ∙ ap (λ (z : List Called). site_of m (after_calls m s z)) (sym (own_else i e es ne))
  ]

  later : (v : Vouched) (w : World) (e : Event) (es : List Event) → KeepsToOwn i v w (e ∷ es) → KeepsToOwn i v (next w e) es
  later v w e es keeps past x c = keeps (e ∷ past) x (c.0, ap (λ (z : List Event). e ∷ z) c.1)

  keeps_after : (v : Vouched) (s : Standing) (w : World) (es : List Event) → w i ≡ site_of m s → KeepsToOwn i v w es → KeepsToCalls v m s (own i es)
  keeps_after v s w [] h keeps = tt
  keeps_after v s w (e ∷ es) h keeps = elim (cases_eq e.site i) [
    | inl q ↦
        let asked : questions w e ≡ asks e.check m s.kept s.books (length e.out) e.request = ap (λ (z : Site). z.behaviour.asks e.check z.member z.kept z.books (length e.out) e.request) (ap w q ∙ h) in
        subst (KeepsToCalls v m s) (sym (own_here i e es q)) (
          subst (KeepsTo v e.check) asked (keeps [] e (es, refl) q),
          keeps_after v (after_call m s (called e)) (next w e) es (next_here s w e h q) (later v w e es keeps),
        )
    | inr ne ↦ subst (KeepsToCalls v m s) (sym (own_else i e es ne)) (keeps_after v s (next w e) es (next_else w e ne ∙ h) (later v w e es keeps))
  ]

module _ (w : World) (i round : ℕ) (behaves : (w i).behaviour ≡ by_the_rules) (fresh_kept : (w i).kept ≡ fresh round) where
  opened_site : w i ≡ site_of (w i).member (opened round (w i).books)
  opened_site =
      ap (λ z. record { behaviour = z; member = (w i).member; kept = (w i).kept; books = (w i).books }) behaves
      ∙ ap (λ z. record { behaviour = by_the_rules; member = (w i).member; kept = z; books = (w i).books }) fresh_kept

  -- after any calls the site is as its own calls leave it
  pub own_standing : (es : List Event) → after w es i ≡ site_of (w i).member (standing (w i).member round (w i).books (own i es))
  own_standing es = stands_after i (w i).member (opened round (w i).books) w es opened_site

  pub own_keeps : (v : Vouched) (es : List Event) → KeepsToOwn i v w es → KeepsToCalls v (w i).member (opened round (w i).books) (own i es)
  own_keeps v es keeps = keeps_after i (w i).member v (opened round (w i).books) w es opened_site keeps
