-- After the hear of a draft in its view: a proposal is prepared, a prepare and a commit stand in their rows.
use Rattle.std.proofs.Common.{◌≡◌, ℕ, suc, ◌<◌, ◌⊎◌, true, List, length, Some, None, Option, Ok, refl, sym, ap, ◌∙◌, subst, inl, inr, arith}
use Rattle.std.proofs.lemmas.Bool.{eqb-true, cases_Bool}
use Rattle.values.specs.declared.fix.Value.{Value}
use Rattle.values.specs.declared.fix.Report.{Report}
use Rattle.wire.specs.Contents.{kind_of, Content, statement_of}
use Rattle.agreement.specs.Sites.{SiteSet}
use Rattle.agreement.specs.Statements.{In, prepare as prepares_it}
use Rattle.agreement.specs.Moves as rules
use Rattle.agreement.specs.Moves.{Rows}
use Rattle.agreement.proofs.Lasting.{RowsStay, Stays}
use Rattle.agreement.proofs.Chosen.{made as prepare_made, lasts, log_lasts}
use Rattle.records.specs.Rows.{row_of}
use Rattle.records.specs.Kept.{Kept}
use Rattle.calls.specs.Steps.{is_of}
use Rattle.calls.specs.Effects.{head_of}
use Rattle.calls.proofs.Filling.{hear_fills_prepare, hear_fills_commit, hear_prepares}
use Rattle.runs.specs.Runs.{Site, World, Event, Run}
use Rattle.liveness.specs.Sealing.{sealed}
use Rattle.liveness.specs.Recovery.{Accord, Drafting, Hears}
use Rattle.runs.proofs.Abstract.{abstract_of}
use Rattle.runs.proofs.Standing.{member}
use Rattle.liveness.proofs.Sources.{holds}
use Rattle.liveness.proofs.Present.{site, stands, rule, log, alike, good_run}
use Rattle.liveness.proofs.Views.{hear_stays}
use Rattle.liveness.proofs.Deliver.{Arrived, arrived_from, proposal_arrives, prepare_arrives, commit_arrives}

-- a last prepare of this view
is_of_some : (view : ℕ) (o : Option Report) → is_of view o ≡ true → (r : Report) × (o ≡ Some r) × (r.view ≡ view)
is_of_some view None h = absurd (let z : ◌≡◌ {A = ℕ} 0 1 = cc in omega arith)
is_of_some view (Some r) h = (r, refl, eqb-true r.view view h)

-- a filled row, or an empty one
row_cases : (o : Option Value) → ((d : Value) × (o ≡ Some d)) ⊎ (o ≡ None)
row_cases None = inr refl
row_cases (Some d) = inl (d, refl)

module _ {f t limit round : ℕ} {good : SiteSet} {w : World} {es : List Event} (run : Run f t limit round good w es) (accord : Accord w es) where
  abbrev at : ℕ → ℕ → Site
  at p i = site run p i

  module _ {kind view i p : ℕ} (d : Drafting w es kind view i p) (gi : good i ≡ true) {q j : ℕ} (gj : good j ≡ true) (h : Hears w es q j i d.said d.attached) (here : (at q j).kept.view ≡ view) (l : p < q) where
    abbrev hear : Event
    hear = h.calls.call

    abbrev packet : List ℕ
    packet = sealed d.said d.attached h.tag

    abbrev Arrives : Type 0
    Arrives = Arrived run q j d.said hear packet

    -- ---- a proposal ----

    -- a last prepare has been drafted
    says : (n : ℕ) (r : Report) → (at n j).kept.prepared ≡ Some r → In (prepares_it j r.view r.value) (log run n)
    says n r is = prepare_made (good_run run) n j r gj (ap (λ (z : rules.Site). z.prepared) (alike run n j gj) ∙ is)

    -- a proposal is prepared, or another was
    pub prepares_then : kind ≡ 1 → (e : Value) × In (prepares_it j view e) (log run (suc q))
    prepares_then n = elim (cases_Bool (is_of (at q j).kept.view (at q j).kept.prepared)) [
      | inl old ↦ was (is_of_some (at q j).kept.view (at q j).kept.prepared old)
      | inr new ↦ now (proposal_arrives run d gi gj h here n l accord new)
    ]
      where
        was : (r : Report) × ((at q j).kept.prepared ≡ Some r) × (r.view ≡ (at q j).kept.view) → (e : Value) × In (prepares_it j view e) (log run (suc q))
        was r =
            let said = log_lasts (good_run run) q (suc q) (omega arith) (prepares_it j r.0.view r.0.value) (says q r.0 r.1) in
            (r.0.value, subst (λ (v : ℕ). In (prepares_it j v r.0.value) (log run (suc q))) (r.2 ∙ here) said)

        now : Arrives → (e : Value) × In (prepares_it j view e) (log run (suc q))
        now a =
            let c = holds 1 a.content (ap kind_of a.said ∙ d.kind_is ∙ n) in
            let g = hear_prepares hear.check (member f t limit round j) (at q j).kept (at q j).books (length hear.out) packet c.0 c.1 c.2 a.effect (a.read ∙ ap Ok c.3) a.done in
            let last : Report = record { view = (at q j).kept.view; value = c.0.value } in
            let said = says (suc q) last (ap (λ (z : Site). z.kept.prepared) a.now ∙ ap (λ (z : Kept). z.prepared) g.prepares) in
            (c.0.value, subst (λ (v : ℕ). In (prepares_it j v c.0.value) (log run (suc q))) here said)

    -- ---- rows ----

    same_view : (rule run q j).view ≡ (rule run (suc q) j).view
    same_view = ap (λ (z : rules.Site). z.view) (alike run q j gj) ∙ sym (hear_stays run q j packet h.calls) ∙ ap (λ (z : rules.Site). z.view) (sym (alike run (suc q) j gj))

    -- a row of site i is filled after the hear, if it was before, or if the hear fills an empty one
    row_fills : (rows : rules.Site → Rows) → ((s later : rules.Site) → Stays s later → RowsStay (rows s) (rows later))
        → (rows (abstract_of (at q j).kept) i ≡ None → (e : Value) × (rows (abstract_of (at (suc q) j).kept) i ≡ Some e))
        → (e : Value) × (rows (rule run (suc q) j) i ≡ Some e)
    row_fills rows stay fills = elim (row_cases (rows (rule run q j) i)) [
      | inl old ↦ (old.0, stay (rule run q j) (rule run (suc q) j) ((lasts (good_run run) q (suc q) j (omega arith)).stays same_view) i old.0 old.1)
      | inr empty ↦
          let new = fills (ap (λ (z : rules.Site). rows z i) (sym (alike run q j gj)) ∙ empty) in
          (new.0, ap (λ (z : rules.Site). rows z i) (alike run (suc q) j gj) ∙ new.1)
    ]

    -- a prepare stands in the row of its site
    pub prepare_fills : kind ≡ 2 → (e : Value) × ((rule run (suc q) j).prepares i ≡ Some e)
    prepare_fills n = row_fills (λ (z : rules.Site). z.prepares) (λ s z x. x.prepares) (λ empty. now (prepare_arrives run d gi gj h here n empty))
      where
        now : Arrives → (e : Value) × (row_of (at (suc q) j).kept.rows.prepares i ≡ Some e)
        now a =
            let c = holds 2 a.content (ap kind_of a.said ∙ d.kind_is ∙ n) in
            let from : c.0.head.site ≡ i = ap (λ (x : Content). (head_of (statement_of x)).site) (sym c.2) ∙ arrived_from run d gi gj h here a in
            let g = hear_fills_prepare hear.check (member f t limit round j) (at q j).kept (at q j).books (length hear.out) packet c.0 c.1 a.effect (stands run q j gj).sound (a.read ∙ ap Ok c.2) a.done in
            (c.0.value, ap (λ (z : Site). row_of z.kept.rows.prepares i) a.now ∙ subst (λ (k : ℕ). row_of a.effect.kept.rows.prepares k ≡ Some c.0.value) from g.filled)

    -- and so does a commit
    pub commit_fills : kind ≡ 3 → (e : Value) × ((rule run (suc q) j).commits i ≡ Some e)
    commit_fills n = row_fills (λ (z : rules.Site). z.commits) (λ s z x. x.commits) (λ empty. now (commit_arrives run d gi gj h here n l accord empty))
      where
        now : Arrives → (e : Value) × (row_of (at (suc q) j).kept.rows.commits i ≡ Some e)
        now a =
            let c = holds 3 a.content (ap kind_of a.said ∙ d.kind_is ∙ n) in
            let from : c.0.head.site ≡ i = ap (λ (x : Content). (head_of (statement_of x)).site) (sym c.3) ∙ arrived_from run d gi gj h here a in
            let g = hear_fills_commit hear.check (member f t limit round j) (at q j).kept (at q j).books (length hear.out) packet c.0 c.1 c.2 a.effect (stands run q j gj).sound (a.read ∙ ap Ok c.3) a.done in
            (c.0.value, ap (λ (z : Site). row_of z.kept.rows.commits i) a.now ∙ subst (λ (k : ℕ). row_of a.effect.kept.rows.commits k ≡ Some c.0.value) from g.filled)
