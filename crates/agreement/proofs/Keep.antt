-- What every run of rule-following sites keeps true. So decisions agree, a later certificate forces them, and none is a conflict.
use Rattle.std.proofs.Common.{◌≡◌, ℕ, zero, suc, ◌<◌, ◌≤◌, Bool, true, false, cond, leb, ◌⊎◌, List, [], ◌∷◌, take, Some, None, Option, sym, refl, ap, ◌∙◌, subst, subst₂, inl, inr, arith}
use Rattle.std.proofs.lemmas.Bool.{eqb-true, eq-eqb, ne_eqb, leb-true, cases_eq, false≢true}
use Rattle.values.specs.declared.fix.Value.{Value}
use Rattle.values.specs.declared.fix.Report.{Report}
use Rattle.values.specs.Fleets.{sites, fast_quorum, recovery_quorum}
use Rattle.agreement.specs.Sites.{SiteSet, size, all_but}
use Rattle.agreement.specs.Statements.{Said, propose, prepare, commit, new_view, who, In, newest, before, Of, Entry, judged, Allows, Drafted}
use Rattle.agreement.proofs.Rules.{PreparedIn, CommittedIn, SpokeIn, RulesIn, BackedIn, ProgressIn, DecidedIn}
use Rattle.agreement.proofs.Rules.Decided.{fast_path, recovery_path}
use Rattle.agreement.specs.Moves.{Rows, fill, holds, holders, Site, opened, Move, propose_it, hear_propose, hear_prepare, hear_commit, leave, other, decide, here, makes_commit, step, draft, more, World, start, next, Tests, vouched, Moved, moves, Run, after}
use Rattle.agreement.specs.Promises.{Valid, DecisionsAgree, LaterForced, NeverConflict}
use Rattle.verdicts.proofs.Counts.{same_eq}
use Rattle.agreement.proofs.Judged.{none_some, some_inj}
use Rattle.agreement.proofs.Agree.{decisions_same, later_forces, none_conflicts, decision_backs, decision_view, prepared_above, backed_above}
use Rattle.agreement.proofs.Grow.{Within, when, split, old_kind, old_site, progress_more, progress_by, decided_more, rules_propose, rules_prepare, rules_commit, rules_new_view}

holds_some : (d : Value) (o : Option Value) → holds d o ≡ true → o ≡ Some d
holds_some d None h = absurd (false≢true h)
holds_some d (Some e) h = ap {B = Option Value} Some (sym (same_eq d e h))

decide_cases : (o : Option Report) (b : Bool) (x r : Report) → decide o b x ≡ Some r → (o ≡ Some r) ⊎ ((b ≡ true) × (x ≡ r))
decide_cases (Some s) b x r h = inl h
decide_cases None true x r h = inr (refl, some_inj x r h)
decide_cases None false x r h = absurd (none_some r h)

pub nothing : {x : Said} → In x [] → ⊥
nothing h = elim h [ ]

-- what holds of the rows and of what fills one holds of the rows after
filled : (good : SiteSet) (P : ℕ → Value → Type 0) (rows : Rows) (j : ℕ) (d : Value)
    → ((k : ℕ) (e : Value) → rows k ≡ Some e → good k ≡ true → P k e)
    → (good j ≡ true → P j d)
    → (k : ℕ) (e : Value) → fill rows j d k ≡ Some e → good k ≡ true → P k e
filled good P rows j d was new k e h g = elim (cases_eq k j) [
  | inl q ↦
      let x : fill rows j d k ≡ Some d = rw (eq-eqb k j q) in
      subst₂ P (sym q) (some_inj d e (sym x ∙ h)) (new (ap good (sym q) ∙ g))
  | inr ne ↦ was k e (rw (ne_eqb k j ne) at h) g
]

module _ (f t : ℕ) (good : SiteSet) where
  -- what a rule-following site's record says about what was drafted
  pub record Kept (i : ℕ) (s : Site) (log : List Said) : Type 0 where
    pub view_one : 1 ≤ s.view
    pub made : (r : Report) → s.prepared ≡ Some r → In (prepare i r.view r.value) log × (r.view ≤ s.view)
    pub last_prepare : (v : ℕ) (d : Value) → In (prepare i v d) log → (r : Report) × (s.prepared ≡ Some r) × (v ≤ r.view)
    pub commit_low : (r : Report) → s.committed ≡ Some r → r.view ≤ s.view
    pub last_commit : (v : ℕ) (d : Value) → In (commit i v d) log → (r : Report) × (s.committed ≡ Some r) × (v ≤ r.view)
    pub spoke_low : (view : ℕ) (p c : Option Report) → In (new_view i view p c) log → view ≤ s.view
    pub prepare_rows : (j : ℕ) (d : Value) → s.prepares j ≡ Some d → good j ≡ true → In (prepare j s.view d) log
    pub commit_rows : (j : ℕ) (d : Value) → s.commits j ≡ Some d → good j ≡ true → In (commit j s.view d) log
    pub decided : (r : Report) → s.decision ≡ Some r → DecidedIn f t good log r.view r.value

  -- the rules, and each rule-following site's record
  pub record Inv (at : ℕ → Site) (log : List Said) : Type 0 where
    pub rules : RulesIn f t good log
    pub kept : (i : ℕ) → good i ≡ true → Kept i (at i) log

  -- a move's tests, with what was vouched for drafted
  abbrev Tested : Site → List Said → Move → Type 0
  Tested s log (propose_it d) = Unit {0}
  Tested s log (hear_propose d es) =
      ((r : Report) → s.prepared ≡ Some r → r.view ≡ s.view → ⊥)
      × (1 < s.view → ProgressIn f t good log s.view es × Allows (judged f t es) d)
  Tested s log (hear_prepare j d) = good j ≡ true → In (prepare j s.view d) log
  Tested s log (hear_commit j d) = good j ≡ true → In (commit j s.view d) log
  Tested s log (leave v) = s.view < v
  Tested s log other = Unit {0}

  tested : (s : Site) (log : List Said) (m : Move) → Tests f t s m → Drafted good log (vouched f t s m) → Tested s log m
  tested s log (propose_it d) k h = tt
  tested s log (hear_propose d es) k h = (k.0, λ l. let p = k.1 l in (progress_by f t good log s.view es p.0 h.1, p.1))
  tested s log (hear_prepare j d) k h = h.0
  tested s log (hear_commit j d) k h = h.0
  tested s log (leave v) k h = k
  tested s log other k h = tt

  -- ---- at the start ----

  kept_opened : (i : ℕ) → Kept i opened []
  kept_opened i =
      record {
        view_one = omega arith;
        made = λ r h. absurd (none_some r h);
        last_prepare = λ v d h. absurd (nothing h);
        commit_low = λ r h. absurd (none_some r h);
        last_commit = λ v d h. absurd (nothing h);
        spoke_low = λ v p c h. absurd (nothing h);
        prepare_rows = λ j d h. absurd (none_some d h);
        commit_rows = λ j d h. absurd (none_some d h);
        decided = λ r h. absurd (none_some r h);
      }

  rules_none : size (all_but good) (sites f t) ≤ f → RulesIn f t good []
  rules_none few =
      record {
        few = few;
        from_one = λ g a. absurd (nothing a);
        once = λ g a b. absurd (nothing a);
        justified = λ g a l. absurd (nothing a);
        backed = λ g a. absurd (nothing a);
        made = λ g a. absurd (nothing a);
        last_prepare = λ g a b l. absurd (nothing a);
        last_commit = λ g a b l. absurd (nothing a);
      }

  pub inv_start : size (all_but good) (sites f t) ≤ f → (at : ℕ → Site) → ((i : ℕ) → good i ≡ true → at i ≡ opened) → Inv at []
  inv_start few at h = record { rules = rules_none few; kept = λ i g. rw (h i g) (kept_opened i) }

  -- ---- a statement of another site ----

  kept_else : (k : ℕ) (s : Site) (log : List Said) (o : Option Said) → Of (λ y. who y ≡ k → ⊥) o → Kept k s log → Kept k s (more o log)
  kept_else k s log None apart kept = kept
  kept_else k s log (Some y) apart kept =
      record {
        view_one = kept.view_one;
        made = λ r h. let m = kept.made r h in (before m.0, m.1);
        last_prepare = λ v d h. kept.last_prepare v d (old_site (prepare k v d) y log (λ q. apart (sym q)) h);
        commit_low = kept.commit_low;
        last_commit = λ v d h. kept.last_commit v d (old_site (commit k v d) y log (λ q. apart (sym q)) h);
        spoke_low = λ v p c h. kept.spoke_low v p c (old_site (new_view k v p c) y log (λ q. apart (sym q)) h);
        prepare_rows = λ j d h g. before (kept.prepare_rows j d h g);
        commit_rows = λ j d h g. before (kept.commit_rows j d h g);
        decided = λ r h. decided_more f t good log (y ∷ log) (λ x q. before q) (kept.decided r h);
      }

  -- ---- the site's own moves ----

  module _ (i : ℕ) (s : Site) (log : List Said) (kept : Kept i s log) where
    kept_said : (d : Value) → Kept i (step f t s (propose_it d)) (propose i s.view d ∷ log)
    kept_said d =
        let y : Said = propose i s.view d in
        record {
          view_one = kept.view_one;
          made = λ r h. let m = kept.made r h in (before m.0, m.1);
          last_prepare = λ v e h. kept.last_prepare v e (old_kind (prepare i v e) y log (λ q. omega arith) h);
          commit_low = kept.commit_low;
          last_commit = λ v e h. kept.last_commit v e (old_kind (commit i v e) y log (λ q. omega arith) h);
          spoke_low = λ v p c h. kept.spoke_low v p c (old_kind (new_view i v p c) y log (λ q. omega arith) h);
          prepare_rows = λ j e h g. before (kept.prepare_rows j e h g);
          commit_rows = λ j e h g. before (kept.commit_rows j e h g);
          decided = λ r h. decided_more f t good log (y ∷ log) (λ x q. before q) (kept.decided r h);
        }

    kept_propose : (d : Value) (es : List Entry) → Kept i (step f t s (hear_propose d es)) (prepare i s.view d ∷ log)
    kept_propose d es =
        let y : Said = prepare i s.view d in
        record {
          view_one = kept.view_one;
          made = λ r h.
              let e : here s d ≡ r = some_inj (here s d) r h in
              (subst (λ (x : Report). In (prepare i x.view x.value) (y ∷ log)) e newest, omega (arith, ap (λ (x : Report). x.view) e));
          last_prepare = λ v e h. elim (split h) [
            | inl p ↦ (here s d, refl, omega (arith, ap when p))
            | inr q ↦ let r = kept.last_prepare v e q in (here s d, refl, omega (arith, r.2, (kept.made r.0 r.1).1))
          ];
          commit_low = kept.commit_low;
          last_commit = λ v e h. kept.last_commit v e (old_kind (commit i v e) y log (λ q. omega arith) h);
          spoke_low = λ v p c h. kept.spoke_low v p c (old_kind (new_view i v p c) y log (λ q. omega arith) h);
          prepare_rows = λ j e h g. before (kept.prepare_rows j e h g);
          commit_rows = λ j e h g. before (kept.commit_rows j e h g);
          decided = λ r h. decided_more f t good log (y ∷ log) (λ x q. before q) (kept.decided r h);
        }

    kept_leave : (v : ℕ) → s.view < v → Kept i (step f t s (leave v)) (new_view i v s.prepared s.committed ∷ log)
    kept_leave v l =
        let y : Said = new_view i v s.prepared s.committed in
        record {
          view_one = omega arith;
          made = λ r h. let m = kept.made r h in (before m.0, omega (arith, m.1));
          last_prepare = λ w e h. kept.last_prepare w e (old_kind (prepare i w e) y log (λ q. omega arith) h);
          commit_low = λ r h. omega (arith, kept.commit_low r h);
          last_commit = λ w e h. kept.last_commit w e (old_kind (commit i w e) y log (λ q. omega arith) h);
          spoke_low = λ w p c h. elim (split h) [ inl q ↦ omega (arith, ap when q) | inr q ↦ omega (arith, kept.spoke_low w p c q) ];
          prepare_rows = λ j e h. absurd (none_some e h);
          commit_rows = λ j e h. absurd (none_some e h);
          decided = λ r h. decided_more f t good log (y ∷ log) (λ x q. before q) (kept.decided r h);
        }

    -- rows of prepares, once one is filled
    module _ (j : ℕ) (d : Value) (heard : good j ≡ true → In (prepare j s.view d) log) where
      rows_prepare : (k : ℕ) (e : Value) → fill s.prepares j d k ≡ Some e → good k ≡ true → In (prepare k s.view e) log
      rows_prepare = filled good (λ k e. In (prepare k s.view e) log) s.prepares j d kept.prepare_rows heard

      held_prepare : (k : ℕ) → k < sites f t → good k ≡ true → holders (fill s.prepares j d) d k ≡ true → In (prepare k s.view d) log
      held_prepare k l g h = rows_prepare k d (holds_some d (fill s.prepares j d k) h) g

      back_prepare : makes_commit f t s j d ≡ true → BackedIn f t good log s.view d
      back_prepare h = (
        holders (fill s.prepares j d) d,
        record {
          enough = omega (arith, eqb-true (size (holders (fill s.prepares j d) d) (sites f t)) (recovery_quorum f t) h);
          prepared = held_prepare;
        },
      )

      decided_prepare : (r : Report) → (step f t s (hear_prepare j d)).decision ≡ Some r → DecidedIn f t good log r.view r.value
      decided_prepare r h =
          elim (decide_cases s.decision (leb (fast_quorum f t) (size (holders (fill s.prepares j d) d) (sites f t))) (here s d) r h) [
            | inl q ↦ kept.decided r q
            | inr q ↦ subst (λ (x : Report). DecidedIn f t good log x.view x.value) q.1
                (fast_path (holders (fill s.prepares j d) d) (record {
                  enough = leb-true (fast_quorum f t) (size (holders (fill s.prepares j d) d) (sites f t)) q.0;
                  prepared = held_prepare;
                }))
          ]

      -- with or without the commit
      kept_rows : (b : Bool) (c : Option Report) (log' : List Said) → c ≡ cond b (Some (here s d)) s.committed
          → log' ≡ more (cond b (Some (commit i s.view d)) None) log
          → Kept i (record { view = s.view; proposed = s.proposed; prepared = s.prepared; committed = c; prepares = fill s.prepares j d; commits = s.commits; decision = (step f t s (hear_prepare j d)).decision }) log'
      kept_rows false c log' p q =
          rw (p, q) (record {
            view_one = kept.view_one;
            made = kept.made;
            last_prepare = kept.last_prepare;
            commit_low = kept.commit_low;
            last_commit = kept.last_commit;
            spoke_low = kept.spoke_low;
            prepare_rows = rows_prepare;
            commit_rows = kept.commit_rows;
            decided = decided_prepare;
          })
      kept_rows true c log' p q =
          let y : Said = commit i s.view d in
          rw (p, q) (record {
            view_one = kept.view_one;
            made = λ r h. let m = kept.made r h in (before m.0, m.1);
            last_prepare = λ v e h. kept.last_prepare v e (old_kind (prepare i v e) y log (λ z. omega arith) h);
            commit_low = λ r h. omega (arith, ap (λ (x : Report). x.view) (some_inj (here s d) r h));
            last_commit = λ v e h. elim (split h) [
              | inl z ↦ (here s d, refl, omega (arith, ap when z))
              | inr z ↦ let r = kept.last_commit v e z in (here s d, refl, omega (arith, r.2, kept.commit_low r.0 r.1))
            ];
            spoke_low = λ v a c h. kept.spoke_low v a c (old_kind (new_view i v a c) y log (λ z. omega arith) h);
            prepare_rows = λ k e h g. before (rows_prepare k e h g);
            commit_rows = λ k e h g. before (kept.commit_rows k e h g);
            decided = λ r h. decided_more f t good log (y ∷ log) (λ x z. before z) (decided_prepare r h);
          })

    -- rows of commits, once one is filled
    module _ (j : ℕ) (d : Value) (heard : good j ≡ true → In (commit j s.view d) log) where
      rows_commit : (k : ℕ) (e : Value) → fill s.commits j d k ≡ Some e → good k ≡ true → In (commit k s.view e) log
      rows_commit = filled good (λ k e. In (commit k s.view e) log) s.commits j d kept.commit_rows heard

      kept_commit : Kept i (step f t s (hear_commit j d)) log
      kept_commit =
          record {
            view_one = kept.view_one;
            made = kept.made;
            last_prepare = kept.last_prepare;
            commit_low = kept.commit_low;
            last_commit = kept.last_commit;
            spoke_low = kept.spoke_low;
            prepare_rows = kept.prepare_rows;
            commit_rows = rows_commit;
            decided = λ r h.
                elim (decide_cases s.decision (leb (recovery_quorum f t) (size (holders (fill s.commits j d) d) (sites f t))) (here s d) r h) [
                  | inl q ↦ kept.decided r q
                  | inr q ↦ subst (λ (x : Report). DecidedIn f t good log x.view x.value) q.1
                      (recovery_path (holders (fill s.commits j d) d) (record {
                        enough = leb-true (recovery_quorum f t) (size (holders (fill s.commits j d) d) (sites f t)) q.0;
                        committed = λ k l g z. rows_commit k d (holds_some d (fill s.commits j d k) z) g;
                      }))
                ];
          }

    kept_move : (m : Move) → Tested s log m → Kept i (step f t s m) (more (draft f t i s m) log)
    kept_move (propose_it d) h = kept_said d
    kept_move (hear_propose d es) h = kept_propose d es
    kept_move (hear_prepare j d) h = kept_rows j d h (makes_commit f t s j d) _ _ refl refl
    kept_move (hear_commit j d) h = kept_commit j d h
    kept_move (leave v) h = kept_leave v h
    kept_move other h = kept

    rules_more : RulesIn f t good log → (v : ℕ) (d : Value) (b : Bool) → v ≡ s.view → (b ≡ true → BackedIn f t good log v d) → RulesIn f t good (more (cond b (Some (commit i v d)) None) log)
    rules_more rules v d false q h = rules
    rules_more rules v d true q h = rules_commit f t good log rules i v d (h refl) (λ w p c z. rw q (kept.spoke_low w p c z))

    rules_move : RulesIn f t good log → (m : Move) → Tested s log m → RulesIn f t good (more (draft f t i s m) log)
    rules_move rules (propose_it d) h = rules_propose f t good log rules i s.view d
    rules_move rules (hear_propose d es) h =
        rules_prepare f t good log rules i s.view d kept.view_one
        (λ e z. let r = kept.last_prepare s.view e z in h.0 r.0 r.1 (omega (arith, r.2, (kept.made r.0 r.1).1)))
        (λ l. let k = h.1 l in (es, k.0, k.1))
        kept.spoke_low
    rules_move rules (hear_prepare j d) h = rules_more rules s.view d (makes_commit f t s j d) refl (back_prepare j d h)
    rules_move rules (hear_commit j d) h = rules
    rules_move rules (leave v) h =
        rules_new_view f t good log rules i v s.prepared s.committed
        (λ r z. let m = kept.made r z in (m.0, omega (arith, m.1)))
        kept.last_prepare
        kept.last_commit
    rules_move rules other h = rules

  -- what holds of the site holds of the site whose number its drafts bear
  pub draft_by : (P : ℕ → Type 0) (i : ℕ) (s : Site) (m : Move) → P i → Of (λ y. P (who y)) (draft f t i s m)
  draft_by P i s (propose_it d) h = h
  draft_by P i s (hear_propose d es) h = h
  draft_by P i s (hear_prepare j d) h = go (makes_commit f t s j d)
    where
      go : (b : Bool) → Of (λ y. P (who y)) (cond b (Some (commit i s.view d)) None)
      go true = h
      go false = tt
  draft_by P i s (hear_commit j d) h = tt
  draft_by P i s (leave v) h = h
  draft_by P i s other h = tt

  -- one move, whatever function gives the sites' records
  pub inv_move : (at at' : ℕ → Site) (log : List Said) (i : ℕ) (m : Move) → good i ≡ true → Tests f t (at i) m → Drafted good log (vouched f t (at i) m)
      → at' i ≡ step f t (at i) m → ((k : ℕ) → (k ≡ i → ⊥) → at' k ≡ at k)
      → Inv at log → Inv at' (more (draft f t i (at i) m) log)
  inv_move at at' log i m g k v new same inv =
      let h = tested (at i) log m k v in
      record {
        rules = rules_move i (at i) log (inv.kept i g) inv.rules m h;
        kept = λ j gj. elim (cases_eq j i) [
          | inl q ↦ subst (λ (x : ℕ). Kept x (at' x) (more (draft f t i (at i) m) log)) (sym q)
              (subst (λ (x : Site). Kept i x (more (draft f t i (at i) m) log)) (sym new) (kept_move i (at i) log (inv.kept i g) m h))
          | inr ne ↦ subst (λ (x : Site). Kept j x (more (draft f t i (at i) m) log)) (sym (same j ne))
              (kept_else j (at j) log (draft f t i (at i) m) (draft_by (λ k. k ≡ j → ⊥) i (at i) m (λ q. ne (sym q))) (inv.kept j gj))
        ];
      }

  -- ---- runs ----

  inv_next : (w : World) (i : ℕ) (m : Move) → good i ≡ true → Tests f t (w.at i) m → Drafted good w.log (vouched f t (w.at i) m) → Inv w.at w.log → Inv (next f t w i m).at (next f t w i m).log
  inv_next w i m g h v inv =
      inv_move w.at (next f t w i m).at w.log i m g h v (rw (eq-eqb i i refl)) (λ k ne. rw (ne_eqb k i ne)) inv

  pub inv_run : (w : World) (ms : List Moved) → Run f t good w ms → Inv w.at w.log → Inv (after f t w ms).at (after f t w ms).log
  inv_run w [] run inv = inv
  inv_run w (moves i m ∷ ms) run inv = inv_run (next f t w i m) ms run.3 (inv_next w i m run.0 run.1 run.2 inv)

  -- what a site's own moves and the statements of others keep holds of each rule-following site after a run
  module _ (P : ℕ → Site → List Said → Type 0)
      (own : (i : ℕ) (s : Site) (log : List Said) (m : Move) → Tests f t s m → Drafted good log (vouched f t s m) → P i s log → P i (step f t s m) (more (draft f t i s m) log))
      (others : (k : ℕ) (s : Site) (log : List Said) (o : Option Said) → Of (λ y. who y ≡ k → ⊥) o → P k s log → P k s (more o log)) where
    site_next : (w : World) (i : ℕ) (m : Move) → good i ≡ true → Tests f t (w.at i) m → Drafted good w.log (vouched f t (w.at i) m)
        → ((k : ℕ) → good k ≡ true → P k (w.at k) w.log) → (k : ℕ) → good k ≡ true → P k ((next f t w i m).at k) (next f t w i m).log
    site_next w i m g h v p k gk = elim (cases_eq k i) [
      | inl q ↦ subst (λ (x : ℕ). P x ((next f t w i m).at x) (next f t w i m).log) (sym q) (rw (eq-eqb i i refl) (own i (w.at i) w.log m h v (p i g)))
      | inr ne ↦ rw (ne_eqb k i ne) (others k (w.at k) w.log (draft f t i (w.at i) m) (draft_by (λ x. x ≡ k → ⊥) i (w.at i) m (λ q. ne (sym q))) (p k gk))
    ]

    pub site_run : (w : World) (ms : List Moved) → Run f t good w ms
        → ((k : ℕ) → good k ≡ true → P k (w.at k) w.log) → (k : ℕ) → good k ≡ true → P k ((after f t w ms).at k) (after f t w ms).log
    site_run w [] run p = p
    site_run w (moves i m ∷ ms) run p = site_run (next f t w i m) ms run.3 (site_next w i m run.0 run.1 run.2 p)

  pub more_within : (o : Option Said) (log : List Said) → Within log (more o log)
  more_within None log x h = h
  more_within (Some y) log x h = before h

  pub log_grows : (w : World) (ms : List Moved) → Within w.log (after f t w ms).log
  log_grows w [] x h = h
  log_grows w (moves i m ∷ ms) x h = log_grows (next f t w i m) ms x (more_within (draft f t i (w.at i) m) w.log x h)

  -- what is drafted is drafted by a rule-following site
  more_good : (o : Option Said) (log : List Said) (x : Said) → Of (λ y. good (who y) ≡ true) o → (In x log → good (who x) ≡ true) → In x (more o log) → good (who x) ≡ true
  more_good None log x h k a = k a
  more_good (Some y) log x h k a = elim (split a) [ inl p ↦ ap (λ (z : Said). good (who z)) p ∙ h | inr q ↦ k q ]

  log_good : (w : World) (ms : List Moved) → Run f t good w ms → (x : Said) → (In x w.log → good (who x) ≡ true) → In x (after f t w ms).log → good (who x) ≡ true
  log_good w [] run x h a = h a
  log_good w (moves i m ∷ ms) run x h a =
      let own = draft_by (λ k. good k ≡ true) i (w.at i) m run.0 in
      log_good (next f t w i m) ms run.3 x (more_good (draft f t i (w.at i) m) w.log x own h) a

  pub run_take : (a : ℕ) (w : World) (ms : List Moved) → Run f t good w ms → Run f t good w (take a ms)
  run_take zero w ms run = tt
  run_take (suc a) w [] run = tt
  run_take (suc a) w (moves i m ∷ ms) run = (run.0, run.1, run.2, run_take a (next f t w i m) ms run.3)

  pub log_take : (a : ℕ) (w : World) (ms : List Moved) → Within (after f t w (take a ms)).log (after f t w ms).log
  log_take zero w ms x h = log_grows w ms x h
  log_take (suc a) w [] x h = h
  log_take (suc a) w (moves i m ∷ ms) x h = log_take a (next f t w i m) ms x h

  module _ (few : size (all_but good) (sites f t) ≤ f) (ms : List Moved) (run : Run f t good start ms) where
    pub inv_start' : Inv start.at start.log
    inv_start' = inv_start few start.at (λ i g. refl)

    -- a decision found at a moment is one for the whole run
    pub found : (a i : ℕ) (r : Report) → good i ≡ true → ((after f t start (take a ms)).at i).decision ≡ Some r
        → DecidedIn f t good (after f t start ms).log r.view r.value
    found a i r g h =
        decided_more f t good (after f t start (take a ms)).log (after f t start ms).log (log_take a start ms)
        (((inv_run start (take a ms) (run_take a start ms run) inv_start').kept i g).decided r h)

    -- and so is what was vouched for
    pub vouched_by : (b view : ℕ) (es : List Entry) → Valid f t good ms b view es → ProgressIn f t good (after f t start ms).log view es
    vouched_by b view es v =
        progress_more f t good (after f t start (take b ms)).log (after f t start ms).log (log_take b start ms)
        (progress_by f t good (after f t start (take b ms)).log view es v.0 v.1)

    pub rules_of : RulesIn f t good (after f t start ms).log
    rules_of = (inv_run start ms run inv_start').rules

    -- no decision is of view 0
    pub decided_view : (a i : ℕ) (r : Report) → good i ≡ true → ((after f t start (take a ms)).at i).decision ≡ Some r → 1 ≤ r.view
    decided_view a i r g h =
        let log = (after f t start ms).log in
        decision_view f t good (PreparedIn log) (CommittedIn log) (SpokeIn log) rules_of r.view r.value
        (decision_backs f t good (PreparedIn log) (CommittedIn log) (SpokeIn log) rules_of r.view r.value (found a i r g h))

    -- what was drafted by a moment, behind b moves, was drafted by a rule-following site in the whole run
    drafted_by : (b : ℕ) (x : Said) → In x (after f t start (take b ms)).log → (good (who x) ≡ true) × In x (after f t start ms).log
    drafted_by b x a = let y = log_take b start ms x a in (log_good start ms run x (λ z. absurd (nothing z)) y, y)

    -- whatever is prepared or committed in a view above that of a decision is the value decided
    module _ (a b i j : ℕ) (r : Report) (view : ℕ) (d : Value) (g : good i ≡ true) (h : ((after f t start (take a ms)).at i).decision ≡ Some r) (l : r.view < view) where
      pub prepared_later : In (prepare j view d) (after f t start (take b ms)).log → d ≡ r.value
      prepared_later x =
          let log = (after f t start ms).log in
          let y = drafted_by b (prepare j view d) x in
          prepared_above f t good (PreparedIn log) (CommittedIn log) (SpokeIn log) rules_of r.view view j r.value d (found a i r g h) l y.0 y.1

      pub committed_later : In (commit j view d) (after f t start (take b ms)).log → d ≡ r.value
      committed_later x =
          let log = (after f t start ms).log in
          let y = drafted_by b (commit j view d) x in
          backed_above f t good (PreparedIn log) (CommittedIn log) (SpokeIn log) rules_of r.view view r.value d (found a i r g h) l (rules_of.backed y.0 y.1)

pub decisions_agree : DecisionsAgree
decisions_agree f t good few ms run a b i j r s gi gj x y =
    let log = (after f t start ms).log in
    decisions_same f t good (PreparedIn log) (CommittedIn log) (SpokeIn log) (rules_of f t good few ms run)
    r.view s.view r.value s.value (found f t good few ms run a i r gi x) (found f t good few ms run b j s gj y)

pub later_forced : LaterForced
later_forced f t good few ms run a b i r view es g x l v =
    let log = (after f t start ms).log in
    later_forces f t good (PreparedIn log) (CommittedIn log) (SpokeIn log) (rules_of f t good few ms run)
    r.view view r.value es (found f t good few ms run a i r g x) l (vouched_by f t good few ms run b view es v)

pub never_conflict : NeverConflict
never_conflict f t good few ms run b view es v =
    let log = (after f t start ms).log in
    none_conflicts f t good (PreparedIn log) (CommittedIn log) (SpokeIn log) (rules_of f t good few ms run) view es (vouched_by f t good few ms run b view es v)
