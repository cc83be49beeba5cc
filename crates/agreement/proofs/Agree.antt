-- Any two decisions are of one value, each progress certificate for a view above a decision's forces the value decided, and none comes to a conflict.
use Rattle.std.proofs.Common.{◌≡◌, ℕ, zero, suc, ◌<◌, ◌≤◌, Bool, true, ◌&&◌, List, [], ◌∷◌, ◌++◌, map, Some, None, Option, sym, refl, ap, ◌∙◌, subst, inl, inr, arith}
use Rattle.std.proofs.lemmas.Bool.{and_parts, cases_eq, cases_order}
use Rattle.values.specs.declared.fix.Value.{Value}
use Rattle.values.specs.declared.fix.Report.{Report}
use Rattle.values.specs.Fleets.{sites, progress_quorum}
use Rattle.verdicts.specs.declared.rule.Reported.{Reported}
use Rattle.verdicts.specs.Rule.{reported_view, reaches, reporters, fast_certificate, fast_support, top_committed, committed_in, by_commits}
use Rattle.agreement.specs.Sites.{SiteSet, size, both, named, listed}
use Rattle.agreement.specs.Statements.{Each, Of, Certificate, Entry, report_of, reported, judged, Forces}
use Rattle.agreement.proofs.Rules.{Backed, Certifies, Sound, Progress, Rules, Fast, Recovered, Decided, Agree, Later, Certain}
use Rattle.agreement.proofs.Rules.Decided.{fast_path, recovery_path}
use Rattle.verdicts.proofs.Counts.{count}
use Rattle.agreement.proofs.Count.{size_le, meet, someone, shared, good_one, count_map, count_all, count_size, overlap, named_member, named_again}
use Rattle.verdicts.proofs.Counts.{reaches_some, some_reaches, support_is, reporters_low}
use Rattle.agreement.proofs.Judged.{fast_reported, fast_highest, fast_found, committed_full, committed_each, top_each, by_commits_forces, finding_forces, finding_certain, forces_only}

pub each_map : {A : Type 0} (P Q : A → Type 0) (xs : List A) → ((x : A) → P x → Q x) → Each P xs → Each Q xs
each_map P Q [] f h = tt
each_map P Q (x ∷ xs) f h = (f x h.0, each_map P Q xs f h.1)

pub each_split : {A : Type 0} (P : A → Type 0) (xs ys : List A) → Each P (xs ++ ys) → Each P xs × Each P ys
each_split P [] ys h = (tt, h)
each_split P (x ∷ xs) ys h = let r = each_split P xs ys h.1 in ((h.0, r.0), r.1)

pub each_both : {A : Type 0} (P Q : A → Type 0) (xs : List A) → Each P xs → Each Q xs → Each (λ x. P x × Q x) xs
each_both P Q [] h k = tt
each_both P Q (x ∷ xs) h k = ((h.0, k.0), each_both P Q xs h.1 k.1)

pub of_map : {A : Type 0} (P Q : A → Type 0) (o : Option A) → ((x : A) → P x → Q x) → Of P o → Of Q o
of_map P Q None f h = tt
of_map P Q (Some x) f h = f x h

-- ---- what the entries report ----

each_mapped : {A B : Type 0} (g : A → B) (P : B → Type 0) (xs : List A) → Each (λ x. P (g x)) xs → Each P (map g xs)
each_mapped g P [] h = tt
each_mapped g P (x ∷ xs) h = (h.0, each_mapped g P xs h.1)

each_unmapped : {A B : Type 0} (g : A → B) (P : B → Type 0) (xs : List A) → Each P (map g xs) → Each (λ x. P (g x)) xs
each_unmapped g P [] h = tt
each_unmapped g P (x ∷ xs) h = (h.0, each_unmapped g P xs h.1)

of_report : (P : Report → Type 0) (o : Option Certificate) → Of (λ c. P c.report) o → Of P (report_of o)
of_report P None h = tt
of_report P (Some c) h = h

-- what holds of each value certified in view w holds of each that is found there
certified_each : (P : Value → Type 0) (w : ℕ) (es : List Entry)
    → Each (λ e. Of (λ c. c.report.view ≡ w → P c.report.value) e.committed) es → Each P (committed_in w (map reported es))
certified_each P w es h =
    committed_each P w (map reported es)
    (each_mapped reported (λ e. Of (λ r. r.view ≡ w → P r.value) e.committed) es
    (each_map (λ e. Of (λ c. c.report.view ≡ w → P c.report.value) e.committed) (λ (e : Entry). Of (λ r. r.view ≡ w → P r.value) (report_of e.committed)) es
    (λ e. of_report (λ r. r.view ≡ w → P r.value) e.committed) h))

top_entries : (es : List Entry) → Each (λ e. reported_view (report_of e.committed) ≤ top_committed (map reported es)) es
top_entries es = each_unmapped reported (λ e. reported_view e.committed ≤ top_committed (map reported es)) es (top_each (map reported es))

-- the entry reports a prepare of d with a view of at least v
abbrev reaching : Value → ℕ → Entry → Bool
reaching d v e = reaches d v e.prepared

count_entries : (d : Value) (v : ℕ) (es : List Entry) → reporters d v (map reported es) ≡ count (reaching d v) es
count_entries d v es = support_is d v (map reported es) ∙ count_map reported (λ (x : Reported). reaches d v x.prepared) es

-- the sites of a progress certificate
abbrev present : List Entry → SiteSet
present es i = named (λ (e : Entry). e.site) (λ e. true) es i

module _ (f t : ℕ) (good : SiteSet) (Prepared Committed : ℕ → ℕ → Value → Type 0) (Spoke : ℕ → ℕ → Option Report → Option Report → Type 0)
    (rules : Rules f t good Prepared Committed Spoke) where
  abbrev Back : ℕ → Value → Type 0
  Back v d = Backed f t good Prepared Committed Spoke v d

  abbrev Dec : ℕ → Value → Type 0
  Dec v d = Decided f t good Prepared Committed Spoke v d

  abbrev Prog : ℕ → List Entry → Type 0
  Prog view es = Progress f t good Prepared Committed Spoke view es

  abbrev Snd : ℕ → Entry → Type 0
  Snd view e = Sound f t good Prepared Committed Spoke view e

  -- ---- what backs a value ----

  back_good : (v : ℕ) (d : Value) → Back v d → (i : ℕ) × (good i ≡ true) × Prepared i v d
  back_good v d b =
      let s = good_one b.0 good (sites f t) f rules.few (omega (arith, b.1.enough)) in
      (s.0, s.3, b.1.prepared s.0 s.1 s.3 s.2)

  pub back_same : (v : ℕ) (d e : Value) → Back v d → Back v e → d ≡ e
  back_same v d e a b =
      let s = shared a.0 b.0 good (sites f t) f rules.few (omega (arith, a.1.enough, b.1.enough)) in
      rules.once s.4 (a.1.prepared s.0 s.1 s.4 s.2) (b.1.prepared s.0 s.1 s.4 s.3)

  -- a commit certificate backs its value
  certificate_backs : (below : ℕ) (c : Certificate) → Certifies f t good Prepared Committed Spoke below c → Back c.report.view c.report.value
  certificate_backs below c k = (
    listed c.sites,
    record {
      enough = omega (arith, k.formed.quorum.enough, count_all c.sites, count_size (λ x. x) (λ x. true) c.sites 0 (sites f t) k.formed.quorum.rising);
      prepared = λ i l g h.
          let m = named_member (λ x. x) (λ i. good i ≡ true → Prepared i c.report.view c.report.value) (λ x. true) c.sites k.meant i h in
          subst (λ (j : ℕ). Prepared j c.report.view c.report.value) m.2 (m.1 (ap good m.2 ∙ g));
    },
  )

  -- a decision backs its value
  pub decision_backs : (v : ℕ) (d : Value) → Dec v d → Back v d
  decision_backs v d (fast_path S h) = (S, record { enough = omega (arith, h.enough); prepared = h.prepared })
  decision_backs v d (recovery_path S h) =
      let s = good_one S good (sites f t) f rules.few (omega (arith, h.enough)) in
      rules.backed s.3 (h.committed s.0 s.1 s.3 s.2)

  pub decision_view : (v : ℕ) (d : Value) → Back v d → 1 ≤ v
  decision_view v d b = let s = back_good v d b in rules.from_one s.1 s.2

  -- ---- a certificate for a view above a decision's, where nothing else was prepared between ----

  -- between v and view, only d was prepared
  abbrev Only : ℕ → Value → ℕ → Type 0
  Only v d view = (x i : ℕ) (e : Value) → v < x → x < view → good i ≡ true → Prepared i x e → e ≡ d

  -- from v on and below view, only d is certified
  certificates_for : (v view : ℕ) (d : Value) (es : List Entry) → Back v d → Only v d view → Prog view es
      → Each (λ e. Of (λ c. v ≤ c.report.view → c.report.value ≡ d) e.committed) es
  certificates_for v view d es b only p =
      each_map (Snd view) (λ e. Of (λ c. v ≤ c.report.view → c.report.value ≡ d) e.committed) es
      (λ e s. of_map (Certifies f t good Prepared Committed Spoke view) (λ c. v ≤ c.report.view → c.report.value ≡ d) e.committed one s.certificate)
      p.sound
    where
      one : (c : Certificate) → Certifies f t good Prepared Committed Spoke view c → v ≤ c.report.view → c.report.value ≡ d
      one c k l = elim (cases_eq v c.report.view) [
        | inl e ↦ back_same v c.report.value d (rw e (certificate_backs view c k)) b
        | inr ne ↦
            let s = back_good c.report.view c.report.value (certificate_backs view c k) in
            only c.report.view s.0 c.report.value (omega arith) k.formed.view_high s.1 s.2
      ]

  -- what the highest commit certificate forces, if its view reaches v
  slow : (v view : ℕ) (d : Value) (es : List Entry) → Back v d → Only v d view → Prog view es
      → v ≤ top_committed (map reported es) → Forces (by_commits (top_committed (map reported es)) (committed_in (top_committed (map reported es)) (map reported es))) d
  slow v view d es b only p l =
      let w = top_committed (map reported es) in
      by_commits_forces w (committed_in w (map reported es)) d (omega (arith, decision_view v d b))
      (committed_full w (map reported es) (omega (arith, decision_view v d b)) refl)
      (certified_each (λ x. x ≡ d) w es
      (each_map (λ e. Of (λ c. v ≤ c.report.view → c.report.value ≡ d) e.committed) (λ e. Of (λ c. c.report.view ≡ w → c.report.value ≡ d) e.committed) es
      (λ e. of_map (λ c. v ≤ c.report.view → c.report.value ≡ d) (λ c. c.report.view ≡ w → c.report.value ≡ d) e.committed (λ c h q. h (omega arith)))
      (certificates_for v view d es b only p)))

  -- two values are never certified in one view
  pub none_conflicts : Certain f t good Prepared Committed Spoke
  none_conflicts view es p =
      let w = top_committed (map reported es) in
      finding_certain (Back w) f t (map reported es) (back_same w)
      (certified_each (Back w) w es
      (each_map (Snd view) (λ e. Of (λ c. c.report.view ≡ w → Back w c.report.value) e.committed) es
      (λ e s. of_map (Certifies f t good Prepared Committed Spoke view) (λ c. c.report.view ≡ w → Back w c.report.value) e.committed
      (λ c k q. subst (λ (x : ℕ). Back x c.report.value) q (certificate_backs view c k)) s.certificate)
      p.sound))

  -- the sites of the certificate
  sites_in : (view : ℕ) (es : List Entry) → Prog view es → size (present es) (sites f t) ≡ progress_quorum f t
  sites_in view es p =
      sym (count_size (λ (e : Entry). e.site) (λ e. true) es 0 (sites f t) p.formed.rising) ∙ count_all es ∙ p.formed.enough

  -- a site that prepared d in view v reports a prepare of d with view v or higher
  reports_it : (v view : ℕ) (d : Value) (e : Entry) → Only v d view → v < view → Snd view e → good e.site ≡ true → Prepared e.site v d
      → reaching d v e ≡ true
  reports_it v view d e only l s g k =
      let r = rules.last_prepare g (s.said g) k l in
      let m = rules.made g (subst (λ (o : Option Report). Spoke e.site view o (report_of e.committed)) r.1 (s.said g)) in
      let same : r.0.value ≡ d = elim (cases_eq v r.0.view) [
        | inl q ↦ rules.once g m.0 (subst (λ (x : ℕ). Prepared e.site x d) q k)
        | inr ne ↦ only r.0.view e.site r.0.value (omega (arith, r.2)) m.1 g m.0
      ] in
      rw r.1 (some_reaches d v r.0 (sym same) r.2)

  module _ (v view : ℕ) (d : Value) (es : List Entry) (l : v < view) (only : Only v d view) (p : Prog view es) where
    -- a rule-following site reports a prepare with a view above v of d only
    reported_above : (w : ℕ) (x : Value) (e : Entry) (i : ℕ) → v < w → Snd view e → e.site ≡ i → good i ≡ true → reaching x w e ≡ true → x ≡ d
    reported_above w x e i k s q gi h =
        let g : good e.site ≡ true = ap good q ∙ gi in
        let a = reaches_some x w e.prepared h in
        let m = rules.made g (subst (λ (o : Option Report). Spoke e.site view o (report_of e.committed)) a.1 (s.said g)) in
        a.2 ∙ only a.0.view e.site a.0.value (omega (arith, a.3)) m.1 g m.0

    -- ---- decided fast ----

    module _ (S : SiteSet) (h : Fast f t good Prepared Committed Spoke v d S) where
      fast_reporters : fast_support f t ≤ reporters d v (map reported es)
      fast_reporters =
          omega (
            arith,
            h.enough,
            rules.few,
            sites_in view es p,
            meet S (present es) good (sites f t),
            count_entries d v es,
            count_size (λ (e : Entry). e.site) (reaching d v) es 0 (sites f t) p.formed.rising,
            size_le (both (both S (present es)) good) (named (λ (e : Entry). e.site) (reaching d v) es) (sites f t) at,
          )
        where
          at : (i : ℕ) → i < sites f t → both (both S (present es)) good i ≡ true
              → named (λ (e : Entry). e.site) (reaching d v) es i ≡ true
          at i b k =
              let x = and_parts (S i && present es i) (good i) k in
              let y = and_parts (S i) (present es i) x.0 in
              named_again (λ (e : Entry). e.site) (Snd view) (λ e. true) (reaching d v) es p.sound i y.1
              (λ e s q _. reports_it v view d e only l s (ap good q ∙ x.1) (rw q (h.prepared i b x.1 y.0)))

      fast_one : (r : Report) → fast_certificate (fast_support f t) (map reported es) ≡ Some r → r.value ≡ d
      fast_one r e =
          let o = overlap (reaching r.value r.view) (reaching d v) es
          (omega (
            arith,
            p.formed.enough,
            fast_reporters,
            fast_reported (fast_support f t) (map reported es) (omega arith) r e,
            count_entries d v es,
            count_entries r.value r.view es,
          )) in
          let a = reaches_some r.value r.view o.0.prepared o.1 in
          let b = reaches_some d v o.0.prepared o.2 in
          let k : a.0 ≡ b.0 = cc (a.1, b.1) in
          cc (a.2, b.2, k)

      later_fast : Forces (judged f t es) d
      later_fast =
          let one : 1 ≤ v = decision_view v d (decision_backs v d (fast_path S h)) in
          let q : fast_support f t ≤ reporters d 1 (map reported es) = omega (arith, fast_reporters, reporters_low d 1 v (map reported es) one) in
          let found = fast_found (fast_support f t) (map reported es) (omega arith) d q in
          let same = fast_one found.0 found.1 in
          let high = fast_highest (fast_support f t) (map reported es) (omega arith) found.0 v found.1 (rw same fast_reporters) in
          finding_forces f t (map reported es) v d
          (slow v view d es (decision_backs v d (fast_path S h)) only p)
          (λ r e _. fast_one r e)
          (inl (found.0, found.1, high))

    -- ---- decided by recovery ----

    module _ (S : SiteSet) (h : Recovered f t good Prepared Committed Spoke v d S) where
      -- the entry of a site that committed has a commit certificate of view v or higher
      reached_by : (e : Entry) (i : ℕ) → Snd view e → reported_view (report_of e.committed) ≤ top_committed (map reported es) → e.site ≡ i → good i ≡ true → Committed i v d → v ≤ top_committed (map reported es)
      reached_by e i s low q g k =
          let g' : good e.site ≡ true = ap good q ∙ g in
          let r = rules.last_commit g' (s.said g') (subst (λ (j : ℕ). Committed j v d) (sym q) k) l in
          omega (arith, ap reported_view r.1, r.2)

      reached : v ≤ top_committed (map reported es)
      reached =
          let i = someone (both (both S (present es)) good) (sites f t) (omega (arith, h.enough, rules.few, sites_in view es p, meet S (present es) good (sites f t))) in
          let x = and_parts (S i.0 && present es i.0) (good i.0) i.2 in
          let y = and_parts (S i.0) (present es i.0) x.0 in
          let m = named_member (λ (e : Entry). e.site) (λ e. Snd view e × (reported_view (report_of e.committed) ≤ top_committed (map reported es))) (λ e. true) es
          (each_both (Snd view) (λ e. reported_view (report_of e.committed) ≤ top_committed (map reported es)) es p.sound (top_entries es)) i.0 y.1 in
          reached_by m.0 i.0 m.1.0 m.1.1 m.2 x.1 (h.committed i.0 i.1 x.1 y.0)

      -- a fast certificate above that is for d
      above_one : (r : Report) → fast_certificate (fast_support f t) (map reported es) ≡ Some r → top_committed (map reported es) < r.view → r.value ≡ d
      above_one r e k =
          let i = good_one (named (λ (e : Entry). e.site) (reaching r.value r.view) es) good (sites f t) f rules.few
          (omega (
            arith,
            fast_reported (fast_support f t) (map reported es) (omega arith) r e,
            count_entries r.value r.view es,
            count_size (λ (e : Entry). e.site) (reaching r.value r.view) es 0 (sites f t) p.formed.rising,
          )) in
          let m = named_member (λ (e : Entry). e.site) (Snd view) (reaching r.value r.view) es p.sound i.0 i.2 in
          reported_above r.view r.value m.0 i.0 (omega (arith, reached)) m.1 m.2 i.3 m.3

      later_recovered : Forces (judged f t es) d
      later_recovered =
          finding_forces f t (map reported es) v d
          (slow v view d es (decision_backs v d (recovery_path S h)) only p)
          above_one
          (inr reached)

  later_step : (v view : ℕ) (d : Value) (es : List Entry) → v < view → Only v d view → Prog view es → Dec v d → Forces (judged f t es) d
  later_step v view d es l only p (fast_path S h) = later_fast v view d es l only p S h
  later_step v view d es l only p (recovery_path S h) = later_recovered v view d es l only p S h

  -- above a decision's view, only its value is prepared
  only_it : (v : ℕ) (d : Value) → Dec v d → (view : ℕ) → Only v d view
  only_it v d k zero x i e a b g q = absurd (omega arith)
  only_it v d k (suc m) x i e a b g q =
      let j = rules.justified g q (omega (arith, decision_view v d (decision_backs v d k))) in
      forces_only (judged f t j.0) d e
      (later_step v x d j.0 a (λ y i' e' a' b'. only_it v d k m y i' e' a' (omega arith)) j.1 k)
      j.2

  pub later_forces : Later f t good Prepared Committed Spoke
  later_forces v view d es k l p = later_step v view d es l (only_it v d k view) p k

  -- in a view above a decision's, a rule-following site prepares its value, and no other is backed
  pub prepared_above : (v w i : ℕ) (d e : Value) → Dec v d → v < w → good i ≡ true → Prepared i w e → e ≡ d
  prepared_above v w i d e k l g p = only_it v d k (suc w) w i e l (omega arith) g p

  pub backed_above : (v w : ℕ) (d e : Value) → Dec v d → v < w → Back w e → e ≡ d
  backed_above v w d e k l b = let s = back_good w e b in prepared_above v w s.0 d e k l s.1 s.2

  above : (v w : ℕ) (d e : Value) → Dec v d → Dec w e → v < w → e ≡ d
  above v w d e a b l = backed_above v w d e a l (decision_backs w e b)

  pub decisions_same : Agree f t good Prepared Committed Spoke
  decisions_same v w d e a b = elim (cases_order v w) [
    | inl q ↦ back_same w d e (rw q at (decision_backs v d a)) (decision_backs w e b)
    | inr (inl l) ↦ sym (above v w d e a b l)
    | inr (inr l) ↦ above w v e d b a l
  ]
