-- What was stated stays so, and the rules go on holding as one more statement is drafted.
use Rattle.std.proofs.Common.{◌≡◌, ℕ, ◌<◌, ◌≤◌, true, ◌⊎◌, List, [], ◌∷◌, Some, None, Option, sym, refl, ap, ◌∙◌, subst₂, inl, inr, arith}
use Rattle.values.specs.declared.fix.Value.{Value}
use Rattle.values.specs.declared.fix.Report.{Report}
use Rattle.agreement.specs.Sites.{SiteSet}
use Rattle.agreement.specs.Statements.{Said, propose, prepare, commit, new_view, who, In, newest, before, Each, Of, Certificate, Entry, judged, Allows, FormedCertificate, Formed, prepares_of, certificate_statements, statements, Drafted}
use Rattle.agreement.proofs.Rules.{Certifies, Sound, PreparedIn, CommittedIn, SpokeIn, RulesIn, BackedIn, ProgressIn, DecidedIn}
use Rattle.agreement.proofs.Rules.Decided.{fast_path, recovery_path}
use Rattle.agreement.proofs.Agree.{each_map, each_split, of_map}

abbrev pub Within : List Said → List Said → Type 0
Within l m = (x : Said) → In x l → In x m

-- a statement's kind, site and view
abbrev pub kind : Said → ℕ
kind (propose i v d) = 1
kind (prepare i v d) = 2
kind (commit i v d) = 3
kind (new_view i v p c) = 4

abbrev pub when : Said → ℕ
when (propose i v d) = v
when (prepare i v d) = v
when (commit i v d) = v
when (new_view i v p c) = v

-- a statement is the newest, or was there before
pub split : {x y : Said} {log : List Said} → In x (y ∷ log) → (x ≡ y) ⊎ In x log
split newest = inl refl
split (before h) = inr h

pub old : (x y : Said) (log : List Said) → In x (y ∷ log) → (x ≡ y → ⊥) → In x log
old x y log a h = elim (split a) [ inl p ↦ absurd (h p) | inr q ↦ q ]

-- of another kind, or another site
pub old_kind : (x y : Said) (log : List Said) → (kind x ≡ kind y → ⊥) → In x (y ∷ log) → In x log
old_kind x y log h a = old x y log a (λ p. h (ap kind p))

pub old_site : (x y : Said) (log : List Said) → (who x ≡ who y → ⊥) → In x (y ∷ log) → In x log
old_site x y log h a = old x y log a (λ p. h (ap who p))

module _ (f t : ℕ) (good : SiteSet) where
  module _ (l m : List Said) (sub : Within l m) where
    pub backed_more : {v : ℕ} {d : Value} → BackedIn f t good l v d → BackedIn f t good m v d
    backed_more {v} {d} b = (b.0, record { enough = b.1.enough; prepared = λ i k g h. sub (prepare i v d) (b.1.prepared i k g h) })

    certifies_more : (below : ℕ) (c : Certificate) → Certifies f t good (PreparedIn l) (CommittedIn l) (SpokeIn l) below c
        → Certifies f t good (PreparedIn m) (CommittedIn m) (SpokeIn m) below c
    certifies_more below c k =
        record {
          formed = k.formed;
          meant = each_map (λ i. good i ≡ true → PreparedIn l i c.report.view c.report.value) (λ i. good i ≡ true → PreparedIn m i c.report.view c.report.value) c.sites
              (λ i h g. sub (prepare i c.report.view c.report.value) (h g)) k.meant;
        }

    pub progress_more : {view : ℕ} {es : List Entry} → ProgressIn f t good l view es → ProgressIn f t good m view es
    progress_more {view} {es} p =
        record {
          formed = p.formed;
          sound = each_map (Sound f t good (PreparedIn l) (CommittedIn l) (SpokeIn l) view) (Sound f t good (PreparedIn m) (CommittedIn m) (SpokeIn m) view) es
              (λ e s. record {
                said = λ g. sub _ (s.said g);
                certificate = of_map (Certifies f t good (PreparedIn l) (CommittedIn l) (SpokeIn l) view) (Certifies f t good (PreparedIn m) (CommittedIn m) (SpokeIn m) view) e.committed (certifies_more view) s.certificate;
              })
              p.sound;
        }

    pub decided_more : {v : ℕ} {d : Value} → DecidedIn f t good l v d → DecidedIn f t good m v d
    decided_more {v} {d} (fast_path S h) = fast_path S (record { enough = h.enough; prepared = λ i k g q. sub (prepare i v d) (h.prepared i k g q) })
    decided_more {v} {d} (recovery_path S h) = recovery_path S (record { enough = h.enough; committed = λ i k g q. sub (commit i v d) (h.committed i k g q) })

  -- ---- what was vouched for was drafted ----

  module _ (log : List Said) where
    meant_by : (r : Report) (is : List ℕ) → Drafted good log (prepares_of r is) → Each (λ i. good i ≡ true → PreparedIn log i r.view r.value) is
    meant_by r [] h = tt
    meant_by r (i ∷ is) h = (h.0, meant_by r is h.1)

    certifies_by : (view : ℕ) (o : Option Certificate) → Of (FormedCertificate f t view) o → Drafted good log (certificate_statements o)
        → Of (Certifies f t good (PreparedIn log) (CommittedIn log) (SpokeIn log) view) o
    certifies_by view None k h = tt
    certifies_by view (Some c) k h = record { formed = k; meant = meant_by c.report c.sites h }

    sound_by : (view : ℕ) (es : List Entry) → Each (λ e. Of (FormedCertificate f t view) e.committed) es → Drafted good log (statements view es)
        → Each (Sound f t good (PreparedIn log) (CommittedIn log) (SpokeIn log) view) es
    sound_by view [] k h = tt
    sound_by view (e ∷ es) k h =
        let r = each_split (λ x. good (who x) ≡ true → In x log) (certificate_statements e.committed) (statements view es) h.1 in
        (record { said = h.0; certificate = certifies_by view e.committed k.0 r.0 }, sound_by view es k.1 r.1)

    pub progress_by : (view : ℕ) (es : List Entry) → Formed f t view es → Drafted good log (statements view es) → ProgressIn f t good log view es
    progress_by view es k h = record { formed = k; sound = sound_by view es k.certificates h }

  -- ---- one more statement ----

  module _ (log : List Said) (rules : RulesIn f t good log) where
    abbrev wider : (y : Said) → Within log (y ∷ log)
    wider y x h = before h

    -- a propose
    pub rules_propose : (i₀ v₀ : ℕ) (d₀ : Value) → RulesIn f t good (propose i₀ v₀ d₀ ∷ log)
    rules_propose i₀ v₀ d₀ =
        let y : Said = propose i₀ v₀ d₀ in
        record {
          few = rules.few;
          from_one = λ {i} {v} {d} g a. rules.from_one g (old_kind (prepare i v d) y log (λ z. omega arith) a);
          once = λ {i} {v} {d} {e} g a b. rules.once g (old_kind (prepare i v d) y log (λ z. omega arith) a) (old_kind (prepare i v e) y log (λ z. omega arith) b);
          justified = λ {i} {v} {d} g a l.
              let j = rules.justified g (old_kind (prepare i v d) y log (λ z. omega arith) a) l in
              (j.0, progress_more log (y ∷ log) (wider y) j.1, j.2);
          backed = λ {i} {v} {d} g a. backed_more log (y ∷ log) (wider y) (rules.backed g (old_kind (commit i v d) y log (λ z. omega arith) a));
          made = λ {i} {view} {r} {c} g a. let m = rules.made g (old_kind (new_view i view (Some r) c) y log (λ z. omega arith) a) in (before m.0, m.1);
          last_prepare = λ {i} {view} {v} {d} {p} {c} g a b l.
              rules.last_prepare g (old_kind (new_view i view p c) y log (λ z. omega arith) a) (old_kind (prepare i v d) y log (λ z. omega arith) b) l;
          last_commit = λ {i} {view} {v} {d} {p} {c} g a b l.
              rules.last_commit g (old_kind (new_view i view p c) y log (λ z. omega arith) a) (old_kind (commit i v d) y log (λ z. omega arith) b) l;
        }

    -- a prepare, the site's first in its view, that a certificate lets be proposed, at a site that has not left the view
    module _ (i₀ v₀ : ℕ) (d₀ : Value) (one : 1 ≤ v₀) (new : (e : Value) → In (prepare i₀ v₀ e) log → ⊥)
        (just : 1 < v₀ → (es : List Entry) × ProgressIn f t good log v₀ es × Allows (judged f t es) d₀)
        (stayed : (view : ℕ) (p c : Option Report) → In (new_view i₀ view p c) log → view ≤ v₀) where
      abbrev y₀ : Said
      y₀ = prepare i₀ v₀ d₀

      pub rules_prepare : RulesIn f t good (y₀ ∷ log)
      rules_prepare =
          record {
            few = rules.few;
            from_one = λ {i} {v} {d} g a. elim (split a) [ inl p ↦ omega (arith, ap when p) | inr b ↦ rules.from_one g b ];
            once = λ {i} {v} {d} {e} g a b. elim (split a) [
              | inl p ↦ elim (split b) [ inl q ↦ cc | inr q ↦ absurd (let a_is : i ≡ i₀ = ap who p in let v_is : v ≡ v₀ = ap when p in new e (rw (a_is, v_is) at q)) ]
              | inr p ↦ elim (split b) [ inl q ↦ absurd (let a_is : i ≡ i₀ = ap who q in let v_is : v ≡ v₀ = ap when q in new d (rw (a_is, v_is) at p)) | inr q ↦ rules.once g p q ]
            ];
            justified = λ {i} {v} {d} g a l. elim (split a) [
              | inl p ↦
                  let v_is : v ≡ v₀ = ap when p in
                  let d_is : d ≡ d₀ = cc in
                  let j = subst₂ (λ (x : ℕ) (e : Value). 1 < x → (es : List Entry) × ProgressIn f t good log x es × Allows (judged f t es) e) (sym v_is) (sym d_is) just l in
                  (j.0, progress_more log (y₀ ∷ log) (wider y₀) j.1, j.2)
              | inr p ↦ let j = rules.justified g p l in (j.0, progress_more log (y₀ ∷ log) (wider y₀) j.1, j.2)
            ];
            backed = λ {i} {v} {d} g a. backed_more log (y₀ ∷ log) (wider y₀) (rules.backed g (old_kind (commit i v d) y₀ log (λ z. omega arith) a));
            made = λ {i} {view} {r} {c} g a.
                let m = rules.made g (old_kind (new_view i view (Some r) c) y₀ log (λ z. omega arith) a) in (before m.0, m.1);
            last_prepare = λ {i} {view} {v} {d} {p} {c} g a b l.
                let a' = old_kind (new_view i view p c) y₀ log (λ z. omega arith) a in
                elim (split b) [
                  | inl q ↦ absurd (let i_is : i ≡ i₀ = ap who q in let low = stayed view p c (rw i_is at a') in omega (arith, ap when q))
                  | inr q ↦ rules.last_prepare g a' q l
                ];
            last_commit = λ {i} {view} {v} {d} {p} {c} g a b l.
                rules.last_commit g
                (old_kind (new_view i view p c) y₀ log (λ z. omega arith) a) (old_kind (commit i v d) y₀ log (λ z. omega arith) b) l;
          }

    -- a commit of a value that is backed, at a site that has not left the view
    module _ (i₀ v₀ : ℕ) (d₀ : Value) (back : BackedIn f t good log v₀ d₀)
        (stayed : (view : ℕ) (p c : Option Report) → In (new_view i₀ view p c) log → view ≤ v₀) where
      abbrev y₁ : Said
      y₁ = commit i₀ v₀ d₀

      pub rules_commit : RulesIn f t good (y₁ ∷ log)
      rules_commit =
          record {
            few = rules.few;
            from_one = λ {i} {v} {d} g a. rules.from_one g (old_kind (prepare i v d) y₁ log (λ z. omega arith) a);
            once = λ {i} {v} {d} {e} g a b.
                rules.once g (old_kind (prepare i v d) y₁ log (λ z. omega arith) a) (old_kind (prepare i v e) y₁ log (λ z. omega arith) b);
            justified = λ {i} {v} {d} g a l.
                let j = rules.justified g (old_kind (prepare i v d) y₁ log (λ z. omega arith) a) l in
                (j.0, progress_more log (y₁ ∷ log) (wider y₁) j.1, j.2);
            backed = λ {i} {v} {d} g a. backed_more log (y₁ ∷ log) (wider y₁) (elim (split a) [
              | inl p ↦ let v_is : v ≡ v₀ = ap when p in let d_is : d ≡ d₀ = cc in rw (v_is, d_is) back
              | inr p ↦ rules.backed g p
            ]);
            made = λ {i} {view} {r} {c} g a.
                let m = rules.made g (old_kind (new_view i view (Some r) c) y₁ log (λ z. omega arith) a) in (before m.0, m.1);
            last_prepare = λ {i} {view} {v} {d} {p} {c} g a b l.
                rules.last_prepare g
                (old_kind (new_view i view p c) y₁ log (λ z. omega arith) a) (old_kind (prepare i v d) y₁ log (λ z. omega arith) b) l;
            last_commit = λ {i} {view} {v} {d} {p} {c} g a b l.
                let a' = old_kind (new_view i view p c) y₁ log (λ z. omega arith) a in
                elim (split b) [
                  | inl q ↦ absurd (let i_is : i ≡ i₀ = ap who q in let low = stayed view p c (rw i_is at a') in omega (arith, ap when q))
                  | inr q ↦ rules.last_commit g a' q l
                ];
          }

    -- a new_view with the site's last prepare and its last commit
    module _ (i₀ v₀ : ℕ) (p₀ c₀ : Option Report)
        (real : (r : Report) → p₀ ≡ Some r → In (prepare i₀ r.view r.value) log × (r.view < v₀))
        (last_p : (v : ℕ) (d : Value) → In (prepare i₀ v d) log → (r : Report) × (p₀ ≡ Some r) × (v ≤ r.view))
        (last_c : (v : ℕ) (d : Value) → In (commit i₀ v d) log → (r : Report) × (c₀ ≡ Some r) × (v ≤ r.view)) where
      abbrev y₂ : Said
      y₂ = new_view i₀ v₀ p₀ c₀

      pub rules_new_view : RulesIn f t good (y₂ ∷ log)
      rules_new_view =
          record {
            few = rules.few;
            from_one = λ {i} {v} {d} g a. rules.from_one g (old_kind (prepare i v d) y₂ log (λ z. omega arith) a);
            once = λ {i} {v} {d} {e} g a b.
                rules.once g (old_kind (prepare i v d) y₂ log (λ z. omega arith) a) (old_kind (prepare i v e) y₂ log (λ z. omega arith) b);
            justified = λ {i} {v} {d} g a l.
                let j = rules.justified g (old_kind (prepare i v d) y₂ log (λ z. omega arith) a) l in
                (j.0, progress_more log (y₂ ∷ log) (wider y₂) j.1, j.2);
            backed = λ {i} {v} {d} g a. backed_more log (y₂ ∷ log) (wider y₂) (rules.backed g (old_kind (commit i v d) y₂ log (λ z. omega arith) a));
            made = λ {i} {view} {r} {c} g a. elim (split a) [
              | inl q ↦
                  let i_is : i ≡ i₀ = ap who q in
                  let p_is : p₀ ≡ Some r = cc in
                  let m = real r p_is in
                  (before (rw i_is m.0), omega (arith, ap when q, m.1))
              | inr q ↦ let m = rules.made g q in (before m.0, m.1)
            ];
            last_prepare = λ {i} {view} {v} {d} {p} {c} g a b l.
                let b' = old_kind (prepare i v d) y₂ log (λ z. omega arith) b in
                elim (split a) [
                  | inl q ↦
                      let i_is : i ≡ i₀ = ap who q in
                      let k = last_p v d (rw i_is at b') in
                      let p_is : p ≡ p₀ = cc in
                      (k.0, p_is ∙ k.1, k.2)
                  | inr q ↦ rules.last_prepare g q b' l
                ];
            last_commit = λ {i} {view} {v} {d} {p} {c} g a b l.
                let b' = old_kind (commit i v d) y₂ log (λ z. omega arith) b in
                elim (split a) [
                  | inl q ↦
                      let i_is : i ≡ i₀ = ap who q in
                      let k = last_c v d (rw i_is at b') in
                      let c_is : c ≡ c₀ = cc in
                      (k.0, c_is ∙ k.1, k.2)
                  | inr q ↦ rules.last_commit g q b' l
                ];
          }
