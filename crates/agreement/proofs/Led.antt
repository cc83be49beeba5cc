-- What rule-following sites propose: one value in a view, under the mark. What they prepare is what a rule-following leader proposed.
use Rattle.std.proofs.Common.{◌≡◌, ℕ, ◌<◌, ◌≤◌, Bool, true, false, cond, List, [], ◌∷◌, Some, None, Option, sym, refl, ap, inl, inr, arith}
use Rattle.std.proofs.lemmas.Bool.{false≢true}
use Rattle.values.specs.declared.fix.Value.{Value}
use Rattle.values.specs.Fleets.{sites, leader_of}
use Rattle.agreement.specs.Sites.{SiteSet}
use Rattle.agreement.specs.Statements.{Said, propose, prepare, commit, new_view, who, In, newest, before, Of, Drafted}
use Rattle.agreement.specs.Moves.{Site, Move, propose_it, hear_propose, hear_prepare, hear_commit, leave, other, makes_commit, step, draft, more, start, Tests, vouched, Moved, Run, after}
use Rattle.agreement.proofs.Agree.{of_map}
use Rattle.agreement.proofs.Grow.{kind, when, split, old, old_kind}
use Rattle.agreement.proofs.Keep.{nothing, site_run}

-- neither a propose nor a prepare of site i
abbrev Apart : ℕ → Said → Type 0
Apart i y = (v : ℕ) (d : Value) → (propose i v d ≡ y → ⊥) × (prepare i v d ≡ y → ⊥)

apart_commit : (i j v : ℕ) (d : Value) (b : Bool) → Of (Apart i) (cond b (Some (commit j v d)) None)
apart_commit i j v d true = λ w e. (λ q. omega (arith, ap kind q), λ q. omega (arith, ap kind q))
apart_commit i j v d false = tt

module _ (f t : ℕ) (good : SiteSet) where
  abbrev leader : ℕ → ℕ
  leader v = leader_of (sites f t) v

  -- of a rule-following site in a view, and its mark `proposed`
  pub record Led (i view : ℕ) (mark : Bool) (log : List Said) : Type 0 where
    -- it has proposed in no view above, and in this one exactly if the mark is set
    pub low : (v : ℕ) (d : Value) → In (propose i v d) log → v ≤ view
    pub marked : (d : Value) → In (propose i view d) log → mark ≡ true
    pub meant : mark ≡ true → (d : Value) × In (propose i view d) log
    -- one value in a view
    pub one : (v : ℕ) (d e : Value) → In (propose i v d) log → In (propose i v e) log → d ≡ e
    -- what it prepares, a leader that follows the rules proposed
    pub led : (v : ℕ) (d : Value) → In (prepare i v d) log → good (leader v) ≡ true → In (propose (leader v) v d) log

  led_start : (i view : ℕ) → Led i view false []
  led_start i view =
      record {
        low = λ v d a. absurd (nothing a);
        marked = λ d a. absurd (nothing a);
        meant = λ m. absurd (false≢true m);
        one = λ v d e a b. absurd (nothing a);
        led = λ v d a l. absurd (nothing a);
      }

  -- one more statement that is apart
  led_more : (i view : ℕ) (mark : Bool) (log : List Said) (o : Option Said) → Of (Apart i) o → Led i view mark log → Led i view mark (more o log)
  led_more i view mark log None new h = h
  led_more i view mark log (Some y) new h =
      record {
        low = λ v d a. h.low v d (old (propose i v d) y log a (new v d).0);
        marked = λ d a. h.marked d (old (propose i view d) y log a (new view d).0);
        meant = λ m. let r = h.meant m in (r.0, before r.1);
        one = λ v d e a b. h.one v d e (old (propose i v d) y log a (new v d).0) (old (propose i v e) y log b (new v e).0);
        led = λ v d a l. before (h.led v d (old (prepare i v d) y log a (new v d).1) l);
      }

  led_propose : (i view : ℕ) (log : List Said) (x : Value) → Led i view false log → Led i view true (propose i view x ∷ log)
  led_propose i view log x h =
      let y : Said = propose i view x in
      record {
        low = λ v d a. elim (split a) [ inl p ↦ omega (arith, ap when p) | inr q ↦ h.low v d q ];
        marked = λ d a. refl;
        meant = λ m. (x, newest);
        one = λ v d e a b. elim (split a) [
          | inl p ↦ elim (split b) [ inl q ↦ cc | inr q ↦ absurd (clash v e (ap when p) q) ]
          | inr p ↦ elim (split b) [ inl q ↦ absurd (clash v d (ap when q) p) | inr q ↦ h.one v d e p q ]
        ];
        led = λ v d a l. before (h.led v d (old_kind (prepare i v d) y log (λ z. omega arith) a) l);
      }
    where
      clash : (v : ℕ) (d : Value) → v ≡ view → In (propose i v d) log → ⊥
      clash v d e a = false≢true (h.marked d (rw e at a))

  led_prepare : (i view : ℕ) (mark : Bool) (log : List Said) (x : Value) → (good (leader view) ≡ true → In (propose (leader view) view x) log)
      → Led i view mark log → Led i view mark (prepare i view x ∷ log)
  led_prepare i view mark log x heard h =
      let y : Said = prepare i view x in
      record {
        low = λ v d a. h.low v d (old_kind (propose i v d) y log (λ z. omega arith) a);
        marked = λ d a. h.marked d (old_kind (propose i view d) y log (λ z. omega arith) a);
        meant = λ m. let r = h.meant m in (r.0, before r.1);
        one = λ v d e a b. h.one v d e (old_kind (propose i v d) y log (λ z. omega arith) a) (old_kind (propose i v e) y log (λ z. omega arith) b);
        led = λ v d a l. elim (split a) [
          | inl p ↦
              let v_is : v ≡ view = ap when p in
              let d_is : d ≡ x = cc in
              before (rw (v_is, d_is) (heard (rw v_is at l)))
          | inr q ↦ before (h.led v d q l)
        ];
      }

  led_leave : (i view w : ℕ) (mark : Bool) (log : List Said) → view < w → Led i view mark log → Led i w false log
  led_leave i view w mark log l h =
      record {
        low = λ v d a. omega (arith, h.low v d a);
        marked = λ d a. absurd (omega (arith, h.low w d a));
        meant = λ m. absurd (false≢true m);
        one = h.one;
        led = h.led;
      }

  led_move : (i : ℕ) (s : Site) (log : List Said) (m : Move) → Tests f t s m → Drafted good log (vouched f t s m)
      → Led i s.view s.proposed log → Led i (step f t s m).view (step f t s m).proposed (more (draft f t i s m) log)
  led_move i s log (propose_it d) k v h = led_propose i s.view log d (rw k at h)
  led_move i s log (hear_propose d es) k v h = led_prepare i s.view s.proposed log d v.0 h
  led_move i s log (hear_prepare j d) k v h = led_more i s.view s.proposed log (draft f t i s (hear_prepare j d)) (apart_commit i i s.view d (makes_commit f t s j d)) h
  led_move i s log (hear_commit j d) k v h = h
  led_move i s log (leave w) k v h =
      let y : Said = new_view i w s.prepared s.committed in
      led_leave i s.view w s.proposed (y ∷ log) k
      (led_more i s.view s.proposed log (Some y) (λ v d. (λ q. omega (arith, ap kind q), λ q. omega (arith, ap kind q))) h)
  led_move i s log other k v h = h

  led_else : (k : ℕ) (s : Site) (log : List Said) (o : Option Said) → Of (λ y. who y ≡ k → ⊥) o → Led k s.view s.proposed log → Led k s.view s.proposed (more o log)
  led_else k s log o apart h =
      led_more k s.view s.proposed log o
      (of_map (λ y. who y ≡ k → ⊥) (Apart k) o (λ y z v d. (λ q. z (sym (ap who q)), λ q. z (sym (ap who q)))) apart) h

  pub led_run : (ms : List Moved) → Run f t good start ms → (i : ℕ) → good i ≡ true
      → Led i ((after f t start ms).at i).view ((after f t start ms).at i).proposed (after f t start ms).log
  led_run ms run =
      site_run f t good (λ i s log. Led i s.view s.proposed log) led_move led_else start ms run (λ i g. led_start i 1)
