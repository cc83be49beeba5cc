-- A site commits and decides as soon as its rows allow it.
use Rattle.std.proofs.Common.{◌≡◌, ℕ, ◌+◌, ◌<◌, ◌≤◌, Bool, true, false, cond, leb, ◌⊎◌, List, [], Some, None, Option, sym, refl, ◌∙◌, subst, inl, inr, arith}
use Rattle.std.proofs.lemmas.Bool.{eqb-false, eq-eqb, ne_eqb, le-leb, cases_eq, cases_Bool, false≢true}
use Rattle.values.specs.declared.fix.Value.{Value}
use Rattle.values.specs.declared.fix.Report.{Report}
use Rattle.values.specs.Fleets.{sites, fast_quorum, recovery_quorum}
use Rattle.verdicts.specs.Rule.{same}
use Rattle.verdicts.proofs.Counts.{same_eq, eq_same}
use Rattle.agreement.specs.Sites.{SiteSet, size}
use Rattle.agreement.specs.Statements.{Said, commit, In, newest, before}
use Rattle.agreement.specs.Moves.{Rows, no_rows, fill, holders, Site, Move, propose_it, hear_propose, hear_prepare, hear_commit, leave, other, decide, here, makes_commit, step, draft, more, start, Moved, Run, after}
use Rattle.agreement.proofs.Judged.{none_some}
use Rattle.agreement.proofs.Count.{size_le, size_but, size_none}
use Rattle.agreement.proofs.Keep.{more_within, site_run}

-- ---- rows, once one is filled ----

fill_else : (rows : Rows) (j : ℕ) (d e : Value) (k : ℕ) → (k ≡ j → ⊥) → holders (fill rows j d) e k ≡ true → holders rows e k ≡ true
fill_else rows j d e k ne h = rw (ne_eqb k j ne) at h

-- one more row at most
fill_more : (rows : Rows) (j n : ℕ) (d e : Value) → size (holders (fill rows j d) e) n ≤ size (holders rows e) n + 1
fill_more rows j n d e = size_but (holders (fill rows j d) e) (holders rows e) j n (fill_else rows j d e)

-- and none of another value
fill_other : (rows : Rows) (j n : ℕ) (d e : Value) → same e d ≡ false → size (holders (fill rows j d) e) n ≤ size (holders rows e) n
fill_other rows j n d e ne = size_le (holders (fill rows j d) e) (holders rows e) n (λ k l h. elim (cases_eq k j) [
  | inl q ↦ absurd (false≢true (sym ne ∙ (rw (eq-eqb k j q) at h)))
  | inr z ↦ fill_else rows j d e k z h
])

-- of n sites, the row of each chosen one holds d
abbrev pub Hold : ℕ → SiteSet → Rows → Value → Type 0
Hold n chosen rows d = (j : ℕ) → j < n → chosen j ≡ true → rows j ≡ Some d

pub rows_hold : (n : ℕ) (chosen : SiteSet) (rows : Rows) (d : Value) → Hold n chosen rows d → size chosen n ≤ size (holders rows d) n
rows_hold n chosen rows d h = size_le chosen (holders rows d) n (λ j l c. rw (h j l c) (eq_same d d refl))

-- ---- decisions ----

decide_some : (o : Option Report) (b : Bool) (x : Report) → ((r : Report) × (o ≡ Some r)) ⊎ (b ≡ true) → (r : Report) × (decide o b x ≡ Some r)
decide_some (Some s) b x h = (s, refl)
decide_some None true x h = (x, refl)
decide_some None false x (inl h) = absurd (none_some h.0 h.1)
decide_some None false x (inr h) = absurd (false≢true h)

-- q rows that hold one value mean a decision
abbrev Settled : ℕ → ℕ → Rows → Option Report → Type 0
Settled q n rows o = (d : Value) → q ≤ size (holders rows d) n → (r : Report) × (o ≡ Some r)

settled_fill : (q n : ℕ) (rows : Rows) (j : ℕ) (d : Value) (o : Option Report) (x : Report) → Settled q n rows o
    → Settled q n (fill rows j d) (decide o (leb q (size (holders (fill rows j d) d) n)) x)
settled_fill q n rows j d o x p e h =
    decide_some o (leb q (size (holders (fill rows j d) d) n)) x (elim (cases_Bool (same e d)) [
      | inl k ↦ inr (le-leb q (size (holders (fill rows j d) d) n) (subst (λ (y : Value). q ≤ size (holders (fill rows j d) y) n) (same_eq e d k) h))
      | inr k ↦ inl (p e (omega (arith, fill_other rows j n d e k)))
    ])

settled_decide : (q n : ℕ) (rows : Rows) (o : Option Report) (b : Bool) (x : Report) → Settled q n rows o → Settled q n rows (decide o b x)
settled_decide q n rows o b x p e h = decide_some o b x (inl (p e h))

module _ (f t : ℕ) (good : SiteSet) where
  -- a fast quorum of prepares, or a recovery quorum of commits, means a decision; a recovery quorum of prepares means a commit
  pub record Prompt (i : ℕ) (s : Site) (log : List Said) : Type 0 where
    pub fast : Settled (fast_quorum f t) (sites f t) s.prepares s.decision
    pub recovery : Settled (recovery_quorum f t) (sites f t) s.commits s.decision
    pub committed : (d : Value) → recovery_quorum f t ≤ size (holders s.prepares d) (sites f t) → In (commit i s.view d) log

  few_rows : (q : ℕ) (d : Value) → 0 < q → q ≤ size (holders no_rows d) (sites f t) → ⊥
  few_rows q d l h = absurd (omega (arith, size_none (sites f t)))

  -- a site whose rows are all empty
  prompt_empty : (i : ℕ) (s : Site) (log : List Said) → s.prepares ≡ no_rows → s.commits ≡ no_rows → Prompt i s log
  prompt_empty i s log p q =
      record {
        fast = λ d h. absurd (few_rows (fast_quorum f t) d (omega arith) (rw p at h));
        recovery = λ d h. absurd (few_rows (recovery_quorum f t) d (omega arith) (rw q at h));
        committed = λ d h. absurd (few_rows (recovery_quorum f t) d (omega arith) (rw p at h));
      }

  prompt_more : (i : ℕ) (s : Site) (log : List Said) (o : Option Said) → Prompt i s log → Prompt i s (more o log)
  prompt_more i s log o p =
      record {
        fast = p.fast;
        recovery = p.recovery;
        committed = λ d h. more_within f t good o log (commit i s.view d) (p.committed d h);
      }

  module _ (i : ℕ) (s : Site) (log : List Said) (p : Prompt i s log) (j : ℕ) (d : Value) where
    -- the commit is drafted now, or was before
    committed_now : (b : Bool) → makes_commit f t s j d ≡ b → recovery_quorum f t ≤ size (holders (fill s.prepares j d) d) (sites f t)
        → In (commit i s.view d) (more (cond b (Some (commit i s.view d)) None) log)
    committed_now true q h = newest
    committed_now false q h =
        let ne = eqb-false (size (holders (fill s.prepares j d) d) (sites f t)) (recovery_quorum f t) q in
        p.committed d (omega (arith, fill_more s.prepares j (sites f t) d d))

    prompt_prepare : Prompt i (step f t s (hear_prepare j d)) (more (draft f t i s (hear_prepare j d)) log)
    prompt_prepare =
        record {
          fast = settled_fill (fast_quorum f t) (sites f t) s.prepares j d s.decision (here s d) p.fast;
          recovery = settled_decide (recovery_quorum f t) (sites f t) s.commits s.decision (leb (fast_quorum f t) (size (holders (fill s.prepares j d) d) (sites f t))) (here s d) p.recovery;
          committed = λ e h. elim (cases_Bool (same e d)) [
            | inl q ↦
                let e_is = same_eq e d q in
                rw e_is (committed_now (makes_commit f t s j d) refl (rw e_is at h))
            | inr q ↦ more_within f t good (draft f t i s (hear_prepare j d)) log (commit i s.view e)
                (p.committed e (omega (arith, fill_other s.prepares j (sites f t) d e q)))
          ];
        }

    prompt_commit : Prompt i (step f t s (hear_commit j d)) log
    prompt_commit =
        record {
          fast = settled_decide (fast_quorum f t) (sites f t) s.prepares s.decision (leb (recovery_quorum f t) (size (holders (fill s.commits j d) d) (sites f t))) (here s d) p.fast;
          recovery = settled_fill (recovery_quorum f t) (sites f t) s.commits j d s.decision (here s d) p.recovery;
          committed = p.committed;
        }

  prompt_move : (i : ℕ) (s : Site) (log : List Said) (m : Move) → Prompt i s log → Prompt i (step f t s m) (more (draft f t i s m) log)
  prompt_move i s log (propose_it d) p = record { fast = p.fast; recovery = p.recovery; committed = λ e h. before (p.committed e h) }
  prompt_move i s log (hear_propose d es) p = record { fast = p.fast; recovery = p.recovery; committed = λ e h. before (p.committed e h) }
  prompt_move i s log (hear_prepare j d) p = prompt_prepare i s log p j d
  prompt_move i s log (hear_commit j d) p = prompt_commit i s log p j d
  prompt_move i s log (leave v) p = prompt_empty i (step f t s (leave v)) (more (draft f t i s (leave v)) log) refl refl
  prompt_move i s log other p = p

  pub prompt_run : (ms : List Moved) → Run f t good start ms → (i : ℕ) → good i ≡ true → Prompt i ((after f t start ms).at i) (after f t start ms).log
  prompt_run ms run =
      site_run f t good Prompt (λ i s log m k v p. prompt_move i s log m p) (λ k s log o apart p. prompt_more k s log o p) start ms run
      (λ i g. prompt_empty i (start.at i) [] refl refl)
