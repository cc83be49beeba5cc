-- What stays from one moment of a run to a later one: the view does not fall, and in one view what a site has heard and drafted stays.
use Rattle.std.proofs.Common.{◌≡◌, ℕ, zero, suc, ◌≤◌, Bool, true, List, [], ◌∷◌, take, Some, None, Option, sym, refl, ◌∙◌, inl, inr, arith}
use Rattle.std.proofs.lemmas.Bool.{eq-eqb, ne_eqb, cases_eq}
use Rattle.values.specs.declared.fix.Value.{Value}
use Rattle.values.specs.declared.fix.Report.{Report}
use Rattle.agreement.specs.Sites.{SiteSet}
use Rattle.agreement.specs.Moves.{Rows, fill, Site, Move, propose_it, hear_propose, hear_prepare, hear_commit, leave, other, decide, step, draft, World, start, next, Tests, Moved, moves, Run, after, world_at}
use Rattle.agreement.proofs.Judged.{none_some}
use Rattle.agreement.proofs.Grow.{Within}
use Rattle.agreement.proofs.Keep.{more_within, run_take}

-- ---- at a site ----

-- filled rows stay so
abbrev pub RowsStay : Rows → Rows → Type 0
RowsStay rows later = (j : ℕ) (d : Value) → rows j ≡ Some d → later j ≡ Some d

-- what stays while the view does
pub record Stays (s later : Site) : Type 0 where
  pub prepares : RowsStay s.prepares later.prepares
  pub commits : RowsStay s.commits later.commits
  pub proposed : s.proposed ≡ true → later.proposed ≡ true
  pub prepared : (r : Report) → s.prepared ≡ Some r → r.view ≡ s.view → later.prepared ≡ Some r

-- the same site at a later moment
pub record Lasts (s later : Site) : Type 0 where
  pub view : s.view ≤ later.view
  pub decision : (r : Report) → s.decision ≡ Some r → later.decision ≡ Some r
  pub stays : s.view ≡ later.view → Stays s later

stays_same : (s : Site) → Stays s s
stays_same s = record { prepares = λ j d h. h; commits = λ j d h. h; proposed = λ h. h; prepared = λ r h e. h }

lasts_same : (s : Site) → Lasts s s
lasts_same s = record { view = omega arith; decision = λ r h. h; stays = λ e. stays_same s }

lasts_on : (s m l : Site) → Lasts s m → Lasts m l → Lasts s l
lasts_on s m l a b =
    record {
      view = omega (arith, a.view, b.view);
      decision = λ r h. b.decision r (a.decision r h);
      stays = λ e.
          let one : s.view ≡ m.view = omega (arith, a.view, b.view) in
          let x = a.stays one in
          let y = b.stays (sym one ∙ e) in
          record {
            prepares = λ j d h. y.prepares j d (x.prepares j d h);
            commits = λ j d h. y.commits j d (x.commits j d h);
            proposed = λ h. y.proposed (x.proposed h);
            prepared = λ r h k. y.prepared r (x.prepared r h k) (k ∙ one);
          };
    }

decide_stays : (o : Option Report) (b : Bool) (x r : Report) → o ≡ Some r → decide o b x ≡ Some r
decide_stays o b x r h = rw h

-- a row is filled that was empty
fill_stays : (rows : Rows) (i : ℕ) (d : Value) → rows i ≡ None → RowsStay rows (fill rows i d)
fill_stays rows i d new j e h = elim (cases_eq j i) [
  | inl q ↦ absurd (none_some e (sym new ∙ (rw q at h)))
  | inr ne ↦ rw (ne_eqb j i ne) h
]

module _ (f t : ℕ) where
  lasts_step : (s : Site) (m : Move) → Tests f t s m → Lasts s (step f t s m)
  lasts_step s (propose_it d) k =
      record {
        view = omega arith;
        decision = λ r h. h;
        stays = λ e. record { prepares = λ j x h. h; commits = λ j x h. h; proposed = λ h. refl; prepared = λ r h q. h };
      }
  lasts_step s (hear_propose d es) k =
      record {
        view = omega arith;
        decision = λ r h. h;
        stays = λ e. record { prepares = λ j x h. h; commits = λ j x h. h; proposed = λ h. h; prepared = λ r h q. absurd (k.0 r h q) };
      }
  lasts_step s (hear_prepare j d) k =
      record {
        view = omega arith;
        decision = λ r h. decide_stays s.decision _ _ r h;
        stays = λ e. record { prepares = fill_stays s.prepares j d k; commits = λ i x h. h; proposed = λ h. h; prepared = λ r h q. h };
      }
  lasts_step s (hear_commit j d) k =
      record {
        view = omega arith;
        decision = λ r h. decide_stays s.decision _ _ r h;
        stays = λ e. record { prepares = λ i x h. h; commits = fill_stays s.commits j d k; proposed = λ h. h; prepared = λ r h q. h };
      }
  lasts_step s (leave v) k = record { view = omega arith; decision = λ r h. h; stays = λ e. absurd (omega arith) }
  lasts_step s other k = lasts_same s

  -- ---- at all sites ----

  -- the same sites at a later moment, and what they have drafted
  pub record Grows (w later : World) : Type 0 where
    pub sites : (i : ℕ) → Lasts (w.at i) (later.at i)
    pub log : Within w.log later.log

  grows_same : (w : World) → Grows w w
  grows_same w = record { sites = λ i. lasts_same (w.at i); log = λ x h. h }

  grows_on : (w m l : World) → Grows w m → Grows m l → Grows w l
  grows_on w m l a b = record { sites = λ i. lasts_on (w.at i) (m.at i) (l.at i) (a.sites i) (b.sites i); log = λ x h. b.log x (a.log x h) }

  module _ (good : SiteSet) where
    grows_next : (w : World) (i : ℕ) (m : Move) → Tests f t (w.at i) m → Grows w (next f t w i m)
    grows_next w i m k =
        record {
          sites = λ j. elim (cases_eq j i) [
            | inl q ↦ rw (q, eq-eqb i i refl) (lasts_step (w.at i) m k)
            | inr ne ↦ rw (ne_eqb j i ne) (lasts_same (w.at j))
          ];
          log = more_within f t good (draft f t i (w.at i) m) w.log;
        }

    grows_run : (w : World) (ms : List Moved) → Run f t good w ms → Grows w (after f t w ms)
    grows_run w [] run = grows_same w
    grows_run w (moves i m ∷ ms) run =
        grows_on w (next f t w i m) (after f t (next f t w i m) ms) (grows_next w i m run.1) (grows_run (next f t w i m) ms run.3)

    grows_take : (a b : ℕ) (w : World) (ms : List Moved) → a ≤ b → Run f t good w ms → Grows (after f t w (take a ms)) (after f t w (take b ms))
    grows_take zero b w ms l run = grows_run w (take b ms) (run_take f t good b w ms run)
    grows_take (suc a) zero w ms l run = absurd (omega arith)
    grows_take (suc a) (suc b) w [] l run = grows_same w
    grows_take (suc a) (suc b) w (moves i m ∷ ms) l run = grows_take a b (next f t w i m) ms (omega arith) run.3

    pub grows : (ms : List Moved) → Run f t good start ms → (a b : ℕ) → a ≤ b → Grows (world_at f t ms a) (world_at f t ms b)
    grows ms run a b l = grows_take a b start ms l run
