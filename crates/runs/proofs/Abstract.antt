-- A site as the rules see it: what it keeps as far as agreement goes, and how filled rows and decisions look there.
use Rattle.std.proofs.Common.{◌≡◌, ℕ, ◌<◌, Bool, true, false, cond, List, length, set, replicate, Some, None, Option, refl, ap, ◌∙◌, inl, inr}
use Rattle.std.specs.Prelude.{◌==◌, nat_le}
use Rattle.std.specs.Option.{option_map}
use mathlib.Core.Path.{fun_ext}
use Rattle.std.proofs.lemmas.List.{get_or-set_same, get_or-set_other, get_or-replicate, get_or_past}
use Rattle.std.proofs.lemmas.Bool.{eq-eqb, ne_eqb, cases_eq, cases_lt}
use Rattle.values.specs.declared.fix.Value.{Value}
use Rattle.values.specs.declared.fix.Report.{Report}
use Rattle.values.specs.Fleets.{sites, fast_quorum, recovery_quorum}
use Rattle.agreement.specs.Sites.{size}
use Rattle.agreement.specs.Moves.{Rows, fill, holders, hear_prepare, hear_commit, leave, makes_commit, decide, step}
use Rattle.agreement.specs.Moves as moves
use Rattle.records.specs.Rows.{row_of, with_prepare, with_commit}
use Rattle.records.specs.Kept.{Membership, Decided, Kept, fresh}
use Rattle.records.specs.Books.{Books}
use Rattle.calls.specs.Effects.{holding, settle, moved_to, counting_prepare, counting_commit}

abbrev pub decided_report : Option Decided → Option Report
decided_report o = option_map (λ (x : Decided). x.report) o

abbrev pub abstract_of : Kept → moves.Site
abstract_of k =
    record {
      view = k.view;
      proposed = k.proposed;
      prepared = k.prepared;
      committed = k.committed;
      prepares = row_of k.rows.prepares;
      commits = row_of k.rows.commits;
      decision = decided_report k.decision;
    }

-- ---- rows ----

row_filled : (xs : List (Option Value)) (j : ℕ) (d : Value) → j < length xs → (k : ℕ) → row_of (set xs j (Some d)) k ≡ fill (row_of xs) j d k
row_filled xs j d l k = elim (cases_eq k j) [
  | inl e ↦ rw (eq-eqb k j e, e) (get_or-set_same xs j (Some d) None l)
  | inr ne ↦ rw (ne_eqb k j ne) (get_or-set_other xs j k (Some d) None ne)
]

rows_filled : (xs : List (Option Value)) (j : ℕ) (d : Value) → j < length xs → row_of (set xs j (Some d)) ≡ fill (row_of xs) j d
rows_filled xs j d l = fun_ext (row_filled xs j d l)

rows_empty : row_of (replicate 16 None) ≡ moves.no_rows
rows_empty = fun_ext (λ j. elim (cases_lt j 16) [
  | inl l ↦ get_or-replicate 16 j None None l
  | inr g ↦ get_or_past (replicate 16 None) j None g
])

-- ---- decisions ----

settled : (o : Option Decided) (b : Bool) (x : Decided) → decided_report (settle o b x) ≡ decide (decided_report o) b x.report
settled (Some y) b x = refl
settled None true x = refl
settled None false x = refl

-- ---- what changes ----

pub abstract_fresh : (round : ℕ) → abstract_of (fresh round) ≡ moves.opened
abstract_fresh round =
    ap (λ (r : Rows). record { view = 1; proposed = false; prepared = None; committed = None; prepares = r; commits = r; decision = None }) rows_empty

pub abstract_left : (m : Membership) (k : Kept) (view : ℕ) → abstract_of (moved_to m view k) ≡ step m.f m.t (abstract_of k) (leave view)
abstract_left m k view =
    ap (λ (r : Rows). record { view = view; proposed = false; prepared = k.prepared; committed = k.committed; prepares = r; commits = r; decision = decided_report k.decision }) rows_empty

module _ (m : Membership) (k : Kept) (books : Books) (j : ℕ) (d : Value) where
  abbrev now : Report
  now = record { view = k.view; value = d }

  -- the record with other rows of prepares, and what they decide
  abbrev with_prepares : Rows → moves.Site
  with_prepares r =
      record {
        view = k.view;
        proposed = k.proposed;
        prepared = k.prepared;
        committed = cond (size (holders r d) (sites m.f m.t) == recovery_quorum m.f m.t) (Some now) k.committed;
        prepares = r;
        commits = row_of k.rows.commits;
        decision = decide (decided_report k.decision) (nat_le (fast_quorum m.f m.t) (size (holders r d) (sites m.f m.t))) now;
      }

  abbrev with_commits : Rows → moves.Site
  with_commits r =
      record {
        view = k.view;
        proposed = k.proposed;
        prepared = k.prepared;
        committed = k.committed;
        prepares = row_of k.rows.prepares;
        commits = r;
        decision = decide (decided_report k.decision) (nat_le (recovery_quorum m.f m.t) (size (holders r d) (sites m.f m.t))) now;
      }

  pub abstract_prepare : (tag : List ℕ) → j < length k.rows.prepares → abstract_of (counting_prepare m k books j d tag).kept ≡ step m.f m.t (abstract_of k) (hear_prepare j d)
  abstract_prepare tag l =
      let r = row_of (with_prepare k.rows j d).prepares in
      let reached = nat_le (fast_quorum m.f m.t) (size (holders r d) (sites m.f m.t)) in
      ap (λ (o : Option Report). record (with_prepares r) { decision = o }) (settled k.decision reached (record { report = now; way = 1 }))
      ∙ ap with_prepares (rows_filled k.rows.prepares j d l)

  -- the prepare makes a commit certificate in both
  pub certifies_alike : j < length k.rows.prepares → (holding m (with_prepare k.rows j d).prepares d == recovery_quorum m.f m.t) ≡ makes_commit m.f m.t (abstract_of k) j d
  certifies_alike l = ap (λ (r : Rows). size (holders r d) (sites m.f m.t) == recovery_quorum m.f m.t) (rows_filled k.rows.prepares j d l)

  pub abstract_commit : j < length k.rows.commits → abstract_of (counting_commit m k books j d).kept ≡ step m.f m.t (abstract_of k) (hear_commit j d)
  abstract_commit l =
      let r = row_of (with_commit k.rows j d).commits in
      let reached = nat_le (recovery_quorum m.f m.t) (size (holders r d) (sites m.f m.t)) in
      ap (λ (o : Option Report). record (with_commits r) { decision = o }) (settled k.decision reached (record { report = now; way = 2 }))
      ∙ ap with_commits (rows_filled k.rows.commits j d l)
