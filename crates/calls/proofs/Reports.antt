-- What the reports of new-views are, and that a value that is forced is one that was reported.
use Rattle.std.proofs.Common.{◌≡◌, ℕ, zero, suc, ◌+◌, Bool, true, false, cond, ◌&&◌, List, [], ◌∷◌, ◌++◌, refl, length, Some, None, Ok, Option}
use Rattle.std.specs.Prelude.{◌==◌, nat_le, nat_lt}
use Rattle.std.proofs.lemmas.Bool.{and_parts, leb-true, ltb-true, eqb-true, le-leb, lt-ltb, eq-eqb}
use Rattle.values.specs.declared.fix.Value.{Value}
use Rattle.values.specs.declared.fix.Report.{Report}
use Rattle.values.specs.Fleets.{sites}
use Rattle.values.specs.Fixes.{fix_of, legal}
use Rattle.verdicts.specs.declared.rule.Reported.{Reported}
use Rattle.verdicts.specs.Rule.{reporters, fast_view, fast_from, fast_among, fast_certificate, fast_support, top_committed, add_committed, committed_in, all_same, Finding, free, forced, conflict, by_fast, by_commits, weigh, finding}
use Rattle.wire.specs.declared.statement.ViewChange.{ViewChange}
use Rattle.wire.specs.declared.statement.Statement.TheVariants.{NewView}
use Rattle.wire.specs.Contents.{report_bytes, statement_bytes, reported, Turn, turn_bytes, change_of}
use Rattle.checks.specs.Vouching.{Vouched}
use Rattle.agreement.specs.Statements.{Each, Of}
use Rattle.certificates.specs.Steps.{granted, Step, test, ask, passed, blamed}
use Rattle.certificates.specs.Faults.{Faulted, other_view, other_site, illegal_fix, bad_tag, at_depth}
use Rattle.certificates.specs.Examining.{rising, report_view, report_fix, change_steps, certified_steps, behind_tag, entry_steps, entries_steps}
use Rattle.certificates.specs.Judging.{reports_of}
use Rattle.certificates.proofs.Passing.{test_ok, append_ok, blamed_ok}
use Rattle.certificates.proofs.Laws.{change_through}
use Rattle.calls.specs.Effects.{choice}
use Rattle.calls.proofs.Passed.{append_made}
use Rattle.calls.specs.Laws.{LegalReport}

-- ---- what a new-view that passes reports ----

module _ (v : Vouched) where
  legal_report : (view a b : ℕ) (o : Option Report) → passed v (report_view view a o) ≡ Ok (tt {0}) → passed v (report_fix b o) ≡ Ok (tt {0}) → LegalReport view o
  legal_report view a b None h k = tt
  legal_report view a b (Some r) h k =
      let p = test_ok (nat_le 1 r.view && nat_lt r.view view) (Ok tt) (other_view (a + 4)) h in
      let q = and_parts (nat_le 1 r.view) (nat_lt r.view view) p.0 in
      let f = test_ok (legal (fix_of r.value)) (Ok tt) (illegal_fix (b + 8)) k in
      (leb-true 1 r.view q.0, ltb-true r.view view q.1, f.0)

  pub record Changed (round view : ℕ) (known : Bool) (c : ViewChange) (tag : List ℕ) : Type 0 where
    pub round_is : c.head.round ≡ round
    pub view_is : c.head.view ≡ view
    pub is_known : known ≡ true
    pub prepared : LegalReport view c.prepared
    pub committed : LegalReport view c.committed
    pub is_vouched : granted v (record { site = c.head.site; said = NewView c; tag = tag }) ≡ true

  pub change_ok : (round view : ℕ) (known : Bool) (place : ℕ) (c : ViewChange) (tag : List ℕ) → passed v (change_steps round view known place c tag) ≡ Ok (tt {0}) → Changed round view known c tag
  change_ok round view known place c tag h =
      let g = change_through v round view known place c tag h in
      record {
        round_is = eqb-true c.head.round round g.same_round;
        view_is = eqb-true c.head.view view g.same_view;
        is_known = g.is_known;
        prepared = legal_report view (place + 16) (place + 16) c.prepared g.prepared_view g.prepared_fix;
        committed = legal_report view _ _ c.committed g.committed_view g.committed_fix;
        is_vouched = g.is_vouched;
      }

  view_made : (view place : ℕ) (o : Option Report) → LegalReport view o → passed v (report_view view place o) ≡ Ok (tt {0})
  view_made view place None h = refl
  view_made view place (Some r) h = rw (le-leb 1 r.view h.0, lt-ltb r.view view h.1) refl

  fix_made : (view place : ℕ) (o : Option Report) → LegalReport view o → passed v (report_fix place o) ≡ Ok (tt {0})
  fix_made view place None h = refl
  fix_made view place (Some r) h = rw h.2 refl

  -- and one that reports this passes
  pub change_made : (round view : ℕ) (known : Bool) (place : ℕ) (c : ViewChange) (tag : List ℕ) → Changed round view known c tag → passed v (change_steps round view known place c tag) ≡ Ok (tt {0})
  change_made round view known place c tag g =
      let second = place + 16 + length (report_bytes c.prepared) in
      let last : List (Step Faulted) = ask (record { site = c.head.site; said = NewView c; tag = tag }) (bad_tag (place + length (statement_bytes (NewView c)))) ∷ [] in
      let e : passed v last ≡ Ok (tt {0}) = rw g.is_vouched refl in
      let fixes = append_made v (report_fix (place + 16) c.prepared) (report_fix second c.committed ++ last) (fix_made view (place + 16) c.prepared g.prepared)
      (append_made v (report_fix second c.committed) last (fix_made view second c.committed g.committed) e) in
      let site : List (Step Faulted) = test known (other_site (place + 12)) ∷ (report_fix (place + 16) c.prepared ++ (report_fix second c.committed ++ last)) in
      let is_known : passed v site ≡ Ok (tt {0}) = rw g.is_known fixes in
      let views = append_made v (report_view view (place + 16) c.prepared) (report_view view second c.committed ++ site) (view_made view (place + 16) c.prepared g.prepared)
      (append_made v (report_view view second c.committed) site (view_made view second c.committed g.committed) is_known) in
      rw (eq-eqb c.head.round round g.round_is, eq-eqb c.head.view view g.view_is) views

-- ---- what is forced ----

module _ (P : Value → Type 0) where
  -- of every value that is reported
  abbrev pub OfReport : Option Report → Type 0
  OfReport o = Of (λ (r : Report). P r.value) o

  abbrev pub OfReported : List Reported → Type 0
  OfReported es = Each (λ (e : Reported). OfReport e.prepared × OfReport e.committed) es

  -- of the value that is forced
  abbrev pub OfForced : Finding → Type 0
  OfForced free = Unit {0}
  OfForced (forced r c) = P r.value
  OfForced conflict = Unit {0}

  either_report : (b : Bool) (o rest : Option Report) → OfReport o → OfReport rest → OfReport (cond b o rest)
  either_report true o rest h k = h
  either_report false o rest h k = k

  fast_from_of : (q : ℕ) (es : List Reported) (o rest : Option Report) → OfReport o → OfReport rest → OfReport (fast_from q es o rest)
  fast_from_of q es None rest h k = k
  fast_from_of q es (Some r) rest h k = either_report (nat_le q (reporters r.value 1 es)) (Some (record { view = fast_view q es r.value; value = r.value })) rest h k

  fast_among_of : (q : ℕ) (es xs : List Reported) → OfReported xs → OfReport (fast_among q es xs)
  fast_among_of q es [] h = tt
  fast_among_of q es (x ∷ xs) h = fast_from_of q es x.prepared (fast_among q es xs) h.0.0 (fast_among_of q es xs h.1)

  either_list : (b : Bool) (d : Value) (ds : List Value) → P d → Each P ds → Each P (cond b (d ∷ ds) ds)
  either_list true d ds h k = (h, k)
  either_list false d ds h k = k

  add_committed_of : (w : ℕ) (o : Option Report) (ds : List Value) → OfReport o → Each P ds → Each P (add_committed w o ds)
  add_committed_of w None ds h k = k
  add_committed_of w (Some r) ds h k = either_list (w == r.view) r.value ds h k

  committed_in_of : (w : ℕ) (es : List Reported) → OfReported es → Each P (committed_in w es)
  committed_in_of w [] h = tt
  committed_in_of w (e ∷ es) h = add_committed_of w e.committed (committed_in w es) h.0.1 (committed_in_of w es h.1)

  either_finding : (b : Bool) (x y : Finding) → OfForced x → OfForced y → OfForced (cond b x y)
  either_finding true x y h k = h
  either_finding false x y h k = k

  by_commits_of : (w : ℕ) (ds : List Value) → Each P ds → OfForced (by_commits w ds)
  by_commits_of zero ds h = tt
  by_commits_of (suc w) [] h = tt
  by_commits_of (suc w) (d ∷ ds) h = either_finding (all_same d ds) _ conflict h.0 tt

  weigh_of : (o : Option Report) (w : ℕ) (ds : List Value) → OfReport o → Each P ds → OfForced (weigh o w ds)
  weigh_of None w ds h k = by_commits_of w ds k
  weigh_of (Some r) w ds h k = either_finding (nat_lt w r.view) (forced r by_fast) (by_commits w ds) h (by_commits_of w ds k)

  finding_of : (f t : ℕ) (es : List Reported) → OfReported es → OfForced (finding f t es)
  unfolding finding
  finding_of f t es h =
      weigh_of (fast_certificate (fast_support f t) es) (top_committed es) (committed_in (top_committed es) es) (fast_among_of (fast_support f t) es es h) (committed_in_of (top_committed es) es h)

  choice_of : (g : Finding) (d : Value) → OfForced g → P d → P (choice g d)
  choice_of free d h k = k
  choice_of (forced r c) d h k = h
  choice_of conflict d h k = k

  -- what is proposed has any property that all reported values and the value that was handed in have
  pub chosen_of : (f t : ℕ) (es : List Reported) (d : Value) → OfReported es → P d → P (choice (finding f t es) d)
  chosen_of f t es d h k = choice_of (finding f t es) d (finding_of f t es h) k

-- ---- what the entries of a progress certificate report ----

abbrev pub LegalValue : Value → Type 0
LegalValue d = legal (fix_of d) ≡ true

report_legal : (view : ℕ) (o : Option Report) → LegalReport view o → OfReport LegalValue o
report_legal view None h = tt
report_legal view (Some r) h = h.2

module _ (v : Vouched) (f t round view : ℕ) where
  pub entries_legal : (low place : ℕ) (ms : List Turn) → passed v (entries_steps f t round view low place ms) ≡ Ok (tt {0}) → OfReported LegalValue (reports_of ms)
  entries_legal low place [] h = tt
  entries_legal low place (m ∷ ms) h =
      let known = rising (sites f t) low m.head.site in
      let change = change_steps round view known place (change_of m) m.tag in
      let p = append_ok v (entry_steps f t round view low place m) (entries_steps f t round view (m.head.site + 1) (place + length (turn_bytes m)) ms) h in
      let e = append_ok v (blamed (at_depth 1) change) (blamed (at_depth 2) (certified_steps f t round (behind_tag place m) m.committed)) p.0 in
      let g = change_ok v round view known place (change_of m) m.tag (blamed_ok (at_depth 1) v change e.0) in
      ((report_legal view m.prepared g.prepared, report_legal view (reported m.committed) g.committed), entries_legal (m.head.site + 1) (place + length (turn_bytes m)) ms p.1)
