-- The laws of judging hold.
use Rattle.std.proofs.Common.{◌≡◌, ℕ, suc, ◌+◌, ◌<◌, ◌≤◌, Bool, true, false, cond, leb, ltb, List, [], ◌∷◌, length, map, Ok, Err, Result, refl, ap, arith}
use Rattle.std.specs.Prelude.{◌==◌}
use Rattle.std.proofs.lemmas.Bool.{true≢false, false≢true, leb-true, ltb-true, and_parts}
use Rattle.values.specs.declared.fix.Report.{Report}
use Rattle.values.specs.Fleets.{sites}
use Rattle.values.specs.Refusals.{Refused}
use Rattle.wire.specs.declared.statement.ViewChange.{ViewChange}
use Rattle.wire.specs.declared.statement.Statement.TheVariants.{NewView}
use Rattle.wire.specs.Contents.{report_bytes, statement_bytes, Vote, vote_bytes, Turn, turn_bytes, change_of}
use Rattle.checks.specs.Vouching.{Vouched}
use Rattle.agreement.specs.Sites.{size, Ascending, listed}
use Rattle.agreement.specs.Statements.{Each}
use Rattle.agreement.proofs.Count.{count_all, count_size}
use Rattle.agreement.proofs.Keep.{decisions_agree, later_forced, never_conflict}
use Rattle.agreement.proofs.Witness.{a_site_decides}
use Rattle.agreement.proofs.Laws.{one_fast_value, certificates_share, fast_is_highest}
use Rattle.agreement.proofs.OneFinding.{finding_is_the_rule}
use Rattle.certificates.specs.Steps.{Question, granted, Step, test, ask, passed, asked, blamed, answering}
use Rattle.certificates.specs.Faults.{other_round, other_view, other_site, bad_tag, at_depth}
use Rattle.certificates.specs.Examining.{rising, prepare_of, votes_steps, certified_steps, report_view, report_fix, change_steps, behind_tag, entry_steps, entries_steps}
use Rattle.certificates.specs.Judging.{judge_call}
use Rattle.certificates.proofs.Passing.{test_ok, append_ok, blamed_ok}
use Rattle.certificates.specs.Laws.{AskedDecides, VotesAreCounted, EntriesAreCounted, Counting, Agreement}

-- ---- what was asked decides ----

module _ (v w : Vouched) where
  abbrev pub Alike : List Question → Type 0
  Alike qs = Each (λ q. granted v q ≡ granted w q) qs

  answer_alike : {F : Type 0} (q : Question) (e : F) (xs : List (Step F)) (a b : Bool) → a ≡ b → Alike (cond a (asked v xs) []) → (Alike (asked v xs) → (passed v xs ≡ passed w xs) × (asked v xs ≡ asked w xs))
      → (cond a (passed v xs) (Err e) ≡ cond b (passed w xs) (Err e)) × (q ∷ cond a (asked v xs) [] ≡ q ∷ cond b (asked w xs) [])
  answer_alike q e xs true true k h ih = let r = ih h in (r.0, ap (λ (qs : List Question). q ∷ qs) r.1)
  answer_alike q e xs false false k h ih = (refl, refl)
  answer_alike q e xs true false k h ih = absurd (true≢false k)
  answer_alike q e xs false true k h ih = absurd (false≢true k)

  pub steps_alike : {F : Type 0} (xs : List (Step F)) → Alike (asked v xs) → (passed v xs ≡ passed w xs) × (asked v xs ≡ asked w xs)
  steps_alike [] h = (refl, refl)
  steps_alike (test true e ∷ xs) h = steps_alike xs h
  steps_alike (test false e ∷ xs) h = (refl, refl)
  steps_alike (ask q e ∷ xs) h = answer_alike q e xs (granted v q) (granted w q) h.0 h.1 (λ k. steps_alike xs k)

pub asked_decides : AskedDecides
asked_decides v w f t limit round view b h =
    let call = judge_call f t limit round view b in
    let r = steps_alike v w call.steps h in
    (ap (λ (x : Result (Unit {0}) Refused). answering x call.answer) r.0, r.1)

-- ---- counting ----

pub length_map : {A B : Type 0} (g : A → B) (xs : List A) → length (map g xs) ≡ length xs
length_map g [] = refl
length_map g (x ∷ xs) = ap suc (length_map g xs)

-- so many different sites
as_many : {A : Type 0} (site : A → ℕ) (n q : ℕ) (xs : List A) → length xs ≡ q → Ascending (λ (i : ℕ). i) 0 n (map site xs) → size (listed (map site xs)) n ≡ q
as_many site n q xs h a = omega (arith, length_map site xs, count_all (map site xs), count_size (λ i. i) (λ i. true) (map site xs) 0 n a)

pub rises : (n low site : ℕ) → rising n low site ≡ true → (low ≤ site) × (site < n)
rises n low site h = let p = and_parts (leb low site) (ltb site n) h in (leb-true low site p.0, ltb-true site n p.1)

rising_more : (site n : ℕ) (xs : List ℕ) → Ascending (λ (i : ℕ). i) (site + 1) n xs → Ascending (λ (i : ℕ). i) (suc site) n xs
rising_more site n xs h = let e : suc site ≡ site + 1 = omega arith in rw e h

module _ (v : Vouched) (f t round : ℕ) (r : Report) where
  abbrev GoodVote : Vote → Type 0
  GoodVote x = (x.site < sites f t) × (granted v (record { site = x.site; said = prepare_of round r x.site; tag = x.tag }) ≡ true)

  pub votes_rise : (low place : ℕ) (xs : List Vote) → passed v (votes_steps f t round r low place xs) ≡ Ok (tt {0})
      → Ascending (λ (i : ℕ). i) low (sites f t) (map (λ (x : Vote). x.site) xs) × Each GoodVote xs
  votes_rise low place [] h = (tt, tt)
  votes_rise low place (x ∷ xs) h =
      let p = test_ok (rising (sites f t) low x.site) _ (other_site place) h in
      let s = rises (sites f t) low x.site p.0 in
      let q = test_ok (granted v (record { site = x.site; said = prepare_of round r x.site; tag = x.tag })) _ (bad_tag (place + 4)) p.1 in
      let rest = votes_rise (x.site + 1) (place + length (vote_bytes x)) xs q.1 in
      ((s.0, s.1, rising_more x.site (sites f t) (map (λ (y : Vote). y.site) xs) rest.0), ((s.1, q.0), rest.1))

pub votes_are_counted : VotesAreCounted
votes_are_counted v f t round q r place xs h k =
    let g = votes_rise v f t round r 0 place xs k in
    (as_many (λ (x : Vote). x.site) (sites f t) q xs h g.0, g.1)

module _ (v : Vouched) (round view : ℕ) where
  -- what a new-view that passed went through
  pub record Through (known : Bool) (place : ℕ) (c : ViewChange) (tag : List ℕ) : Type 0 where
    pub same_round : (c.head.round == round) ≡ true
    pub same_view : (c.head.view == view) ≡ true
    pub is_known : known ≡ true
    pub prepared_view : passed v (report_view view (place + 16) c.prepared) ≡ Ok (tt {0})
    pub committed_view : passed v (report_view view (place + 16 + length (report_bytes c.prepared)) c.committed) ≡ Ok (tt {0})
    pub prepared_fix : passed v (report_fix (place + 16) c.prepared) ≡ Ok (tt {0})
    pub committed_fix : passed v (report_fix (place + 16 + length (report_bytes c.prepared)) c.committed) ≡ Ok (tt {0})
    pub is_vouched : granted v (record { site = c.head.site; said = NewView c; tag = tag }) ≡ true

  pub change_through : (known : Bool) (place : ℕ) (c : ViewChange) (tag : List ℕ) → passed v (change_steps round view known place c tag) ≡ Ok (tt {0}) → Through known place c tag
  change_through known place c tag h =
      let second = place + 16 + length (report_bytes c.prepared) in
      let a = test_ok (c.head.round == round) _ (other_round (place + 4)) h in
      let b = test_ok (c.head.view == view) _ (other_view (place + 8)) a.1 in
      let d = append_ok v (report_view view (place + 16) c.prepared) _ b.1 in
      let e = append_ok v (report_view view second c.committed) _ d.1 in
      let k = test_ok known _ (other_site (place + 12)) e.1 in
      let m = append_ok v (report_fix (place + 16) c.prepared) _ k.1 in
      let n = append_ok v (report_fix second c.committed) _ m.1 in
      let g = test_ok (granted v (record { site = c.head.site; said = NewView c; tag = tag })) _ (bad_tag (place + length (statement_bytes (NewView c)))) n.1 in
      record {
        same_round = a.0;
        same_view = b.0;
        is_known = k.0;
        prepared_view = d.0;
        committed_view = e.0;
        prepared_fix = m.0;
        committed_fix = n.0;
        is_vouched = g.0;
      }

module _ (v : Vouched) (f t round view : ℕ) where
  abbrev GoodEntry : Turn → Type 0
  GoodEntry m = (m.head.site < sites f t) × (granted v (record { site = m.head.site; said = NewView (change_of m); tag = m.tag }) ≡ true)

  entries_rise : (low place : ℕ) (ms : List Turn) → passed v (entries_steps f t round view low place ms) ≡ Ok (tt {0})
      → Ascending (λ (i : ℕ). i) low (sites f t) (map (λ (m : Turn). m.head.site) ms) × Each GoodEntry ms
  entries_rise low place [] h = (tt, tt)
  entries_rise low place (m ∷ ms) h =
      let p = append_ok v (entry_steps f t round view low place m) (entries_steps f t round view (m.head.site + 1) (place + length (turn_bytes m)) ms) h in
      let e = append_ok v (blamed (at_depth 1) (change_steps round view (rising (sites f t) low m.head.site) place (change_of m) m.tag)) (blamed (at_depth 2) (certified_steps f t round (behind_tag place m) m.committed)) p.0 in
      let g = change_through v round view (rising (sites f t) low m.head.site) place (change_of m) m.tag (blamed_ok (at_depth 1) v (change_steps round view (rising (sites f t) low m.head.site) place (change_of m) m.tag) e.0) in
      let s = rises (sites f t) low m.head.site g.is_known in
      let rest = entries_rise (m.head.site + 1) (place + length (turn_bytes m)) ms p.1 in
      ((s.0, s.1, rising_more m.head.site (sites f t) (map (λ (y : Turn). y.head.site) ms) rest.0), ((s.1, g.is_vouched), rest.1))

pub entries_are_counted : EntriesAreCounted
entries_are_counted v f t round view q place ms h k =
    let g = entries_rise v f t round view 0 place ms k in
    (as_many (λ (m : Turn). m.head.site) (sites f t) q ms h g.0, g.1)

pub counting : Counting
counting = record { votes = votes_are_counted; entries = entries_are_counted; shared = certificates_share; one_value = one_fast_value; highest = fast_is_highest; rule = finding_is_the_rule }

pub agreement : Agreement
agreement = record { decisions = decisions_agree; later = later_forced; never = never_conflict; happens = a_site_decides }
