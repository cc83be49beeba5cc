-- A certificate that passes, as the rules see it.
use Rattle.std.proofs.Common.{◌≡◌, ℕ, suc, ◌+◌, ◌<◌, ◌≤◌, Bool, true, false, not, cond, ◌&&◌, leb, ltb, List, [], ◌∷◌, ◌++◌, length, map, Some, None, Ok, Err, Option, Result, sym, refl, ap, ◌∙◌, arith}
use Rattle.std.specs.Prelude.{◌==◌}
use Rattle.std.proofs.lemmas.Bool.{eqb-true, ne_eqb, leb-true, ltb-true, and_parts}
use Rattle.values.specs.declared.fix.Report.{Report}
use Rattle.values.specs.Fleets.{sites, recovery_quorum, progress_quorum}
use Rattle.values.specs.Refusals.{Refused, layout, wrong_view, conflicting}
use Rattle.verdicts.specs.Rule.{Finding, free, forced, conflict, finding}
use Rattle.verdicts.specs.Told.{Told, finding_told}
use Rattle.wire.specs.declared.words.Malformed.{Malformed}
use Rattle.wire.specs.declared.statement.ViewChange.{ViewChange}
use Rattle.wire.specs.declared.statement.Statement.TheVariants.{NewView}
use Rattle.wire.specs.Contents.{report_bytes, statement_bytes, Vote, vote_bytes, Certified, reported, Turn, turn_bytes, change_of}
use Rattle.checks.specs.Vouching.{Vouched}
use Rattle.agreement.specs.Sites.{SiteSet, Ascending}
use Rattle.agreement.specs.Statements.{Said, new_view, In, Each, Of, Certificate, Entry, report_of, Quorum, FormedCertificate, Formed, prepares_of, certificate_statements, statements, Drafted}
use Rattle.agreement.specs.Statements as abstract
use Rattle.agreement.proofs.Agree.{each_split}
use Rattle.certificates.specs.Steps.{Question, granted, Step, test, ask, passed, asked, blamed}
use Rattle.certificates.specs.Faults.{Faulted, other_round, other_view, other_site, bad_count, bad_tag, at_depth}
use Rattle.certificates.specs.Examining.{rising, prepare_of, votes_steps, certified_steps, report_view, report_fix, change_steps, behind_tag, entries_needed, entry_steps, entries_steps, progress_steps}
use Rattle.certificates.specs.Judging.{reports_of, conflicts, judge_read, outcome}
use Rattle.certificates.specs.Runs.{said_of, certificate_of, entry_of, Meant}
use Rattle.certificates.proofs.Passing.{next, passed_append, answered_ok, answered_err, test_ok, append_ok, blamed_ok}
use Rattle.certificates.proofs.Moved.{Blames, blames_append, blames_blamed, blames_passed}
use Rattle.certificates.proofs.Laws.{length_map, rises, votes_rise}

-- what an entry reports, by its bytes and as the rules see it
pub report_same : (o : Option Certified) → report_of (certificate_of o) ≡ reported o
report_same None = refl
report_same (Some c) = refl

-- ---- the numbers of faults ----

abbrev number_of : Result (Unit {0}) Refused → ℕ
number_of (Ok u) = 0
number_of (Err e) = e.number

-- what every fault has
blames_all : {F : Type 0} (P : F → Type 0) → ((e : F) → P e) → (xs : List (Step F)) → Blames P xs
blames_all P all [] = tt
blames_all P all (test b e ∷ xs) = (all e, blames_all P all xs)
blames_all P all (ask q e ∷ xs) = (all e, blames_all P all xs)

next_behind : {F : Type 0} (r s : Result (Unit {0}) F) (e : F) → next r s ≡ Err e → (r ≡ Err e → ⊥) → (r ≡ Ok (tt {0})) × (s ≡ Err e)
next_behind (Ok u) s e h k = (refl, h)
next_behind (Err f) s e h k = absurd (k h)

-- a fault that is not among those in front: all in front is passed
pub behind : {F : Type 0} (P : F → Type 0) (v : Vouched) (xs ys : List (Step F)) (e : F) → passed v (xs ++ ys) ≡ Err e → Blames P xs → (P e → ⊥) → (passed v xs ≡ Ok (tt {0})) × (passed v ys ≡ Err e)
behind P v xs ys e h f k = next_behind (passed v xs) (passed v ys) e (sym (passed_append v xs ys) ∙ h) (λ z. k (blames_passed P v xs e f z))

-- of a certificate
abbrev pub Twelve : Refused → Type 0
Twelve e = e.number ≡ 12

pub depth_numbers : (depth : ℕ) (xs : List (Step Faulted)) → Blames Twelve (blamed (at_depth depth) xs)
depth_numbers depth xs = blames_blamed Twelve (at_depth depth) xs (blames_all (λ (e : Faulted). Twelve (at_depth depth e)) (λ e. refl) xs)

module _ (f t round view : ℕ) where
  entries_numbers : (low place : ℕ) (ms : List Turn) → Blames Twelve (entries_steps f t round view low place ms)
  entries_numbers low place [] = tt
  entries_numbers low place (m ∷ ms) =
      let own = change_steps round view (rising (sites f t) low m.head.site) place (change_of m) m.tag in
      let inner = certified_steps f t round (behind_tag place m) m.committed in
      let rest = entries_steps f t round view (m.head.site + 1) (place + length (turn_bytes m)) ms in
      let entry = blames_append Twelve (blamed (at_depth 1) own) (blamed (at_depth 2) inner) (depth_numbers 1 own) (depth_numbers 2 inner) in
      blames_append Twelve (entry_steps f t round view low place m) rest entry (entries_numbers (m.head.site + 1) (place + length (turn_bytes m)) ms)

  pub progress_numbers : (place : ℕ) (ms : List Turn) → Blames Twelve (progress_steps f t round view place ms)
  progress_numbers place ms = (refl, entries_numbers 0 (place + 4) ms)

-- ---- questions of lists of steps ----

each_join : {A : Type 0} (P : A → Type 0) (xs ys : List A) → Each P xs → Each P ys → Each P (xs ++ ys)
each_join P [] ys h k = k
each_join P (x ∷ xs) ys h k = (h.0, each_join P xs ys h.1 k)

module _ (v : Vouched) where
  pub asked_append : {F : Type 0} (xs ys : List (Step F)) → passed v xs ≡ Ok (tt {0}) → asked v (xs ++ ys) ≡ asked v xs ++ asked v ys
  asked_append [] ys h = refl
  asked_append (test b e ∷ xs) ys h = let p = test_ok b (passed v xs) e h in rw p.0 (asked_append xs ys p.1)
  asked_append (ask q e ∷ xs) ys h = let p = test_ok (granted v q) (passed v xs) e h in rw p.0 (ap (λ (qs : List Question). q ∷ qs) (asked_append xs ys p.1))

  pub asked_blamed : {E F : Type 0} (g : E → F) (xs : List (Step E)) → asked v (blamed g xs) ≡ asked v xs
  asked_blamed g [] = refl
  asked_blamed g (test b e ∷ xs) = ap (λ (qs : List Question). cond b qs []) (asked_blamed g xs)
  asked_blamed g (ask q e ∷ xs) = ap (λ (qs : List Question). q ∷ cond (granted v q) qs []) (asked_blamed g xs)

  -- the test behind a progress certificate fails for a conflict alone
  pub conflict_by : (x : Finding) (e : Refused) → passed v (test (not (conflicts x)) conflicting ∷ []) ≡ Err e → x ≡ conflict
  conflict_by free e h = absurd (let z : ◌≡◌ {A = ℕ} 0 1 = cc in omega arith)
  conflict_by (forced r c) e h = absurd (let z : ◌≡◌ {A = ℕ} 0 1 = cc in omega arith)
  conflict_by conflict e h = refl

  module _ (good : SiteSet) (log : List Said) where
    abbrev pub Means : {F : Type 0} → List (Step F) → Type 0
    Means xs = Meant good log v (asked v xs)

    pub meant_append : {F : Type 0} (xs ys : List (Step F)) → passed v xs ≡ Ok (tt {0}) → Means (xs ++ ys) → Means xs × Means ys
    meant_append xs ys h k = each_split (λ (q : Question). granted v q ≡ true → good q.site ≡ true → In (said_of q.said) log) (asked v xs) (asked v ys) (rw (asked_append xs ys h) at k)

    pub meant_test : {F : Type 0} (b : Bool) (e : F) (xs : List (Step F)) → b ≡ true → Means (test b e ∷ xs) → Means xs
    meant_test b e xs h k = rw h at k

    pub meant_ask : {F : Type 0} (q : Question) (e : F) (xs : List (Step F)) → granted v q ≡ true → Means (ask q e ∷ xs) → (good q.site ≡ true → In (said_of q.said) log) × Means xs
    meant_ask q e xs h k = (k.0 h, rw h at k.1)

    pub meant_blamed : {E F : Type 0} (g : E → F) (xs : List (Step E)) → Means (blamed g xs) → Means xs
    meant_blamed g xs k = rw (asked_blamed g xs) at k

    -- ---- commit certificates ----

    module _ (f t round : ℕ) where
      votes_drafted : (r : Report) (low place : ℕ) (xs : List Vote) → passed v (votes_steps f t round r low place xs) ≡ Ok (tt {0}) → Means (votes_steps f t round r low place xs)
          → Drafted good log (prepares_of r (map (λ (x : Vote). x.site) xs))
      votes_drafted r low place [] h k = tt
      votes_drafted r low place (x ∷ xs) h k =
          let q : Question = record { site = x.site; said = prepare_of round r x.site; tag = x.tag } in
          let rest = votes_steps f t round r (x.site + 1) (place + length (vote_bytes x)) xs in
          let p = test_ok (rising (sites f t) low x.site) _ (other_site place) h in
          let a = test_ok (granted v q) _ (bad_tag (place + 4)) p.1 in
          let k1 = meant_test (rising (sites f t) low x.site) (other_site place) (ask q (bad_tag (place + 4)) ∷ rest) p.0 k in
          let k2 = meant_ask q (bad_tag (place + 4)) rest a.0 k1 in
          (k2.0, votes_drafted r (x.site + 1) (place + length (vote_bytes x)) xs a.1 k2.1)

      -- the view of a report is one below
      below : (view place : ℕ) (r : Report) → passed v (report_view view place (Some r)) ≡ Ok (tt {0}) → (1 ≤ r.view) × (r.view < view)
      below view place r h =
          let p = test_ok (leb 1 r.view && ltb r.view view) _ (other_view (place + 4)) h in
          let s = and_parts (leb 1 r.view) (ltb r.view view) p.0 in
          (leb-true 1 r.view s.0, ltb-true r.view view s.1)

      certified_formed : (view place place' : ℕ) (o : Option Certified) → passed v (report_view view place' (reported o)) ≡ Ok (tt {0}) → passed v (certified_steps f t round place o) ≡ Ok (tt {0}) → Means (certified_steps f t round place o)
          → Of (FormedCertificate f t view) (certificate_of o) × Drafted good log (certificate_statements (certificate_of o))
      certified_formed view place place' None w h k = (tt, tt)
      certified_formed view place place' (Some c) w h k =
          let bounds = below view place' c.report w in
          let votes = votes_steps f t round c.report 0 (place + 4) c.votes in
          let p = test_ok (length c.votes == recovery_quorum f t) _ (bad_count place) h in
          let k1 = meant_test (length c.votes == recovery_quorum f t) (bad_count place) votes p.0 k in
          let g = votes_rise v f t round c.report 0 (place + 4) c.votes p.1 in (
            record {
              view_low = bounds.0;
              view_high = bounds.1;
              quorum = record { rising = g.0; enough = length_map (λ (x : Vote). x.site) c.votes ∙ eqb-true (length c.votes) (recovery_quorum f t) p.0 };
            },
            votes_drafted c.report 0 (place + 4) c.votes p.1 k1,
          )

    -- ---- new-views ----

    -- what a new-view's tests give
    record ChangeMeant (view place : ℕ) (known : Bool) (c : ViewChange) : Type 0 where
      of_view : c.head.view ≡ view
      is_known : known ≡ true
      said : good c.head.site ≡ true → In (new_view c.head.site c.head.view c.prepared c.committed) log
      second : passed v (report_view view (place + 16 + length (report_bytes c.prepared)) c.committed) ≡ Ok (tt {0})

    change_meant : (round view : ℕ) (known : Bool) (place : ℕ) (c : ViewChange) (tag : List ℕ) → passed v (change_steps round view known place c tag) ≡ Ok (tt {0}) → Means (change_steps round view known place c tag)
        → ChangeMeant view place known c
    change_meant round view known place c tag h z =
        let second = place + 16 + length (report_bytes c.prepared) in
        let q : Question = record { site = c.head.site; said = NewView c; tag = tag } in
        let last : List (Step Faulted) = ask q (bad_tag (place + length (statement_bytes (NewView c)))) ∷ [] in
        let l5 : List (Step Faulted) = report_fix second c.committed ++ last in
        let l4 : List (Step Faulted) = report_fix (place + 16) c.prepared ++ l5 in
        let l3 : List (Step Faulted) = test known (other_site (place + 12)) ∷ l4 in
        let l2 : List (Step Faulted) = report_view view second c.committed ++ l3 in
        let l1 : List (Step Faulted) = report_view view (place + 16) c.prepared ++ l2 in
        let l0 : List (Step Faulted) = test (c.head.view == view) (other_view (place + 8)) ∷ l1 in
        let a = test_ok (c.head.round == round) (passed v l0) (other_round (place + 4)) h in
        let z1 = meant_test (c.head.round == round) (other_round (place + 4)) l0 a.0 z in
        let b = test_ok (c.head.view == view) (passed v l1) (other_view (place + 8)) a.1 in
        let z2 = meant_test (c.head.view == view) (other_view (place + 8)) l1 b.0 z1 in
        let d = append_ok v (report_view view (place + 16) c.prepared) l2 b.1 in
        let z3 = meant_append (report_view view (place + 16) c.prepared) l2 d.0 z2 in
        let e = append_ok v (report_view view second c.committed) l3 d.1 in
        let z4 = meant_append (report_view view second c.committed) l3 e.0 z3.1 in
        let k = test_ok known (passed v l4) (other_site (place + 12)) e.1 in
        let z5 = meant_test known (other_site (place + 12)) l4 k.0 z4.1 in
        let m = append_ok v (report_fix (place + 16) c.prepared) l5 k.1 in
        let z6 = meant_append (report_fix (place + 16) c.prepared) l5 m.0 z5 in
        let n = append_ok v (report_fix second c.committed) last m.1 in
        let z7 = meant_append (report_fix second c.committed) last n.0 z6.1 in
        let g = test_ok (granted v q) _ (bad_tag (place + length (statement_bytes (NewView c)))) n.1 in
        record {
          of_view = eqb-true c.head.view view b.0;
          is_known = k.0;
          said = (meant_ask q (bad_tag (place + length (statement_bytes (NewView c)))) [] g.0 z7.1).0;
          second = e.0;
        }

    -- ---- progress certificates ----

    module _ (f t round view : ℕ) where
      pub record EntriesMeant (low : ℕ) (es : List Entry) : Type 0 where
        pub rising' : Ascending (λ (e : Entry). e.site) low (sites f t) es
        pub certificates : Each (λ e. Of (FormedCertificate f t view) e.committed) es
        pub drafted : Drafted good log (statements view es)

      entries_meant : (low place : ℕ) (ms : List Turn) → passed v (entries_steps f t round view low place ms) ≡ Ok (tt {0}) → Means (entries_steps f t round view low place ms) → EntriesMeant low (map entry_of ms)
      entries_meant low place [] h k = record { rising' = tt; certificates = tt; drafted = tt }
      entries_meant low place (m ∷ ms) h k =
          let rest = entries_steps f t round view (m.head.site + 1) (place + length (turn_bytes m)) ms in
          let own = change_steps round view (rising (sites f t) low m.head.site) place (change_of m) m.tag in
          let inner = certified_steps f t round (behind_tag place m) m.committed in
          let p = append_ok v (entry_steps f t round view low place m) rest h in
          let z = meant_append (entry_steps f t round view low place m) rest p.0 k in
          let q = append_ok v (blamed (at_depth 1) own) (blamed (at_depth 2) inner) p.0 in
          let y = meant_append (blamed (at_depth 1) own) (blamed (at_depth 2) inner) q.0 z.0 in
          let c = change_meant round view (rising (sites f t) low m.head.site) place (change_of m) m.tag (blamed_ok (at_depth 1) v own q.0) (meant_blamed (at_depth 1) own y.0) in
          let g = certified_formed f t round view (behind_tag place m) (place + 16 + length (report_bytes m.prepared)) m.committed c.second (blamed_ok (at_depth 2) v inner q.1) (meant_blamed (at_depth 2) inner y.1) in
          let s = rises (sites f t) low m.head.site c.is_known in
          let others = entries_meant (m.head.site + 1) (place + length (turn_bytes m)) ms p.1 z.1 in
          let up : suc m.head.site ≡ m.head.site + 1 = omega arith in
          let mine : good m.head.site ≡ true → In (new_view m.head.site view m.prepared (report_of (certificate_of m.committed))) log =
          λ x. rw (sym c.of_view, report_same m.committed) (c.said x) in
          record {
            rising' = (s.0, s.1, rw up others.rising');
            certificates = (g.0, others.certificates);
            drafted = (mine, each_join (λ (x : Said). good (abstract.who x) ≡ true → In x log) (certificate_statements (certificate_of m.committed)) (statements view (map entry_of ms)) g.1 others.drafted);
          }

      -- a progress certificate that passes
      pub progress_meant : (place : ℕ) (ms : List Turn) → passed v (progress_steps f t round view place ms) ≡ Ok (tt {0}) → Means (progress_steps f t round view place ms)
          → (length ms ≡ entries_needed f t view) × EntriesMeant 0 (map entry_of ms)
      progress_meant place ms h k =
          let entries = entries_steps f t round view 0 (place + 4) ms in
          let p = test_ok (length ms == entries_needed f t view) (passed v entries) (at_depth 1 (bad_count place)) h in
          let z = meant_test (length ms == entries_needed f t view) (at_depth 1 (bad_count place)) entries p.0 k in
          (eqb-true (length ms) (entries_needed f t view) p.0, entries_meant 0 (place + 4) ms p.1 z)

      -- its entries are formed as the rules want them, above view 1
      pub formed : (ms : List Turn) → 1 < view → length ms ≡ entries_needed f t view → EntriesMeant 0 (map entry_of ms) → Formed f t view (map entry_of ms)
      formed ms l h e =
          record {
            rising = e.rising';
            enough = length_map entry_of ms ∙ h ∙ needed l;
            certificates = e.certificates;
          }
        where
          needed : 1 < view → entries_needed f t view ≡ progress_quorum f t
          needed l = rw (ne_eqb view 1 (λ q. omega arith))

      -- ---- what was judged ----

      abbrev Finds : List Turn → Finding
      Finds ms = finding f t (reports_of ms)

      abbrev last_test : List Turn → List (Step Refused)
      last_test ms = test (not (conflicts (Finds ms))) conflicting ∷ []

      pub record Judged (x : Told) : Type 0 where
        pub turns : List Turn
        pub view_low : 1 ≤ view
        pub count : length turns ≡ entries_needed f t view
        pub entries : EntriesMeant 0 (map entry_of turns)
        pub told : x ≡ finding_told (Finds turns)

      pub judged_ok : (r : Result (List Turn) Malformed) (x : Told) → outcome v (judge_read f t round view r) ≡ Ok x → Means (judge_read f t round view r).steps → Judged x
      judged_ok (Err e) x h k = absurd (let z : ◌≡◌ {A = ℕ} 0 1 = cc in omega arith)
      judged_ok (Ok ms) x h k =
          let steps = progress_steps f t round view 0 ms ++ last_test ms in
          let a = answered_ok (passed v (test (leb 1 view) (wrong_view 0) ∷ steps)) (finding_told (Finds ms)) x (sym h) in
          let p = test_ok (leb 1 view) (passed v steps) (wrong_view 0) a.0 in
          let z = meant_test (leb 1 view) (wrong_view 0) steps p.0 k in
          let q = append_ok v (progress_steps f t round view 0 ms) (last_test ms) p.1 in
          let y = meant_append (progress_steps f t round view 0 ms) (last_test ms) q.0 z in
          let m = progress_meant 0 ms q.0 y.0 in
          record { turns = ms; view_low = leb-true 1 view p.0; count = m.0; entries = m.1; told = a.1 }

      -- what was refused with 14
      pub record Conflicted : Type 0 where
        pub turns : List Turn
        pub view_low : 1 ≤ view
        pub count : length turns ≡ entries_needed f t view
        pub entries : EntriesMeant 0 (map entry_of turns)
        pub found : Finds turns ≡ conflict

      conflicted_in : (ms : List Turn) → passed v (progress_steps f t round view 0 ms ++ last_test ms) ≡ Err conflicting → Means (progress_steps f t round view 0 ms ++ last_test ms) → 1 ≤ view → Conflicted
      conflicted_in ms h k one =
          let p = behind Twelve v (progress_steps f t round view 0 ms) (last_test ms) conflicting h (progress_numbers f t round view 0 ms) (λ z. omega arith) in
          let y = meant_append (progress_steps f t round view 0 ms) (last_test ms) p.0 k in
          let m = progress_meant 0 ms p.0 y.0 in
          record { turns = ms; view_low = one; count = m.0; entries = m.1; found = conflict_by (Finds ms) conflicting p.1 }

      conflicted_at : (ms : List Turn) (b : Bool) → leb 1 view ≡ b → passed v (test b (wrong_view 0) ∷ (progress_steps f t round view 0 ms ++ last_test ms)) ≡ Err conflicting
          → Means (test b (wrong_view 0) ∷ (progress_steps f t round view 0 ms ++ last_test ms)) → Conflicted
      conflicted_at ms true e h k =
          conflicted_in ms h k (leb-true 1 view e)
      conflicted_at ms false e h k = absurd (let z = ap number_of h in omega (arith, z))

      pub judged_conflict : (r : Result (List Turn) Malformed) → outcome v (judge_read f t round view r) ≡ Err conflicting → Means (judge_read f t round view r).steps → Conflicted
      judged_conflict (Err e) h k = absurd (let z : layout e.place ≡ conflicting = cc in omega (arith, ap (λ (x : Refused). x.number) z))
      judged_conflict (Ok ms) h k =
          conflicted_at ms (leb 1 view) refl (answered_err _ (finding_told (Finds ms)) conflicting (sym h)) k
