-- What calls ask their check about.
use Rattle.std.proofs.Common.{◌≡◌, ℕ, ◌+◌, ◌^◌, ◌<◌, ◌≤◌, Bool, true, false, cond, not, ◌&&◌, ltb, List, [], ◌∷◌, ◌++◌, length, Some, None, Ok, Err, Option, Result, sym, refl, ap, ◌∙◌, subst, arith}
use Rattle.std.specs.Prelude.{◌==◌, nat_le, nat_lt}
use Rattle.std.proofs.lemmas.Bool.{and_parts, eqb-true, ltb-true}
use Rattle.buffers.specs.Words.{Bytes}
use Rattle.values.specs.declared.fix.Value.{Value}
use Rattle.values.specs.declared.fix.Report.{Report}
use Rattle.values.specs.Fleets.{sites, legal_fleet, recovery_quorum, progress_quorum, leader_of}
use Rattle.values.specs.Fixes.{legal_value}
use Rattle.values.specs.Refusals.{Refused, layout, short, illegal, repeated, equivocation, gathered_already, may_not_propose, not_forced, not_higher, wrong_view, conflicting}
use Rattle.verdicts.specs.Rule.{same, finding}
use Rattle.wire.specs.declared.words.Malformed.{Malformed}
use Rattle.wire.specs.declared.statement.Claim.{Claim}
use Rattle.wire.specs.declared.statement.ViewChange.{ViewChange}
use Rattle.wire.specs.declared.statement.Statement.{Statement}
use Rattle.wire.specs.declared.statement.Statement.TheVariants.{Propose, Prepare, Commit, NewView}
use Rattle.wire.specs.Contents.{report_bytes, statement_bytes, tag_bytes, Vote, vote_bytes, Certified, reported, Turn, turn_bytes, change_of, Content, propose, prepare, commit, new_view}
use Rattle.wire.specs.Layout.{message_of, progress_at, progress_of, draft_end}
use Rattle.packets.specs.Fits.{ValueFits, HeadFits, ReportFits, ClaimFits, ChangeFits, StatementFits, TurnFits, TurnsFit, ContentFits}
use Rattle.packets.proofs.Only.{progress_only, wholly_ok}
use Rattle.packets.proofs.Whole.{message_only}
use Rattle.checks.specs.Vouching.{Vouched}
use Rattle.agreement.specs.Statements.{Each}
use Rattle.certificates.specs.Steps.{Question, granted, Step, test, ask, passed, asked, blamed}
use Rattle.certificates.specs.Faults.{Faulted, at_depth, in_message, bad_count, other_round, other_view, other_site, illegal_fix, bad_tag}
use Rattle.certificates.specs.Examining.{rising, prepare_of, votes_steps, certificate_steps, certified_steps, claim_steps, report_view, report_fix, change_steps, behind_tag, entries_needed, entry_steps, entries_steps, progress_steps}
use Rattle.certificates.specs.Judging.{Call, reports_of, conflicts, verdict_call, judge_read, judge_call}
use Rattle.certificates.proofs.Meaning.{asked_blamed}
use Rattle.certificates.proofs.Laws.{rises}
use Rattle.records.specs.Sizes.{sizes_of, covers}
use Rattle.records.specs.Rows.{row_of}
use Rattle.records.specs.Books.{Books, lent_sizes}
use Rattle.records.specs.Kept.{Membership, Kept}
use Rattle.calls.specs.Gathering.{is_gathered, gathered, turns_read}
use Rattle.calls.specs.Steps.{permits, row_steps, is_of, room_steps, leads, due, propose_steps, hear_propose_steps, hear_prepare_steps, hear_commit_steps, hear_new_view_steps, claim_heard, change_heard, expected, leave_steps}
use Rattle.calls.specs.Effects.{head_of, Effect, wrote, unchanged}
use Rattle.calls.specs.Calls.{Request, to_propose, to_hear, to_leave, to_seal, to_judge, to_read, reading, propose_gathered, propose_call, hear_content, hear_call, leave_call, sealing_at, seal_call, call}
use Rattle.calls.proofs.Joined.{turns_are}
use Rattle.calls.proofs.Filling.{few_sites, leader_inside}
use Rattle.runs.specs.Runs.{Behaviour, by_the_rules, World, Event, questions, OfWords}
use Rattle.runs.specs.Laws.{InForm}

module _ (v : Vouched) (P : Question → Type 0) where
  -- steps that ask only what has the property
  abbrev AsksOnly : {F : Type 0} → List (Step F) → Type 0
  AsksOnly xs = Each P (asked v xs)

  -- behind a question, by its answer
  behind_answer : {F : Type 0} (b : Bool) (e : F) (xs zs : List (Step F)) → Each P (cond b (asked v xs) []) → (cond b (passed v xs) (Err e) ≡ Ok (tt {0}) → AsksOnly zs)
      → (AsksOnly xs → (passed v xs ≡ Ok (tt {0}) → AsksOnly zs) → AsksOnly (xs ++ zs)) → Each P (cond b (asked v (xs ++ zs)) [])
  behind_answer true e xs zs h k both = both h k
  behind_answer false e xs zs h k both = tt

  -- steps behind steps, which are reached once those before are passed
  asks_append : {F : Type 0} (xs zs : List (Step F)) → AsksOnly xs → (passed v xs ≡ Ok (tt {0}) → AsksOnly zs) → AsksOnly (xs ++ zs)
  asks_append [] zs h k = k refl
  asks_append (test true e ∷ xs) zs h k = asks_append xs zs h k
  asks_append (test false e ∷ xs) zs h k = tt
  asks_append (ask q e ∷ xs) zs h k = (h.0, behind_answer (granted v q) e xs zs h.1 k (asks_append xs zs))

  -- questions that are asked only once a test is true
  each_if : (b : Bool) (qs : List Question) → (b ≡ true → Each P qs) → Each P (cond b qs [])
  each_if true qs h = h refl
  each_if false qs h = tt

  -- what stands behind a test is reached once it is true, and behind a question once it is answered yes
  asks_test : {F : Type 0} (b : Bool) (e : F) (xs : List (Step F)) → (b ≡ true → AsksOnly xs) → AsksOnly (test b e ∷ xs)
  asks_test b e xs h = each_if b (asked v xs) h

  asks_ask : {F : Type 0} (q : Question) (e : F) (xs : List (Step F)) → P q → (granted v q ≡ true → AsksOnly xs) → AsksOnly (ask q e ∷ xs)
  asks_ask q e xs p h = (p, each_if (granted v q) (asked v xs) h)

  asks_blamed : {E F : Type 0} (g : E → F) (xs : List (Step E)) → AsksOnly xs → AsksOnly (blamed g xs)
  asks_blamed g xs h = subst (Each P) (sym (asked_blamed v g xs)) h

module _ (v : Vouched) (f t round : ℕ) (few : sites f t ≤ 16) (word : round < 2 ^ 32) where
  abbrev Form : Question → Type 0
  Form = InForm (sites f t) round

  -- whatever steps ask is in form
  abbrev Fine : {F : Type 0} → List (Step F) → Type 0
  Fine xs = AsksOnly v Form xs

  -- ---- commit certificates ----

  votes_fine : (r : Report) (low place : ℕ) (xs : List Vote) → r.view < 2 ^ 32 → ValueFits r.value → Fine (votes_steps f t round r low place xs)
  votes_fine r low place [] view value = tt
  votes_fine r low place (x ∷ xs) view value =
      let q : Question = record { site = x.site; said = prepare_of round r x.site; tag = x.tag } in
      let rest = votes_steps f t round r (x.site + 1) (place + length (vote_bytes x)) xs in
      asks_test v Form (rising (sites f t) low x.site) (other_site place) (ask q (bad_tag (place + 4)) ∷ rest) (λ k.
      let inside = (rises (sites f t) low x.site k).1 in
      let head : HeadFits (head_of q.said) = record { round = word; view = view; site = omega arith } in
      let form : Form q = record { site = inside; own = refl; round_is = refl; fits = (head, value) } in
      asks_ask v Form q (bad_tag (place + 4)) rest form (λ g. votes_fine r (x.site + 1) (place + length (vote_bytes x)) xs view value))

  certificate_fine : (r : Report) (place : ℕ) (xs : List Vote) → r.view < 2 ^ 32 → ValueFits r.value → Fine (certificate_steps f t round r place xs)
  certificate_fine r place xs view value =
      asks_test v Form (length xs == recovery_quorum f t) (bad_count place) (votes_steps f t round r 0 (place + 4) xs) (λ k. votes_fine r 0 (place + 4) xs view value)

  certified_fine : (place : ℕ) (o : Option Certified) → ReportFits (reported o) → Fine (certified_steps f t round place o)
  certified_fine place None fits = tt
  certified_fine place (Some c) fits = certificate_fine c.report place c.votes fits.0 fits.1

  -- ---- claims and new-views ----

  claim_fine : (view : ℕ) (known : Bool) (c : Claim) (said : Statement) (tag : List ℕ) → head_of said ≡ c.head → (known ≡ true → c.head.site < sites f t) → StatementFits said
      → Fine (claim_steps round view known c said tag)
  claim_fine view known c said tag own inside fits =
      let q : Question = record { site = c.head.site; said = said; tag = tag } in
      let last : List (Step Faulted) = ask q (bad_tag 28) ∷ [] in
      let l3 : List (Step Faulted) = test (legal_value c.value) (illegal_fix 16) ∷ last in
      let l2 : List (Step Faulted) = test known (other_site 12) ∷ l3 in
      let l1 : List (Step Faulted) = test (c.head.view == view) (other_view 8) ∷ l2 in
      asks_test v Form (c.head.round == round) (other_round 4) l1 (λ a.
      asks_test v Form (c.head.view == view) (other_view 8) l2 (λ b.
      asks_test v Form known (other_site 12) l3 (λ k.
      asks_test v Form (legal_value c.value) (illegal_fix 16) last (λ d.
      let form : Form q = record { site = inside k; own = ap (λ h. h.site) own; round_is = ap (λ h. h.round) own ∙ eqb-true c.head.round round a; fits = fits } in
      asks_ask v Form q (bad_tag 28) [] form (λ g. tt)))))

  -- the tests of reports ask nothing
  view_fine : (view place : ℕ) (o : Option Report) → Fine (report_view view place o)
  view_fine view place None = tt
  view_fine view place (Some r) = asks_test v Form (nat_le 1 r.view && nat_lt r.view view) (other_view (place + 4)) [] (λ k. tt)

  fix_fine : (place : ℕ) (o : Option Report) → Fine (report_fix place o)
  fix_fine place None = tt
  fix_fine place (Some r) = asks_test v Form (legal_value r.value) (illegal_fix (place + 8)) [] (λ k. tt)

  change_fine : (view : ℕ) (known : Bool) (place : ℕ) (c : ViewChange) (tag : List ℕ) → (known ≡ true → c.head.site < sites f t) → ChangeFits c
      → Fine (change_steps round view known place c tag)
  change_fine view known place c tag inside fits =
      let second = place + 16 + length (report_bytes c.prepared) in
      let q : Question = record { site = c.head.site; said = NewView c; tag = tag } in
      let at = bad_tag (place + length (statement_bytes (NewView c))) in
      let last : List (Step Faulted) = ask q at ∷ [] in
      let l5 : List (Step Faulted) = report_fix second c.committed ++ last in
      let l4 : List (Step Faulted) = report_fix (place + 16) c.prepared ++ l5 in
      let l3 : List (Step Faulted) = test known (other_site (place + 12)) ∷ l4 in
      let l2 : List (Step Faulted) = report_view view second c.committed ++ l3 in
      let l1 : List (Step Faulted) = report_view view (place + 16) c.prepared ++ l2 in
      let l0 : List (Step Faulted) = test (c.head.view == view) (other_view (place + 8)) ∷ l1 in
      asks_test v Form (c.head.round == round) (other_round (place + 4)) l0 (λ a.
      asks_test v Form (c.head.view == view) (other_view (place + 8)) l1 (λ b.
      asks_append v Form (report_view view (place + 16) c.prepared) l2 (view_fine view (place + 16) c.prepared) (λ x1.
      asks_append v Form (report_view view second c.committed) l3 (view_fine view second c.committed) (λ x2.
      asks_test v Form known (other_site (place + 12)) l4 (λ k.
      asks_append v Form (report_fix (place + 16) c.prepared) l5 (fix_fine (place + 16) c.prepared) (λ x3.
      asks_append v Form (report_fix second c.committed) last (fix_fine second c.committed) (λ x4.
      let form : Form q = record { site = inside k; own = refl; round_is = eqb-true c.head.round round a; fits = fits } in
      asks_ask v Form q at [] form (λ g. tt))))))))

  -- ---- progress certificates ----

  module _ (limit view : ℕ) where
    entry_fine : (low place : ℕ) (m : Turn) → TurnFits limit m → Fine (entry_steps f t round view low place m)
    entry_fine low place m fits =
        let known = rising (sites f t) low m.head.site in
        let own = change_steps round view known place (change_of m) m.tag in
        let inner = certified_steps f t round (behind_tag place m) m.committed in
        asks_append v Form (blamed (at_depth 1) own) (blamed (at_depth 2) inner)
        (asks_blamed v Form (at_depth 1) own (change_fine view known place (change_of m) m.tag (λ k. (rises (sites f t) low m.head.site k).1) fits.change))
        (λ h. asks_blamed v Form (at_depth 2) inner (certified_fine (behind_tag place m) m.committed fits.change.2))

    entries_fine : (low place : ℕ) (ms : List Turn) → TurnsFit limit ms → Fine (entries_steps f t round view low place ms)
    entries_fine low place [] fits = tt
    entries_fine low place (m ∷ ms) fits =
        asks_append v Form (entry_steps f t round view low place m) (entries_steps f t round view (m.head.site + 1) (place + length (turn_bytes m)) ms)
        (entry_fine low place m fits.0) (λ h. entries_fine (m.head.site + 1) (place + length (turn_bytes m)) ms fits.1)

    progress_fine : (place : ℕ) (ms : List Turn) → TurnsFit limit ms → Fine (progress_steps f t round view place ms)
    progress_fine place ms fits =
        asks_test v Form (length ms == entries_needed f t view) (at_depth 1 (bad_count place)) (entries_steps f t round view 0 (place + 4) ms) (λ k. entries_fine 0 (place + 4) ms fits)

    verdict_fine : (place : ℕ) (ms : List Turn) → TurnsFit limit ms → Fine (verdict_call f t round view place ms).steps
    verdict_fine place ms fits =
        let ok = not (conflicts (finding f t (reports_of ms))) in
        asks_append v Form (progress_steps f t round view place ms) (test ok conflicting ∷ []) (progress_fine place ms fits)
        (λ h. asks_test v Form ok conflicting [] (λ k. tt))

    judge_fine : (r : Result (List Turn) Malformed) → ((ms : List Turn) → r ≡ Ok ms → TurnsFit limit ms) → Fine (judge_read f t round view r).steps
    judge_fine (Ok ms) fits = asks_test v Form (nat_le 1 view) (wrong_view 0) (verdict_call f t round view 0 ms).steps (λ k. verdict_fine 0 ms (fits ms refl))
    judge_fine (Err e) fits = tt

    -- a certificate of bytes is read as new-views of words
    turns_of_bytes : (b : List ℕ) (ms : List Turn) → Bytes b → progress_of limit b ≡ Ok ms → TurnsFit limit ms
    unfolding progress_of
    turns_of_bytes b ms bytes h =
        let w = wholly_ok b (progress_at limit b 0) ms h in
        subst (TurnsFit limit) w.3 (progress_only limit b 0 w.0 bytes w.1).2

    judge_call_fine : (b : List ℕ) → Bytes b → Fine (judge_call f t limit round view b).steps
    unfolding judge_call
    judge_call_fine b bytes = judge_fine (progress_of limit b) (λ ms h. turns_of_bytes b ms bytes h)

-- ---- calls ----

module _ (v : Vouched) (P : Question → Type 0) where
  -- a reading that fails asks nothing
  reading_fine : {A B : Type 0} (no_answer : B) (r : Result A Malformed) (next : A → Call B) → ((x : A) → r ≡ Ok x → AsksOnly v P (next x).steps) → AsksOnly v P (reading no_answer r next).steps
  reading_fine no_answer (Ok x) next h = h x refl
  reading_fine no_answer (Err e) next h = tt

  row_fine : (o : Option Value) (d : Value) → AsksOnly v P (row_steps o d)
  row_fine None d = tt
  row_fine (Some e) d = asks_test v P (not (same e d)) repeated (test false equivocation ∷ []) (λ k. tt)

module _ (v : Vouched) (m : Membership) (k : Kept) (few : sites m.f m.t ≤ 16) (round : k.round < 2 ^ 32) (view : k.view < 2 ^ 32) where
  -- in form, in the fleet and the round of the site
  abbrev KeptForm : Question → Type 0
  KeptForm = InForm (sites m.f m.t) k.round

  -- ---- what is heard ----

  claim_heard_fine : (known : Bool) (c : Claim) (said : Statement) (tag : List ℕ) → head_of said ≡ c.head → (known ≡ true → c.head.site < sites m.f m.t) → StatementFits said
      → AsksOnly v KeptForm (claim_heard k known c said tag)
  unfolding claim_heard
  claim_heard_fine known c said tag own inside fits =
      asks_blamed v KeptForm in_message (claim_steps k.round k.view known c said tag) (claim_fine v m.f m.t k.round few round k.view known c said tag own inside fits)

  propose_fine : (c : Claim) (tag : List ℕ) (ms : List Turn) → ClaimFits c → TurnsFit m.limit ms → AsksOnly v KeptForm (hear_propose_steps m k c tag ms)
  unfolding hear_propose_steps
  propose_fine c tag ms fits turns =
      let known = c.head.site == leader_of (sites m.f m.t) k.view in
      let verdict = (verdict_call m.f m.t k.round k.view (28 + length (tag_bytes tag)) ms).steps in
      let allowed = permits (finding m.f m.t (reports_of ms)) c.value in
      let last : List (Step Refused) = test allowed not_forced ∷ [] in
      let new = not (is_of k.view k.prepared) in
      asks_append v KeptForm (claim_heard k known c (Propose c) tag) (test new repeated ∷ (verdict ++ last))
      (claim_heard_fine known c (Propose c) tag refl (λ h. leader_inside m k c.head.site (eqb-true c.head.site (leader_of (sites m.f m.t) k.view) h)) fits)
      (λ h. asks_test v KeptForm new repeated (verdict ++ last) (λ e.
      asks_append v KeptForm verdict last (verdict_fine v m.f m.t k.round few round m.limit k.view (28 + length (tag_bytes tag)) ms turns) (λ p.
      asks_test v KeptForm allowed not_forced [] (λ q. tt))))

  prepare_fine : (c : Claim) (tag : List ℕ) → ClaimFits c → AsksOnly v KeptForm (hear_prepare_steps m k c tag)
  unfolding hear_prepare_steps
  prepare_fine c tag fits =
      let known = nat_lt c.head.site (sites m.f m.t) in
      let row = row_of k.rows.prepares c.head.site in
      asks_append v KeptForm (claim_heard k known c (Prepare c) tag) (row_steps row c.value)
      (claim_heard_fine known c (Prepare c) tag refl (ltb-true c.head.site (sites m.f m.t)) fits) (λ h. row_fine v KeptForm row c.value)

  commit_fine : (c : Claim) (tag : List ℕ) (votes : List Vote) → ClaimFits c → AsksOnly v KeptForm (hear_commit_steps m k c tag votes)
  unfolding hear_commit_steps
  commit_fine c tag votes fits =
      let known = nat_lt c.head.site (sites m.f m.t) in
      let row = row_of k.rows.commits c.head.site in
      let place = 28 + length (tag_bytes tag) in
      let r : Report = record { view = k.view; value = c.value } in
      let certificate = certificate_steps m.f m.t k.round r place votes in
      asks_append v KeptForm (claim_heard k known c (Commit c) tag) (row_steps row c.value ++ blamed (at_depth 1) certificate)
      (claim_heard_fine known c (Commit c) tag refl (ltb-true c.head.site (sites m.f m.t)) fits)
      (λ h. asks_append v KeptForm (row_steps row c.value) (blamed (at_depth 1) certificate) (row_fine v KeptForm row c.value)
      (λ e. asks_blamed v KeptForm (at_depth 1) certificate (certificate_fine v m.f m.t k.round few round r place votes view fits.1)))

  new_view_fine : (x : Turn) → TurnFits m.limit x → AsksOnly v KeptForm (hear_new_view_steps m k x)
  unfolding hear_new_view_steps change_heard
  new_view_fine x fits =
      let i = x.head.site in
      let n = sites m.f m.t in
      let own = change_steps k.round k.view (expected m k i) 0 (change_of x) x.tag in
      let inner = certified_steps m.f m.t k.round (behind_tag 0 x) x.committed in
      let last = blamed (at_depth 1) inner in
      let few_there = nat_lt (length (gathered m k)) (progress_quorum m.f m.t) in
      let inside : expected m k i ≡ true → i < n = λ h. ltb-true i n (and_parts (ltb i n) (leads m k) (and_parts (ltb i n && leads m k) (not (k.view == 1)) h).0).0 in
      asks_append v KeptForm (blamed in_message own) (test (not (is_gathered m k i)) repeated ∷ test few_there gathered_already ∷ last)
      (asks_blamed v KeptForm in_message own (change_fine v m.f m.t k.round few round k.view (expected m k i) 0 (change_of x) x.tag inside fits.change))
      (λ h. asks_test v KeptForm (not (is_gathered m k i)) repeated (test few_there gathered_already ∷ last) (λ a.
      asks_test v KeptForm few_there gathered_already last (λ b.
      asks_blamed v KeptForm (at_depth 1) inner (certified_fine v m.f m.t k.round few round (behind_tag 0 x) x.committed fits.change.2))))

  module _ (books : Books) (out : ℕ) where
    abbrev no_effect : Effect
    no_effect = unchanged m k books (wrote 0)

    content_fine : (packet : List ℕ) (x : Content) → ContentFits m.limit x → AsksOnly v KeptForm (hear_content m k books packet x).steps
    content_fine packet (propose c tag ms) fits = propose_fine c tag ms fits.0 fits.3
    content_fine packet (prepare c tag) fits = prepare_fine c tag fits.0
    content_fine packet (commit c tag votes) fits = commit_fine c tag votes fits.0
    content_fine packet (new_view x) fits = new_view_fine x fits

    -- ---- each kind of call ----

    -- the test of what is lent, and what follows it
    room_first : (xs : List (Step Refused)) → AsksOnly v KeptForm xs → AsksOnly v KeptForm (room_steps m (lent_sizes books out) ++ xs)
    room_first xs h = asks_test v KeptForm (covers (lent_sizes books out) (sizes_of m.f m.t m.limit)) short xs (λ e. h)

    propose_call_fine : (d : Value) → Bytes books.views → AsksOnly v KeptForm (propose_call m k books out d).steps
    unfolding propose_call propose_steps
    propose_call_fine d bytes =
        let may = leads m k && not k.proposed && due m k in
        let read = turns_read m k books.views 4 (gathered m k) in
        let rest = (reading no_effect read (propose_gathered m k books d)).steps in
        room_first (propose_steps m k d ++ rest)
        (asks_test v KeptForm (legal_value d) (illegal 0) (test may may_not_propose ∷ rest) (λ a.
        asks_test v KeptForm may may_not_propose rest (λ b.
        reading_fine v KeptForm no_effect read (propose_gathered m k books d) (λ xs h.
        verdict_fine v m.f m.t k.round few round m.limit k.view 0 xs (turns_are m k books bytes 4 (gathered m k) xs h).1))))

    hear_call_fine : (packet : List ℕ) → Bytes packet → AsksOnly v KeptForm (hear_call m k books out packet).steps
    unfolding hear_call
    hear_call_fine packet bytes =
        room_first (reading no_effect (message_of m.limit packet) (hear_content m k books packet)).steps
        (reading_fine v KeptForm no_effect (message_of m.limit packet) (hear_content m k books packet) (λ x h.
        content_fine packet x (message_only m.limit packet bytes x h).1))

    leave_call_fine : (to : ℕ) → AsksOnly v KeptForm (leave_call m k books out to).steps
    unfolding leave_call
    leave_call_fine to = room_first (leave_steps m k to) (asks_test v KeptForm (nat_lt k.view to) not_higher [] (λ h. tt))

    seal_call_fine : (draft tag : List ℕ) → AsksOnly v KeptForm (seal_call m k books out draft tag).steps
    unfolding seal_call
    seal_call_fine draft tag =
        let read = (reading no_effect (draft_end m.limit draft) (sealing_at m k books draft tag)).steps in
        let short_tag = nat_le (length tag) m.limit in
        let has_room = nat_le (length draft + (m.limit + 4)) out in
        asks_test v KeptForm short_tag (layout 0) (test has_room short ∷ read) (λ a.
        asks_test v KeptForm has_room short read (λ b.
        reading_fine v KeptForm no_effect (draft_end m.limit draft) (sealing_at m k books draft tag) (λ end h. tt)))

    -- every call
    call_fine : (r : Request) → Bytes books.views → OfWords r → AsksOnly v KeptForm (call m k books out r).steps
    call_fine (to_propose d) views words = propose_call_fine d views
    call_fine (to_hear packet) views words = hear_call_fine packet words
    call_fine (to_leave to) views words = leave_call_fine to
    call_fine (to_seal draft tag) views words = seal_call_fine draft tag
    call_fine (to_judge to bytes) views words = judge_call_fine v m.f m.t k.round few round m.limit to bytes words.1
    call_fine to_read views words = tt

-- what a call asks is in form
pub asked_in_form : (w : World) (e : Event) → (w e.site).behaviour ≡ by_the_rules → legal_fleet (w e.site).member.f (w e.site).member.t ≡ true → (w e.site).kept.round < 2 ^ 32 → (w e.site).kept.view < 2 ^ 32
    → Bytes (w e.site).books.views → OfWords e.request
    → Each (InForm (sites (w e.site).member.f (w e.site).member.t) (w e.site).kept.round) (questions w e)
asked_in_form w e behaves fleet round view books words =
    let s = w e.site in
    subst (λ (b : Behaviour). Each (InForm (sites s.member.f s.member.t) s.kept.round) (b.asks e.check s.member s.kept s.books (length e.out) e.request)) (sym behaves)
    let s = w e.site in
    call_fine e.check s.member s.kept (few_sites s.member.f s.member.t fleet) round view s.books (length e.out) e.request books words
