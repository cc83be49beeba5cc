-- What a refused call went through, by the number of its refusal.
use Rattle.std.proofs.Common.{◌≡◌, ◌≢◌, ℕ, ◌+◌, ◌≤◌, Bool, true, false, not, cond, ◌&&◌, leb, ◌⊎◌, List, [], ◌∷◌, ◌++◌, length, Some, None, Ok, Err, Option, Result, sym, refl, ◌∙◌, inl, inr, arith}
use Rattle.std.specs.Prelude.{◌==◌, nat_lt}
use Rattle.std.proofs.lemmas.Bool.{leb-true, le-leb, and_parts}
use Rattle.values.specs.declared.fix.Report.{Report}
use Rattle.values.specs.declared.fix.Value.{Value}
use Rattle.values.specs.Refusals.{Refused, layout, wrong_view, repeated, gathered_already, conflicting, not_forced}
use Rattle.values.specs.Fleets.{sites, progress_quorum, leader_of}
use Rattle.verdicts.specs.Rule.{finding, conflict}
use Rattle.wire.specs.declared.words.Malformed.{Malformed}
use Rattle.wire.specs.declared.statement.Claim.{Claim}
use Rattle.wire.specs.declared.statement.ViewChange.{ViewChange}
use Rattle.wire.specs.declared.statement.Statement.{Statement}
use Rattle.wire.specs.declared.statement.Statement.TheVariants.{Propose, Prepare, Commit}
use Rattle.wire.specs.Contents.{tag_bytes, Content, propose, prepare, commit, new_view, report_bytes, Turn, change_of}
use Rattle.wire.specs.Layout.{message_of, draft_end, progress_of}
use Rattle.checks.specs.Vouching.{Vouched}
use Rattle.agreement.specs.Statements.{Each}
use Rattle.agreement.proofs.Agree.{each_split}
use Rattle.certificates.specs.Steps.{Question, Step, test, ask, granted, passed, asked, blamed}
use Rattle.certificates.specs.Faults.{Faulted, at_depth, in_message}
use Rattle.certificates.specs.Examining.{certificate_steps, behind_tag, certified_steps, claim_steps, report_view, report_fix, change_steps, progress_steps}
use Rattle.certificates.specs.Judging.{Call, reports_of, conflicts, verdict_call, judge_call, judge_read}
use Rattle.certificates.proofs.Passing.{next, passed_append, answered_err, test_ok}
use Rattle.certificates.proofs.Meaning.{behind, Twelve, depth_numbers, progress_numbers, asked_append, conflict_by}
use Rattle.certificates.proofs.Moved.{Blames, blames_append, blames_blamed, blames_passed}
use Rattle.records.specs.Books.{Books, lent_sizes}
use Rattle.records.specs.Kept.{Membership, Kept}
use Rattle.records.specs.Rows.{row_of}
use Rattle.calls.specs.Gathering.{is_gathered, gathered, turns_read}
use Rattle.calls.specs.Steps.{permits, row_steps, is_of, claim_heard, change_heard, expected, room_steps, propose_steps, hear_propose_steps, hear_prepare_steps, hear_commit_steps, hear_new_view_steps, seal_steps}
use Rattle.calls.specs.Effects.{Effect, wrote, unchanged}
use Rattle.calls.specs.Calls.{Request, to_propose, to_hear, to_leave, to_seal, to_judge, to_read, reading, performed, asks, call, propose_gathered, propose_call, hear_steps, hear_content, hear_call, leave_call, sealing_at, seal_call, judging_call}

-- ---- the faults of lists of steps ----

-- a property that follows
blames_map : {F : Type 0} (P Q : F → Type 0) (xs : List (Step F)) → ((e : F) → P e → Q e) → Blames P xs → Blames Q xs
blames_map P Q [] g h = tt
blames_map P Q (test b e ∷ xs) g h = (g e h.0, blames_map P Q xs g h.1)
blames_map P Q (ask q e ∷ xs) g h = (g e h.0, blames_map P Q xs g h.1)

-- ---- the numbers ----

-- of a message
abbrev FourToEight : Refused → Type 0
FourToEight e = (4 ≤ e.number) × (e.number ≤ 8)

-- causes 2 to 6
abbrev Causes : Faulted → Type 0
Causes e = (leb 2 e.cause && leb e.cause 6) ≡ true

message_numbers : (xs : List (Step Faulted)) → Blames Causes xs → Blames FourToEight (blamed in_message xs)
message_numbers xs h = blames_blamed FourToEight in_message xs (blames_map Causes (λ (e : Faulted). FourToEight (in_message e)) xs numbers h)
  where
    numbers : (e : Faulted) → Causes e → FourToEight (in_message e)
    numbers e c =
        let p = and_parts (leb 2 e.cause) (leb e.cause 6) c in
        let low = leb-true 2 e.cause p.0 in
        let high = leb-true e.cause 6 p.1 in
        (omega (arith, low), omega (arith, high))

claim_numbers : (round view : ℕ) (known : Bool) (c : Claim) (said : Statement) (tag : List ℕ) → Blames FourToEight (blamed in_message (claim_steps round view known c said tag))
claim_numbers round view known c said tag = message_numbers (claim_steps round view known c said tag) (refl, (refl, (refl, (refl, (refl, tt)))))

view_causes : (view place : ℕ) (o : Option Report) → Blames Causes (report_view view place o)
view_causes view place None = tt
view_causes view place (Some r) = (refl, tt)

fix_causes : (place : ℕ) (o : Option Report) → Blames Causes (report_fix place o)
fix_causes place None = tt
fix_causes place (Some r) = (refl, tt)

change_numbers : (round view : ℕ) (known : Bool) (place : ℕ) (c : ViewChange) (tag : List ℕ) → Blames FourToEight (blamed in_message (change_steps round view known place c tag))
change_numbers round view known place c tag =
    let second = place + 16 + length (report_bytes c.prepared) in
    let fixes = blames_append Causes (report_fix (place + 16) c.prepared) _ (fix_causes (place + 16) c.prepared) (blames_append Causes (report_fix second c.committed) _ (fix_causes second c.committed) (refl, tt)) in
    let views = blames_append Causes (report_view view (place + 16) c.prepared) _ (view_causes view (place + 16) c.prepared) (blames_append Causes (report_view view second c.committed) _ (view_causes view second c.committed) (refl, fixes)) in
    message_numbers (change_steps round view known place c tag) (refl, (refl, views))

next_err : {F : Type 0} (r s : Result (Unit {0}) F) (e : F) → next r s ≡ Err e → (r ≡ Err e) ⊎ (s ≡ Err e)
next_err (Ok u) s e h = inr h
next_err (Err f) s e h = inl h

-- ---- what was asked ----

each_cond : (P : Question → Type 0) (b : Bool) (xs ys : List Question) → (Each P xs → Each P ys) → Each P (cond b xs []) → Each P (cond b ys [])
each_cond P true xs ys f h = f h
each_cond P false xs ys f h = tt

-- what is asked by the steps in front is asked
asked_front : {F : Type 0} (P : Question → Type 0) (v : Vouched) (xs ys : List (Step F)) → Each P (asked v (xs ++ ys)) → Each P (asked v xs)
asked_front P v [] ys h = tt
asked_front P v (test b e ∷ xs) ys h = each_cond P b (asked v (xs ++ ys)) (asked v xs) (asked_front P v xs ys) h
asked_front P v (ask q e ∷ xs) ys h = (h.0, each_cond P (granted v q) (asked v (xs ++ ys)) (asked v xs) (asked_front P v xs ys) h.1)

-- ---- refused with 14 ----

abbrev Other : Refused → Type 0
Other e = e.number ≢ 14

others_of_message : (xs : List (Step Refused)) → Blames FourToEight xs → Blames Other xs
others_of_message xs h = blames_map FourToEight Other xs (λ e c. let high = c.1 in omega (arith, high)) h

others_of_certificate : (xs : List (Step Refused)) → Blames Twelve xs → Blames Other xs
others_of_certificate xs h = blames_map Twelve Other xs (λ e c. omega (arith, c)) h

row_others : (o : Option Value) (d : Value) → Blames Other (row_steps o d)
row_others None d = tt
row_others (Some e) d = (omega arith, (omega arith, tt))

claim_others : (k : Kept) (known : Bool) (c : Claim) (said : Statement) (tag : List ℕ) → Blames Other (claim_heard k known c said tag)
unfolding claim_heard
claim_others k known c said tag = others_of_message (blamed in_message (claim_steps k.round k.view known c said tag)) (claim_numbers k.round k.view known c said tag)

change_others : (k : Kept) (known : Bool) (c : ViewChange) (tag : List ℕ) → Blames Other (change_heard k known c tag)
unfolding change_heard
change_others k known c tag = others_of_message (blamed in_message (change_steps k.round k.view known 0 c tag)) (change_numbers k.round k.view known 0 c tag)

depth_others : (depth : ℕ) (xs : List (Step Faulted)) → Blames Other (blamed (at_depth depth) xs)
depth_others depth xs = others_of_certificate (blamed (at_depth depth) xs) (depth_numbers depth xs)

-- whose view a progress certificate is judged for: the site's own, or the one that judge is handed
abbrev pub ViewOf : Kept → Request → ℕ → Type 0
ViewOf k r view = (view ≡ k.view) ⊎ ((bytes : List ℕ) × (r ≡ to_judge view bytes) × (1 ≤ view))

module _ (v : Vouched) (m : Membership) (k : Kept) (r : Request) (P : Question → Type 0) where
  -- what a call that is refused with 14 went through: a progress certificate that is passed, and that comes to a conflict. P holds
  -- of all that the call asked
  pub record Conflicted : Type 0 where
    pub view : ℕ
    pub place : ℕ
    pub turns : List Turn
    pub view_is : ViewOf k r view
    pub passes : passed v (progress_steps m.f m.t k.round view place turns) ≡ Ok (tt {0})
    pub found : finding m.f m.t (reports_of turns) ≡ conflict
    pub asked_of_it : Each P (asked v (progress_steps m.f m.t k.round view place turns))

  -- whenever these steps are refused with 14
  abbrev Explained : List (Step Refused) → Type 0
  Explained steps = (e : Refused) → passed v steps ≡ Err e → e.number ≡ 14 → Each P (asked v steps) → Conflicted

  never_14 : (xs : List (Step Refused)) → Blames Other xs → Explained xs
  never_14 xs f e h n q = absurd (blames_passed Other v xs e f h n)

  explained_behind : (xs ys : List (Step Refused)) → Blames Other xs → (passed v xs ≡ Ok (tt {0}) → Explained ys) → Explained (xs ++ ys)
  explained_behind xs ys f g e h n q =
      let p = behind Other v xs ys e h f (λ z. z n) in
      g p.0 e p.1 n (each_split P (asked v xs) (asked v ys) (rw (asked_append v xs ys p.0) at q)).1

  explained_before : (xs ys : List (Step Refused)) → Explained xs → Blames Other ys → Explained (xs ++ ys)
  explained_before xs ys g f e h n q = elim (next_err (passed v xs) (passed v ys) e (sym (passed_append v xs ys) ∙ h)) [
    | inl z ↦ g e z n (asked_front P v xs ys q)
    | inr z ↦ absurd (blames_passed Other v ys e f z n)
  ]

  explained_reading : {A : Type 0} (none : Effect) (o : Result A Malformed) (then : A → Call Effect) → ((x : A) → Explained (then x).steps) → Explained (reading none o then).steps
  explained_reading none (Ok x) then g = g x
  explained_reading none (Err e) then g = never_14 (test false (layout e.place) ∷ []) (omega arith, tt)

  explained_verdict : (view place : ℕ) (ms : List Turn) → ViewOf k r view → Explained (verdict_call m.f m.t k.round view place ms).steps
  explained_verdict view place ms w e h n q =
      let progress = progress_steps m.f m.t k.round view place ms in
      let last : List (Step Refused) = test (not (conflicts (finding m.f m.t (reports_of ms)))) conflicting ∷ [] in
      let p = behind Other v progress last e h (others_of_certificate progress (progress_numbers m.f m.t k.round view place ms)) (λ z. z n) in
      record {
        view = view;
        place = place;
        turns = ms;
        view_is = w;
        passes = p.0;
        found = conflict_by v (finding m.f m.t (reports_of ms)) e p.1;
        asked_of_it = asked_front P v progress last q;
      }

  module _ (books : Books) (out : ℕ) where
    explained_propose : (d : Value) → Explained (propose_call m k books out d).steps
    unfolding propose_call propose_steps
    explained_propose d =
        let rest = reading (unchanged m k books (wrote 0)) (turns_read m k books.views 4 (gathered m k)) (propose_gathered m k books d) in
        explained_behind (room_steps m (lent_sizes books out)) (propose_steps m k d ++ rest.steps) (omega arith, tt) (λ _.
        explained_behind (propose_steps m k d) rest.steps (omega arith, (omega arith, tt)) (λ _.
        explained_reading (unchanged m k books (wrote 0)) (turns_read m k books.views 4 (gathered m k)) (propose_gathered m k books d) (λ xs. explained_verdict k.view 0 xs (inl refl))))

    -- ---- hear ----

    explained_proposal : (c : Claim) (tag : List ℕ) (ms : List Turn) → Explained (hear_propose_steps m k c tag ms)
    unfolding hear_propose_steps
    explained_proposal c tag ms =
        let known = c.head.site == leader_of (sites m.f m.t) k.view in
        let verdict = (verdict_call m.f m.t k.round k.view (28 + length (tag_bytes tag)) ms).steps in
        let last : List (Step Refused) = test (permits (finding m.f m.t (reports_of ms)) c.value) not_forced ∷ [] in
        let new : List (Step Refused) = test (not (is_of k.view k.prepared)) repeated ∷ [] in
        explained_behind (claim_heard k known c (Propose c) tag) (new ++ (verdict ++ last)) (claim_others k known c (Propose c) tag) (λ _.
        explained_behind new (verdict ++ last) (omega arith, tt) (λ _.
        explained_before verdict last (explained_verdict k.view (28 + length (tag_bytes tag)) ms (inl refl)) (omega arith, tt)))

    explained_content : (x : Content) → Explained (hear_steps m k books x)
    unfolding hear_prepare_steps hear_commit_steps hear_new_view_steps
    explained_content (propose c tag ms) = explained_proposal c tag ms
    explained_content (prepare c tag) =
        let known = nat_lt c.head.site (sites m.f m.t) in
        let row = row_steps (row_of k.rows.prepares c.head.site) c.value in
        never_14 (hear_prepare_steps m k c tag) (blames_append Other (claim_heard k known c (Prepare c) tag) row (claim_others k known c (Prepare c) tag) (row_others (row_of k.rows.prepares c.head.site) c.value))
    explained_content (commit c tag votes) =
        let known = nat_lt c.head.site (sites m.f m.t) in
        let row = row_steps (row_of k.rows.commits c.head.site) c.value in
        let certificate = certificate_steps m.f m.t k.round (record { view = k.view; value = c.value }) (28 + length (tag_bytes tag)) votes in
        never_14 (hear_commit_steps m k c tag votes)
        (blames_append Other (claim_heard k known c (Commit c) tag) (row ++ blamed (at_depth 1) certificate) (claim_others k known c (Commit c) tag)
        (blames_append Other row (blamed (at_depth 1) certificate) (row_others (row_of k.rows.commits c.head.site) c.value) (depth_others 1 certificate)))
    explained_content (new_view x) =
        let certified = certified_steps m.f m.t k.round (behind_tag 0 x) x.committed in
        let rest : List (Step Refused) =
        test (not (is_gathered m k x.head.site)) repeated ∷ test (nat_lt (length (gathered m k)) (progress_quorum m.f m.t)) gathered_already ∷ blamed (at_depth 1) certified in
        never_14 (hear_new_view_steps m k x)
        (blames_append Other (change_heard k (expected m k x.head.site) (change_of x) x.tag) rest (change_others k (expected m k x.head.site) (change_of x) x.tag) (omega arith, (omega arith, depth_others 1 certified)))

    explained_hear : (packet : List ℕ) → Explained (hear_call m k books out packet).steps
    unfolding hear_call
    explained_hear packet =
        let rest = reading (unchanged m k books (wrote 0)) (message_of m.limit packet) (hear_content m k books packet) in
        explained_behind (room_steps m (lent_sizes books out)) rest.steps (omega arith, tt) (λ _.
        explained_reading (unchanged m k books (wrote 0)) (message_of m.limit packet) (hear_content m k books packet) explained_content)

    -- ---- leave and seal ----

    explained_leave : (view : ℕ) → Explained (leave_call m k books out view).steps
    unfolding leave_call
    explained_leave view = never_14 (leave_call m k books out view).steps (omega arith, (omega arith, tt))

    explained_seal : (draft tag : List ℕ) → Explained (seal_call m k books out draft tag).steps
    unfolding seal_call
    explained_seal draft tag =
        let rest = reading (unchanged m k books (wrote 0)) (draft_end m.limit draft) (sealing_at m k books draft tag) in
        explained_behind (seal_steps m draft tag out) rest.steps (omega arith, (omega arith, tt)) (λ _.
        explained_reading (unchanged m k books (wrote 0)) (draft_end m.limit draft) (sealing_at m k books draft tag) (λ _. never_14 [] tt))

    -- ---- judge ----

    explained_read : (view : ℕ) (bytes : List ℕ) (o : Result (List Turn) Malformed) → r ≡ to_judge view bytes → Explained (judge_read m.f m.t k.round view o).steps
    explained_read view bytes (Ok ms) is =
        let one : List (Step Refused) = test (leb 1 view) (wrong_view 0) ∷ [] in
        let verdict = (verdict_call m.f m.t k.round view 0 ms).steps in
        explained_behind one verdict (omega arith, tt) (λ h.
        explained_verdict view 0 ms (inr (bytes, is, leb-true 1 view (test_ok (leb 1 view) (Ok tt) (wrong_view 0) h).0)))
    explained_read view bytes (Err e) is = never_14 (test false (layout e.place) ∷ []) (omega arith, tt)

    explained_judge : (view : ℕ) (bytes : List ℕ) → r ≡ to_judge view bytes → Explained (judging_call m k books view bytes).steps
    unfolding judge_call
    explained_judge view bytes is = explained_read view bytes (progress_of m.limit bytes) is

module _ (v : Vouched) (m : Membership) (k : Kept) (books : Books) (out : ℕ) where
  refused_by : (r : Request) (e : Refused) → performed v m k books out r ≡ Err e → passed v (call m k books out r).steps ≡ Err e
  refused_by r e h = answered_err (passed v (call m k books out r).steps) (call m k books out r).answer e (sym h)

  explained_call : (r : Request) (P : Question → Type 0) (e : Refused) → passed v (call m k books out r).steps ≡ Err e → e.number ≡ 14 → Each P (asks v m k books out r) → Conflicted v m k r P
  explained_call (to_propose d) P = explained_propose v m k (to_propose d) P books out d
  explained_call (to_hear packet) P = explained_hear v m k (to_hear packet) P books out packet
  explained_call (to_leave view) P = explained_leave v m k (to_leave view) P books out view
  explained_call (to_seal draft tag) P = explained_seal v m k (to_seal draft tag) P books out draft tag
  explained_call (to_judge view bytes) P = explained_judge v m k (to_judge view bytes) P books out view bytes refl
  explained_call to_read P = never_14 v m k to_read P [] tt

  -- a call that is refused with 14 has judged a progress certificate that is passed and comes to a conflict
  pub refused_14 : (r : Request) (P : Question → Type 0) (e : Refused) → performed v m k books out r ≡ Err e → e.number ≡ 14 → Each P (asks v m k books out r) → Conflicted v m k r P
  refused_14 r P e h n q = explained_call r P e (refused_by r e h) n q

  -- ---- refused judging ----

  abbrev Judged : Refused → Type 0
  Judged e = (e.number ≡ 3) ⊎ ((e.number ≡ 12) ⊎ (e.number ≡ 14))

  read_number : (view : ℕ) (o : Result (List Turn) Malformed) (e : Refused) → passed v (judge_read m.f m.t k.round view o).steps ≡ Err e → 1 ≤ view → Judged e
  read_number view (Ok ms) e h one =
      let progress = progress_steps m.f m.t k.round view 0 ms in
      let last : List (Step Refused) = test (not (conflicts (finding m.f m.t (reports_of ms)))) conflicting ∷ [] in
      let faults = blames_map Twelve Judged progress (λ e n. inr (inl n)) (progress_numbers m.f m.t k.round view 0 ms) in
      blames_passed Judged v (progress ++ last) e (blames_append Judged progress last faults (inr (inr refl), tt)) (rw (le-leb 1 view one) at h)
  read_number view (Err x) e h one = blames_passed Judged v (test false (layout x.place) ∷ []) e (inl refl, tt) h

  -- judge refuses for the layout, for a bad certificate, or for a conflict, if the view is not 0
  pub judge_refused : (view : ℕ) (bytes : List ℕ) (e : Refused) → performed v m k books out (to_judge view bytes) ≡ Err e → 1 ≤ view → (e.number ≡ 3) ⊎ ((e.number ≡ 12) ⊎ (e.number ≡ 14))
  unfolding judge_call
  judge_refused view bytes e h one = read_number view (progress_of m.limit bytes) e (refused_by (to_judge view bytes) e h) one
