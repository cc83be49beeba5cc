-- Calls whose tests are all passed are not refused.
use Rattle.std.proofs.Common.{◌≡◌, ℕ, ◌+◌, ◌<◌, Bool, true, false, cond, not, ◌&&◌, ◌⊎◌, leb, ltb, eqb, List, [], ◌∷◌, ◌++◌, length, None, Ok, Err, Option, Result, slice_index, refl, ap, ◌∙◌, inl, inr, arith}
use Rattle.std.specs.Prelude.{◌==◌, nat_lt}
use Rattle.std.proofs.lemmas.Bool.{cases_Bool, and_from, or_left, or_right, eq-eqb, ne_eqb, le-leb, lt-ltb}
use Rattle.values.specs.declared.fix.Value.{Value}
use Rattle.values.specs.Fleets.{sites, progress_quorum, leader_of}
use Rattle.values.specs.Fixes.{fix_of, legal}
use Rattle.values.specs.Refusals.{Refused, short, not_higher, repeated, not_forced, gathered_already, conflicting}
use Rattle.verdicts.specs.Rule.{finding}
use Rattle.wire.specs.declared.words.Malformed.{Malformed}
use Rattle.wire.specs.declared.statement.Claim.{Claim}
use Rattle.wire.specs.declared.statement.Statement.{Statement}
use Rattle.wire.specs.declared.statement.Statement.TheVariants.{Propose, Prepare, Commit}
use Rattle.wire.specs.Contents.{tag_bytes, Turn, change_of, Content, propose, prepare, commit, new_view}
use Rattle.wire.specs.Layout.{message_of}
use Rattle.checks.specs.Vouching.{Vouched}
use Rattle.certificates.specs.Steps.{Step, test, passed, blamed, answering}
use Rattle.certificates.specs.Faults.{at_depth, in_message, failing}
use Rattle.certificates.specs.Examining.{certificate_steps, certified_steps, claim_steps, change_steps, behind_tag, entries_needed, progress_steps}
use Rattle.certificates.specs.Judging.{Call, outcome, reports_of, conflicts, verdict_call}
use Rattle.certificates.proofs.Passing.{next, passed_append, passed_blamed}
use Rattle.records.specs.Rows.{row_of}
use Rattle.records.specs.Books.{Books, lent_sizes}
use Rattle.records.specs.Kept.{Membership, Kept}
use Rattle.calls.proofs.Members.{none_gathered}
use Rattle.calls.specs.Gathering.{is_gathered, gathered, turns_read}
use Rattle.calls.specs.Steps.{permits, row_steps, is_of, room_steps, leads, due, propose_steps, expected, leave_steps, hear_propose_steps, hear_prepare_steps, hear_commit_steps, hear_new_view_steps, claim_heard, change_heard}
use Rattle.calls.specs.Effects.{Effect, wrote, unchanged, leaving}
use Rattle.calls.specs.Calls.{to_propose, to_hear, to_leave, first, reading, propose_gathered, propose_call, hear_content, hear_call, leave_call, performed}
use Rattle.calls.specs.Laws.{Done, Room, GoodClaim, NothingElseIsRefused}

module _ (v : Vouched) where
  -- steps one behind the other
  pub append_made : {F : Type 0} (xs ys : List (Step F)) → passed v xs ≡ Ok (tt {0}) → passed v ys ≡ Ok (tt {0}) → passed v (xs ++ ys) ≡ Ok (tt {0})
  append_made xs ys a b = passed_append v xs ys ∙ ap (λ r. next r (passed v ys)) a ∙ b

  pub blamed_made : {E F : Type 0} (g : E → F) (xs : List (Step E)) → passed v xs ≡ Ok (tt {0}) → passed v (blamed g xs) ≡ Ok (tt {0})
  blamed_made g xs h = passed_blamed g v xs ∙ ap (failing g) h

  -- a call whose steps are all passed
  made : (c : Call Effect) → passed v c.steps ≡ Ok (tt {0}) → outcome v c ≡ Ok c.answer
  made c h = ap (λ (r : Result (Unit {0}) Refused). answering r c.answer) h

  -- steps that are passed leave what comes behind them
  first_made : (steps : List (Step Refused)) (c : Call Effect) → passed v steps ≡ Ok (tt {0}) → outcome v (first steps c) ≡ outcome v c
  first_made steps c h = ap (λ (r : Result (Unit {0}) Refused). answering r c.answer) (passed_append v steps c.steps ∙ ap (λ r. next r (passed v c.steps)) h)

  read_made : {A : Type 0} (no_answer : Effect) (r : Result A Malformed) (next : A → Call Effect) (x : A) → r ≡ Ok x → passed v (next x).steps ≡ Ok (tt {0}) → passed v (reading no_answer r next).steps ≡ Ok (tt {0})
  read_made no_answer r next x e h = ap (λ q. passed v (reading no_answer q next).steps) e ∙ h

  claim_made : (k : Kept) (known : Bool) (c : Claim) (said : Statement) (tag : List ℕ) → GoodClaim v k said c tag → known ≡ true
      → passed v (blamed in_message (claim_steps k.round k.view known c said tag)) ≡ Ok (tt {0})
  claim_made k known c said tag g h =
      blamed_made in_message (claim_steps k.round k.view known c said tag)
      (rw (eq-eqb c.head.round k.round g.round, eq-eqb c.head.view k.view g.view, h, g.fix, g.vouched) refl)

  module _ (m : Membership) (k : Kept) (books : Books) (out : ℕ) (room : Room m books out) where
    room_made : passed v (room_steps m (lent_sizes books out)) ≡ Ok (tt {0})
    room_made = ap (λ (b : Bool). cond b (Ok tt) (Err short)) room

    hear_made : (packet : List ℕ) (c : Content) → message_of m.limit packet ≡ Ok c → passed v (hear_content m k books packet c).steps ≡ Ok (tt {0}) → Done v m k books out (to_hear packet)
    unfolding hear_call
    hear_made packet c read h =
        let rest = reading (unchanged m k books (wrote 0)) (message_of m.limit packet) (hear_content m k books packet) in
        let all = append_made (room_steps m (lent_sizes books out)) rest.steps room_made (read_made (unchanged m k books (wrote 0)) (message_of m.limit packet) (hear_content m k books packet) c read h) in
        (rest.answer, made (first (room_steps m (lent_sizes books out)) rest) all)

    leave_made : (view : ℕ) → k.view < view → Done v m k books out (to_leave view)
    unfolding leave_call
    leave_made view h =
        let rest : Call Effect = record { steps = leave_steps m k view; answer = leaving m k books view } in
        let last : passed v rest.steps ≡ Ok (tt {0}) = ap (λ (b : Bool). cond b (Ok tt) (Err not_higher)) (lt-ltb k.view view h) in
        (rest.answer, made (first (room_steps m (lent_sizes books out)) rest) (append_made (room_steps m (lent_sizes books out)) rest.steps room_made last))

    due_made : length (gathered m k) ≡ entries_needed m.f m.t k.view → due m k ≡ true
    due_made h = elim (cases_Bool (eqb k.view 1)) [
      | inl e ↦ or_left (eqb k.view 1) (leb (progress_quorum m.f m.t) (length (gathered m k))) e
      | inr e ↦
          let same : entries_needed m.f m.t k.view ≡ progress_quorum m.f m.t = ap (λ (b : Bool). cond b 0 (progress_quorum m.f m.t)) e in
          or_right (eqb k.view 1) (leb (progress_quorum m.f m.t) (length (gathered m k))) (le-leb (progress_quorum m.f m.t) (length (gathered m k)) (omega arith))
    ]

    -- a site that may propose answers what judging its new-views comes to
    module _ (d : Value) (xs : List Turn) (own : m.own ≡ leader_of (sites m.f m.t) k.view) (new : k.proposed ≡ false) (enough : length (gathered m k) ≡ entries_needed m.f m.t k.view) (fix : legal (fix_of d) ≡ true)
        (read : turns_read m k books.views 4 (gathered m k) ≡ Ok xs) where
      pub propose_judged : performed v m k books out (to_propose d) ≡ outcome v (propose_gathered m k books d xs)
      unfolding propose_call propose_steps
      propose_judged =
          let rest = reading (unchanged m k books (wrote 0)) (turns_read m k books.views 4 (gathered m k)) (propose_gathered m k books d) in
          let may : (leads m k && not k.proposed && due m k) ≡ true =
          and_from (leads m k && not k.proposed) (due m k) (and_from (leads m k) (not k.proposed) (eq-eqb m.own (leader_of (sites m.f m.t) k.view) own) (ap not new)) (due_made enough) in
          first_made (room_steps m (lent_sizes books out)) (first (propose_steps m k d) rest) room_made
          ∙ first_made (propose_steps m k d) rest (rw (fix, may) refl)
          ∙ ap (λ q. outcome v (reading (unchanged m k books (wrote 0)) q (propose_gathered m k books d))) read

      propose_made : passed v (verdict_call m.f m.t k.round k.view 0 xs).steps ≡ Ok (tt {0}) → Done v m k books out (to_propose d)
      propose_made good = ((propose_gathered m k books d xs).answer, propose_judged ∙ made (propose_gathered m k books d xs) good)

      -- which is done, or is a conflict, if they are a good certificate
      pub propose_or_conflict : passed v (progress_steps m.f m.t k.round k.view 0 xs) ≡ Ok (tt {0}) → Done v m k books out (to_propose d) ⊎ (performed v m k books out (to_propose d) ≡ Err conflicting)
      propose_or_conflict good =
          let b = conflicts (finding m.f m.t (reports_of xs)) in
          let judges = progress_steps m.f m.t k.round k.view 0 xs in
          let last : List (Step Refused) = test (not b) conflicting ∷ [] in
          let all : passed v (judges ++ last) ≡ cond (not b) (Ok tt) (Err conflicting) = passed_append v judges last ∙ ap (λ r. next r (passed v last)) good in
          elim (cases_Bool b) [
            | inl bad ↦ inr (propose_judged ∙ ap (λ r. answering r (propose_gathered m k books d xs).answer) (all ∙ ap (λ z. cond (not z) (Ok tt) (Err conflicting)) bad))
            | inr fine ↦ inl (propose_made (all ∙ ap (λ z. cond (not z) (Ok tt) (Err conflicting)) fine))
          ]

row_made : (v : Vouched) (o : Option Value) (d : Value) → o ≡ None → passed v (row_steps o d) ≡ Ok (tt {0})
row_made v o d h = rw h refl

pub nothing_else_is_refused : NothingElseIsRefused
unfolding propose_steps hear_propose_steps hear_prepare_steps hear_commit_steps hear_new_view_steps claim_heard change_heard
nothing_else_is_refused =
    record {
      leaves = λ v m k books out view room h. leave_made v m k books out room view h;
      proposes = λ v m k books out d xs room own new enough fix read good. propose_made v m k books out room d xs own new enough fix read good;
      proposals = λ v m k books out packet c tag ms room read good own new passes permitted.
          let claim = claim_made v k (c.head.site == leader_of (sites m.f m.t) k.view) c (Propose c) tag good (eq-eqb c.head.site (leader_of (sites m.f m.t) k.view) own) in
          let verdict = (verdict_call m.f m.t k.round k.view (28 + length (tag_bytes tag)) ms).steps in
          let allows : List (Step Refused) = test (permits (finding m.f m.t (reports_of ms)) c.value) not_forced ∷ [] in
          let allowed : passed v allows ≡ Ok (tt {0}) = ap (λ (b : Bool). cond b (Ok tt) (Err not_forced)) permitted in
          let last = append_made v verdict allows passes allowed in
          let steps : List (Step Refused) = test (not (is_of k.view k.prepared)) repeated ∷ (verdict ++ allows) in
          let behind : passed v steps ≡ Ok (tt {0}) = ap (λ (b : Bool). cond (not b) (passed v (verdict ++ allows)) (Err repeated)) new ∙ last in
          hear_made v m k books out room packet (propose c tag ms) read
          (append_made v (blamed in_message (claim_steps k.round k.view (c.head.site == leader_of (sites m.f m.t) k.view) c (Propose c) tag)) steps claim behind);
      prepares = λ v m k books out packet c tag room read good inside new.
          let known = nat_lt c.head.site (sites m.f m.t) in
          let claim = claim_made v k known c (Prepare c) tag good (lt-ltb c.head.site (sites m.f m.t) inside) in
          hear_made v m k books out room packet (prepare c tag) read
          (append_made v (blamed in_message (claim_steps k.round k.view known c (Prepare c) tag)) (row_steps (row_of k.rows.prepares c.head.site) c.value) claim (row_made v (row_of k.rows.prepares c.head.site) c.value new));
      commits = λ v m k books out packet c tag votes room read good inside new passes.
          let known = nat_lt c.head.site (sites m.f m.t) in
          let claim = claim_made v k known c (Commit c) tag good (lt-ltb c.head.site (sites m.f m.t) inside) in
          let steps = certificate_steps m.f m.t k.round (record { view = k.view; value = c.value }) (28 + length (tag_bytes tag)) votes in
          let row = row_steps (row_of k.rows.commits c.head.site) c.value in
          hear_made v m k books out room packet (commit c tag votes) read
          (append_made v (blamed in_message (claim_steps k.round k.view known c (Commit c) tag)) (row ++ blamed (at_depth 1) steps) claim
          (append_made v row (blamed (at_depth 1) steps) (row_made v (row_of k.rows.commits c.head.site) c.value new) (blamed_made v (at_depth 1) steps passes)));
      new_views = λ v m k books out packet t room read good inside own later new few passes.
          let n = sites m.f m.t in
          let i = t.head.site in
          let known : expected m k i ≡ true =
          and_from (ltb i n && leads m k) (not (k.view == 1)) (and_from (ltb i n) (leads m k) (lt-ltb i n inside) (eq-eqb m.own (leader_of n k.view) own)) (ap not (ne_eqb k.view 1 later)) in
          let steps = change_steps k.round k.view (expected m k i) 0 (change_of t) t.tag in
          let change : passed v steps ≡ Ok (tt {0}) = ap (λ (b : Bool). passed v (change_steps k.round k.view b 0 (change_of t) t.tag)) known ∙ good in
          let certified = certified_steps m.f m.t k.round (behind_tag 0 t) t.committed in
          let last = blamed_made v (at_depth 1) certified passes in
          let rest : List (Step Refused) = test (not (is_gathered m k i)) repeated ∷ test (nat_lt (length (gathered m k)) (progress_quorum m.f m.t)) gathered_already ∷ blamed (at_depth 1) certified in
          let behind : passed v rest ≡ Ok (tt {0}) =
          rw (none_gathered (slice_index k.lengths.views i) new, lt-ltb (length (gathered m k)) (progress_quorum m.f m.t) few) last in
          hear_made v m k books out room packet (new_view t) read (append_made v (blamed in_message steps) rest (blamed_made v in_message steps change) behind);
    }
