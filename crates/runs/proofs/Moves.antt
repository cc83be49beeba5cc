-- Each call that is not refused is a move of the rules.
use Rattle.std.proofs.Common.{◌≡◌, ◌≢◌, ℕ, ◌+◌, ◌*◌, ◌^◌, ◌<◌, Bool, true, false, not, cond, List, [], ◌∷◌, ◌++◌, map, length, set, Some, None, Ok, Option, Result, refl, sym, ap, ◌∙◌, subst, arith}
use Rattle.std.specs.Prelude.{◌==◌, nat_lt}
use Rattle.std.proofs.lemmas.Bool.{true≢false, false≢true, eqb-true, eq-eqb, ltb-true}
use Rattle.buffers.specs.Words.{Bytes}
use Rattle.buffers.specs.Lays.{laid}
use Rattle.values.specs.declared.fix.Value.{Value}
use Rattle.values.specs.declared.fix.Report.{Report}
use Rattle.values.specs.Fleets.{sites, recovery_quorum, leader_of, legal_fleet}
use Rattle.values.specs.Fixes.{fix_of, legal}
use Rattle.values.specs.Refusals.{Refused, repeated, not_forced}
use Rattle.verdicts.specs.Rule.{Finding, free, forced, conflict, finding}
use Rattle.verdicts.specs.declared.rule.Reported.{Reported}
use Rattle.verdicts.proofs.Counts.{same_eq}
use Rattle.wire.specs.declared.statement.Claim.{Claim}
use Rattle.wire.specs.declared.statement.ViewChange.{ViewChange}
use Rattle.wire.specs.declared.statement.Statement.{Statement}
use Rattle.wire.specs.declared.statement.Statement.TheVariants.{Propose, Prepare, Commit, NewView}
use Rattle.wire.specs.Contents.{statement_bytes, tag_bytes, Vote, Turn, Content, propose, prepare, commit, new_view}
use Rattle.wire.specs.declared.words.Malformed.{Malformed}
use Rattle.wire.specs.Layout.{message_of}
use Rattle.packets.specs.Fits.{ValueFits, ReportFits, ClaimFits, ChangeFits, StatementFits}
use Rattle.packets.proofs.Back.{fronts_apart}
use Rattle.packets.proofs.Whole.{message_only}
use Rattle.checks.specs.Vouching.{Vouched}
use Rattle.agreement.specs.Sites.{SiteSet}
use Rattle.agreement.specs.Statements.{Said, In, Each, judged, Allows, Drafted}
use Rattle.agreement.specs.Statements as said
use Rattle.agreement.specs.Moves.{Move, propose_it, hear_propose, hear_prepare, hear_commit, leave, other, step, Tests, vouched}
use Rattle.agreement.specs.Moves as moves
use Rattle.certificates.specs.Steps.{Question, granted, Step, test, ask, passed, blamed}
use Rattle.certificates.specs.Faults.{Faulted, in_message, other_round, other_view, other_site, illegal_fix, bad_tag, at_depth}
use Rattle.certificates.specs.Examining.{claim_steps, certificate_steps, progress_steps}
use Rattle.certificates.specs.Judging.{Call, reports_of, verdict_call}
use Rattle.certificates.specs.Runs.{said_of, entry_of, Meant}
use Rattle.certificates.proofs.Passing.{test_ok, append_ok, blamed_ok}
use Rattle.certificates.proofs.Meaning.{Means, meant_append, meant_test, meant_ask, meant_blamed, progress_meant, formed}
use Rattle.certificates.proofs.Runs.{reports_same}
use Rattle.records.specs.Sizes.{tag_row}
use Rattle.records.specs.Rows.{row_of, with_prepare}
use Rattle.records.specs.Books.{Books, lent_sizes}
use Rattle.records.specs.Kept.{Membership, Kept}
use Rattle.calls.specs.Gathering.{gathered, own_progress}
use Rattle.calls.specs.Steps.{permits, row_steps, is_of, room_steps, hear_propose_steps, hear_prepare_steps, hear_commit_steps, claim_heard}
use Rattle.calls.specs.Effects.{Output, nothing, draft, Effect, choice, holding, own_claim, own_head, moved_to, last_certificate, certificate_from, unchanged, wrote}
use Rattle.calls.specs.Calls.{Request, to_propose, to_hear, to_leave, to_seal, to_judge, to_read, reading, hear_content, hear_call, judging_call, read_call, performed, asks}
use Rattle.calls.specs.Laws.{Sound}
use Rattle.calls.proofs.Done.{done_ok, propose_done, hear_done, leave_done, seal_done}
use Rattle.calls.proofs.Filling.{few_sites, not_true, claim_ok, row_ok}
use Rattle.calls.proofs.Reports.{chosen_of}
use Rattle.calls.proofs.Reported.{Reports, SentOf}
use Rattle.calls.proofs.Others.{fits_reported}
use Rattle.calls.proofs.Joined.{turns_are}
use Rattle.calls.proofs.Chosen.{proposes_in_turn}
use Rattle.runs.specs.Runs.{OfWords}
use Rattle.runs.specs.Laws.{draft_of}
use Rattle.runs.proofs.Abstract.{abstract_of, abstract_left, abstract_prepare, certifies_alike, abstract_commit}

-- ---- what is drafted ----

pub empty_front : {P : Type 0} (s : Statement) (rest : List ℕ) → [] ≡ statement_bytes s ++ rest → P
empty_front s rest e = absurd (let l : ◌≡◌ {A = ℕ} 0 (length (statement_bytes s ++ rest)) = ap length e in omega arith)

-- this is the draft of a fitting statement, as the move drafts it; or there is no draft
abbrev pub DraftedAs : Output → Option Said → Type 0
DraftedAs o None = draft_of o ≡ []
DraftedAs o (Some y) = (s : Statement) × (attached : List ℕ) × (o ≡ draft s attached) × StatementFits s × (said_of s ≡ y)

-- so whatever fitting statement it begins with is what the move drafts
pub begins_as : (o : Output) (y : Option Said) → DraftedAs o y → (s : Statement) (rest : List ℕ) → StatementFits s → draft_of o ≡ statement_bytes s ++ rest → y ≡ Some (said_of s)
begins_as o None h s rest fits e = empty_front s rest (sym h ∙ e)
begins_as o (Some y) h s rest fits e =
    let same = fronts_apart h.0 s h.1 rest h.3 fits (sym (ap draft_of h.2) ∙ e) in
    ap (λ (z : Said). Some z) (sym h.4 ∙ ap said_of same)

one_draft : (own : Statement) (attached : List ℕ) → StatementFits own → DraftedAs (draft own attached) (Some (said_of own))
one_draft own attached fits = (own, attached, refl, fits, refl)

perhaps : (b : Bool) (own : Statement) (attached : List ℕ) → StatementFits own → DraftedAs (cond b (draft own attached) nothing) (cond b (Some (said_of own)) None)
perhaps true own attached fits = one_draft own attached fits
perhaps false own attached fits = refl

-- ---- what is tested ----

not_prepared : (view : ℕ) (o : Option Report) → is_of view o ≡ false → (r : Report) → o ≡ Some r → r.view ≢ view
not_prepared view None h r e q = let z : ◌≡◌ {A = ℕ} 0 1 = cc in absurd (omega arith)
not_prepared view (Some x) h r e q =
    let is : x ≡ r = cc in
    true≢false (sym (eq-eqb x.view view (ap (λ (y : Report). y.view) is ∙ q)) ∙ h)

allows : (x : Finding) (d : Value) → permits x d ≡ true → Allows x d
allows free d h = tt
allows (forced r c) d h = same_eq r.value d h
allows conflict d h = absurd (false≢true h)

sent_fits : (view : ℕ) (o : Option Report) → SentOf view o → ReportFits o
sent_fits view None h = tt
sent_fits view (Some r) h = (h r refl).fits

module _ (v : Vouched) (good : SiteSet) (log : List Said) where
  -- a claim that passes was drafted, if its site follows the rules
  claim_meant : (round view : ℕ) (known : Bool) (c : Claim) (said : Statement) (tag : List ℕ) → passed v (claim_steps round view known c said tag) ≡ Ok (tt {0}) → Means v good log (claim_steps round view known c said tag)
      → good c.head.site ≡ true → In (said_of said) log
  claim_meant round view known c said tag h z =
      let q : Question = record { site = c.head.site; said = said; tag = tag } in
      let l3 : List (Step Faulted) = ask q (bad_tag 28) ∷ [] in
      let l2 : List (Step Faulted) = test (legal (fix_of c.value)) (illegal_fix 16) ∷ l3 in
      let l1 : List (Step Faulted) = test known (other_site 12) ∷ l2 in
      let l0 : List (Step Faulted) = test (c.head.view == view) (other_view 8) ∷ l1 in
      let a = test_ok (c.head.round == round) (passed v l0) (other_round 4) h in
      let z1 = meant_test v good log (c.head.round == round) (other_round 4) l0 a.0 z in
      let b = test_ok (c.head.view == view) (passed v l1) (other_view 8) a.1 in
      let z2 = meant_test v good log (c.head.view == view) (other_view 8) l1 b.0 z1 in
      let d = test_ok known (passed v l2) (other_site 12) b.1 in
      let z3 = meant_test v good log known (other_site 12) l2 d.0 z2 in
      let e = test_ok (legal (fix_of c.value)) (passed v l3) (illegal_fix 16) d.1 in
      let z4 = meant_test v good log (legal (fix_of c.value)) (illegal_fix 16) l3 e.0 z3 in
      let g = test_ok (granted v q) (Ok (tt {0})) (bad_tag 28) e.1 in
      (meant_ask v good log q (bad_tag 28) [] g.0 z4).0

  -- a message that is heard begins with one; the rest is as meant
  heard_meant : (round view : ℕ) (known : Bool) (c : Claim) (said : Statement) (tag : List ℕ) (rest : List (Step Refused))
      → passed v (blamed in_message (claim_steps round view known c said tag) ++ rest) ≡ Ok (tt {0}) → Means v good log (blamed in_message (claim_steps round view known c said tag) ++ rest)
      → (good c.head.site ≡ true → In (said_of said) log) × Means v good log rest
  heard_meant round view known c said tag rest h z =
      let steps = claim_steps round view known c said tag in
      let p = append_ok v (blamed in_message steps) rest h in
      let y = meant_append v good log (blamed in_message steps) rest p.0 z in
      (claim_meant round view known c said tag (blamed_ok in_message v steps p.0) (meant_blamed v good log in_message steps y.0), y.1)

-- ---- each call ----

module _ (v : Vouched) (good : SiteSet) (log : List Said) (m : Membership) (k : Kept) (books : Books) where
  abbrev site : moves.Site
  site = abstract_of k

  -- a call is a move: its tests are made, what was vouched for was drafted, and the record and the draft are as the rules say
  pub record MovesTo (x : Effect) : Type 0 where
    pub move : Move
    pub tests : Tests m.f m.t (abstract_of k) move
    pub vouched_for : Drafted good log (vouched m.f m.t (abstract_of k) move)
    pub steps : abstract_of x.kept ≡ step m.f m.t (abstract_of k) move
    pub drafts : DraftedAs x.output (moves.draft m.f m.t m.own (abstract_of k) move)

  -- what leaves the record, and drafts nothing
  still : (x : Effect) → abstract_of x.kept ≡ abstract_of k → draft_of x.output ≡ [] → MovesTo x
  still x e o =
      record { move = other; tests = tt; vouched_for = tt; steps = e; drafts = o }

  module _ (fleet : legal_fleet m.f m.t ≡ true) (inside : m.own < sites m.f m.t) (round_low : k.round < 2 ^ 32) (view_low : k.view < 2 ^ 32) (sound : Sound m k) (reports : Reports k) where
    own_fits : (d : Value) → ValueFits d → ClaimFits (own_claim m k d)
    own_fits d fits = (record { round = round_low; view = view_low; site = (let few = few_sites m.f m.t fleet in omega arith) }, fits)

    -- what is proposed fits
    pub proposed_fits : (out : ℕ) (d : Value) (x : Effect) → Bytes books.views → ValueFits d → (h : performed v m k books out (to_propose d) ≡ Ok x)
        → StatementFits (Propose (own_claim m k (choice (finding m.f m.t (reports_of (propose_done v m k books out d x h).xs)) d)))
    proposed_fits out d x bytes fits h =
        let p = propose_done v m k books out d x h in
        let read = turns_are m k books bytes 4 (gathered m k) p.xs p.read in
        own_fits (choice (finding m.f m.t (reports_of p.xs)) d) (chosen_of ValueFits m.f m.t (reports_of p.xs) d (fits_reported m.limit p.xs read.1) fits)

    moves_propose : (out : ℕ) (d : Value) (x : Effect) → Bytes books.views → ValueFits d → performed v m k books out (to_propose d) ≡ Ok x → MovesTo x
    moves_propose out d x bytes fits h =
        let p = propose_done v m k books out d x h in
        let d' = choice (finding m.f m.t (reports_of p.xs)) d in
        subst MovesTo (sym p.is) (record {
          move = propose_it d';
          tests = (proposes_in_turn v m k books out d x h).1;
          vouched_for = tt;
          steps = refl;
          drafts = one_draft (Propose (own_claim m k d')) (own_progress m k books.views) (proposed_fits out d x bytes fits h);
        })

    module _ (packet : List ℕ) (bytes : Bytes packet) where
      moves_hear_propose : (c : Claim) (tag : List ℕ) (ms : List Turn) → message_of m.limit packet ≡ Ok (propose c tag ms) → passed v (hear_propose_steps m k c tag ms) ≡ Ok (tt {0}) → Means v good log (hear_propose_steps m k c tag ms)
          → MovesTo (hear_content m k books packet (propose c tag ms)).answer
      unfolding hear_propose_steps claim_heard
      moves_hear_propose c tag ms read h z =
          let leader = leader_of (sites m.f m.t) k.view in
          let place = 28 + length (tag_bytes tag) in
          let judge = progress_steps m.f m.t k.round k.view place ms in
          let last : List (Step Refused) = test (permits (finding m.f m.t (reports_of ms)) c.value) not_forced ∷ [] in
          let steps = (verdict_call m.f m.t k.round k.view place ms).steps in
          let rest : List (Step Refused) = test (not (is_of k.view k.prepared)) repeated ∷ (steps ++ last) in
          let q = claim_ok v k.round k.view (c.head.site == leader) c (Propose c) tag rest h in
          let y = heard_meant v good log k.round k.view (c.head.site == leader) c (Propose c) tag rest h z in
          let r = test_ok (not (is_of k.view k.prepared)) (passed v (steps ++ last)) repeated q.rest_ok in
          let y1 = meant_test v good log (not (is_of k.view k.prepared)) repeated (steps ++ last) r.0 y.1 in
          let s = append_ok v steps last r.1 in
          let y2 = meant_append v good log steps last s.0 y1 in
          let t = test_ok (permits (finding m.f m.t (reports_of ms)) c.value) (Ok (tt {0})) not_forced s.1 in
          let j = append_ok v judge _ s.0 in
          let y3 = meant_append v good log judge _ j.0 y2.0 in
          let g = progress_meant v good log m.f m.t k.round k.view place ms j.0 y3.0 in
          let from : c.head.site ≡ leader = eqb-true c.head.site leader q.is_known in
          let fits = (message_only m.limit packet bytes (propose c tag ms) read).1.0 in
          record {
            move = hear_propose c.value (map entry_of ms);
            tests = (
              not_prepared k.view k.prepared (not_true (is_of k.view k.prepared) r.0),
              λ l. (
                formed v good log m.f m.t k.round k.view ms l g.0 g.1,
                allows (judged m.f m.t (map entry_of ms)) c.value (subst (λ (es : List Reported). permits (finding m.f m.t es) c.value ≡ true) (reports_same ms) t.0),
              ),
            );
            vouched_for = (
              λ x. subst (λ (i : ℕ). In (said.propose i k.view c.value) log) from (subst (λ (n : ℕ). In (said.propose c.head.site n c.value) log) q.view_is (y.0 (ap good from ∙ x))),
              g.1.drafted,
            );
            steps = refl;
            drafts = one_draft (Prepare (own_claim m k c.value)) [] (own_fits c.value fits.1);
          }

      moves_hear_prepare : (c : Claim) (tag : List ℕ) → message_of m.limit packet ≡ Ok (prepare c tag) → passed v (hear_prepare_steps m k c tag) ≡ Ok (tt {0}) → Means v good log (hear_prepare_steps m k c tag)
          → MovesTo (hear_content m k books packet (prepare c tag)).answer
      unfolding hear_prepare_steps claim_heard
      moves_hear_prepare c tag read h z =
          let i = c.head.site in
          let row = row_of k.rows.prepares i in
          let q = claim_ok v k.round k.view (nat_lt i (sites m.f m.t)) c (Prepare c) tag (row_steps row c.value) h in
          let y = heard_meant v good log k.round k.view (nat_lt i (sites m.f m.t)) c (Prepare c) tag (row_steps row c.value) h z in
          let lt : i < sites m.f m.t = ltb-true i (sites m.f m.t) q.is_known in
          let few = few_sites m.f m.t fleet in
          let fits = (message_only m.limit packet bytes (prepare c tag) read).1.0 in
          let here : i < length k.rows.prepares = (let e = sound.prepares in omega arith) in
          let rows = with_prepare k.rows i c.value in
          let certifies = holding m rows.prepares c.value == recovery_quorum m.f m.t in
          let output = (hear_content m k books packet (prepare c tag)).answer.output in
          let certificate = certificate_from m rows.prepares (laid books.tags (i * tag_row m.limit) (tag_bytes tag)) (set k.lengths.tags i (length (tag_bytes tag))) c.value in
          record {
            move = hear_prepare i c.value;
            tests = row_ok v row c.value q.rest_ok;
            vouched_for = (λ x. subst (λ (n : ℕ). In (said.prepare i n c.value) log) q.view_is (y.0 x), tt);
            steps = abstract_prepare m k books i c.value tag here;
            drafts = subst (λ (b : Bool). DraftedAs output (cond b (Some (said.commit m.own k.view c.value)) None)) (certifies_alike m k books i c.value here)
                (perhaps certifies (Commit (own_claim m k c.value)) certificate (own_fits c.value fits.1));
          }

      moves_hear_commit : (c : Claim) (tag : List ℕ) (votes : List Vote) → passed v (hear_commit_steps m k c tag votes) ≡ Ok (tt {0}) → Means v good log (hear_commit_steps m k c tag votes)
          → MovesTo (hear_content m k books packet (commit c tag votes)).answer
      unfolding hear_commit_steps claim_heard
      moves_hear_commit c tag votes h z =
          let i = c.head.site in
          let row = row_of k.rows.commits i in
          let certificate : List (Step Refused) = blamed (at_depth 1) (certificate_steps m.f m.t k.round (record { view = k.view; value = c.value }) (28 + length (tag_bytes tag)) votes) in
          let rest : List (Step Refused) = row_steps row c.value ++ certificate in
          let q = claim_ok v k.round k.view (nat_lt i (sites m.f m.t)) c (Commit c) tag rest h in
          let y = heard_meant v good log k.round k.view (nat_lt i (sites m.f m.t)) c (Commit c) tag rest h z in
          let r = append_ok v (row_steps row c.value) certificate q.rest_ok in
          let here : i < length k.rows.commits = (let e = sound.commits in let few = few_sites m.f m.t fleet in let lt = ltb-true i (sites m.f m.t) q.is_known in omega arith) in
          record {
            move = hear_commit i c.value;
            tests = row_ok v row c.value r.0;
            vouched_for = (λ x. subst (λ (n : ℕ). In (said.commit i n c.value) log) q.view_is (y.0 x), tt);
            steps = abstract_commit m k books i c.value here;
            drafts = refl;
          }

      moves_hear_content : (c : Content) → message_of m.limit packet ≡ Ok c → passed v (hear_content m k books packet c).steps ≡ Ok (tt {0}) → Means v good log (hear_content m k books packet c).steps
          → MovesTo (hear_content m k books packet c).answer
      moves_hear_content (propose c tag ms) read h z = moves_hear_propose c tag ms read h z
      moves_hear_content (prepare c tag) read h z = moves_hear_prepare c tag read h z
      moves_hear_content (commit c tag votes) read h z = moves_hear_commit c tag votes h z
      moves_hear_content (new_view t) read h z = still (hear_content m k books packet (new_view t)).answer refl refl

      moves_hear : (out : ℕ) (x : Effect) → performed v m k books out (to_hear packet) ≡ Ok x → Meant good log v (asks v m k books out (to_hear packet)) → MovesTo x
      unfolding hear_call
      moves_hear out x h z =
          let p = hear_done v m k books out packet x h in
          let call : Result Content Malformed → Call Effect = λ r. reading (unchanged m k books (wrote 0)) r (hear_content m k books packet) in
          let y = meant_append v good log (room_steps m (lent_sizes books out)) (call (message_of m.limit packet)).steps p.room z in
          subst MovesTo (sym p.is) (moves_hear_content p.content p.read p.tested (rw p.read at y.1))

    moves_leave : (out view : ℕ) (x : Effect) → view < 2 ^ 32 → performed v m k books out (to_leave view) ≡ Ok x → MovesTo x
    moves_leave out view x low h =
        let p = leave_done v m k books out view x h in
        let own : ViewChange = record { head = own_head m (moved_to m view k); prepared = k.prepared; committed = k.committed } in
        let few = few_sites m.f m.t fleet in
        let fits : ChangeFits own = (record { round = round_low; view = low; site = omega arith }, sent_fits k.view k.prepared reports.prepared, sent_fits k.view k.committed reports.committed) in
        subst MovesTo (sym p.is) (record {
          move = leave view;
          tests = p.higher;
          vouched_for = tt;
          steps = abstract_left m k view;
          drafts = one_draft (NewView own) (last_certificate m k.committed k.lengths.certificate books.certificate) fits;
        })

    -- every call that is not refused
    pub moves_to : (out : ℕ) (r : Request) (x : Effect) → Bytes books.views → OfWords r → performed v m k books out r ≡ Ok x → Meant good log v (asks v m k books out r) → MovesTo x
    moves_to out (to_propose d) x bytes words h z = moves_propose out d x bytes words h
    moves_to out (to_hear packet) x bytes words h z = moves_hear packet words out x h z
    moves_to out (to_leave view) x bytes words h z = moves_leave out view x words h
    moves_to out (to_seal written tag) x bytes words h z = let p = seal_done v m k books out written tag x h in subst MovesTo (sym p.is) (still _ refl refl)
    moves_to out (to_judge view certificate) x bytes words h z = let p = done_ok v (judging_call m k books view certificate) x h in subst MovesTo (sym p.1) (still _ refl refl)
    moves_to out to_read x bytes words h z = let p = done_ok v (read_call m k books) x h in subst MovesTo (sym p.1) (still _ refl refl)
