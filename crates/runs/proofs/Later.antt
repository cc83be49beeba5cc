-- Whatever a rule-following site proposes, prepares or commits in a view above that of a decision is the fix decided.
use Rattle.std.proofs.Common.{◌≡◌, ℕ, ◌^◌, ◌<◌, Bool, true, false, cond, List, [], ◌++◌, map, length, take, Some, Ok, Err, Result, refl, sym, ap, ◌∙◌, subst, arith, append-nil}
use Rattle.std.specs.Prelude.{◌==◌, slice_index}
use Rattle.values.specs.declared.fix.Value.{Value}
use Rattle.values.specs.Fleets.{recovery_quorum}
use Rattle.values.specs.Refusals.{Refused}
use Rattle.verdicts.specs.declared.rule.Reported.{Reported}
use Rattle.verdicts.specs.Rule.{Finding, free, forced, conflict, finding}
use Rattle.wire.specs.declared.words.Malformed.{Malformed}
use Rattle.wire.specs.declared.statement.Claim.{Claim}
use Rattle.wire.specs.declared.statement.Statement.{Statement}
use Rattle.wire.specs.declared.statement.Statement.TheVariants.{Propose, Prepare, Commit, NewView}
use Rattle.wire.specs.Contents.{statement_bytes, Turn, Content, propose, prepare, commit, new_view}
use Rattle.packets.specs.Fits.{ValueFits, StatementFits}
use Rattle.packets.proofs.Back.{fronts_apart}
use Rattle.checks.specs.Vouching.{Vouched}
use Rattle.agreement.specs.Sites.{SiteSet}
use Rattle.agreement.specs.Statements.{Said, In, Of, Forces, Formed, statements, Drafted}
use Rattle.agreement.specs.Moves as moves
use Rattle.agreement.proofs.Keep as rules
use Rattle.certificates.specs.Examining.{progress_steps}
use Rattle.certificates.specs.Judging.{Call, reports_of, verdict_call}
use Rattle.certificates.specs.Runs.{said_of, entry_of, Meant}
use Rattle.certificates.proofs.Passing.{append_ok}
use Rattle.certificates.proofs.Meaning.{Means, meant_append, progress_meant, formed}
use Rattle.certificates.proofs.Runs.{reports_same}
use Rattle.records.specs.Rows.{with_prepare}
use Rattle.records.specs.Books.{Books, lent_sizes}
use Rattle.records.specs.Kept.{Membership, Decided, Kept}
use Rattle.calls.specs.Gathering.{gathered, turns_read, own_progress}
use Rattle.calls.specs.Steps.{room_steps, propose_steps}
use Rattle.calls.specs.Effects.{nothing, draft, Effect, choice, holding, wrote, unchanged, own_claim}
use Rattle.calls.specs.Calls.{Request, to_propose, reading, propose_gathered, propose_call, hear_content, performed, asks}
use Rattle.calls.proofs.Done.{every, propose_done}
use Rattle.runs.specs.Runs.{Site, World, Event, result, Drafts, after, Comes, HasDrafted, OfWords, Run}
use Rattle.runs.specs.Laws.{draft_of}
use Rattle.runs.specs.Promises.{Reads, claim_in, LaterViewsKeepIt}
use Rattle.runs.proofs.Drafted.{draft_is_in_out}
use Rattle.runs.proofs.Moves.{empty_front, proposed_fits}
use Rattle.runs.proofs.Standing.{member, Stands}
use Rattle.runs.proofs.Lists.{each_of}
use Rattle.runs.proofs.Agreed.{made, is_run, decision_there, behind, standing, result_is, told}

-- ---- only propose drafts a proposal ----

-- the byte of a draft that says what it is: 1 of a proposal
abbrev kind_byte : List ℕ → ℕ
kind_byte b = slice_index b 3

perhaps_commit : (b : Bool) (c : Claim) (attached : List ℕ) → kind_byte (draft_of (cond b (draft (Commit c) attached) nothing)) ≡ 1 → ⊥
perhaps_commit true c attached e = omega (arith, e)
perhaps_commit false c attached e = omega (arith, e)

module _ (v : Vouched) (m : Membership) (k : Kept) (books : Books) (out : ℕ) where
  hear_proposes_none : (packet : List ℕ) (c : Content) → kind_byte (draft_of (hear_content m k books packet c).answer.output) ≡ 1 → ⊥
  hear_proposes_none packet (propose c tag ms) e = omega (arith, e)
  hear_proposes_none packet (prepare c tag) e = perhaps_commit (holding m (with_prepare k.rows c.head.site c.value).prepares c.value == recovery_quorum m.f m.t) _ _ e
  hear_proposes_none packet (commit c tag votes) e = omega (arith, e)
  hear_proposes_none packet (new_view t) e = omega (arith, e)

  proposal_of_propose : (r : Request) (x : Effect) → performed v m k books out r ≡ Ok x → kind_byte (draft_of x.output) ≡ 1 → (d : Value) × (r ≡ to_propose d)
  proposal_of_propose =
      every v m k books out (λ r x. kind_byte (draft_of x.output) ≡ 1 → (d : Value) × (r ≡ to_propose d))
      (λ d d' e. (d, refl))
      (λ packet c e. absurd (hear_proposes_none packet c e))
      (λ view higher e. absurd (omega (arith, e)))
      (λ written tag bytes e. absurd (omega (arith, e)))
      (λ view bytes told e. absurd (omega (arith, e)))
      (λ e. absurd (omega (arith, e)))

-- what is forced is what is chosen
forced_choice : (x : Finding) (d own : Value) → Forces x d → choice x own ≡ d
forced_choice free d own h = absurd h
forced_choice (forced r c) d own h = h
forced_choice conflict d own h = absurd h

-- ---- what was judged before a value is proposed ----

module _ (v : Vouched) (good : SiteSet) (log : List Said) (m : Membership) (k : Kept) (books : Books) (out : ℕ) (d : Value) (x : Effect)
    (h : performed v m k books out (to_propose d) ≡ Ok x) where
  abbrev turns : List Turn
  turns = (propose_done v m k books out d x h).xs

  -- the gathered new-views make a progress certificate as the rules want it, and hold what rule-following sites drafted
  gathered_meant : Meant good log v (asks v m k books out (to_propose d)) → 1 < k.view
      → Formed m.f m.t k.view (map entry_of turns) × Drafted good log (statements k.view (map entry_of turns))
  unfolding propose_call
  gathered_meant z high =
      let p = propose_done v m k books out d x h in
      let call : Result (List Turn) Malformed → Call Effect = λ r. reading (unchanged m k books (wrote 0)) r (propose_gathered m k books d) in
      let read = turns_read m k books.views 4 (gathered m k) in
      let judge = progress_steps m.f m.t k.round k.view 0 p.xs in
      let y1 = meant_append v good log (room_steps m (lent_sizes books out)) (propose_steps m k d ++ (call read).steps) p.room z in
      let y2 = meant_append v good log (propose_steps m k d) (call read).steps p.tested y1.1 in
      let y3 : Means v good log (verdict_call m.f m.t k.round k.view 0 p.xs).steps = rw p.read at y2.1 in
      let j = append_ok v judge _ p.judged in
      let y4 = meant_append v good log judge _ j.0 y3 in
      let g = progress_meant v good log m.f m.t k.round k.view 0 p.xs j.0 y4.0 in
      (formed v good log m.f m.t k.round k.view p.xs high g.0 g.1, g.1.drafted)

-- ---- behind a decision, and before it ----

module _ (f t limit round : ℕ) (good : SiteSet) (w : World) (es : List Event) (run : Run f t limit round good w es) (a i : ℕ) (x : Decided) (g : good i ≡ true) (reads : Reads (after w (take a es)) i x) where
  abbrev moved : List moves.Moved
  moved = made f t limit round good w es run

  is_moves : moves.Run f t good moves.start moved
  is_moves = is_run f t limit round good w es run

  decided_there : ((moves.world_at f t moved a).at i).decision ≡ Some x.report
  decided_there = decision_there f t limit round good w es run a i x g reads

  -- a call, and a proposal of a view above that it drafts
  module _ (past : List Event) (e : Event) (c : Comes es past e) (p : Claim) (fits : StatementFits (Propose p)) (above : x.report.view < p.head.view) where
    abbrev s : Site
    s = after w past e.site

    abbrev m : Membership
    m = member f t limit round e.site

    abbrev log : List Said
    log = (moves.world_at f t moved (length past)).log

    stands : Stands f t limit round e.site s
    stands = standing f t limit round good w es run past e c

    -- what a yes of the call stood for
    asked_to : (r : Request) → e.request ≡ r → Meant good log e.check (asks e.check m s.kept s.books (length e.out) r)
    asked_to r q =
        subst (λ (r : Request). Meant good log e.check (asks e.check m s.kept s.books (length e.out) r)) q (told f t limit round good w es run past e c)

    -- the value proposed is the one that was chosen
    chosen : (d : Value) (y : Effect) (h : performed e.check m s.kept s.books (length e.out) (to_propose d) ≡ Ok y) → ValueFits d
        → (rest : List ℕ) → draft_of y.output ≡ statement_bytes (Propose p) ++ rest
        → own_claim m s.kept (choice (finding f t (reports_of (propose_done e.check m s.kept s.books (length e.out) d y h).xs)) d) ≡ p
    chosen d y h words rest q =
        let z = propose_done e.check m s.kept s.books (length e.out) d y h in
        let low : s.kept.round < 2 ^ 32 = subst (λ (n : ℕ). n < 2 ^ 32) (sym stands.round_is) run.round_is in
        let own = own_claim m s.kept (choice (finding f t (reports_of z.xs)) d) in
        let same : Propose own ≡ Propose p =
        fronts_apart (Propose own) (Propose p) (own_progress m s.kept s.books.views) rest
        (proposed_fits e.check good log m s.kept s.books stands.sound.fleet stands.inside low stands.view_low stands.sound stands.reports (length e.out) d y stands.views words h)
        fits
        (ap (λ (u : Effect). draft_of u.output) (sym z.is) ∙ q) in
        cc

    -- it was forced: the new-views that were judged make a certificate for a view above
    proposes_it : (d : Value) (y : Effect) → e.request ≡ to_propose d → performed e.check m s.kept s.books (length e.out) (to_propose d) ≡ Ok y → ValueFits d
        → (rest : List ℕ) → draft_of y.output ≡ statement_bytes (Propose p) ++ rest → p.value ≡ x.report.value
    proposes_it d y is h words rest q =
        let xs = (propose_done e.check m s.kept s.books (length e.out) d y h).xs in
        let same = chosen d y h words rest q in
        let higher : x.report.view < s.kept.view = subst (λ (z : Claim). x.report.view < z.head.view) (sym same) above in
        let first = rules.decided_view f t good run.few moved is_moves a i x.report g decided_there in
        let valid = gathered_meant e.check good log m s.kept s.books (length e.out) d y h (asked_to (to_propose d) is) (omega arith) in
        let forces = rules.later_forced f t good run.few moved is_moves a (length past) i x.report s.kept.view (map entry_of xs) g decided_there higher valid in
        let found : Forces (finding f t (reports_of xs)) x.report.value = subst (λ (rs : List Reported). Forces (finding f t rs) x.report.value) (sym (reports_same xs)) forces in
        ap (λ (z : Claim). z.value) (sym same) ∙ forced_choice (finding f t (reports_of xs)) x.report.value d found

    -- a refused call drafts nothing, and no other kind of call a proposal
    proposed_above : Drafts (after w past) e (statement_bytes (Propose p)) → p.value ≡ x.report.value
    proposed_above h = by_result (result (after w past) e) refl
      where
        by_result : (r : Result Effect Refused) → result (after w past) e ≡ r → p.value ≡ x.report.value
        by_result (Err y) q = empty_front (Propose p) h.0 (sym (rw q) ∙ h.1)
        by_result (Ok y) q =
            let done = sym (result_is f t limit round good w es run past e c) ∙ q in
            let drafted = sym (draft_is_in_out (after w past) e y stands.behaves q) ∙ h.1 in
            let r = proposal_of_propose e.check m s.kept s.books (length e.out) e.request y done (ap kind_byte drafted) in
            let words : ValueFits r.0 = subst OfWords r.1 (each_of (λ (z : Event). OfWords z.request) es past e c run.of_words) in
            proposes_it r.0 y r.1 (subst (λ (z : Request). performed e.check m s.kept s.books (length e.out) z ≡ Ok y) r.1 done) words h.0 drafted

  -- what was drafted in the run is what the rules' sites drafted
  drafted_there : (j : ℕ) (s : Statement) → StatementFits s → HasDrafted w es j (statement_bytes s) → In (said_of s) (moves.world_at f t moved (length es)).log
  drafted_there j s fits h = (behind f t limit round good w es run es [] (sym (append-nil es))).log j s fits h

  -- the fix is the one decided, if the view is above
  abbrev KeptTo : Claim → Type 0
  KeptTo c = x.report.view < c.head.view → c.value ≡ x.report.value

  keeps_it : (j : ℕ) (s : Statement) → StatementFits s → HasDrafted w es j (statement_bytes s) → Of KeptTo (claim_in s)
  keeps_it j (Propose c) fits h = λ above. proposed_above h.0 h.1 h.2 c fits above h.4
  keeps_it j (Prepare c) fits h = λ above.
      rules.prepared_later f t good run.few moved is_moves a (length es) i c.head.site x.report c.head.view c.value g decided_there above (drafted_there j (Prepare c) fits h)
  keeps_it j (Commit c) fits h = λ above.
      rules.committed_later f t good run.few moved is_moves a (length es) i c.head.site x.report c.head.view c.value g decided_there above (drafted_there j (Commit c) fits h)
  keeps_it j (NewView c) fits h = tt

pub later_views_keep_it : LaterViewsKeepIt
later_views_keep_it f t limit round good w es run a i x g reads j s c fits h is above =
    subst (Of (KeptTo f t limit round good w es run a i x g reads)) is (keeps_it f t limit round good w es run a i x g reads j s fits h) above
