-- The laws of the calls hold.
use Rattle.std.proofs.Common.{◌≡◌, ◌≢◌, ℕ, ◌+◌, ◌<◌, ◌≤◌, leb, ◌⊎◌, ◌↔◌, Bool, true, false, cond, List, [], ◌∷◌, length, Some, None, Ok, Err, Option, Result, is_some, sym, refl, ap, ◌∙◌, subst, inl, inr, arith}
use Rattle.std.specs.Prelude.{◌==◌, nat_le, nat_lt}
use Rattle.std.proofs.lemmas.Bool.{false≢true, eq-eqb, ne_eqb, leb-true, le-leb}
use Rattle.values.specs.Fleets.{sites, fast_quorum, recovery_quorum}
use Rattle.values.specs.Refusals.{Refused, short, layout, wrong_view}
use Rattle.verdicts.specs.Rule.{finding}
use Rattle.verdicts.specs.Told.{Told, finding_told}
use Rattle.wire.specs.declared.words.Malformed.{Malformed}
use Rattle.wire.specs.declared.statement.Statement.{Statement}
use Rattle.wire.specs.declared.statement.Statement.TheVariants.{Commit}
use Rattle.wire.specs.Contents.{Turn, Content, propose, prepare, commit, new_view}
use Rattle.wire.specs.Layout.{draft_end}
use Rattle.writing.specs.Written.{refusing, sealing_by, sealing}
use Rattle.checks.specs.Vouching.{Vouched}
use Rattle.certificates.specs.Steps.{test, passed, answering}
use Rattle.certificates.specs.Judging.{outcome, reports_of, verdict_call, judge_read, judge_call, judging}
use Rattle.certificates.proofs.Laws.{steps_alike}
use Rattle.records.specs.Rows.{with_prepare, with_commit}
use Rattle.records.specs.Books.{Books}
use Rattle.records.specs.Kept.{Membership, fast, recovery, Decided, Kept}
use Rattle.calls.specs.Gathering.{is_gathered, own_progress}
use Rattle.calls.specs.Effects.{nothing, draft, output_bytes, drafted, wrote, heard, judged, noted, decided, Effect, settle, settling, choice, own_claim, holding, unchanged, moved_to, Answer, by_propose, by_hear, found, head_of}
use Rattle.calls.specs.Calls.{Request, to_hear, to_leave, first, reading, call, hear_content, sealing_at, seal_call, judging_call, read_call, performed, kept_after, out_after, answer_of}
use Rattle.calls.specs.Laws.{JudgesAndReads, judging_answer, DecidesAtQuorum, CommitsAtQuorum, told_bytes, AnswersWhatIsWritten, ProposalIsJudged, DecidesByQuorum, RefusedChangesNothing, AnswersToWhatIsAsked, DraftsBearTheOwnNumber, OnlyThese, LeaveDone, LeaveReports, FirstDecisionStays, DecidedIsAnswered, writing_answer, SealIsSealing, CallLaws}
use Rattle.calls.proofs.Chosen.{verdict_chosen, proposes_in_turn, proposes_what_is_permitted}
use Rattle.calls.proofs.Room.{written_fits, books_keep_length}
use Rattle.calls.proofs.Certified.{kept_certificate_is_good, drafted_certificates_are_good}
use Rattle.calls.proofs.Members.{none_of, blank}
use Rattle.calls.proofs.Gathering.{gathered_are_good}
use Rattle.calls.proofs.Others.{heard_by_others}
use Rattle.calls.proofs.Passed.{nothing_else_is_refused}
use Rattle.calls.proofs.Joined.{joined_is_read}
use Rattle.calls.proofs.Filling.{hear_prepares, hear_fills_prepare, hear_fills_commit, hear_gathers, heard_is_vouched}
use Rattle.calls.proofs.Done.{done_ok, propose_done, hear_done, hear_as, leave_done, seal_done, every}

-- ---- refusals ----

pub refused_changes_nothing : RefusedChangesNothing
refused_changes_nothing v m k books out r e h = rw h (refl, refl, refl)

pub answers_to_what_is_asked : AnswersToWhatIsAsked
answers_to_what_is_asked v w m k books out r h =
    let c = call m k books out r in
    let s = steps_alike v w c.steps h in
    (ap (λ (x : Result (Unit {0}) Refused). answering x c.answer) s.0, s.1)

-- ---- what is written ----

pub answers_what_is_written : AnswersWhatIsWritten
answers_what_is_written v m k books out r x h =
    every v m k books out (λ r x. told_bytes x.answer ≡ length (output_bytes x.output))
    (λ d d'. refl)
    by
    (λ view l. refl)
    (λ written tag bytes. refl)
    (λ view bytes a. refl)
    refl
    r x h
  where
    by : (packet : List ℕ) (c : Content) → told_bytes (hear_content m k books packet c).answer.answer ≡ length (output_bytes (hear_content m k books packet c).answer.output)
    by packet (propose c tag xs) = refl
    by packet (prepare c tag) = refl
    by packet (commit c tag votes) = refl
    by packet (new_view y) = refl

-- ---- what is drafted ----

module _ (m : Membership) (k : Kept) (books : Books) where
  -- s is said by the site, in its round and in a view
  abbrev Own : ℕ → Statement → Type 0
  Own view s = ((head_of s).site ≡ m.own) × ((head_of s).round ≡ k.round) × ((head_of s).view ≡ view)

  abbrev Bears : Effect → Type 0
  Bears x = (s : Statement) → drafted x.output ≡ Some s → Own x.kept.view s

  one : (view : ℕ) (t s : Statement) → Own view t → ◌≡◌ {A = Option Statement} (Some t) (Some s) → Own view s
  one view t s h e = let q : t ≡ s = cc in subst (Own view) q h

  none : (view : ℕ) (s : Statement) → ◌≡◌ {A = Option Statement} None (Some s) → Own view s
  none view s e = absurd (let z : ◌≡◌ {A = ℕ} 0 1 = cc in omega arith)

  if_any : (b : Bool) (t : Statement) (attached : List ℕ) (s : Statement) → Own k.view t → drafted (cond b (draft t attached) nothing) ≡ Some s → Own k.view s
  if_any true t attached s h e = one k.view t s h e
  if_any false t attached s h e = none k.view s e

  heard_bears : (packet : List ℕ) (c : Content) → Bears (hear_content m k books packet c).answer
  heard_bears packet (propose c tag xs) s e = one k.view _ s (refl, refl, refl) e
  heard_bears packet (prepare c tag) s e =
      if_any (holding m (with_prepare k.rows c.head.site c.value).prepares c.value == recovery_quorum m.f m.t) (Commit (own_claim m k c.value)) _ s (refl, refl, refl) e
  heard_bears packet (commit c tag votes) s e = none k.view s e
  heard_bears packet (new_view x) s e = none k.view s e

pub drafts_bear_the_own_number : DraftsBearTheOwnNumber
drafts_bear_the_own_number v m k books out r x s h e =
    every v m k books out (λ r x. Bears m k books x)
    (λ d d' s e. one m k books k.view _ s (refl, refl, refl) e)
    (heard_bears m k books)
    (λ view l s e. one m k books view _ s (refl, refl, refl) e)
    (λ written tag bytes s e. none m k books k.view s e)
    (λ view bytes a s e. none m k books k.view s e)
    (λ s e. none m k books k.view s e)
    r x h s e

judged_ok : (b : Bool) (r : Result (Unit {0}) Refused) (e : Refused) (t : Told) → b ≡ true → r ≡ Ok (tt {0}) → answering (cond b r (Err e)) t ≡ Ok t
judged_ok b r e t h k = rw (h, k) refl

pub proposal_is_judged : ProposalIsJudged
unfolding judge_call
proposal_is_judged v m k books out d x fleet limit bytes high h =
    let p = propose_done v m k books out d x h in
    let c = verdict_chosen v m k d p.xs p.judged in
    let g = finding m.f m.t (reports_of p.xs) in
    let j = joined_is_read m k books p.xs fleet limit bytes p.read in
    let judged : judging v m.f m.t m.limit k.round k.view (own_progress m k books.views) ≡ Ok (finding_told g) =
    ap (λ (r : Result (List Turn) Malformed). outcome v (judge_read m.f m.t k.round k.view r)) j.1
    ∙ judged_ok (nat_le 1 k.view) (passed v (verdict_call m.f m.t k.round k.view 0 p.xs).steps) (wrong_view 0) (finding_told g) (le-leb 1 k.view high) p.judged in
    (choice g d, own_progress m k books.views, g, ap (λ (y : Effect). y.output) p.is, judged, c.0)

-- ---- what changes ----

view_rises : (v : Vouched) (m : Membership) (k : Kept) (books : Books) (out : ℕ) (r : Request) (x : Effect) → performed v m k books out r ≡ Ok x
    → (x.kept.view ≡ k.view) ⊎ ((r ≡ to_leave x.kept.view) × (k.view < x.kept.view))
view_rises v m k books out r x h =
    every v m k books out (λ r x. (x.kept.view ≡ k.view) ⊎ ((r ≡ to_leave x.kept.view) × (k.view < x.kept.view)))
    (λ d d'. inl refl)
    by
    (λ view l. inr (refl, l))
    (λ written tag bytes. inl refl)
    (λ view bytes a. inl refl)
    (inl refl)
    r x h
  where
    by : (packet : List ℕ) (c : Content) → ((hear_content m k books packet c).answer.kept.view ≡ k.view) ⊎ ((to_hear packet ≡ to_leave (hear_content m k books packet c).answer.kept.view) × (k.view < (hear_content m k books packet c).answer.kept.view))
    by packet (propose c tag xs) = inl refl
    by packet (prepare c tag) = inl refl
    by packet (commit c tag votes) = inl refl
    by packet (new_view y) = inl refl

round_stays : (v : Vouched) (m : Membership) (k : Kept) (books : Books) (out : ℕ) (r : Request) (x : Effect) → performed v m k books out r ≡ Ok x → x.kept.round ≡ k.round
round_stays v m k books out r x h =
    every v m k books out (λ r x. x.kept.round ≡ k.round)
    (λ d d'. refl)
    by
    (λ view l. refl)
    (λ written tag bytes. refl)
    (λ view bytes a. refl)
    refl
    r x h
  where
    by : (packet : List ℕ) (c : Content) → (hear_content m k books packet c).answer.kept.round ≡ k.round
    by packet (propose c tag xs) = refl
    by packet (prepare c tag) = refl
    by packet (commit c tag votes) = refl
    by packet (new_view y) = refl

pub only_these : OnlyThese
only_these =
    record {
      seals = λ v m k books out written tag x h. let p = seal_done v m k books out written tag x h in rw p.is (refl, refl);
      judges = λ v m k books out view bytes x h. let p = done_ok v (judging_call m k books view bytes) x h in rw p.1 (refl, refl);
      reads = λ v m k books out x h. let p = done_ok v (read_call m k books) x h in rw p.1 (refl, refl);
      proposes = λ v m k books out d x h. let p = propose_done v m k books out d x h in rw p.is (refl, refl);
      views = view_rises;
      rounds = round_stays;
    }

-- ---- what a prepare comes to ----

settle_reached : (o : Option Decided) (b : Bool) (y : Decided) → b ≡ true → is_some (settle o b y) ≡ true
settle_reached (Some x) b y h = refl
settle_reached None b y h = rw h refl

pub decides_at_quorum : DecidesAtQuorum
decides_at_quorum =
    record {
      prepares = λ v m k books out packet c tag x read h l.
          let p = hear_as v m k books out packet (prepare c tag) x read h in
          let many = holding m (with_prepare k.rows c.head.site c.value).prepares c.value in
          let enough : fast_quorum m.f m.t ≤ many = subst (λ (y : Effect). fast_quorum m.f m.t ≤ holding m y.kept.rows.prepares c.value) p.2 l in
          subst (λ (y : Effect). is_some y.kept.decision ≡ true) (sym p.2) (settle_reached k.decision (nat_le (fast_quorum m.f m.t) many) _ (le-leb (fast_quorum m.f m.t) many enough));
      commits = λ v m k books out packet c tag votes x read h l.
          let p = hear_as v m k books out packet (commit c tag votes) x read h in
          let many = holding m (with_commit k.rows c.head.site c.value).commits c.value in
          let enough : recovery_quorum m.f m.t ≤ many = subst (λ (y : Effect). recovery_quorum m.f m.t ≤ holding m y.kept.rows.commits c.value) p.2 l in
          subst (λ (y : Effect). is_some y.kept.decision ≡ true) (sym p.2) (settle_reached k.decision (nat_le (recovery_quorum m.f m.t) many) _ (le-leb (recovery_quorum m.f m.t) many enough));
    }

pub commits_at_quorum : CommitsAtQuorum
commits_at_quorum =
    record {
      quorum = λ v m k books out packet c tag x read h l.
          let p = hear_as v m k books out packet (prepare c tag) x read h in
          let q = recovery_quorum m.f m.t in
          let many = holding m (with_prepare k.rows c.head.site c.value).prepares c.value in
          let is : many ≡ q = subst (λ (y : Effect). holding m y.kept.rows.prepares c.value ≡ q) p.2 l in
          subst (λ (y : Effect). (y.kept.committed ≡ Some (record { view = k.view; value = c.value })) × (drafted y.output ≡ Some (Commit (own_claim m k c.value)))) (sym p.2)
          (rw (eq-eqb many q is) (refl, refl));
      other = λ v m k books out packet c tag x read h l.
          let p = hear_as v m k books out packet (prepare c tag) x read h in
          let q = recovery_quorum m.f m.t in
          let many = holding m (with_prepare k.rows c.head.site c.value).prepares c.value in
          let is : many ≢ q = subst (λ (y : Effect). holding m y.kept.rows.prepares c.value ≢ q) p.2 l in
          subst (λ (y : Effect). (y.kept.committed ≡ k.committed) × (y.output ≡ nothing) × (y.books.certificate ≡ books.certificate) × (y.kept.lengths.certificate ≡ k.lengths.certificate)) (sym p.2)
          (rw (ne_eqb many q is) (refl, refl, refl, refl));
    }

-- ---- leaving ----

pub leave_reports : LeaveReports
leave_reports v m k books out view x h =
    let p = leave_done v m k books out view x h in
    subst (LeaveDone m k books view) (sym p.is) (record {
      higher = p.higher;
      view_is = refl;
      reports = refl;
      prepared = refl;
      committed = refl;
      certificate = refl;
      decision = refl;
      books_are = refl;
      proposed = refl;
      no_prepares = λ j. blank 16 j None;
      no_commits = λ j. blank 16 j None;
      no_tags = λ j. blank 16 j 0;
      no_views = λ j. blank 16 j 0;
      none_gathered = none_of (is_gathered m (moved_to m view k)) 0 (sites m.f m.t) (λ j. ap (nat_lt 0) (blank 16 j 0));
    })

-- ---- decisions ----

settle_stays : (o : Option Decided) (x : Decided) (b : Bool) (y : Decided) → o ≡ Some x → settle o b y ≡ Some x
settle_stays (Some z) x b y h = h
settle_stays None x b y h = absurd (let z : ◌≡◌ {A = ℕ} 0 1 = cc in omega arith)

pub first_decision_stays : FirstDecisionStays
first_decision_stays v m k books out r x h = by (performed v m k books out r) refl
  where
    heard_stays : (packet : List ℕ) (c : Content) → (hear_content m k books packet c).answer.kept.decision ≡ Some x
    heard_stays packet (propose c tag xs) = h
    heard_stays packet (prepare c tag) = settle_stays k.decision x _ _ h
    heard_stays packet (commit c tag votes) = settle_stays k.decision x _ _ h
    heard_stays packet (new_view y) = h

    by : (a : Result Effect Refused) → performed v m k books out r ≡ a → (kept_after k a).decision ≡ Some x
    by (Ok y) e = every v m k books out (λ r y. y.kept.decision ≡ Some x) (λ d d'. h) heard_stays (λ view l. h) (λ written tag bytes. h) (λ view bytes a. h) h r y e
    by (Err f) e = h

settles_at : (b : Bool) (z y : Decided) → settle None b z ≡ Some y → (b ≡ true) × (z ≡ y)
settles_at true z y h = (refl, cc)
settles_at false z y h = absurd (let e : ◌≡◌ {A = ℕ} 0 1 = cc in omega arith)

module _ (m : Membership) (k : Kept) (books : Books) where
  abbrev By : Effect → Decided → Type 0
  By x y =
      (y.report.view ≡ k.view)
      × (((y.way ≡ fast) × (fast_quorum m.f m.t ≤ holding m x.kept.rows.prepares y.report.value))
      ⊎ ((y.way ≡ recovery) × (recovery_quorum m.f m.t ≤ holding m x.kept.rows.commits y.report.value)))

  abbrev Decides : Effect → Type 0
  Decides x = (y : Decided) → k.decision ≡ None → x.kept.decision ≡ Some y → By x y

  undecided : {P : Type 0} (y : Decided) → k.decision ≡ None → k.decision ≡ Some y → P
  undecided y n e = absurd (let z : ◌≡◌ {A = ℕ} 0 1 = cc in omega arith)

  hear_decides : (packet : List ℕ) (c : Content) → Decides (hear_content m k books packet c).answer
  hear_decides packet (propose c tag xs) y n e = undecided y n e
  hear_decides packet (prepare c tag) y n e =
      let rows = with_prepare k.rows c.head.site c.value in
      let many = holding m rows.prepares c.value in
      let s = settles_at (leb (fast_quorum m.f m.t) many) (record { report = record { view = k.view; value = c.value }; way = fast }) y (rw n at e) in
      rw (sym s.1) (refl, inl (refl, leb-true (fast_quorum m.f m.t) many s.0))
  hear_decides packet (commit c tag votes) y n e =
      let rows = with_commit k.rows c.head.site c.value in
      let many = holding m rows.commits c.value in
      let s = settles_at (leb (recovery_quorum m.f m.t) many) (record { report = record { view = k.view; value = c.value }; way = recovery }) y (rw n at e) in
      rw (sym s.1) (refl, inr (refl, leb-true (recovery_quorum m.f m.t) many s.0))
  hear_decides packet (new_view t) y n e = undecided y n e

pub decides_by_quorum : DecidesByQuorum
decides_by_quorum v m k books out r x y n h e =
    every v m k books out (λ r x. Decides m k books x)
    (λ d d' y n e. undecided m k books y n e)
    (hear_decides m k books)
    (λ view l y n e. undecided m k books y n e)
    (λ written tag bytes y n e. undecided m k books y n e)
    (λ view bytes a y n e. undecided m k books y n e)
    (λ y n e. undecided m k books y n e)
    r x h y n e

abbrev Heard : Option Decided → ℕ → ℕ → Option Decided → Type 0
Heard before what n after = ((n' : ℕ) × (heard what n ≡ heard decided n')) ↔ ((before ≡ None) × (is_some after ≡ true))

zero_two : {P : Type 0} → noted ≡ decided → P
zero_two h = absurd (omega arith)

abbrev what_of : Answer → ℕ
what_of (by_propose x) = 0
what_of (by_hear x) = x.what
what_of (wrote n) = 0
what_of (judged x) = 0
what_of (found x) = 0

-- a hear that is told no decision, and has none
quiet : (o : Option Decided) (what n : ℕ) → (what ≡ decided → ⊥) → Heard o what n o
quiet (Some z) what n h = (λ p. absurd (h (ap what_of p.1)), λ p. absurd (let e = p.0 in let z : ◌≡◌ {A = ℕ} 0 1 = cc in omega arith))
quiet None what n h = (λ p. absurd (h (ap what_of p.1)), λ p. absurd (false≢true p.1))

settled : (o : Option Decided) (b : Bool) (y : Decided) (n : ℕ) → Heard o (settling o b) n (settle o b y)
settled (Some z) b y n = quiet (Some z) noted n (λ e. zero_two e)
settled None true y n = (λ p. (refl, refl), λ p. (n, refl))
settled None false y n = quiet None noted n (λ e. zero_two e)

pub decided_is_answered : DecidedIsAnswered
decided_is_answered v m k books out packet x h =
    let p = hear_done v m k books out packet x h in
    subst (λ (y : Effect). ((n : ℕ) × (y.answer ≡ heard decided n)) ↔ ((k.decision ≡ None) × (is_some y.kept.decision ≡ true))) (sym p.is) (by p.content)
  where
    not_all : (b : Bool) → cond b 1 0 ≡ decided → ⊥
    not_all true e = omega arith
    not_all false e = omega arith

    by : (c : Content) → ((n : ℕ) × ((hear_content m k books packet c).answer.answer ≡ heard decided n)) ↔ ((k.decision ≡ None) × (is_some (hear_content m k books packet c).answer.kept.decision ≡ true))
    by (propose c tag xs) = quiet k.decision noted _ (λ e. zero_two e)
    by (prepare c tag) = settled k.decision _ _ _
    by (commit c tag votes) = settled k.decision _ _ _
    by (new_view y) = quiet k.decision _ 0 (not_all _)

-- ---- sealing ----

module _ (v : Vouched) (m : Membership) (k : Kept) (books : Books) (written tag out : List ℕ) where
  -- sealing, by its two tests and the reading of the draft
  abbrev sealed_by : Bool → Bool → Result ℕ Malformed → Result ℕ Refused × List ℕ
  sealed_by x y r = cond x (cond y (sealing_by written tag out r) (refusing short out)) (refusing (layout 0) out)

  abbrev tried : Bool → Bool → Result ℕ Malformed → Result Effect Refused
  tried x y r = outcome v (first (test x (layout 0) ∷ test y short ∷ []) (reading (unchanged m k books (wrote 0)) r (sealing_at m k books written tag)))

  same_sealing : (x y : Bool) (r : Result ℕ Malformed) → (answer_of (tried x y r) ≡ writing_answer (sealed_by x y r).0) × (out_after out (tried x y r) ≡ (sealed_by x y r).1)
  same_sealing true true (Ok end) = (refl, refl)
  same_sealing true true (Err e) = (refl, refl)
  same_sealing true false r = (refl, refl)
  same_sealing false y r = (refl, refl)

pub seal_is_sealing : SealIsSealing
unfolding seal_call sealing
seal_is_sealing v m k books written tag out =
    same_sealing v m k books written tag out (nat_le (length tag) m.limit) (nat_le (length written + (m.limit + 4)) (length out)) (draft_end m.limit written)

-- ---- judging and reading ----

same_answer : (m : Membership) (k : Kept) (books : Books) (r : Result (Unit {0}) Refused) (t : Told) → answer_of (answering r (unchanged m k books (judged t))) ≡ judging_answer (answering r t)
same_answer m k books (Ok u) t = refl
same_answer m k books (Err e) t = refl

pub judges_and_reads : JudgesAndReads
judges_and_reads =
    record {
      judges = λ v m k books out view bytes. let c = judge_call m.f m.t m.limit k.round view bytes in same_answer m k books (passed v c.steps) c.answer;
      reads = λ v m k books out. refl;
    }

pub call_laws : CallLaws
call_laws =
    record {
      refused = refused_changes_nothing;
      asked = answers_to_what_is_asked;
      told = answers_what_is_written;
      fits = written_fits;
      lengths = books_keep_length;
      own = drafts_bear_the_own_number;
      in_turn = proposes_in_turn;
      permitted = proposes_what_is_permitted;
      joined = joined_is_read;
      judged = proposal_is_judged;
      changes = only_these;
      leaves = leave_reports;
      prepares = hear_prepares;
      prepare = hear_fills_prepare;
      commit = hear_fills_commit;
      gathers = hear_gathers;
      vouched = heard_is_vouched;
      first = first_decision_stays;
      decides = decides_by_quorum;
      at_quorum = decides_at_quorum;
      commits = commits_at_quorum;
      answered = decided_is_answered;
      done = nothing_else_is_refused;
      seals = seal_is_sealing;
      judges = judges_and_reads;
      kept_certificate = kept_certificate_is_good;
      drafted_certificates = drafted_certificates_are_good;
      gathered = gathered_are_good;
      heard = heard_by_others;
    }
