-- Chosen sites that meet in a view prepare one value; by their prepares they decide fast, or commit, and by their commits they decide.
use Rattle.std.proofs.Common.{◌≡◌, ℕ, suc, ◌<◌, ◌≤◌, ◌&&◌, leb, true, List, [], length, take, Some, None, Option, Ok, refl, sym, ap, ◌∙◌, subst, subst₂, arith}
use Rattle.std.proofs.lemmas.Bool.{leb-true, and_parts}
use Rattle.values.specs.declared.fix.Value.{Value}
use Rattle.values.specs.declared.fix.Report.{Report}
use Rattle.values.specs.Fleets.{sites, fast_quorum, progress_quorum, leader_of, legal_fleet}
use Rattle.wire.specs.declared.statement.Statement.{Statement}
use Rattle.agreement.specs.Sites.{SiteSet, size}
use Rattle.agreement.specs.Statements.{Said, In, propose, prepare, commit}
use Rattle.agreement.specs.Moves as rules
use Rattle.agreement.specs.Moves.{Rows}
use Rattle.agreement.proofs.Prompt.{Hold}
use Rattle.agreement.proofs.Lasting.{RowsStay, Stays}
use Rattle.agreement.proofs.Chosen.{lasts, log_lasts, one_proposal, one_prepare, prepares_led, prepare_rows, commit_rows, commits_backed, decides_fast, commits_then, decides_by_commits}
use Rattle.certificates.specs.Runs.{said_of}
use Rattle.records.specs.Kept.{Decided}
use Rattle.calls.specs.Effects.{found, head_of}
use Rattle.calls.specs.Calls.{to_read, answer_of}
use Rattle.calls.proofs.Laws.{judges_and_reads}
use Rattle.runs.specs.Runs.{Behaviour, Site, World, Event, after, Run}
use Rattle.runs.specs.Promises.{Reads}
use Rattle.liveness.specs.Recovery.{Accord, proposals, prepares, commits, DraftedBy, Times, leader, Meeting, HearCommits, DraftedInTime, Found, ChosenDecideFast, ChosenRecover}
use Rattle.runs.proofs.Abstract.{decided_report}
use Rattle.liveness.proofs.Sources.{of_kind}
use Rattle.liveness.proofs.Moments.{at_inside}
use Rattle.liveness.proofs.Present.{site, stands, rule, log, alike, good_run, logged, from_log, draft_site}
use Rattle.liveness.proofs.Gather.{in_the_view, new_view_drafted, proposal_drafted}
use Rattle.liveness.proofs.Filled.{prepares_then, prepare_fills, commit_fills}

decided_some : (o : Option Decided) (r : Report) → decided_report o ≡ Some r → (x : Decided) × (o ≡ Some x)
decided_some None r h = absurd (let z : ◌≡◌ {A = ℕ} 0 1 = cc in omega arith)
decided_some (Some x) r h = (x, refl)

fewer_slow : (f t : ℕ) → legal_fleet f t ≡ true → t ≤ f
fewer_slow f t h =
    let a = and_parts (leb 1 f && leb f 5 && leb t f) (leb (sites f t) 16) h in
    leb-true t f (and_parts (leb 1 f && leb f 5) (leb t f) a.0).1

module _ {f t limit round : ℕ} {good : SiteSet} {w : World} {es : List Event} (run : Run f t limit round good w es) (accord : Accord w es) where
  abbrev at : ℕ → ℕ → Site
  at p i = site run p i

  abbrev rule_at : ℕ → ℕ → rules.Site
  rule_at p i = rule run p i

  abbrev log_at : ℕ → List Said
  log_at p = log run p

  -- what is decided is found
  finds : (p i : ℕ) (r : Report) → good i ≡ true → (rule_at p i).decision ≡ Some r → (x : Decided) × Reads (after w (take p es)) i x
  finds p i r g h =
      let x = decided_some (at p i).kept.decision r (ap (λ (z : rules.Site). z.decision) (sym (alike run p i g)) ∙ h) in
      let e : Event = record { site = i; request = to_read; out = []; check = λ n s tag. true } in
      let z = at p i in
      let by_rules = ap (λ (b : Behaviour). answer_of (b.performs e.check z.member z.kept z.books 0 to_read)) (stands run p i g).behaves in
      (x.0, (e, refl, refl, by_rules ∙ judges_and_reads.reads e.check z.member z.kept z.books 0 ∙ ap (λ (o : Option Decided). Ok (found o)) x.1))

  module _ {chosen : SiteSet} {view : ℕ} {times : Times} {until : ℕ → ℕ} (meeting : Meeting f t w es good chosen view times until) (enough : progress_quorum f t ≤ size chosen (sites f t)) where
    abbrev leads : ℕ
    leads = leader f t w es good chosen view times

    here : (i : ℕ) → chosen i ≡ true → (p : ℕ) → times.entered i ≤ p → p ≤ until i → (at p i).kept.view ≡ view
    here = in_the_view run accord meeting enough

    follows : (i : ℕ) → chosen i ≡ true → good i ≡ true
    follows i c = meeting.follow i c

    -- ---- the proposal and its value ----

    the_proposal : DraftedBy w es proposals view leads times.proposed
    the_proposal = proposal_drafted run accord meeting enough

    the_value : (v : Value) × In (propose leads view v) (log_at (suc the_proposal.0))
    the_value =
        let p = the_proposal.0 in
        let d = the_proposal.2 in
        let c = of_kind proposals d.said d.kind_is in
        let said = logged run d in
        let is : said_of d.said ≡ propose c.0.head.site c.0.head.view c.0.value = ap said_of c.1 in
        let from : c.0.head.site ≡ leads = ap (λ (s : Statement). (head_of s).site) (sym c.1) ∙ draft_site run d in
        let when : c.0.head.view ≡ view = ap (λ (s : Statement). (head_of s).view) (sym c.1) ∙ d.view_is in
        (c.0.value, subst₂ (λ (i v : ℕ). In (propose i v c.0.value) (log_at (suc p))) from when (subst (λ (x : Said). In x (log_at (suc p))) is said))

    -- ---- it is prepared ----

    -- each chosen site prepares it with one of these calls
    record Prepared (i : ℕ) : Type 0 where
      call : ℕ
      early : call < times.proposal_heard i
      entered : times.entered i ≤ call
      inside : call < length es
      said : In (prepare i view the_value.0) (log_at (suc call))

    prepared : (i : ℕ) → chosen i ≡ true → Prepared i
    prepared i c =
        let h = meeting.hear_proposal i c the_proposal.0 the_proposal.1 the_proposal.2 in
        let q = h.0 in
        let last = meeting.proposal_then i c in
        let gi = follows i c in
        let gl = follows leads meeting.led in
        let p = prepares_then run accord the_proposal.2 gl gi h.4 (here i c q h.2 (let l = h.3 in omega arith)) h.1 refl in
        let from = prepares_led (good_run run) (suc q) gi gl p.1 in
        let same : p.0 ≡ the_value.0 = one_proposal (good_run run) (suc q) (suc the_proposal.0) gl from the_value.1 in
        record { call = q; early = h.3; entered = h.2; inside = at_inside es q h.4.calls.call h.4.calls.at; said = subst (λ (x : Value). In (prepare i view x) (log_at (suc q))) same p.1 }

    prepare_drafted : (i : ℕ) → chosen i ≡ true → DraftedBy w es prepares view i (times.proposal_heard i)
    prepare_drafted i c =
        let p = prepared i c in
        let x = from_log run (suc p.call) (prepare i view the_value.0) p.said in
        (x.at, (let a = x.early in let b = p.early in omega arith), x.drafting)

    in_time : DraftedInTime f t w es good chosen view times
    in_time =
        record {
          new_views_are = new_view_drafted run accord meeting enough;
          proposal_is = the_proposal;
          prepares_are = prepare_drafted;
        }

    -- ---- the prepares are heard ----

    -- the rules' site is in the view then
    view_then : (i p : ℕ) (c : chosen i ≡ true) → times.entered i ≤ p → p ≤ until i → (rule_at p i).view ≡ view
    view_then i p c a b = ap (λ (z : rules.Site). z.view) (alike run p i (follows i c)) ∙ here i c p a b

    entered_then : (i : ℕ) → chosen i ≡ true → times.entered i ≤ times.prepares_heard i
    entered_then i c =
        let p = prepare_drafted i c in
        let h = meeting.hear_prepares i i c c p.0 p.1 p.2 in
        let a = h.2 in
        let b = h.3 in
        omega arith

    -- a row that holds the value after a hear in the view holds it when n calls are made, if the site is in the view then
    row_then : (rows : rules.Site → Rows) → ((s later : rules.Site) → Stays s later → RowsStay (rows s) (rows later))
        → (n j : ℕ) → chosen j ≡ true → n ≤ until j → (q i : ℕ) → times.entered j ≤ q → q < n
        → (row : (e : Value) × (rows (rule_at (suc q) j) i ≡ Some e)) → row.0 ≡ the_value.0 → rows (rule_at n j) i ≡ Some the_value.0
    row_then rows stay n j cj last q i low high row is =
        let same = view_then j (suc q) cj (omega arith) (omega arith) ∙ sym (view_then j n cj (omega arith) last) in
        stay (rule_at (suc q) j) (rule_at n j) ((lasts (good_run run) (suc q) n j high).stays same) i the_value.0 (row.1 ∙ ap {B = Option Value} Some is)

    -- when a site has heard them, its rows of all chosen sites hold the value
    prepares_hold : (j : ℕ) → chosen j ≡ true → Hold (sites f t) chosen (rule_at (times.prepares_heard j) j).prepares the_value.0
    prepares_hold j cj i l ci =
        let p = prepare_drafted i ci in
        let h = meeting.hear_prepares i j ci cj p.0 p.1 p.2 in
        let q = h.0 in
        let gi = follows i ci in
        let gj = follows j cj in
        let last = meeting.prepares_then j cj in
        let low = h.2 in
        let high = h.3 in
        let row = prepare_fills run accord p.2 gi gj h.4 (here j cj q low (omega arith)) h.1 refl in
        let own = prepared i ci in
        let now = view_then j (suc q) cj (omega arith) (omega arith) in
        let said = subst (λ (v : ℕ). In (prepare i v row.0) (log_at (suc q))) now (prepare_rows (good_run run) (suc q) j i row.0 gj gi row.1) in
        let same : row.0 ≡ the_value.0 = one_prepare (good_run run) (suc q) (suc own.call) gi said own.said in
        row_then (λ (z : rules.Site). z.prepares) (λ s z x. x.prepares) (times.prepares_heard j) j cj last q i low high row same

    -- ---- a fast quorum of them decides ----

    found_fast : fast_quorum f t ≤ size chosen (sites f t) → Found f t w es good chosen view times times.prepares_heard
    found_fast fast i c =
        let d = decides_fast (good_run run) (times.prepares_heard i) (follows i c) fast (prepares_hold i c) in
        finds (times.prepares_heard i) i d.0 (follows i c) d.1

    -- ---- and they are committed ----

    commit_drafted : (i : ℕ) → chosen i ≡ true → DraftedBy w es commits view i (times.prepares_heard i)
    commit_drafted i c =
        let n = times.prepares_heard i in
        let said = commits_then (good_run run) n (follows i c) (omega arith) (prepares_hold i c) in
        let now = view_then i n c (entered_then i c) (meeting.prepares_then i c) in
        let x = from_log run n (commit i view the_value.0) (subst (λ (v : ℕ). In (commit i v the_value.0) (log_at n)) now said) in
        (x.at, x.early, x.drafting)

    -- ---- the commits are heard ----

    module _ (hear_commits : HearCommits f t w es good chosen view times) (heard_in_time : (i : ℕ) → chosen i ≡ true → times.commits_heard i ≤ until i) where
      -- all prepares are drafted by the end
      prepared_at_last : (i : ℕ) → i < sites f t → chosen i ≡ true → In (prepare i view the_value.0) (log_at (length es))
      prepared_at_last i l c =
          let p = prepared i c in
          log_lasts (good_run run) (suc p.call) (length es) p.inside (prepare i view the_value.0) p.said

      -- when a site has heard the commits, its rows of all chosen sites hold the value
      commits_hold : (j : ℕ) → chosen j ≡ true → Hold (sites f t) chosen (rule_at (times.commits_heard j) j).commits the_value.0
      commits_hold j cj i l ci =
          let p = commit_drafted i ci in
          let h = hear_commits i j ci cj p.0 p.1 p.2 in
          let q = h.0 in
          let gi = follows i ci in
          let gj = follows j cj in
          let last = heard_in_time j cj in
          let low = h.2 in
          let high = h.3 in
          let row = commit_fills run accord p.2 gi gj h.4 (here j cj q low (omega arith)) h.1 refl in
          let now = view_then j (suc q) cj (omega arith) (omega arith) in
          let said = subst (λ (v : ℕ). In (commit i v row.0) (log_at (suc q))) now (commit_rows (good_run run) (suc q) j i row.0 gj gi row.1) in
          let same : row.0 ≡ the_value.0 = commits_backed (good_run run) (suc q) (length es) chosen gi said (omega arith) prepared_at_last in
          row_then (λ (z : rules.Site). z.commits) (λ s z x. x.commits) (times.commits_heard j) j cj last q i low high row same

      -- and decide
      found_by_commits : Found f t w es good chosen view times times.commits_heard
      found_by_commits i c =
          let d = decides_by_commits (good_run run) (times.commits_heard i) (follows i c) (omega arith) (commits_hold i c) in
          finds (times.commits_heard i) i d.0 (follows i c) d.1

-- ---- the promises ----

pub chosen_recover : ChosenRecover
chosen_recover f t limit round good w es run accord chosen view times enough meeting hear_commits = (
  in_time run accord meeting enough,
  commit_drafted run accord meeting enough,
  found_by_commits run accord meeting enough hear_commits (λ i c. omega arith),
)

pub chosen_decide_fast : ChosenDecideFast
chosen_decide_fast f t limit round good w es run accord chosen view times fast meeting =
    let leads = leader_of (sites f t) view in
    let fleet = (stands run 0 leads (meeting.follow leads meeting.led)).sound.fleet in
    let enough : progress_quorum f t ≤ size chosen (sites f t) = omega (arith, fewer_slow f t fleet) in (
      in_time run accord meeting enough,
      found_fast run accord meeting enough fast,
    )
