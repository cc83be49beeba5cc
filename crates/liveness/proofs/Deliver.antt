-- A draft that is heard in its view, sealed, is not refused, if no such message from its site is there yet.
use Rattle.std.proofs.Common.{◌≡◌, ℕ, suc, ◌^◌, ◌<◌, ◌≤◌, true, false, List, [], length, take, None, Ok, sym, ap, ◌∙◌, subst, inl, inr, arith}
use Rattle.std.specs.Prelude.{slice_index}
use Rattle.values.specs.declared.fix.Value.{Value}
use Rattle.values.specs.Fleets.{sites, progress_quorum, leader_of, legal_fleet, legal_limit}
use Rattle.wire.specs.declared.statement.Claim.{Claim}
use Rattle.wire.specs.declared.statement.Statement.{Statement}
use Rattle.wire.specs.declared.statement.Statement.TheVariants.{Propose, Prepare, Commit, NewView}
use Rattle.wire.specs.Contents.{Content, propose, prepare, commit, new_view, statement_of}
use Rattle.wire.specs.Layout.{message_of}
use Rattle.packets.specs.Fits.{StatementFits, ContentFits}
use Rattle.packets.proofs.Back.{fronts_apart}
use Rattle.packets.proofs.Whole.{message_only}
use Rattle.agreement.specs.Sites.{SiteSet}
use Rattle.certificates.specs.Steps.{Question, granted}
use Rattle.records.specs.Rows.{row_of}
use Rattle.records.specs.Books.{Books}
use Rattle.records.specs.Kept.{Membership, Kept}
use Rattle.calls.specs.Gathering.{gathered}
use Rattle.calls.specs.Steps.{is_of}
use Rattle.calls.specs.Effects.{draft, drafted, Effect, own_claim, head_of}
use Rattle.calls.specs.Calls.{Request, to_propose, to_hear, to_leave, performed, asks}
use Rattle.calls.specs.Laws.{Done, KeepsTo, KeepsToCalls, Standing, standing, opened, Room}
use Rattle.calls.proofs.Done.{hear_done, hear_as}
use Rattle.calls.proofs.Laws.{only_these, leave_reports, drafts_bear_the_own_number as own_numbers}
use Rattle.calls.proofs.Others.{heard_by_others}
use Rattle.runs.specs.Runs.{Site, World, Event, OfWords, Run}
use Rattle.liveness.specs.Sealing.{sealed}
use Rattle.liveness.specs.Recovery.{Accord, Drafting, Hears}
use Rattle.runs.proofs.Standing.{member}
use Rattle.liveness.proofs.Sources.{Source, of_kind, drafted_by}
use Rattle.liveness.proofs.Own.{own, site_of, own_bytes}
use Rattle.liveness.proofs.Views.{hear_or_leave}
use Rattle.liveness.proofs.Present.{site, stands, performs, asks_then, with_effect, Drafted, drafted as drafted_at, draft_site, call_as, asks_as, left_as, room_as, words_there, words_past, by_own_calls, keeps_to_own}

said_fits : (limit : ℕ) (c : Content) → ContentFits limit c → StatementFits (statement_of c)
said_fits limit (propose c tag ms) h = h.0
said_fits limit (prepare c tag) h = h.0
said_fits limit (commit c tag votes) h = h.0
said_fits limit (new_view t) h = h.change

propose_or_leave : {P : Type 0} (d : Value) (view : ℕ) → to_propose d ≡ to_leave view → P
propose_or_leave d view e = absurd (let z : ◌≡◌ {A = ℕ} 0 1 = cc in omega arith)

-- what is drafted where a proposal is heard
drafts_prepare : {s : Statement} {attached : List ℕ} (c : Claim) → draft s attached ≡ draft (Prepare c) [] → (s ≡ Prepare c) × (attached ≡ [])
drafts_prepare c e = (cc, cc)

module _ {f t limit round : ℕ} {good : SiteSet} {w : World} {es : List Event} (run : Run f t limit round good w es) where
  abbrev at : ℕ → ℕ → Site
  at p i = site run p i

  -- a hear that was not refused: the content that it read has this statement
  pub record Arrived (q j : ℕ) (s : Statement) (h : Event) (packet : List ℕ) : Type 0 where
    pub content : Content
    pub read : message_of limit packet ≡ Ok content
    pub said : statement_of content ≡ s
    pub effect : Effect
    pub done : performs run q j h (to_hear packet) ≡ Ok effect
    pub now : at (suc q) j ≡ with_effect run q j effect

  -- a draft, and a hear of it in its view
  module _ {kind view i p : ℕ} (d : Drafting w es kind view i p) (gi : good i ≡ true) {q j : ℕ} (gj : good j ≡ true) (h : Hears w es q j i d.said d.attached) (here : (at q j).kept.view ≡ view) where
    -- the drafting site and its call
    abbrev m : Membership
    m = member f t limit round i

    abbrev k : Kept
    k = (at p i).kept

    abbrev books : Books
    books = (at p i).books

    abbrev source : Event
    source = d.call

    abbrev out : ℕ
    out = length source.out

    -- and the hearing one
    abbrev m' : Membership
    m' = member f t limit round j

    abbrev k' : Kept
    k' = (at q j).kept

    abbrev books' : Books
    books' = (at q j).books

    abbrev hear : Event
    hear = h.calls.call

    abbrev out' : ℕ
    out' = length hear.out

    abbrev packet : List ℕ
    packet = sealed d.said d.attached h.tag

    drafts : Drafted run p source i d.said d.attached
    drafts = drafted_at run d

    room : Room m' books' out'
    room = room_as run h.calls h.roomy

    short : length h.tag ≤ limit
    short = subst (λ (m : Membership). length h.tag ≤ m.limit) (stands run q j gj).member_is h.short

    -- the hear of a sealed statement is done
    abbrev DoneWith : Statement → List ℕ → Type 0
    DoneWith s attached = Done hear.check m' k' books' out' (to_hear (sealed s attached h.tag))

    arrives : DoneWith d.said d.attached → Arrived q j d.said hear packet
    arrives x =
        let r = hear_done hear.check m' k' books' out' packet x.0 x.1 in
        let bytes = subst OfWords h.calls.request (words_there run q hear h.calls.at) in
        let whole = message_only limit packet bytes r.content r.read in
        record {
          content = r.content;
          read = r.read;
          said = fronts_apart (statement_of r.content) d.said _ _ (said_fits limit r.content whole.1) d.fits (sym whole.0);
          effect = x.0;
          done = x.1;
          now = left_as run h.calls x.0 (call_as run h.calls ∙ x.1);
        }

    arrives_as : (s : Statement) → d.said ≡ s → DoneWith s d.attached → Arrived q j d.said hear packet
    arrives_as s is x = arrives (subst (λ (z : Statement). DoneWith z d.attached) (sym is) x)

    same_round : (at q j).kept.round ≡ k.round
    same_round = (stands run q j gj).round_is ∙ sym (stands run p i gi).round_is

    abbrev Does : Request → Type 0
    Does r = performs run p i source r ≡ Ok drafts.effect

    fleet : legal_fleet f t ≡ true
    fleet = (stands run p i gi).sound.fleet

    limits : legal_limit limit ≡ true
    limits = (stands run p i gi).sound.limit

    inside : i < sites f t
    inside = (stands run p i gi).inside

    round_low : k.round < 2 ^ 32
    round_low = subst (λ (n : ℕ). n < 2 ^ 32) (sym (stands run p i gi).round_is) run.round_is

    words : OfWords source.request
    words = words_there run p source d.at

    drafted_from : (n : ℕ) → kind ≡ n → Source limit source.request n
    drafted_from n is = drafted_by source.check m k books out n source.request drafts.effect drafts.done d.said d.attached drafts.output (d.kind_is ∙ is)

    output_as : (s : Statement) → d.said ≡ s → drafts.effect.output ≡ draft s d.attached
    output_as s is = drafts.output ∙ ap (λ (z : Statement). draft z d.attached) is

    -- after its call the drafting site is in the view
    drafts_in : drafts.effect.kept.view ≡ view
    drafts_in = sym (own_numbers source.check m k books out source.request drafts.effect d.said drafts.done (ap drafted drafts.output)).2 ∙ d.view_is

    -- a call that is no leave drafts in its view
    same_view : ((v : ℕ) → source.request ≡ to_leave v → ⊥) → k'.view ≡ k.view
    same_view no_leave =
        elim (only_these.views source.check m k books out source.request drafts.effect drafts.done) [
          | inl e ↦ here ∙ sym drafts_in ∙ e
          | inr e ↦ absurd (no_leave drafts.effect.kept.view e.0)
        ]

    -- a later check says yes to what the drafting call was told yes
    keeps : Accord w es → p < q → (r : Request) → source.request ≡ r → KeepsTo hear.check source.check (asks_then run p i source r)
    keeps accord l r e =
        subst (λ (qs : List Question). KeepsTo hear.check source.check qs) (asks_as run (record { call = source; at = d.at; by = d.by; request = e }))
        (accord p q source hear d.at h.calls.at l)

    abbrev Vouches : Statement → Type 0
    Vouches s = granted hear.check (record { site = i; said = s; tag = h.tag }) ≡ true

    -- what arrives bears the number of the drafting site
    pub arrived_from : (a : Arrived q j d.said hear packet) → (head_of (statement_of a.content)).site ≡ i
    arrived_from a = ap (λ (s : Statement). (head_of s).site) a.said ∙ draft_site run d

    -- ---- a proposal ----

    pub proposal_arrives : kind ≡ 1 → p < q → Accord w es → is_of k'.view k'.prepared ≡ false → Arrived q j d.said hear packet
    proposal_arrives n l accord new =
        let c = of_kind 1 d.said (d.kind_is ∙ n) in
        let from = drafted_from 1 n in
        let done = subst Does from.1 drafts.done in
        let fits = subst OfWords from.1 words in
        arrives_as (Propose c.0) c.1
        (heard_by_others.proposals source.check hear.check m k books out from.0 drafts.effect c.0 d.attached fleet limits (stands run p i gi).views round_low (stands run p i gi).view_low fits done
        (output_as (Propose c.0) c.1) (keeps accord l (to_propose from.0) from.1) h.tag j k' books' out' short same_round (same_view (λ v e. propose_or_leave from.0 v (sym from.1 ∙ e)))
        (subst Vouches c.1 h.vouched) new room)

    -- ---- a prepare ----

    pub prepare_arrives : kind ≡ 2 → row_of k'.rows.prepares i ≡ None → Arrived q j d.said hear packet
    prepare_arrives n empty =
        let from = drafted_from 2 n in
        let heard = from.0 in
        let c = from.1 in
        let tag = from.2 in
        let ms = from.3 in
        let done = subst Does from.4 drafts.done in
        let bytes = subst OfWords from.4 words in
        let own = own_claim m k c.value in
        let left = (hear_as source.check m k books out heard (propose c tag ms) drafts.effect from.5 done).2 in
        let is = drafts_prepare own (sym drafts.output ∙ ap (λ (x : Effect). x.output) left) in
        let hears = heard_by_others.prepares source.check hear.check m k books out heard c tag ms drafts.effect fleet limits inside bytes from.5 done
        h.tag j k' books' out' short same_round (same_view (λ v e. hear_or_leave heard v (sym from.4 ∙ e)))
        (subst Vouches is.0 h.vouched) empty room in
        arrives (subst (λ (z : Statement). DoneWith z d.attached) (sym is.0) (subst (λ (z : List ℕ). DoneWith (Prepare own) z) (sym is.1) hears))

    -- ---- a commit ----

    -- the drafting site as its own calls left it
    abbrev stood : Standing
    stood = standing m round (w i).books (own i (take p es))

    alike : at p i ≡ site_of m stood
    alike = by_own_calls run i gi p

    keeps_past : Accord w es → p ≤ q → KeepsToCalls hear.check m (opened round (w i).books) (own i (take p es))
    keeps_past accord l = keeps_to_own run i gi accord p q hear l h.calls.at

    pub commit_arrives : kind ≡ 3 → p < q → Accord w es → row_of k'.rows.commits i ≡ None → Arrived q j d.said hear packet
    commit_arrives n l accord empty =
        let c = of_kind 3 d.said (d.kind_is ∙ n) in
        let from = drafted_from 3 n in
        let heard = from.0 in
        let done = subst (λ (z : Site). performed source.check m z.kept z.books out (to_hear heard) ≡ Ok drafts.effect) alike (subst Does from.3 drafts.done) in
        let now = subst (λ (z : Site). KeepsTo hear.check source.check (asks source.check m z.kept z.books out (to_hear heard))) alike (keeps accord l (to_hear heard) from.3) in
        let bytes = subst OfWords from.3 words in
        arrives_as (Commit c.0) c.1
        (heard_by_others.commits source.check hear.check m round (w i).books (own i (take p es)) out heard from.1 from.2 drafts.effect c.0 d.attached fleet limits inside bytes from.4
        (keeps_past accord (omega arith)) now done (output_as (Commit c.0) c.1) h.tag j k' books' out' short (stands run q j gj).round_is
        (same_view (λ v e. hear_or_leave heard v (sym from.3 ∙ e)) ∙ ap (λ (z : Site). z.kept.view) alike)
        (subst Vouches c.1 h.vouched) empty room)

    -- ---- a new-view ----

    pub new_view_arrives : kind ≡ 4 → p < q → Accord w es → j ≡ leader_of (sites f t) view → slice_index k'.lengths.views i ≡ 0
        → length (gathered m' k') < progress_quorum f t → Arrived q j d.said hear packet
    new_view_arrives n l accord leads empty few =
        let c = of_kind 4 d.said (d.kind_is ∙ n) in
        let from = drafted_from 4 n in
        let left_for = from.0 in
        let done = subst Does from.1 drafts.done in
        let low = subst OfWords from.1 words in
        let is : left_for ≡ view = sym (leave_reports source.check m k books out left_for drafts.effect done).view_is ∙ drafts_in in
        arrives_as (NewView c.0) c.1
        (heard_by_others.new_views source.check hear.check m round (w i).books (own i (take p es)) out left_for drafts.effect c.0 d.attached fleet limits inside run.round_is low
        (own_bytes i (take p es) (words_past run p)) (keeps_past accord (omega arith)) (subst (λ (z : Site). performed source.check m z.kept z.books out (to_leave left_for) ≡ Ok drafts.effect) alike done)
        (output_as (NewView c.0) c.1) h.tag j k' books' out' short (stands run q j gj).round_is (here ∙ sym is) (leads ∙ ap (leader_of (sites f t)) (sym is))
        (subst Vouches c.1 h.vouched) empty few room)
