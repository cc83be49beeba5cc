-- The leader of a meeting has gathered a progress quorum when it proposes, and has drafted a proposal then.
use Rattle.std.proofs.Common.{◌≡◌, ℕ, zero, suc, ◌<◌, ◌≤◌, ◌⊎◌, ◌≢◌, Bool, true, false, cond, List, [], length, take, Ok, Err, refl, sym, ap, ◌∙◌, subst, inl, inr, arith}
use Rattle.std.specs.Prelude.{◌==◌, slice_index}
use Rattle.std.proofs.lemmas.Bool.{lt-ltb, eq-eqb, ne_eqb, cases_Bool, cases_eq, cases_lt}
use Rattle.values.specs.Refusals.{conflicting}
use Rattle.values.specs.Fleets.{sites, progress_quorum, leader_of}
use Rattle.wire.specs.declared.statement.ViewChange.{ViewChange}
use Rattle.wire.specs.declared.statement.Statement.TheVariants.{Propose, NewView}
use Rattle.wire.specs.Contents.{kind_of, Turn, Content, statement_of}
use Rattle.agreement.specs.Sites.{SiteSet, size}
use Rattle.agreement.specs.Statements.{Each, propose as proposes}
use Rattle.agreement.specs.Moves as rules
use Rattle.agreement.proofs.Count.{size_le}
use Rattle.agreement.proofs.Chosen.{marked}
use Rattle.verdicts.specs.Rule.{finding}
use Rattle.certificates.specs.Steps.{passed}
use Rattle.certificates.specs.Faults.{at_depth, bad_count}
use Rattle.certificates.specs.Examining.{entries_needed, progress_steps}
use Rattle.certificates.specs.Judging.{reports_of}
use Rattle.records.specs.Books.{Books}
use Rattle.records.specs.Kept.{Membership, Kept}
use Rattle.calls.specs.Gathering.{members, is_gathered, gathered, turns_read, own_progress}
use Rattle.calls.specs.Effects.{Effect, choice, head_of, own_head, own_claim, moved_to, last_certificate}
use Rattle.calls.proofs.Done.{propose_done, leave_done}
use Rattle.calls.proofs.Passed.{propose_or_conflict}
use Rattle.calls.proofs.Filling.{hear_gathers}
use Rattle.calls.proofs.Members.{size_members, listed_members}
use Rattle.calls.specs.Laws.{Called, standing, opened, OfBytes, KeepsToCalls}
use Rattle.calls.proofs.Gathering.{gathered_stays, count_stays, count_low, GoodRows, always_rows, gathered_are_good}
use Rattle.runs.specs.Runs.{Site, World, Event, OfWords, Run}
use Rattle.liveness.specs.Sealing.{sealed}
use Rattle.liveness.specs.Recovery.{Accord, proposals, new_views, NotRefused, DraftedBy, Drafting, Leaves, Hears, Times, leader, Due, Proposes, Meeting}
use Rattle.runs.proofs.Standing.{member, Stands}
use Rattle.liveness.proofs.Sources.{holds}
use Rattle.liveness.proofs.Present.{site, stands as stands_at, alike, good_run, words_there, call_as, room_as, drafting_as, from_log, by_own_calls, keeps_to_own, words_past}
use Rattle.liveness.proofs.Own.{own, site_of, own_bytes}
use Rattle.liveness.proofs.Moments.{at_comes}
use Rattle.runs.proofs.Agreed.{never_conflict}
use Rattle.liveness.proofs.Views.{in_view, hear_stays, Lasting, call_lasts, lasts_in_view}
use Rattle.liveness.proofs.Deliver.{Arrived, arrived_from, new_view_arrives}

-- where nothing passes there are no members
no_members : (p : ℕ → Bool) (low n : ℕ) → ((j : ℕ) → p j ≡ true → ⊥) → members p low n ≡ []
no_members p low zero h = refl
no_members p low (suc n) h = elim (cases_Bool (p low)) [
  | inl a ↦ absurd (h low a)
  | inr a ↦ rw a (no_members p (suc low) n h)
]

module _ {f t limit round : ℕ} {good : SiteSet} {w : World} {es : List Event} (run : Run f t limit round good w es) (accord : Accord w es) where
  abbrev at : ℕ → ℕ → Site
  at p i = site run p i

  -- a leave drafts a new-view
  leave_drafts : {p i view : ℕ} → Leaves w es p i view → Drafting w es new_views view i p
  leave_drafts {p} {i} {view} l =
      let m = member f t limit round i in
      let e = l.calls.call in
      let k = (at p i).kept in
      let books = (at p i).books in
      let done = sym (call_as run l.calls) ∙ l.done.1 in
      let own : ViewChange = record { head = own_head m (moved_to m view k); prepared = k.prepared; committed = k.committed } in
      let output = ap (λ (x : Effect). x.output) (leave_done e.check m k books (length e.out) view l.done.0 done).is in
      drafting_as run l.calls l.done.0 (NewView own) (last_certificate m k.committed k.lengths.certificate books.certificate) l.done.1 output

  -- the new-view of site i is gathered, or a progress quorum is
  abbrev Gathered : ℕ → ℕ → Kept → Type 0
  Gathered j i k = (is_gathered (member f t limit round j) k i ≡ true) ⊎ (progress_quorum f t ≤ length (gathered (member f t limit round j) k))

  gathered_lasts : (j i : ℕ) → Lasting run j (Gathered j i)
  gathered_lasts j i v k books out r same (inl h) = inl (gathered_stays v (member f t limit round j) k books out r same i h)
  gathered_lasts j i v k books out r same (inr h) = inr (let l = count_stays v (member f t limit round j) k books out r same in omega arith)

  -- after the hear of a new-view in its view
  new_view_gathers : {view i p : ℕ} (d : Drafting w es new_views view i p) (gi : good i ≡ true) {q j : ℕ} (gj : good j ≡ true) (h : Hears w es q j i d.said d.attached) → (at q j).kept.view ≡ view
      → p < q → j ≡ leader_of (sites f t) view → Gathered j i (at (suc q) j).kept
  new_view_gathers {view} {i} {p} d gi {q} {j} gj h here l leads = elim (cases_eq (slice_index z.lengths.views i) 0) [
    | inr ne ↦ stays (inl (lt-ltb 0 (slice_index z.lengths.views i) (omega (arith, ne))))
    | inl empty ↦ elim (cases_lt (length (gathered m z)) (progress_quorum f t)) [
      | inr many ↦ stays (inr many)
      | inl few ↦ arrived (new_view_arrives run d gi gj h here refl l accord leads empty few)
    ]
  ]
    where
      m : Membership
      m = member f t limit round j

      z : Kept
      z = (at q j).kept

      packet : List ℕ
      packet = sealed d.said d.attached h.tag

      stays : Gathered j i z → Gathered j i (at (suc q) j).kept
      stays x = call_lasts run j (Gathered j i) (gathered_lasts j i) q (hear_stays run q j packet h.calls) x

      arrived : Arrived run q j d.said h.calls.call packet → Gathered j i (at (suc q) j).kept
      arrived a =
          let c = holds 4 a.content (ap kind_of a.said ∙ d.kind_is) in
          let site : c.0.head.site ≡ i = ap (λ (x : Content). (head_of (statement_of x)).site) (sym c.1) ∙ arrived_from run d gi gj h here a in
          let inside = (stands_at run p i gi).inside in
          let bytes = subst OfWords h.calls.request (words_there run q h.calls.call h.calls.at) in
          let g = hear_gathers h.calls.call.check m z (at q j).books (length h.calls.call.out) packet c.0 a.effect (stands_at run q j gj).sound bytes (a.read ∙ ap Ok c.1) a.done in
          let listed = (g.now_gathered i inside).1 (inl (sym site)) in
          inl (subst (λ (x : Site). is_gathered m x.kept i ≡ true) (sym a.now) (sym (listed_members (is_gathered m a.effect.kept) 0 (sites f t) i (omega arith) (omega (arith, inside))) ∙ listed))

  -- ---- the leader of a meeting ----

  module _ {chosen : SiteSet} {view : ℕ} {times : Times} {until : ℕ → ℕ} (meeting : Meeting f t w es good chosen view times until) (enough : progress_quorum f t ≤ size chosen (sites f t)) where
    abbrev leads : ℕ
    leads = leader f t w es good chosen view times

    abbrev m : Membership
    m = member f t limit round leads

    abbrev turn : Proposes f t w es good chosen view times
    turn = meeting.proposes

    abbrev propose_call : Event
    propose_call = turn.calls.call

    -- the leader when it proposes
    abbrev k : Kept
    k = (at turn.number leads).kept

    abbrev books : Books
    books = (at turn.number leads).books

    good_leader : good leads ≡ true
    good_leader = meeting.follow leads meeting.led

    stands : Stands f t limit round leads (at turn.number leads)
    stands = stands_at run turn.number leads good_leader

    -- a chosen site is in the view from its entry on
    pub in_the_view : (i : ℕ) → chosen i ≡ true → (p : ℕ) → times.entered i ≤ p → p ≤ until i → (at p i).kept.view ≡ view
    in_the_view i c p a b = in_view run (times.entered i) (until i) i view (meeting.follow i c) (meeting.enter i c) (meeting.stay i c) p a b

    -- and so the leader is, up to then
    led_in : (p : ℕ) → times.entered leads ≤ p → p ≤ turn.number → (at p leads).kept.view ≡ view
    led_in p a b =
        let l = meeting.proposes_then in
        let e = turn.last in
        in_the_view leads meeting.led p a (omega arith)

    here : k.view ≡ view
    here = led_in turn.number turn.entered (omega arith)

    -- a later view than the first is one that the chosen sites left for
    left_for : (i : ℕ) → chosen i ≡ true → view ≢ 1 → (p : ℕ) × (suc p ≡ times.entered i) × Leaves w es p i view
    left_for i c later = elim (meeting.enter i c) [ inl l ↦ l | inr first ↦ absurd (later first.0) ]

    pub new_view_drafted : (i : ℕ) → chosen i ≡ true → view ≢ 1 → DraftedBy w es new_views view i (times.entered i)
    new_view_drafted i c later =
        let l = left_for i c later in
        let e = l.1 in
        (l.0, omega arith, leave_drafts l.2)

    -- the leader's own calls, to all of which the check of its propose keeps
    abbrev own_calls : List Called
    own_calls = own leads (take turn.number es)

    same : at turn.number leads ≡ site_of m (standing m round (w leads).books own_calls)
    same = by_own_calls run leads good_leader turn.number

    keeps : KeepsToCalls propose_call.check m (opened round (w leads).books) own_calls
    keeps = keeps_to_own run leads good_leader accord turn.number turn.number propose_call (omega arith) turn.calls.at

    bytes : Each (λ (a : Called). OfBytes a.request) own_calls
    bytes = own_bytes leads (take turn.number es) (words_past run turn.number)

    -- ---- the propose is not refused ----

    -- it drafts a proposal
    accepted_drafts : NotRefused w es turn.number propose_call → DraftedBy w es proposals view leads times.proposed
    accepted_drafts x =
        let done = sym (call_as run turn.calls) ∙ x.1 in
        let p = propose_done propose_call.check m k books (length propose_call.out) turn.value x.0 done in
        let output = ap (λ (z : Effect). z.output) p.is in
        let d = drafting_as run turn.calls x.0
        (Propose (own_claim m k (choice (finding f t (reports_of p.xs)) turn.value))) (own_progress m k books.views) x.1 output in
        let e = turn.last in
        (turn.number, omega arith, subst (λ (v : ℕ). Drafting w es proposals v leads turn.number) here d)

    -- ---- or it is due ----

    module _ (due : Due f t w es good chosen view times turn.number propose_call turn.value) where
      -- each chosen site is gathered then, or a progress quorum is
      all_gathered : (i : ℕ) → chosen i ≡ true → view ≢ 1 → Gathered leads i k
      all_gathered i c later =
          let d = new_view_drafted i c later in
          let h = due.hears_new_views i c d.0 d.1 d.2 in
          let q = h.0 in
          let heard = new_view_gathers d.2 (meeting.follow i c) good_leader h.4 (led_in q h.2 (let x = h.3 in omega arith)) h.1 refl in
          lasts_in_view run leads (Gathered leads i) (gathered_lasts leads i) (suc q) turn.number view (λ p a b. led_in p (let x = h.2 in omega arith) b) h.3 heard

      -- what it has gathered is what its view needs, and a good certificate
      abbrev Certificate : Type 0
      Certificate =
          (xs : List Turn)
          × (turns_read m k books.views 4 (gathered m k) ≡ Ok xs)
          × (passed propose_call.check (progress_steps f t k.round k.view 0 xs) ≡ Ok (tt {0}))
          × (length (gathered m k) ≡ entries_needed f t k.view)

      -- in the first view there is none
      first_certificate : view ≡ 1 → Certificate
      first_certificate first =
          let none : (j : ℕ) → is_gathered m k j ≡ true → ⊥ = λ j g.
          let rows = always_rows propose_call.check m round stands.sound.fleet stands.sound.limit (w leads).books own_calls bytes keeps in
          (subst (λ (z : Site). GoodRows propose_call.check m z.kept z.books) (sym same) rows j g).later (here ∙ first) in
          let empty : gathered m k ≡ [] = no_members (is_gathered m k) 0 (sites f t) none in
          let needed : entries_needed f t k.view ≡ 0 = ap (λ (b : Bool). cond b 0 (progress_quorum f t)) (eq-eqb k.view 1 (here ∙ first)) in (
            [],
            ap (turns_read m k books.views 4) empty,
            ap (λ (n : ℕ). cond (0 == n) (Ok tt) (Err (at_depth 1 (bad_count 0)))) needed,
            ap length empty ∙ sym needed,
          )

      -- in a later one a progress quorum is gathered
      quorum_gathered : view ≢ 1 → length (gathered m k) ≡ progress_quorum f t
      quorum_gathered later =
          let kept = ap (λ (z : Site). z.kept) same in
          let low : length (gathered m k) ≤ progress_quorum f t = subst (λ (z : Kept). length (gathered m z) ≤ progress_quorum f t) (sym kept) (count_low m round (w leads).books own_calls) in
          elim (cases_lt (length (gathered m k)) (progress_quorum f t)) [
            | inr many ↦ omega arith
            | inl few ↦
                let each : (i : ℕ) → chosen i ≡ true → is_gathered m k i ≡ true = λ i c. elim (all_gathered i c later) [ inl g ↦ g | inr many ↦ absurd (omega arith) ] in
                omega (arith, size_le chosen (is_gathered m k) (sites f t) (λ i l c. each i c), size_members (is_gathered m k) (sites f t))
          ]

      later_certificate : view ≢ 1 → Certificate
      later_certificate later =
          let quorum = subst (λ (z : Site). length (gathered m z.kept) ≡ progress_quorum f t) same (quorum_gathered later) in
          let g = gathered_are_good propose_call.check m round (w leads).books own_calls stands.sound.fleet stands.sound.limit bytes keeps quorum in
          let passes = subst (λ (z : Site). passed propose_call.check (progress_steps f t round z.kept.view 0 g.0) ≡ Ok (tt {0})) (sym same) (g.2 0) in
          let needed : entries_needed f t k.view ≡ progress_quorum f t = ap (λ (b : Bool). cond b 0 (progress_quorum f t)) (ne_eqb k.view 1 (λ e. later (sym here ∙ e))) in (
            g.0,
            subst (λ (z : Site). turns_read m z.kept z.books.views 4 (gathered m z.kept) ≡ Ok g.0) (sym same) g.1,
            subst (λ (n : ℕ). passed propose_call.check (progress_steps f t n k.view 0 g.0) ≡ Ok (tt {0})) (sym stands.round_is) passes,
            quorum_gathered later ∙ sym needed,
          )

      certificate : Certificate
      certificate = elim (cases_eq view 1) [ inl first ↦ first_certificate first | inr later ↦ later_certificate later ]

      -- so it is not refused, if the leader has not proposed
      accepted : k.proposed ≡ false → NotRefused w es turn.number propose_call
      accepted new =
          let g = certificate in
          let room = room_as run turn.calls due.roomy in
          let own : leads ≡ leader_of (sites f t) k.view = ap (leader_of (sites f t)) (sym here) in
          let is = call_as run turn.calls in
          elim (propose_or_conflict propose_call.check m k books (length propose_call.out) room turn.value g.0 own new g.3 due.legal g.1 g.2) [
            | inl done ↦ (done.0, is ∙ done.1)
            | inr bad ↦ absurd (never_conflict f t limit round good w es run (take turn.number es) propose_call conflicting (at_comes es turn.number propose_call turn.calls.at) (is ∙ bad) refl)
          ]

      -- and if it has, it drafted a proposal before
      due_drafts : DraftedBy w es proposals view leads times.proposed
      due_drafts = elim (cases_Bool k.proposed) [
        | inl mark ↦
            let same = alike run turn.number leads good_leader in
            let said = marked (good_run run) turn.number leads good_leader (ap (λ (z : rules.Site). z.proposed) same ∙ mark) in
            let now = ap (λ (z : rules.Site). z.view) same ∙ here in
            let x = from_log run turn.number (proposes leads _ said.0) said.1 in
            let low = x.early in
            let e = turn.last in
            (x.at, omega arith, subst (λ (v : ℕ). Drafting w es proposals v leads x.at) now x.drafting)
        | inr new ↦ accepted_drafts (accepted new)
      ]

    pub proposal_drafted : DraftedBy w es proposals view leads times.proposed
    proposal_drafted = elim turn.due [ inl x ↦ accepted_drafts x | inr due ↦ due_drafts due ]
