-- What is true of a rule-following site behind any of its calls.
use Rattle.std.proofs.Common.{◌≡◌, ℕ, ◌*◌, ◌^◌, ◌<◌, Bool, true, false, ◌&&◌, cond, ltb, List, length, Ok, Err, Result, refl, sym, ap, ◌∙◌, subst, inl, inr, arith, length-set}
use Rattle.std.proofs.lemmas.Bool.{and_parts, ltb-true}
use Rattle.buffers.specs.Words.{Bytes}
use Rattle.buffers.proofs.Bytes.{bytes_laid}
use Rattle.values.specs.Fleets.{sites, legal_fleet, legal_limit}
use Rattle.values.specs.Refusals.{Refused, limits}
use Rattle.wire.specs.Contents.{tag_bytes, Content, propose, prepare, commit, new_view}
use Rattle.checks.specs.Vouching.{Vouched}
use Rattle.records.specs.Sizes.{view_row}
use Rattle.records.specs.Books.{Books}
use Rattle.records.specs.Kept.{Membership, Kept, fresh, openable, opening}
use Rattle.calls.specs.Effects.{Effect}
use Rattle.calls.specs.Calls.{Request, to_propose, to_hear, to_leave, to_seal, to_judge, to_read, hear_content, judging_call, read_call, performed, asks, kept_after, books_after}
use Rattle.calls.specs.Laws.{Sound, OfBytes}
use Rattle.calls.proofs.Done.{done_ok, propose_done, hear_done, leave_done, seal_done}
use Rattle.calls.proofs.Laws.{only_these}
use Rattle.calls.proofs.Reported.{Reports, none_sent, call_reports}
use Rattle.runs.specs.Runs.{Behaviour, by_the_rules, Site, World, Event, result, questions, left, OfWords}

-- ---- one call ----

module _ (v : Vouched) (m : Membership) (k : Kept) (books : Books) (sound : Sound m k) (views : Bytes books.views) where
  -- all rows are there still, and the view book is bytes
  abbrev Shaped : Effect → Type 0
  Shaped x = Sound m x.kept × Bytes x.books.views

  hear_shapes : (packet : List ℕ) (c : Content) → Bytes packet → Shaped (hear_content m k books packet c).answer
  hear_shapes packet (propose c tag ms) bytes =
      (record { fleet = sound.fleet; limit = sound.limit; prepares = sound.prepares; commits = sound.commits; tags = sound.tags; views = sound.views }, views)
  hear_shapes packet (prepare c tag) bytes = (
    record {
      fleet = sound.fleet;
      limit = sound.limit;
      prepares = length-set k.rows.prepares c.head.site _ ∙ sound.prepares;
      commits = sound.commits;
      tags = length-set k.lengths.tags c.head.site (length (tag_bytes tag)) ∙ sound.tags;
      views = sound.views;
    },
    views,
  )
  hear_shapes packet (commit c tag votes) bytes = (
    record { fleet = sound.fleet; limit = sound.limit; prepares = sound.prepares; commits = length-set k.rows.commits c.head.site _ ∙ sound.commits; tags = sound.tags; views = sound.views },
    views,
  )
  hear_shapes packet (new_view t) bytes = (
    record { fleet = sound.fleet; limit = sound.limit; prepares = sound.prepares; commits = sound.commits; tags = sound.tags; views = length-set k.lengths.views t.head.site (length packet) ∙ sound.views },
    bytes_laid books.views (t.head.site * view_row m.f m.t m.limit) packet views bytes,
  )

  shapes : (out : ℕ) (r : Request) (x : Effect) → OfWords r → performed v m k books out r ≡ Ok x → Shaped x
  shapes out (to_propose d) x words h =
      let p = propose_done v m k books out d x h in
      subst Shaped (sym p.is) (record { fleet = sound.fleet; limit = sound.limit; prepares = sound.prepares; commits = sound.commits; tags = sound.tags; views = sound.views }, views)
  shapes out (to_hear packet) x words h = let p = hear_done v m k books out packet x h in subst Shaped (sym p.is) (hear_shapes packet p.content words)
  shapes out (to_leave view) x words h =
      let p = leave_done v m k books out view x h in
      subst Shaped (sym p.is) (record { fleet = sound.fleet; limit = sound.limit; prepares = refl; commits = refl; tags = refl; views = refl }, views)
  shapes out (to_seal written tag) x words h = let p = seal_done v m k books out written tag x h in subst Shaped (sym p.is) (sound, views)
  shapes out (to_judge view certificate) x words h = let p = done_ok v (judging_call m k books view certificate) x h in subst Shaped (sym p.1) (sound, views)
  shapes out to_read x words h = let p = done_ok v (read_call m k books) x h in subst Shaped (sym p.1) (sound, views)

  view_stays_low : (out : ℕ) (r : Request) (x : Effect) → OfWords r → k.view < 2 ^ 32 → performed v m k books out r ≡ Ok x → x.kept.view < 2 ^ 32
  view_stays_low out r x words low h = elim (only_these.views v m k books out r x h) [
    | inl e ↦ subst (λ (n : ℕ). n < 2 ^ 32) (sym e) low
    | inr e ↦ subst OfWords e.0 words
  ]

pub packets_of_bytes : (r : Request) → OfWords r → OfBytes r
packets_of_bytes (to_propose d) h = tt
packets_of_bytes (to_hear packet) h = h
packets_of_bytes (to_leave view) h = tt
packets_of_bytes (to_seal written tag) h = tt
packets_of_bytes (to_judge view certificate) h = tt
packets_of_bytes to_read h = tt

-- ---- sites ----

module _ (f t limit round : ℕ) where
  abbrev pub member : ℕ → Membership
  member i = record { f = f; t = t; limit = limit; own = i }

  -- site i, opened in this fleet and round, behind any calls
  pub record Stands (i : ℕ) (s : Site) : Type 0 where
    pub behaves : s.behaviour ≡ by_the_rules
    pub member_is : s.member ≡ member i
    pub inside : i < sites f t
    pub round_is : s.kept.round ≡ round
    pub view_low : s.kept.view < 2 ^ 32
    pub sound : Sound (member i) s.kept
    pub reports : Reports s.kept
    pub views : Bytes s.books.views

  -- what a call does there, and what it asks, by the site's membership
  pub result_as : (w : World) (e : Event) → Stands e.site (w e.site) → result w e ≡ performed e.check (member e.site) (w e.site).kept (w e.site).books (length e.out) e.request
  result_as w e h =
      ap (λ (b : Behaviour). b.performs e.check (w e.site).member (w e.site).kept (w e.site).books (length e.out) e.request) h.behaves
      ∙ ap (λ (m : Membership). performed e.check m (w e.site).kept (w e.site).books (length e.out) e.request) h.member_is

  pub questions_as : (w : World) (e : Event) → Stands e.site (w e.site) → questions w e ≡ asks e.check (member e.site) (w e.site).kept (w e.site).books (length e.out) e.request
  questions_as w e h =
      ap (λ (b : Behaviour). b.asks e.check (w e.site).member (w e.site).kept (w e.site).books (length e.out) e.request) h.behaves
      ∙ ap (λ (m : Membership). asks e.check m (w e.site).kept (w e.site).books (length e.out) e.request) h.member_is

  pub stands_next : (w : World) (e : Event) → OfWords e.request → Stands e.site (w e.site) → Stands e.site (left w e)
  stands_next w e words was = by_result (result w e) refl
    where
      s : Site
      s = w e.site

      by_result : (r : Result Effect Refused) → result w e ≡ r → Stands e.site (record { behaviour = s.behaviour; member = s.member; kept = kept_after s.kept r; books = books_after s.books r })
      by_result (Err x) h = was
      by_result (Ok x) h =
          let m = member e.site in
          let done = sym (result_as w e was) ∙ h in
          let shaped = shapes e.check m s.kept s.books was.sound was.views (length e.out) e.request x words done in
          record {
            behaves = was.behaves;
            member_is = was.member_is;
            inside = was.inside;
            round_is = only_these.rounds e.check m s.kept s.books (length e.out) e.request x done ∙ was.round_is;
            view_low = view_stays_low e.check m s.kept s.books was.sound was.views (length e.out) e.request x words was.view_low done;
            sound = shaped.0;
            reports = call_reports e.check m s.kept s.books was.reports (length e.out) e.request x (packets_of_bytes e.request words) done;
            views = shaped.1;
          }

  opened_as : (b : Bool) (x y : Membership × Kept) → cond b (Ok x) (Err limits) ≡ Ok y → (b ≡ true) × (x ≡ y)
  opened_as true x y h = (refl, cc)
  opened_as false x y h = absurd (let z : ◌≡◌ {A = ℕ} 0 1 = cc in omega arith)

  -- what opening leaves
  pub opens : (i : ℕ) (s : Site) → s.behaviour ≡ by_the_rules → opening f t i limit round ≡ Ok (s.member, s.kept) → Bytes s.books.views → Stands i s × (s.kept ≡ fresh round)
  opens i s behaves h views =
      let o = opened_as (openable f t i limit) (member i, fresh round) (s.member, s.kept) h in
      let p = and_parts (legal_fleet f t && ltb i (sites f t)) (legal_limit limit) o.0 in
      let q = and_parts (legal_fleet f t) (ltb i (sites f t)) p.0 in
      let kept : s.kept ≡ fresh round = sym (ap (λ (z : Membership × Kept). z.1) o.1) in
      let sound : Sound (member i) (fresh round) = record { fleet = q.0; limit = p.1; prepares = refl; commits = refl; tags = refl; views = refl } in
      let reports : Reports (fresh round) = record { first = omega arith; prepared = none_sent 1; committed = none_sent 1 } in (
        record {
          behaves = behaves;
          member_is = sym (ap (λ (z : Membership × Kept). z.0) o.1);
          inside = ltb-true i (sites f t) q.1;
          round_is = ap (λ (z : Kept). z.round) kept;
          view_low = (let e = ap (λ (z : Kept). z.view) kept in omega arith);
          sound = subst (Sound (member i)) (sym kept) sound;
          reports = subst Reports (sym kept) reports;
          views = views;
        },
        kept,
      )
