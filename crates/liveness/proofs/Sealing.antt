-- Whatever a site drafts in a run can be sealed.
use Rattle.std.proofs.Common.{◌≡◌, ℕ, ◌+◌, ◌≤◌, true, List, [], ◌∷◌, ◌++◌, length, take, Ok, Option, refl, sym, ap, ap₂, ◌∙◌, subst, subst₂, arith}
use Rattle.std.proofs.lemmas.Bool.{le-leb}
use Rattle.std.proofs.lemmas.List.{take_at, drop_at}
use Rattle.values.specs.declared.fix.Report.{Report}
use Rattle.values.specs.Fleets.{sites}
use Rattle.wire.specs.declared.statement.Statement.{Statement}
use Rattle.wire.specs.declared.statement.Statement.TheVariants.{Propose, Prepare, Commit, NewView}
use Rattle.wire.specs.Contents.{statement_bytes, tag_bytes, Turn, Content, propose, prepare, commit, new_view, change_of, statement_of, attachment_bytes}
use Rattle.wire.specs.Layout.{draft_end}
use Rattle.packets.specs.Fits.{ChangeFits, StatementFits, ContentFits}
use Rattle.packets.proofs.Back.{draft_back}
use Rattle.checks.specs.Vouching.{Vouched}
use Rattle.agreement.specs.Sites.{SiteSet}
use Rattle.certificates.specs.Steps.{Question, granted}
use Rattle.records.specs.Books.{Books}
use Rattle.records.specs.Kept.{Membership, Kept}
use Rattle.calls.specs.Gathering.{is_gathered, gathered}
use Rattle.calls.specs.Effects.{draft, message, Effect}
use Rattle.calls.specs.Calls.{Request, to_seal, sealing_at, seal_call, performed, asks}
use Rattle.calls.specs.Laws.{Standing, Called, doing, after_call, opened, standing, KeepsToCall, KeepsToCalls}
use Rattle.calls.proofs.Done.{propose_done, hear_as}
use Rattle.calls.proofs.Joined.{few_members, turns_are, joined_is_read}
use Rattle.calls.proofs.Filling.{few_sites}
use Rattle.calls.proofs.Certified.{drafted_certificates_are_good}
use Rattle.calls.proofs.Others.{small_limit}
use Rattle.runs.specs.Runs.{Site, World, Event, draft_left, after, Run}
use Rattle.liveness.specs.Sealing.{sealed, DraftsAreSealed}
use Rattle.liveness.specs.Recovery.{At}
use Rattle.runs.proofs.Standing.{member, Stands}
use Rattle.runs.proofs.Lists.{each_all}
use Rattle.liveness.proofs.Sources.{drafted_by}
use Rattle.liveness.proofs.Own.{called, own, site_of}
use Rattle.liveness.proofs.Moments.{comes_at, comes_take}
use Rattle.liveness.proofs.Present.{site, stands as stands_at, good_there, Drafted, drafted_there, by_own_calls}

-- ---- sealing ----

-- a draft is sealed, if its statement is read to end where it does
seals : (v : Vouched) (m : Membership) (k : Kept) (books : Books) (out : ℕ) (s : Statement) (attached tag : List ℕ) → length tag ≤ m.limit → length (statement_bytes s ++ attached) + (m.limit + 4) ≤ out
    → draft_end m.limit (statement_bytes s ++ attached) ≡ Ok (length (statement_bytes s))
    → (x : Effect) × (performed v m k books out (to_seal (statement_bytes s ++ attached) tag) ≡ Ok x) × (x.output ≡ message (sealed s attached tag))
unfolding seal_call
seals v m k books out s attached tag short room ends =
    let said = statement_bytes s in
    let n = length said in (
      (sealing_at m k books (said ++ attached) tag n).answer,
      rw (le-leb (length tag) m.limit short, le-leb (length (said ++ attached) + (m.limit + 4)) out room, ends) refl,
      ap message (ap₂ (λ (a b : List ℕ). a ++ (tag_bytes tag ++ b)) (take_at said attached n refl) (drop_at said attached n refl)),
    )

-- ---- what is attached ----

-- a content with this statement and attachment, whose parts fit
record Attaches (limit : ℕ) (s : Statement) (attached : List ℕ) : Type 0 where
  content : Content
  fits : ContentFits limit content
  said : statement_of content ≡ s
  is : attachment_bytes content ≡ attached

same_attached : (r s : Statement) (a b : List ℕ) → draft r a ≡ draft s b → a ≡ b
same_attached r s a b e = cc

-- the check that says yes to all keeps to every yes
abbrev yes : Vouched
yes site said tag = true

keeps_to_call : (m : Membership) (s : Standing) (c : Called) → KeepsToCall yes m s c
keeps_to_call m s c = each_all (λ (q : Question). granted c.check q ≡ true → granted yes q ≡ true) (λ q h. refl) (asks c.check m s.kept s.books c.out c.request)

keeps_to_all : (m : Membership) (s : Standing) (cs : List Called) → KeepsToCalls yes m s cs
keeps_to_all m s [] = tt
keeps_to_all m s (c ∷ cs) = (keeps_to_call m s c, keeps_to_all m (after_call m s c) cs)

module _ {f t limit round : ℕ} {good : SiteSet} {w : World} {es : List Event} (run : Run f t limit round good w es) (p : ℕ) (e : Event) (at : At es p e) where
  abbrev m : Membership
  m = member f t limit round e.site

  abbrev z : Site
  z = site run p e.site

  abbrev out : ℕ
  out = length e.out

  g : good e.site ≡ true
  g = good_there run p e at

  stands : Stands f t limit round e.site z
  stands = stands_at run p e.site g

  -- the site as its own calls left it
  abbrev past : List Called
  past = own e.site (take p es)

  abbrev stood : Standing
  stood = standing m round (w e.site).books past

  alike : z ≡ site_of m stood
  alike = by_own_calls run e.site g p

  -- a draft of this call
  abbrev Drafts : Statement → List ℕ → Type 0
  Drafts s attached = Drafted run p e e.site s attached

  done_so : (s : Statement) (attached : List ℕ) (d : Drafts s attached) → doing m stood (called e) ≡ Ok d.effect
  done_so s attached d = subst (λ (y : Site). performed e.check m y.kept y.books out e.request ≡ Ok d.effect) alike d.done

  attaches : (s : Statement) (attached : List ℕ) → StatementFits s → Drafts s attached → Attaches limit s attached
  attaches (Propose c) attached fits d =
      let from = drafted_by e.check m z.kept z.books out 1 e.request d.effect d.done (Propose c) attached d.output refl in
      let r = propose_done e.check m z.kept z.books out from.0 d.effect (subst (λ (r : Request). performed e.check m z.kept z.books out r ≡ Ok d.effect) from.1 d.done) in
      let turns = turns_are m z.kept z.books stands.views 4 (gathered m z.kept) r.xs r.read in
      let many : length r.xs ≤ 16 = omega (arith, few_sites f t stands.sound.fleet, few_members (is_gathered m z.kept) 0 (sites f t), turns.2) in
      let joins = joined_is_read m z.kept z.books r.xs stands.sound.fleet stands.sound.limit stands.views r.read in
      record {
        content = propose c [] r.xs;
        fits = (fits, omega arith, many, turns.1);
        said = refl;
        is = sym joins.0 ∙ same_attached _ (Propose c) _ attached (sym (ap (λ (x : Effect). x.output) r.is) ∙ d.output);
      }
  attaches (Prepare c) attached fits d =
      let from = drafted_by e.check m z.kept z.books out 2 e.request d.effect d.done (Prepare c) attached d.output refl in
      let done = subst (λ (r : Request). performed e.check m z.kept z.books out r ≡ Ok d.effect) from.4 d.done in
      let r = hear_as e.check m z.kept z.books out from.0 (propose from.1 from.2 from.3) d.effect from.5 done in
      record {
        content = prepare c [];
        fits = (fits, omega arith);
        said = refl;
        is = same_attached _ (Prepare c) [] attached (sym (ap (λ (x : Effect). x.output) r.2) ∙ d.output);
      }
  attaches (Commit c) attached fits d =
      let r = drafted_certificates_are_good.commits yes m round (w e.site).books past (called e) d.effect c attached stands.sound.fleet stands.sound.limit
      (keeps_to_all m (opened round (w e.site).books) past) (keeps_to_call m stood (called e)) (done_so (Commit c) attached d) d.output in
      record { content = commit c [] r.votes; fits = (fits, omega arith, r.fits); said = refl; is = sym r.is }
  attaches (NewView c) attached fits d =
      let r = drafted_certificates_are_good.new_views yes m round (w e.site).books past (called e) d.effect c attached stands.sound.fleet stands.sound.limit
      (keeps_to_all m (opened round (w e.site).books) past) (keeps_to_call m stood (called e)) (done_so (NewView c) attached d) d.output in
      let turn : Turn = record { head = c.head; prepared = c.prepared; committed = r.certified; tag = [] } in
      let same : c ≡ change_of turn = ap (λ (q : Option Report). record { head = c.head; prepared = c.prepared; committed = q }) (sym r.reports) in
      record {
        content = new_view turn;
        fits = record { change = subst ChangeFits same fits; tag = omega arith; votes = r.fits };
        said = ap NewView (sym same);
        is = sym r.is;
      }

  -- the statement of its draft is read to end where it does
  ends : (s : Statement) (attached : List ℕ) → StatementFits s → draft_left (after w (take p es)) e ≡ statement_bytes s ++ attached
      → draft_end limit (statement_bytes s ++ attached) ≡ Ok (length (statement_bytes s))
  ends s attached fits d =
      let a = attaches s attached fits (drafted_there run p e at s attached fits d) in
      subst₂ (λ (z : Statement) (b : List ℕ). draft_end limit (statement_bytes z ++ b) ≡ Ok (length (statement_bytes z))) a.said a.is
      (draft_back limit a.content (small_limit limit stands.sound.limit) a.fits)

pub drafts_are_sealed : DraftsAreSealed
drafts_are_sealed f t limit round good w es run past e s attached comes fits d v own k books tag out short room =
    let then = subst (λ (z : List Event). draft_left (after w z) e ≡ statement_bytes s ++ attached) (sym (comes_take es past e comes)) d in
    seals v (record { f = f; t = t; limit = limit; own = own }) k books out s attached tag short room
    (ends run (length past) e (comes_at es past e comes) s attached fits then)
