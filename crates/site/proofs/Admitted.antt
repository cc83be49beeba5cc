-- What a call that is not refused may write: who it is that says it, and that all of it has room.
use Rattle.std.proofs.Common.{◌≡◌, ℕ, ◌+◌, ◌%◌, ◌&&◌, ◌≤◌, ◌<◌, true, leb, eqb, List, ◌++◌, length, Ok, Result, refl, sym, ap, ◌∙◌, arith, mul-le-mul_right, one-mul}
use Rattle.std.specs.Prelude.{nat_lt}
use Rattle.std.proofs.lemmas.Bool.{and_from, le-leb, eq-eqb, ltb-true}
use Rattle.buffers.specs.Words.{Bytes}
use Rattle.values.specs.declared.fleet.Fleet.{Fleet}
use Rattle.values.specs.declared.fleet.TagLimit.{TagLimit}
use Rattle.values.specs.Fleets.{sites, progress_quorum, legal_fleet, legal_limit}
use Rattle.values.specs.Refusals.{Refused}
use Rattle.wire.specs.declared.statement.Claim.{Claim}
use Rattle.wire.specs.declared.statement.ViewChange.{ViewChange}
use Rattle.wire.specs.declared.statement.Statement.TheVariants.{Prepare, Commit, NewView}
use Rattle.wire.specs.Contents.{statement_bytes, tag_bytes, certified_bytes, change_of, prepare, commit, new_view}
use Rattle.wire.specs.Layout.{votes_at, certified_at, message_of}
use Rattle.wire.specs.declared.tag.Part.{Part}
use Rattle.messages.specs.declared.message.Message.{Message}
use Rattle.messages.specs.Parts.{cut_of, told, map_ok, locate}
use Rattle.packets.proofs.Whole.{message_only}
use Rattle.checks.specs.Vouching.{Vouched}
use Rattle.certificates.specs.Examining.{certificate_steps, behind_tag}
use Rattle.certificates.specs.Steps.{passed, blamed}
use Rattle.certificates.specs.Faults.{at_depth}
use Rattle.certificates.specs.Reading.{read_of, optional_of}
use Rattle.records.specs.Sizes.{tag_row, view_row, out_size}
use Rattle.records.specs.Rows.{row_of}
use Rattle.records.specs.Books.{Books, lent_sizes}
use Rattle.records.specs.Kept.{Membership, membership_of, Kept, kept_of}
use Rattle.calls.specs.declared.record.Record.{Record}
use Rattle.calls.specs.Steps.{room_steps, row_steps, hear_prepare_steps, hear_commit_steps, claim_heard}
use Rattle.calls.specs.Effects.{Effect, Answer}
use Rattle.calls.specs.Hearing.{turn_with, heard_as}
use Rattle.calls.specs.Calls.{to_hear, answer_of, kept_after, books_after, out_after}
use Rattle.effects.specs.Changes.{onto, shelf}
use Rattle.site.specs.Does.{does}
use Rattle.calls.proofs.Done.{hear_done, hear_as}
use Rattle.calls.proofs.Read.{content_of, message_attached, prepare_read, commit_read, new_view_read}
use Rattle.calls.proofs.Filling.{Roomy, room_ok, claim_ok, tag_fits, tag_short, turn_short, turn_ok}

pub fleet_legal : (x : Fleet) → legal_fleet x.f x.t ≡ true
fleet_legal x =
    let l = x.legal in
    and_from (leb 1 x.f && leb x.f 5 && leb x.t x.f) (leb (sites x.f x.t) 16)
    (and_from (leb 1 x.f && leb x.f 5) (leb x.t x.f) (and_from (leb 1 x.f) (leb x.f 5) (le-leb 1 x.f l.0) (le-leb x.f 5 (omega (arith, l.2)))) (le-leb x.t x.f l.1))
    (le-leb (sites x.f x.t) 16 l.2)

pub limit_legal : (x : TagLimit) → legal_limit x.bytes ≡ true
limit_legal x =
    let l = x.legal in
    and_from (leb 4 x.bytes && leb x.bytes 2048) (eqb (x.bytes % 4) 0) (and_from (leb 4 x.bytes) (leb x.bytes 2048) (le-leb 4 x.bytes l.0) (le-leb x.bytes 2048 l.1)) (eq-eqb (x.bytes % 4) 0 l.2)

-- out has room for a row of the view book
pub row_in : (f t limit out : ℕ) → out_size f t limit ≤ out → view_row f t limit ≤ out
row_in f t limit out h =
    let some : 1 ≤ progress_quorum f t = omega arith in
    omega (arith, mul-le-mul_right (view_row f t limit) some, one-mul (view_row f t limit))

-- what a call leaves that is not refused
module _ {r : Result Effect Refused} {x : Effect} (h : r ≡ Ok x) where
  pub answer_left : (a : Answer) → a ≡ x.answer → Ok a ≡ answer_of r
  answer_left a e = ap Ok e ∙ sym (ap answer_of h)

  pub kept_left : (old new : Kept) → new ≡ x.kept → new ≡ kept_after old r
  kept_left old new e = e ∙ sym (ap (kept_after old) h)

  pub books_left : (old new : Books) → new ≡ x.books → new ≡ books_after old r
  books_left old new e = e ∙ sym (ap (books_after old) h)

  pub out_left : (old new : List ℕ) → new ≡ onto x.output old → new ≡ out_after old r
  out_left old new e = e ∙ sym (ap (out_after old) h)

pub same_books : {a b c a' b' c' : List ℕ} → a ≡ a' → b ≡ b' → c ≡ c' → shelf a b c ≡ shelf a' b' c'
same_books e f g = rw (e, f, g) refl

-- a message that hear admits: what it leaves, and that the packet reads as it
pub record Admitted (v : Vouched) (r : Record) (books : Books) (out b : List ℕ) (message : Message) : Type 0 where
  pub done : does v r books (length out) (to_hear b) ≡ Ok (heard_as (membership_of r.member) (kept_of r.round) books b (told message))
  pub read : map_ok (locate b) (message_of r.member.limit.bytes b) ≡ Ok (told message)

-- as the code has it, with the books lent to be read
pub admitted : (v : Vouched) (r : Record) (books : Books) (out b : List ℕ) (lent : Books) (message : Message) → lent ≡ books
    → Ok (heard_as (membership_of r.member) (kept_of r.round) lent b (told message)) ≡ does v r lent (length out) (to_hear b)
    → map_ok (locate b) (message_of r.member.limit.bytes b) ≡ Ok (told message) → Admitted v r books out b message
admitted v r books out b lent message e h read = rw (sym e) (record { done = sym h; read = read })

module _ {v : Vouched} {r : Record} {books : Books} {out b : List ℕ} {message : Message} (a : Admitted v r books out b message) where
  abbrev m : Membership
  m = membership_of r.member

  abbrev k : Kept
  k = kept_of r.round

  -- the room that there is, and what is said of the parts
  pub record In (P : Type 0) : Type 0 where
    pub room : Roomy v m books (length out)
    pub row : view_row m.f m.t m.limit ≤ length out
    pub said : P

  in_room : (P : Type 0) → passed v (room_steps m (lent_sizes books (length out))) ≡ Ok (tt {0}) → P → In P
  in_room P h p =
      let r = room_ok v m books (length out) h in
      record { room = r; row = row_in m.f m.t m.limit (length out) r.whole; said = p }

  -- by its parts
  pub left_by : (n : Message) → message ≡ n → does v r books (length out) (to_hear b) ≡ Ok (heard_as (membership_of r.member) (kept_of r.round) books b (told n))
  left_by n e = a.done ∙ ap (λ x. Ok (heard_as (membership_of r.member) (kept_of r.round) books b (told x))) e

  reads : (n : Message) → message ≡ n → Ok (told n) ≡ map_ok (locate b) (message_of m.limit b)
  reads n e = ap (λ x. Ok (told x)) (sym e) ∙ sym a.read

  pub proposal_in : (claim : Claim) (tag progress : Part) → message ≡ Message.Propose claim tag progress → In (Unit {0})
  proposal_in claim tag progress e = in_room (Unit {0}) (hear_done v m k books (length out) b _ a.done).room tt

  pub prepare_in : (claim : Claim) (tag : Part) → message ≡ Message.Prepare claim tag
      → In ((claim.head.site < sites m.f m.t) × (length tag.bytes.now ≤ m.limit) × (length (tag_bytes tag.bytes.now) ≤ tag_row m.limit))
  unfolding hear_prepare_steps claim_heard
  prepare_in c tag e =
      let n = Message.Prepare c tag in
      let x = content_of m.limit b (told n) (message_of m.limit b) (reads n e) in
      let is = x.1 ∙ ap Ok (prepare_read m.limit b c (told n).tag (told n).attachment x.0 x.2) in
      let p = hear_as v m k books (length out) b (prepare c tag.bytes.now) _ is (left_by n e) in
      let i = c.head.site in
      let q = claim_ok v k.round k.view (nat_lt i (sites m.f m.t)) c (Prepare c) tag.bytes.now (row_steps (row_of k.rows.prepares i) c.value) p.1 in
      let short = tag_short m.limit b (prepare c tag.bytes.now) is in
      in_room _ p.0 (ltb-true i (sites m.f m.t) q.is_known, short, tag_fits m.limit tag.bytes.now (limit_legal r.member.limit) short)

  pub commit_in : (claim : Claim) (tag certificate : Part) → message ≡ Message.Commit claim tag certificate → In (claim.head.site < sites m.f m.t)
  unfolding hear_commit_steps claim_heard
  commit_in c tag certificate e =
      let n = Message.Commit c tag certificate in
      let x = content_of m.limit b (told n) (message_of m.limit b) (reads n e) in
      let d = commit_read m.limit b c (cut_of tag) (cut_of certificate) x.0 x.2 (message_attached m.limit b x.0 x.1) in
      let votes = read_of (votes_at m.limit b certificate.place) in
      let p = hear_as v m k books (length out) b (commit c tag.bytes.now votes) _ (x.1 ∙ ap Ok d.is) (left_by n e) in
      let i = c.head.site in
      let good = blamed (at_depth 1) (certificate_steps m.f m.t k.round (record { view = k.view; value = c.value }) (28 + length (tag_bytes tag.bytes.now)) votes) in
      let q = claim_ok v k.round k.view (nat_lt i (sites m.f m.t)) c (Commit c) tag.bytes.now (row_steps (row_of k.rows.commits i) c.value ++ good) p.1 in
      in_room _ p.0 (ltb-true i (sites m.f m.t) q.is_known)

  pub new_view_in : Bytes b → (change : ViewChange) (tag certificate : Part) → message ≡ Message.NewView change tag certificate
      → In ((change.head.site < sites m.f m.t) × (length b ≤ view_row m.f m.t m.limit))
  new_view_in bytes c tag certificate e =
      let n = Message.NewView c tag certificate in
      let x = content_of m.limit b (told n) (message_of m.limit b) (reads n e) in
      let d = new_view_read m.limit b c (cut_of tag) (cut_of certificate) x.0 x.2 (message_attached m.limit b x.0 x.1) in
      let is = x.1 ∙ ap Ok d.is in
      let t = turn_with c tag.bytes.now (optional_of (certified_at m.limit b c.committed certificate.place)) in
      let p = hear_as v m k books (length out) b (new_view t) _ is (left_by n e) in
      let q = turn_ok v m k t p.1 in
      let w = message_only m.limit b bytes (new_view t) is in
      let s = turn_short v m.f m.t k.round m.limit (behind_tag 0 t) t (limit_legal r.member.limit) w.1.tag w.1.votes q.certified in
      let same : length b ≡ length (statement_bytes (NewView (change_of t)) ++ (tag_bytes t.tag ++ certified_bytes t.committed)) = ap length w.0 in
      in_room _ p.0 (q.site_is, omega arith)
