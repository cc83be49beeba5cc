-- What hearing a packet comes to, once it has room and is read.
use Rattle.std.proofs.Common.{◌≡◌, ℕ, List, Ok, Err, Result, ap, ◌∙◌}
use Rattle.values.specs.Refusals.{Refused, layout}
use Rattle.wire.specs.declared.words.Malformed.{Malformed}
use Rattle.wire.specs.declared.statement.Claim.{Claim}
use Rattle.wire.specs.declared.statement.ViewChange.{ViewChange}
use Rattle.wire.specs.declared.statement.Statement.{Statement}
use Rattle.wire.specs.declared.statement.Statement.TheVariants as statement
use Rattle.wire.specs.Contents.{Content, statement_of, tag_of}
use Rattle.wire.specs.Layout.{votes_at, certified_at, progress_at, message_of}
use Rattle.messages.specs.Parts.{Cut, Pieces, map_ok, locate}
use Rattle.checks.specs.Vouching.{Vouched}
use Rattle.certificates.specs.Steps.{Step, passed, answering}
use Rattle.certificates.specs.Reading.{read_of, optional_of}
use Rattle.certificates.specs.Judging.{Call, outcome}
use Rattle.certificates.proofs.Passing.{next, passed_append}
use Rattle.records.specs.Books.{Books, lent_sizes}
use Rattle.records.specs.Kept.{Membership, Kept}
use Rattle.calls.specs.Steps.{room_steps, hear_propose_steps, hear_prepare_steps, hear_commit_steps, hear_new_view_steps}
use Rattle.calls.specs.Effects.{Effect, wrote, unchanged}
use Rattle.calls.specs.Calls.{first, reading, hear_steps, hear_leaves, hear_content, hear_call}
use Rattle.calls.specs.Hearing.{turn_with, heard_as}
use Rattle.calls.proofs.Read.{message_attached, content_of, pieces, ProposeRead, propose_read, prepare_read, CommitRead, commit_read, NewViewRead, new_view_read}

-- steps in front of a call: it is refused by them, or goes on
pub first_fails : {A : Type 0} (v : Vouched) (xs : List (Step Refused)) (c : Call A) (e : Refused) → passed v xs ≡ Err e → outcome v (first xs c) ≡ Err e
first_fails v xs c e h = ap (λ r. answering r c.answer) (passed_append v xs c.steps ∙ ap (λ r. next r (passed v c.steps)) h)

pub first_passes : {A : Type 0} (v : Vouched) (xs : List (Step Refused)) (c : Call A) → passed v xs ≡ Ok (tt {0}) → outcome v (first xs c) ≡ outcome v c
first_passes v xs c h = ap (λ r. answering r c.answer) (passed_append v xs c.steps ∙ ap (λ r. next r (passed v c.steps)) h)

module _ (v : Vouched) (m : Membership) (k : Kept) (books : Books) (out : ℕ) (b : List ℕ) where
  abbrev room : Result (Unit {0}) Refused
  room = passed v (room_steps m (lent_sizes books out))

  abbrev heard : Result Effect Refused
  heard = outcome v (hear_call m k books out b)

  abbrev read : Call Effect
  read = reading (unchanged m k books (wrote 0)) (message_of m.limit b) (hear_content m k books b)

  pub hear_no_room : (e : Refused) → room ≡ Err e → heard ≡ Err e
  unfolding hear_call
  hear_no_room e h = first_fails v (room_steps m (lent_sizes books out)) read e h

  goes_on : room ≡ Ok (tt {0}) → heard ≡ outcome v read
  unfolding hear_call
  goes_on h = first_passes v (room_steps m (lent_sizes books out)) read h

  pub hear_unread : (e : Malformed) → room ≡ Ok (tt {0}) → message_of m.limit b ≡ Err e → heard ≡ Err (layout e.place)
  hear_unread e h r = goes_on h ∙ rw r

  hear_read : (x : Content) → room ≡ Ok (tt {0}) → message_of m.limit b ≡ Ok x → heard ≡ answering (passed v (hear_steps m k books x)) (hear_leaves m k books b (statement_of x) (tag_of x))
  hear_read x h r = goes_on h ∙ rw r

  -- what is left, by the parts that were read
  left_as : (p : Pieces Statement) (x : Content) → p ≡ locate b x → hear_leaves m k books b (statement_of x) (tag_of x) ≡ heard_as m k books b p
  unfolding locate
  left_as p x h = rw h

  abbrev Reads : Pieces Statement → Type 0
  Reads p = ◌≡◌ {A = Result (Pieces Statement) Malformed} (Ok p) (map_ok (locate b) (message_of m.limit b))

  -- the message was read, and its steps are these
  by_steps : (p : Pieces Statement) (x : Content) (steps : List (Step Refused)) → room ≡ Ok (tt {0}) → message_of m.limit b ≡ Ok x → p ≡ locate b x → hear_steps m k books x ≡ steps
      → heard ≡ answering (passed v steps) (heard_as m k books b p)
  by_steps p x steps h r e s = hear_read x h r ∙ rw (s, left_as p x e)

  pub record HearsPropose (c : Claim) (tag att : Cut) : Type 0 where
    pub content : Content
    pub reads : ProposeRead m.limit b c tag att content
    pub is : heard ≡ answering (passed v (hear_propose_steps m k c tag.bytes (read_of (progress_at m.limit b att.place)))) (heard_as m k books b (pieces m.limit b (statement.Propose c) tag att))

  pub hears_propose : (c : Claim) (tag att : Cut) → room ≡ Ok (tt {0}) → Reads (pieces m.limit b (statement.Propose c) tag att) → HearsPropose c tag att
  hears_propose c tag att h r =
      let p = pieces m.limit b (statement.Propose c) tag att in
      let x = content_of m.limit b p (message_of m.limit b) r in
      let d = propose_read m.limit b c tag att x.0 x.2 (message_attached m.limit b x.0 x.1) in
      record {
        content = x.0;
        reads = d;
        is = by_steps p x.0 (hear_propose_steps m k c tag.bytes (read_of (progress_at m.limit b att.place))) h x.1 x.2 (ap (hear_steps m k books) d.is);
      }

  pub hears_prepare : (c : Claim) (tag att : Cut) → room ≡ Ok (tt {0}) → Reads (pieces m.limit b (statement.Prepare c) tag att)
      → heard ≡ answering (passed v (hear_prepare_steps m k c tag.bytes)) (heard_as m k books b (pieces m.limit b (statement.Prepare c) tag att))
  hears_prepare c tag att h r =
      let p = pieces m.limit b (statement.Prepare c) tag att in
      let x = content_of m.limit b p (message_of m.limit b) r in
      by_steps p x.0 (hear_prepare_steps m k c tag.bytes) h x.1 x.2 (ap (hear_steps m k books) (prepare_read m.limit b c tag att x.0 x.2))

  pub record HearsCommit (c : Claim) (tag att : Cut) : Type 0 where
    pub content : Content
    pub reads : CommitRead m.limit b c tag att content
    pub is : heard ≡ answering (passed v (hear_commit_steps m k c tag.bytes (read_of (votes_at m.limit b att.place)))) (heard_as m k books b (pieces m.limit b (statement.Commit c) tag att))

  pub hears_commit : (c : Claim) (tag att : Cut) → room ≡ Ok (tt {0}) → Reads (pieces m.limit b (statement.Commit c) tag att) → HearsCommit c tag att
  hears_commit c tag att h r =
      let p = pieces m.limit b (statement.Commit c) tag att in
      let x = content_of m.limit b p (message_of m.limit b) r in
      let d = commit_read m.limit b c tag att x.0 x.2 (message_attached m.limit b x.0 x.1) in
      record {
        content = x.0;
        reads = d;
        is = by_steps p x.0 (hear_commit_steps m k c tag.bytes (read_of (votes_at m.limit b att.place))) h x.1 x.2 (ap (hear_steps m k books) d.is);
      }

  pub record HearsNewView (c : ViewChange) (tag att : Cut) : Type 0 where
    pub content : Content
    pub reads : NewViewRead m.limit b c tag att content
    pub is : heard ≡ answering (passed v (hear_new_view_steps m k (turn_with c tag.bytes (optional_of (certified_at m.limit b c.committed att.place))))) (heard_as m k books b (pieces m.limit b (statement.NewView c) tag att))

  pub hears_new_view : (c : ViewChange) (tag att : Cut) → room ≡ Ok (tt {0}) → Reads (pieces m.limit b (statement.NewView c) tag att) → HearsNewView c tag att
  hears_new_view c tag att h r =
      let p = pieces m.limit b (statement.NewView c) tag att in
      let x = content_of m.limit b p (message_of m.limit b) r in
      let d = new_view_read m.limit b c tag att x.0 x.2 (message_attached m.limit b x.0 x.1) in
      record {
        content = x.0;
        reads = d;
        is = by_steps p x.0 (hear_new_view_steps m k (turn_with c tag.bytes (optional_of (certified_at m.limit b c.committed att.place)))) h x.1 x.2 (ap (hear_steps m k books) d.is);
      }
