-- What a call that is not refused went through, and what it leaves.
use Rattle.std.proofs.Common.{◌≡◌, ℕ, ◌<◌, ltb, List, length, Ok, Err, Result, sym, refl, ap, ◌∙◌, subst}
use Rattle.std.proofs.lemmas.Bool.{ltb-true}
use Rattle.values.specs.declared.fix.Value.{Value}
use Rattle.values.specs.Refusals.{Refused, not_higher}
use Rattle.verdicts.specs.Told.{Told}
use Rattle.verdicts.specs.Rule.{finding}
use Rattle.wire.specs.declared.words.Malformed.{Malformed}
use Rattle.wire.specs.Contents.{Turn, Content}
use Rattle.wire.specs.Layout.{message_of, draft_end}
use Rattle.wire.proofs.Results.{ok_same}
use Rattle.writing.specs.Written.{sealed_bytes}
use Rattle.packets.proofs.Sealed.{err_not_ok}
use Rattle.checks.specs.Vouching.{Vouched}
use Rattle.certificates.specs.Steps.{Step, passed, answering}
use Rattle.certificates.specs.Judging.{Call, outcome, reports_of, verdict_call, judge_call}
use Rattle.certificates.proofs.Passing.{answered_ok, append_ok, test_ok}
use Rattle.records.specs.Books.{Books, lent_sizes}
use Rattle.records.specs.Kept.{Membership, Kept}
use Rattle.calls.specs.Gathering.{gathered, turns_read}
use Rattle.calls.specs.Steps.{room_steps, propose_steps, leave_steps, seal_steps}
use Rattle.calls.specs.Effects.{message, wrote, judged, found, Effect, choice, unchanged, proposing, leaving}
use Rattle.calls.specs.Calls.{Request, to_propose, to_hear, to_leave, to_seal, to_judge, to_read, first, reading, propose_gathered, propose_call, hear_content, hear_call, leave_call, sealing_at, seal_call, judging_call, read_call, performed}

-- ---- one part behind another ----

module _ {A : Type 0} (v : Vouched) where
  pub done_ok : (c : Call A) (x : A) → outcome v c ≡ Ok x → (passed v c.steps ≡ Ok (tt {0})) × (x ≡ c.answer)
  done_ok c x h = answered_ok (passed v c.steps) c.answer x (sym h)

  pub first_ok : (steps : List (Step Refused)) (c : Call A) (x : A) → outcome v (first steps c) ≡ Ok x → (passed v steps ≡ Ok (tt {0})) × (outcome v c ≡ Ok x)
  first_ok steps c x h =
      let p = done_ok (first steps c) x h in
      let q = append_ok v steps c.steps p.0 in
      (q.0, ap (λ (r : Result (Unit {0}) Refused). answering r c.answer) q.1 ∙ ap Ok (sym p.1))

pub reading_ok : {A B : Type 0} (v : Vouched) (no_answer : B) (r : Result A Malformed) (next : A → Call B) (x : B) → outcome v (reading no_answer r next) ≡ Ok x
    → (y : A) × (r ≡ Ok y) × (outcome v (next y) ≡ Ok x)
reading_ok v no_answer (Ok y) next x h = (y, refl, h)
reading_ok v no_answer (Err e) next x h = absurd (err_not_ok h)

-- ---- each kind of call ----

module _ (v : Vouched) (m : Membership) (k : Kept) (books : Books) (out : ℕ) where
  pub record Proposed (d : Value) (x : Effect) : Type 0 where
    pub xs : List Turn
    pub room : passed v (room_steps m (lent_sizes books out)) ≡ Ok (tt {0})
    pub tested : passed v (propose_steps m k d) ≡ Ok (tt {0})
    pub read : turns_read m k books.views 4 (gathered m k) ≡ Ok xs
    pub judged : passed v (verdict_call m.f m.t k.round k.view 0 xs).steps ≡ Ok (tt {0})
    pub is : x ≡ proposing m k books (choice (finding m.f m.t (reports_of xs)) d)

  pub propose_done : (d : Value) (x : Effect) → performed v m k books out (to_propose d) ≡ Ok x → Proposed d x
  unfolding propose_call
  propose_done d x h =
      let read = reading (unchanged m k books (wrote 0)) (turns_read m k books.views 4 (gathered m k)) (propose_gathered m k books d) in
      let a = first_ok v (room_steps m (lent_sizes books out)) (first (propose_steps m k d) read) x h in
      let b = first_ok v (propose_steps m k d) read x a.1 in
      let c = reading_ok v (unchanged m k books (wrote 0)) (turns_read m k books.views 4 (gathered m k)) (propose_gathered m k books d) x b.1 in
      let e = done_ok v (propose_gathered m k books d c.0) x c.2 in
      record { xs = c.0; room = a.0; tested = b.0; read = c.1; judged = e.0; is = e.1 }

  pub record Heard (packet : List ℕ) (x : Effect) : Type 0 where
    pub content : Content
    pub room : passed v (room_steps m (lent_sizes books out)) ≡ Ok (tt {0})
    pub read : message_of m.limit packet ≡ Ok content
    pub tested : passed v (hear_content m k books packet content).steps ≡ Ok (tt {0})
    pub is : x ≡ (hear_content m k books packet content).answer

  pub hear_done : (packet : List ℕ) (x : Effect) → performed v m k books out (to_hear packet) ≡ Ok x → Heard packet x
  unfolding hear_call
  hear_done packet x h =
      let read = reading (unchanged m k books (wrote 0)) (message_of m.limit packet) (hear_content m k books packet) in
      let a = first_ok v (room_steps m (lent_sizes books out)) read x h in
      let c = reading_ok v (unchanged m k books (wrote 0)) (message_of m.limit packet) (hear_content m k books packet) x a.1 in
      let e = done_ok v (hear_content m k books packet c.0) x c.2 in
      record { content = c.0; room = a.0; read = c.1; tested = e.0; is = e.1 }

  -- with what its packet reads as
  pub hear_as : (packet : List ℕ) (c : Content) (x : Effect) → message_of m.limit packet ≡ Ok c → performed v m k books out (to_hear packet) ≡ Ok x
      → (passed v (room_steps m (lent_sizes books out)) ≡ Ok (tt {0}))
      × (passed v (hear_content m k books packet c).steps ≡ Ok (tt {0}))
      × (x ≡ (hear_content m k books packet c).answer)
  hear_as packet c x e h =
      let p = hear_done packet x h in
      let same : p.content ≡ c = ok_same (sym p.read ∙ e) in (
        p.room,
        subst (λ (z : Content). passed v (hear_content m k books packet z).steps ≡ Ok (tt {0})) same p.tested,
        subst (λ (z : Content). x ≡ (hear_content m k books packet z).answer) same p.is,
      )

  pub record Departed (view : ℕ) (x : Effect) : Type 0 where
    pub room : passed v (room_steps m (lent_sizes books out)) ≡ Ok (tt {0})
    pub higher : k.view < view
    pub is : x ≡ leaving m k books view

  pub leave_done : (view : ℕ) (x : Effect) → performed v m k books out (to_leave view) ≡ Ok x → Departed view x
  unfolding leave_call
  leave_done view x h =
      let last : Call Effect = record { steps = leave_steps m k view; answer = leaving m k books view } in
      let a = first_ok v (room_steps m (lent_sizes books out)) last x h in
      let b = done_ok v last x a.1 in
      let c = test_ok (ltb k.view view) _ not_higher b.0 in
      record { room = a.0; higher = ltb-true k.view view c.0; is = b.1 }

  -- a seal leaves a message
  abbrev pub sealed : List ℕ → Effect
  sealed bytes = record { kept = k; books = books; output = message bytes; answer = wrote (length bytes) }

  pub record Sealed (draft tag : List ℕ) (x : Effect) : Type 0 where
    pub end : ℕ
    pub tested : passed v (seal_steps m draft tag out) ≡ Ok (tt {0})
    pub is : x ≡ sealed (sealed_bytes draft end tag)

  pub seal_done : (draft tag : List ℕ) (x : Effect) → performed v m k books out (to_seal draft tag) ≡ Ok x → Sealed draft tag x
  unfolding seal_call
  seal_done draft tag x h =
      let read = reading (unchanged m k books (wrote 0)) (draft_end m.limit draft) (sealing_at m k books draft tag) in
      let a = first_ok v (seal_steps m draft tag out) read x h in
      let c = reading_ok v (unchanged m k books (wrote 0)) (draft_end m.limit draft) (sealing_at m k books draft tag) x a.1 in
      let e = done_ok v (sealing_at m k books draft tag c.0) x c.2 in
      record { end = c.0; tested = a.0; is = e.1 }

  -- ---- any call ----

  pub every : (P : Request → Effect → Type 0)
      → ((d d' : Value) → P (to_propose d) (proposing m k books d'))
      → ((packet : List ℕ) (c : Content) → P (to_hear packet) (hear_content m k books packet c).answer)
      → ((view : ℕ) → k.view < view → P (to_leave view) (leaving m k books view))
      → ((draft tag bytes : List ℕ) → P (to_seal draft tag) (sealed bytes))
      → ((view : ℕ) (bytes : List ℕ) (a : Told) → P (to_judge view bytes) (unchanged m k books (judged a)))
      → P to_read (unchanged m k books (found k.decision))
      → (r : Request) (x : Effect) → performed v m k books out r ≡ Ok x → P r x
  every P a b c d e f (to_propose y) x h = let p = propose_done y x h in subst (P (to_propose y)) (sym p.is) (a y (choice (finding m.f m.t (reports_of p.xs)) y))
  every P a b c d e f (to_hear packet) x h = let p = hear_done packet x h in subst (P (to_hear packet)) (sym p.is) (b packet p.content)
  every P a b c d e f (to_leave view) x h = let p = leave_done view x h in subst (P (to_leave view)) (sym p.is) (c view p.higher)
  every P a b c d e f (to_seal draft tag) x h = let p = seal_done draft tag x h in subst (P (to_seal draft tag)) (sym p.is) (d draft tag (sealed_bytes draft p.end tag))
  every P a b c d e f (to_judge view bytes) x h =
      let p = done_ok v (judging_call m k books view bytes) x h in
      subst (P (to_judge view bytes)) (sym p.1) (e view bytes (judge_call m.f m.t m.limit k.round view bytes).answer)
  every P a b c d e f to_read x h = let p = done_ok v (read_call m k books) x h in subst (P to_read) (sym p.1) f
