-- What propose comes to, test by test.
use Rattle.std.proofs.Common.{◌≡◌, ℕ, ◌*◌, ◌≤◌, Bool, true, false, cond, not, List, [], ◌∷◌, length, Some, None, Ok, Err, Option, Result, refl, ap, ◌∙◌, arith}
use Rattle.std.specs.Prelude.{◌&&◌}
use Rattle.std.specs.Result.{IsOk}
use Rattle.std.proofs.lemmas.Bool.{leb-true, and_parts}
use Rattle.values.specs.declared.fix.Value.{Value}
use Rattle.values.specs.Fleets.{sites}
use Rattle.values.specs.Fixes.{fix_of, legal}
use Rattle.values.specs.Refusals.{Refused, layout, illegal, short, may_not_propose}
use Rattle.verdicts.specs.declared.rule.Forcing.{Forcing}
use Rattle.verdicts.specs.Rule.{Finding, free, forced, conflict, finding}
use Rattle.verdicts.specs.Told.{Told, finding_told, forced_told}
use Rattle.wire.specs.declared.words.Malformed.{Malformed}
use Rattle.wire.specs.Contents.{Turn}
use Rattle.messages.specs.Parts.{map_ok}
use Rattle.checks.specs.Vouching.{Vouched}
use Rattle.certificates.specs.Steps.{test, passed, answering}
use Rattle.certificates.specs.Judging.{Call, outcome, reports_of, verdict_call}
use Rattle.certificates.proofs.Passing.{answered_ok, answered_err}
use Rattle.certificates.proofs.Whole.{err_of, good_of}
use Rattle.records.specs.Sizes.{view_row, sizes_of, covers}
use Rattle.records.specs.Books.{Books, lent_sizes}
use Rattle.records.specs.Kept.{Membership, Kept}
use Rattle.calls.specs.Gathering.{gathered, turns_read}
use Rattle.calls.specs.Steps.{room_steps, leads, due, propose_steps}
use Rattle.calls.specs.Effects.{Effect, wrote, choice, unchanged, proposing}
use Rattle.calls.specs.Calls.{first, reading, propose_gathered, propose_call}
use Rattle.calls.specs.Hearing.{turns_of}
use Rattle.certificates.proofs.Verdicts.{forcing_small}
use Rattle.calls.proofs.Heard.{not_zero, by_not_zero, same_words}
use Rattle.calls.proofs.Hear.{first_fails, first_passes}

-- ---- the room that the passed test gives ----

covered : (x y : Bool) → cond x (Ok (tt {0})) (Err short) ≡ Ok (tt {0}) → x ≡ true
covered true y h = refl
covered false y h = absurd (let z : ◌≡◌ {A = ℕ} 0 1 = cc in omega arith)

pub views_room : (v : Vouched) (m : Membership) (books : Books) (out : ℕ) → passed v (room_steps m (lent_sizes books out)) ≡ Ok (tt {0})
    → sites m.f m.t * view_row m.f m.t m.limit ≤ length books.views
views_room v m books out h =
    let all = covered (covers (lent_sizes books out) (sizes_of m.f m.t m.limit)) true h in
    let three = (and_parts _ _ all).0 in
    leb-true _ _ (and_parts _ _ three).1

-- ---- the value ----

-- the value that a verdict, as the code has it, has proposed
abbrev pub chosen : Option (Value × ℕ × Forcing) → Value → Value
chosen None d = d
chosen (Some x) d = x.0

pub choice_told : (x : Finding) (o : Option (Value × ℕ × Forcing)) (d : Value) → forced_told o ≡ finding_told x → choice x d ≡ chosen o d
choice_told free None d h = refl
choice_told free (Some y) d h = absurd (not_zero y.2 (ap (λ (t : Told). t.number) h))
choice_told (forced r b) None d h = absurd (by_not_zero b (ap (λ (t : Told). t.number) h))
choice_told (forced r b) (Some y) d h = same_words r.value y.0 r.view y.1 (ap (λ (t : Told). t.values) h)
choice_told conflict None d h = absurd (let z : ◌≡◌ {A = ℕ} 0 14 = ap (λ (t : Told). t.number) h in omega arith)
choice_told conflict (Some y) d h = absurd (forcing_small y.2 (ap (λ (t : Told). t.number) h))

-- ---- the call ----

module _ (v : Vouched) (m : Membership) (k : Kept) (books : Books) (out : ℕ) (d : Value) where
  abbrev room : Result (Unit {0}) Refused
  room = passed v (room_steps m (lent_sizes books out))

  abbrev proposed : Result Effect Refused
  proposed = outcome v (propose_call m k books out d)

  abbrev read : Call Effect
  read = reading (unchanged m k books (wrote 0)) (turns_read m k books.views 4 (gathered m k)) (propose_gathered m k books d)

  abbrev allowed : Bool
  allowed = leads m k && not k.proposed && due m k

  pub propose_no_room : (e : Refused) → room ≡ Err e → proposed ≡ Err e
  unfolding propose_call
  propose_no_room e h = first_fails v (room_steps m (lent_sizes books out)) (first (propose_steps m k d) read) e h

  two_tests : (a b : Bool) (e f : Refused) (c : Call Effect) → outcome v (first (test a e ∷ test b f ∷ []) c) ≡ cond a (cond b (outcome v c) (Err f)) (Err e)
  two_tests true true e f c = refl
  two_tests true false e f c = refl
  two_tests false b e f c = refl

  pub propose_by : room ≡ Ok (tt {0}) → proposed ≡ cond (legal (fix_of d)) (cond allowed (outcome v read) (Err may_not_propose)) (Err (illegal 0))
  unfolding propose_call propose_steps
  propose_by h = first_passes v (room_steps m (lent_sizes books out)) (first (propose_steps m k d) read) h ∙ two_tests (legal (fix_of d)) allowed (illegal 0) may_not_propose read

  -- the gathered new-views are read
  pub unread : (e : Malformed) → ◌≡◌ {A = Result (Unit {0}) Malformed} (Err e) (map_ok (λ (xs : List Turn). tt {0}) (turns_read m k books.views 4 (gathered m k))) → outcome v read ≡ Err (layout e.place)
  unread e h = rw (err_of (turns_read m k books.views 4 (gathered m k)) e h)

  pub are_read : ◌≡◌ {A = Result (Unit {0}) Malformed} (Ok (tt {0})) (map_ok (λ (xs : List Turn). tt {0}) (turns_read m k books.views 4 (gathered m k))) → IsOk (turns_read m k books.views 4 (gathered m k))
  are_read h = let x = good_of (turns_read m k books.views 4 (gathered m k)) h in rw x.1

  abbrev turns : List Turn
  turns = turns_of (turns_read m k books.views 4 (gathered m k))

  judged : ◌≡◌ {A = Result (Unit {0}) Malformed} (Ok (tt {0})) (map_ok (λ (xs : List Turn). tt {0}) (turns_read m k books.views 4 (gathered m k)))
      → outcome v read ≡ answering (passed v (verdict_call m.f m.t k.round k.view 0 turns).steps) (proposing m k books (choice (finding m.f m.t (reports_of turns)) d))
  judged h = let x = good_of (turns_read m k books.views 4 (gathered m k)) h in rw x.1

  -- and judged
  pub bad_certificate : (e : Refused) → ◌≡◌ {A = Result (Unit {0}) Malformed} (Ok (tt {0})) (map_ok (λ (xs : List Turn). tt {0}) (turns_read m k books.views 4 (gathered m k)))
      → ◌≡◌ {A = Result Told Refused} (Err e) (outcome v (verdict_call m.f m.t k.round k.view 0 turns)) → outcome v read ≡ Err e
  bad_certificate e h j =
      let call = verdict_call m.f m.t k.round k.view 0 turns in
      judged h ∙ rw (answered_err (passed v call.steps) call.answer e j)

  pub good_certificate : (o : Option (Value × ℕ × Forcing)) → ◌≡◌ {A = Result (Unit {0}) Malformed} (Ok (tt {0})) (map_ok (λ (xs : List Turn). tt {0}) (turns_read m k books.views 4 (gathered m k)))
      → ◌≡◌ {A = Result Told Refused} (Ok (forced_told o)) (outcome v (verdict_call m.f m.t k.round k.view 0 turns)) → outcome v read ≡ Ok (proposing m k books (chosen o d))
  good_certificate o h j =
      let call = verdict_call m.f m.t k.round k.view 0 turns in
      let a = answered_ok (passed v call.steps) call.answer (forced_told o) j in
      judged h ∙ rw (a.0, choice_told (finding m.f m.t (reports_of turns)) o d a.1)
