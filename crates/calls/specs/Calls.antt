-- The calls of a site on bytes: what each tests and asks, in order, and what it leaves if nothing refuses it.
use Rattle.std.specs.Prelude.{ℕ, false, List, [], ◌∷◌, ◌++◌, length, drop, Ok, Err, Result}
use Rattle.values.specs.declared.fix.Value.{Value}
use Rattle.values.specs.Refusals.{Refused, layout}
use Rattle.verdicts.specs.Rule.{finding}
use Rattle.wire.specs.declared.words.Malformed.{Malformed}
use Rattle.wire.specs.declared.statement.Statement.{Statement}
use Rattle.wire.specs.declared.statement.Statement.TheVariants.{Propose, Prepare, Commit, NewView}
use Rattle.wire.specs.Contents.{Turn, Content, propose, prepare, commit, new_view, statement_of, tag_of}
use Rattle.wire.specs.Layout.{message_of, draft_end}
use Rattle.writing.specs.Written.{sealed_bytes}
use Rattle.checks.specs.Vouching.{Vouched}
use Rattle.certificates.specs.Steps.{Question, Step, test, asked}
use Rattle.certificates.specs.Judging.{Call, outcome, reports_of, verdict_call, judge_call}
use Rattle.records.specs.Books.{Books, lent_sizes}
use Rattle.records.specs.Kept.{Membership, Kept}
use Rattle.calls.specs.Gathering.{gathered, turns_read}
use Rattle.calls.specs.Steps.{room_steps, propose_steps, hear_propose_steps, hear_prepare_steps, hear_commit_steps, hear_new_view_steps, leave_steps, seal_steps}
use Rattle.calls.specs.Effects.{message, output_bytes, wrote, judged, found, Effect, choice, unchanged, proposing, preparing, counting_prepare, counting_commit, gathering, leaving, Answer}

-- a call, with what it is handed
pub data Request : Type 0 where
  -- a value of its own, for when none is forced
  to_propose : Value → Request
  -- a packet
  to_hear : List ℕ → Request
  -- a view
  to_leave : ℕ → Request
  -- a draft and its tag
  to_seal : List ℕ → List ℕ → Request
  -- a view and a progress certificate
  to_judge : ℕ → List ℕ → Request
  to_read : Request

-- these steps first
abbrev pub first : {A : Type 0} → List (Step Refused) → Call A → Call A
first steps c = record { steps = steps ++ c.steps; answer = c.answer }

-- what is read goes on, and a fault of the layout is number 3; then there is no answer, but for a form's sake
abbrev pub reading : {A B : Type 0} → B → Result A Malformed → (A → Call B) → Call B
reading no_answer (Ok x) next = next x
reading no_answer (Err e) next = record { steps = test false (layout e.place) ∷ []; answer = no_answer }

module _ (m : Membership) (k : Kept) (books : Books) where
  abbrev nothing_left : Effect
  nothing_left = unchanged m k books (wrote 0)

  -- ---- propose: the new-views are judged as they stand in the certificate that is drafted ----

  abbrev pub propose_gathered : Value → List Turn → Call Effect
  propose_gathered d xs =
      record { steps = (verdict_call m.f m.t k.round k.view 0 xs).steps; answer = proposing m k books (choice (finding m.f m.t (reports_of xs)) d) }

  unfoldable pub propose_call : ℕ → Value → Call Effect
  propose_call out d =
      first (room_steps m (lent_sizes books out))
      (first (propose_steps m k d)
      (reading nothing_left (turns_read m k books.views 4 (gathered m k)) (propose_gathered d)))

  -- ---- hear ----

  abbrev pub hear_steps : Content → List (Step Refused)
  hear_steps (propose c tag xs) = hear_propose_steps m k c tag xs
  hear_steps (prepare c tag) = hear_prepare_steps m k c tag
  hear_steps (commit c tag votes) = hear_commit_steps m k c tag votes
  hear_steps (new_view x) = hear_new_view_steps m k x

  -- by the packet's statement and tag
  abbrev pub hear_leaves : List ℕ → Statement → List ℕ → Effect
  hear_leaves packet (Propose c) tag = preparing m k books c.value
  hear_leaves packet (Prepare c) tag = counting_prepare m k books c.head.site c.value tag
  hear_leaves packet (Commit c) tag = counting_commit m k books c.head.site c.value
  hear_leaves packet (NewView c) tag = gathering m k books c.head.site packet

  abbrev pub hear_content : List ℕ → Content → Call Effect
  hear_content packet x = record { steps = hear_steps x; answer = hear_leaves packet (statement_of x) (tag_of x) }

  unfoldable pub hear_call : ℕ → List ℕ → Call Effect
  hear_call out packet = first (room_steps m (lent_sizes books out)) (reading nothing_left (message_of m.limit packet) (hear_content packet))

  -- ---- leave ----

  unfoldable pub leave_call : ℕ → ℕ → Call Effect
  leave_call out view = first (room_steps m (lent_sizes books out)) (record { steps = leave_steps m k view; answer = leaving m k books view })

  -- ---- seal ----

  abbrev pub sealing_at : List ℕ → List ℕ → ℕ → Call Effect
  sealing_at draft tag end =
      let sealed = sealed_bytes draft end tag in
      record { steps = []; answer = record { kept = k; books = books; output = message sealed; answer = wrote (length sealed) } }

  unfoldable pub seal_call : ℕ → List ℕ → List ℕ → Call Effect
  seal_call out draft tag = first (seal_steps m draft tag out) (reading nothing_left (draft_end m.limit draft) (sealing_at draft tag))

  -- ---- judge and read ----

  abbrev pub judging_call : ℕ → List ℕ → Call Effect
  judging_call view bytes =
      let c = judge_call m.f m.t m.limit k.round view bytes in
      record { steps = c.steps; answer = unchanged m k books (judged c.answer) }

  abbrev pub read_call : Call Effect
  read_call = record { steps = []; answer = unchanged m k books (found k.decision) }

  -- every call, with so many bytes of out
  abbrev pub call : ℕ → Request → Call Effect
  call out (to_propose d) = propose_call out d
  call out (to_hear packet) = hear_call out packet
  call out (to_leave view) = leave_call out view
  call out (to_seal draft tag) = seal_call out draft tag
  call out (to_judge view bytes) = judging_call view bytes
  call out to_read = read_call

-- ---- a call with its check and its out ----

-- the refusal, or what the call leaves
abbrev pub performed : Vouched → Membership → Kept → Books → ℕ → Request → Result Effect Refused
performed v m k books out r = outcome v (call m k books out r)

-- the questions that it asks, in order
abbrev pub asks : Vouched → Membership → Kept → Books → ℕ → Request → List Question
asks v m k books out r = asked v (call m k books out r).steps

-- what it answers
abbrev pub answer_of : Result Effect Refused → Result Answer Refused
answer_of (Ok x) = Ok x.answer
answer_of (Err e) = Err e

-- a refused call changes nothing
abbrev pub kept_after : Kept → Result Effect Refused → Kept
kept_after k (Ok x) = x.kept
kept_after k (Err e) = k

abbrev pub books_after : Books → Result Effect Refused → Books
books_after books (Ok x) = x.books
books_after books (Err e) = books

-- what is written stands at the start of out, and every byte behind it stays
abbrev pub out_after : List ℕ → Result Effect Refused → List ℕ
out_after out (Ok x) = output_bytes x.output ++ drop (length (output_bytes x.output)) out
out_after out (Err e) = out
