-- Two liars of four sites: each call is computed.
use Rattle.std.proofs.Common.{◌≡◌, ℕ, true, [], refl, ap, inl, inr, arith, eqb-true}
use Rattle.std.specs.Prelude.{◌==◌, Some}
use Rattle.std.specs.List.{list_all}
use Rattle.std.proofs.lemmas.Bool.{or_cases}
use Rattle.buffers.specs.Words.{word_from}
use Rattle.buffers.specs.Lays.{laid}
use Rattle.values.specs.declared.fix.Value.{Value}
use Rattle.values.specs.Fixes.{legal}
use Rattle.verdicts.specs.Rule.{finding}
use Rattle.wire.specs.Words.{word_at}
use Rattle.wire.specs.Contents.{turn_bytes}
use Rattle.wire.specs.Layout.{votes_at, turn_at, progress_at, propose_of, prepare_of, commit_of, new_view_of, progress_of, message_of, draft_end}
use Rattle.agreement.specs.Examples.{d, e}
use Rattle.certificates.specs.Judging.{judge_call}
use Rattle.calls.specs.Effects.{found}
use Rattle.calls.specs.Steps.{propose_steps, hear_propose_steps, hear_prepare_steps, hear_commit_steps, hear_new_view_steps, claim_heard, change_heard}
use Rattle.calls.specs.Calls.{to_read, propose_call, hear_call, leave_call, seal_call}
use Rattle.runs.specs.Runs.{Event, after, Run}
use Rattle.runs.specs.Promises.{Reads}
use Rattle.runs.specs.Happens.{all_but_0, opened_world, called}
use Rattle.runs.specs.TwoLiars.{one_and_two, both_hear, decision_of, TwoLiars}
use Rattle.runs.proofs.Agreed.{decisions_agree}
use Rattle.runs.proofs.Watching.{watched, watched_unforged, in_words, sites_passed, requests_passed}
use Rattle.runs.proofs.Happens.{Answered, among_three, zeros_so, reads_so}

record Computed : Type 0 where
  goes : watched one_and_two opened_world [] both_hear ≡ true
  theirs : list_all (λ (x : Event). one_and_two x.site) both_hear ≡ true
  words : list_all (λ (x : Event). in_words x.request) both_hear ≡ true
  first : Answered both_hear (called 1 to_read) (found (Some (decision_of d)))
  second : Answered both_hear (called 2 to_read) (found (Some (decision_of e)))

computed : Computed
unfolding word_from laid legal finding word_at turn_bytes votes_at turn_at progress_at propose_of prepare_of commit_of new_view_of progress_of message_of draft_end judge_call propose_call hear_call leave_call seal_call propose_steps hear_propose_steps hear_prepare_steps hear_commit_steps hear_new_view_steps claim_heard change_heard
computed = record { goes = refl; theirs = refl; words = refl; first = refl; second = refl }

-- they are among sites 1 to 3
among_them : (i : ℕ) → one_and_two i ≡ true → all_but_0 i ≡ true
among_them i h = elim (or_cases (i == 1) (i == 2) h) [
  | inl a ↦ rw (eqb-true i 1 a)
  | inr b ↦ rw (eqb-true i 2 b)
]

reads_d : Reads (after opened_world both_hear) 1 (decision_of d)
reads_d = reads_so both_hear 1 (decision_of d) computed.first

reads_e : Reads (after opened_world both_hear) 2 (decision_of e)
reads_e = reads_so both_hear 2 (decision_of e) computed.second

-- of a run they would be of one fix
no_run : Run 1 0 4 9 all_but_0 opened_world both_hear → ⊥
no_run run =
    let same : d ≡ e = decisions_agree 1 0 4 9 all_but_0 opened_world both_hear run 14 14 1 2 (decision_of d) (decision_of e) refl refl reads_d reads_e in
    let words : ◌≡◌ {A = ℕ} 600000 600001 = ap (λ (x : Value). x.second) same in
    omega (arith, words)

pub two_liars : TwoLiars
two_liars =
    record {
      too_many = refl;
      round_is = omega arith;
      opened = λ i h. among_three i (among_them i h);
      books = λ i h. zeros_so;
      theirs = sites_passed one_and_two both_hear computed.theirs;
      of_words = requests_passed both_hear computed.words;
      unforged = watched_unforged one_and_two opened_world both_hear computed.goes;
      reads_d = reads_d;
      reads_e = reads_e;
      no_run = no_run;
    }
