-- The runs of the scripts keep what the promises on deciding ask for: each call is computed.
use Rattle.std.proofs.Common.{◌≡◌, ℕ, ◌<◌, true, false, List, ◌∷◌, length, take, drop, Ok, Option, refl, ap, ◌∙◌, arith}
use Rattle.std.specs.Prelude.{nat_lt}
use Rattle.std.proofs.lemmas.Bool.{ltb-true}
use Rattle.buffers.specs.Words.{word_from}
use Rattle.buffers.specs.Lays.{laid}
use Rattle.values.specs.Fixes.{legal}
use Rattle.verdicts.specs.Rule.{finding}
use Rattle.wire.specs.Words.{word_at}
use Rattle.wire.specs.Contents.{turn_bytes}
use Rattle.wire.specs.Layout.{votes_at, turn_at, progress_at, propose_of, prepare_of, commit_of, new_view_of, progress_of, message_of, draft_end}
use Rattle.agreement.specs.Sites.{SiteSet}
use Rattle.certificates.specs.Judging.{judge_call}
use Rattle.records.specs.Kept.{Decided}
use Rattle.calls.specs.Steps.{propose_steps, hear_propose_steps, hear_prepare_steps, hear_commit_steps, hear_new_view_steps, claim_heard, change_heard}
use Rattle.calls.specs.Effects.{found}
use Rattle.calls.specs.Calls.{to_propose, to_read, propose_call, hear_call, leave_call, seal_call, answer_of}
use Rattle.runs.specs.Runs.{Behaviour, by_the_rules}
use Rattle.runs.specs.Happens.{all_but_0, opened_world, called_with}
use Rattle.checks.specs.Registers.{registered}
use Rattle.agreement.specs.Examples.{e}
use Rattle.liveness.specs.Scripts.{drafts, Line, on, Script, calls, before, Undecided}
use Rattle.liveness.specs.Meets.{recovery, recovery_times, recovery_offer, Recovers, all_four, second_view, second_view_offer, second_view_times, DecidesFast, first_view, first_view_times, DecidesFirst}
use Rattle.runs.proofs.Happens.{not_0}
use Rattle.liveness.proofs.Lines.{Passed, undecided_there, behaviour_kept}
use Rattle.liveness.proofs.ScriptMeets.{Computed, all_commits_heard, they_meet, they_hear_commits}

-- where none of some sites has decided, read says so
reads_none : (s : Script) (good : SiteSet) (p : ℕ) (who : SiteSet) → Passed by_the_rules good s p who → (l : Line) (rest : List Line) → drop p s.lines ≡ l ∷ rest → (i : ℕ) → i < 4 → who i ≡ true → Undecided by_the_rules s p i
reads_none s good p who passed l rest e i low h =
    let x = called_with (registered s.rows) i to_read in
    let z = before by_the_rules s p i in
    ap (λ (b : Behaviour). answer_of (b.performs x.check z.member z.kept z.books (length x.out) to_read)) (behaviour_kept opened_world (take p (calls s)) i)
    ∙ ap (λ (o : Option Decided). Ok (found o)) (undecided_there s by_the_rules good p who passed l rest e i low h)

-- ---- the three runs ----

record AllComputed : Type 0 where
  recovers : Computed by_the_rules recovery all_but_0 2 recovery_times recovery_times.commits_heard true 14 all_but_0
  commits_are_heard : all_commits_heard by_the_rules recovery all_but_0 2 recovery_times recovery_times.commits_heard true 14 all_but_0 ≡ true
  -- here the leader proposes before it has heard the last new-view
  in_second : Computed by_the_rules second_view all_four 2 second_view_times second_view_times.prepares_heard false 13 all_four
  in_first : Computed by_the_rules first_view all_four 1 first_view_times first_view_times.prepares_heard true 0 all_four

computed : AllComputed
unfolding word_from laid legal finding word_at turn_bytes votes_at turn_at progress_at propose_of prepare_of commit_of new_view_of progress_of message_of draft_end judge_call propose_call hear_call leave_call seal_call propose_steps hear_propose_steps hear_prepare_steps hear_commit_steps hear_new_view_steps claim_heard change_heard
computed =
    record {
      recovers = record { goes = refl; run = refl; views = refl; propose = refl; hears = refl };
      commits_are_heard = refl;
      in_second = record { goes = refl; run = refl; views = refl; propose = refl; hears = refl };
      in_first = record { goes = refl; run = refl; views = refl; propose = refl; hears = refl };
    }

all_four_in : (i : ℕ) → all_four i ≡ true → nat_lt i 4 ≡ true
all_four_in i h = h

pub recovers : Recovers
recovers =
    let m = they_meet by_the_rules recovery all_but_0 2 recovery_times recovery_times.commits_heard true 14 all_but_0 not_0 computed.recovers (omega arith) in
    record {
      played = m.played;
      enough = omega arith;
      meeting = m.meeting;
      hear_commits = they_hear_commits by_the_rules recovery all_but_0 2 recovery_times recovery_times.commits_heard true 14 all_but_0 not_0 computed.recovers computed.commits_are_heard;
      undecided = λ i h. reads_none recovery all_but_0 14 all_but_0 computed.recovers.goes (on 1 (to_propose e) (drafts recovery_offer)) (drop 15 recovery.lines) refl i (ltb-true i 4 (not_0 i h)) h;
    }

pub decides_fast : DecidesFast
decides_fast =
    let m = they_meet by_the_rules second_view all_four 2 second_view_times second_view_times.prepares_heard false 13 all_four all_four_in computed.in_second (omega arith) in
    record {
      played = m.played;
      enough = omega arith;
      meeting = m.meeting;
      undecided = λ i h. reads_none second_view all_four 13 all_four computed.in_second.goes (on 1 (to_propose e) (drafts second_view_offer)) (drop 14 second_view.lines) refl i (ltb-true i 4 h) h;
    }

pub decides_first : DecidesFirst
decides_first =
    let m = they_meet by_the_rules first_view all_four 1 first_view_times first_view_times.prepares_heard true 0 all_four all_four_in computed.in_first (omega arith) in
    record { played = m.played; enough = omega arith; meeting = m.meeting }
