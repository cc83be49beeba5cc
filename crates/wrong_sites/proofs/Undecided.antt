-- What wrong sites lose: each call of their runs is computed.
use Rattle.std.proofs.Common.{◌≡◌, ℕ, true, refl}
use Rattle.std.specs.Prelude.{nat_lt}
use Rattle.buffers.specs.Words.{word_from}
use Rattle.buffers.specs.Lays.{laid}
use Rattle.values.specs.Fixes.{legal}
use Rattle.verdicts.specs.Rule.{finding}
use Rattle.wire.specs.Words.{word_at}
use Rattle.wire.specs.Contents.{turn_bytes}
use Rattle.wire.specs.Layout.{votes_at, turn_at, progress_at, propose_of, prepare_of, commit_of, new_view_of, progress_of, message_of, draft_end}
use Rattle.certificates.specs.Judging.{judge_call}
use Rattle.calls.specs.Steps.{propose_steps, hear_propose_steps, hear_prepare_steps, hear_commit_steps, hear_new_view_steps, claim_heard, change_heard}
use Rattle.calls.specs.Calls.{propose_call, hear_call, leave_call, seal_call}
use Rattle.liveness.specs.Meets.{all_four}
use Rattle.wrong_sites.specs.Undecided.{refuses_all, drafts_nothing, gathers_too_few, keeps_rows, commits_once, silent_once_decided, gathers_unchecked, WrongSitesLose}
use Rattle.wrong_sites.specs.UndecidedRuns.{all_refused, nothing_drafted}
use Rattle.wrong_sites.specs.Gathering.{too_few_gathered, false_gathered}
use Rattle.wrong_sites.specs.Rows.{rows_kept}
use Rattle.wrong_sites.specs.Commits.{commit_missing, prepare_missing}
use Rattle.runs.proofs.Happens.{not_0}
use Rattle.wrong_sites.proofs.Lost.{CaseComputed, lost}

record AllComputed : Type 0 where
  refusing : CaseComputed refuses_all all_refused
  drafting : CaseComputed drafts_nothing nothing_drafted
  too_few : CaseComputed gathers_too_few too_few_gathered
  rows : CaseComputed keeps_rows rows_kept
  once : CaseComputed commits_once commit_missing
  silent : CaseComputed silent_once_decided prepare_missing
  unchecked : CaseComputed gathers_unchecked false_gathered

computed : AllComputed
unfolding word_from laid legal finding word_at turn_bytes votes_at turn_at progress_at propose_of prepare_of commit_of new_view_of progress_of message_of draft_end judge_call propose_call hear_call leave_call seal_call propose_steps hear_propose_steps hear_prepare_steps hear_commit_steps hear_new_view_steps claim_heard change_heard
computed =
    record {
      refusing = record { met = record { goes = refl; run = refl; views = refl; propose = refl; hears = refl }; passed = refl };
      drafting = record { met = record { goes = refl; run = refl; views = refl; propose = refl; hears = refl }; passed = refl };
      too_few = record { met = record { goes = refl; run = refl; views = refl; propose = refl; hears = refl }; passed = refl };
      rows = record { met = record { goes = refl; run = refl; views = refl; propose = refl; hears = refl }; passed = refl };
      once = record { met = record { goes = refl; run = refl; views = refl; propose = refl; hears = refl }; passed = refl };
      silent = record { met = record { goes = refl; run = refl; views = refl; propose = refl; hears = refl }; passed = refl };
      unchecked = record { met = record { goes = refl; run = refl; views = refl; propose = refl; hears = refl }; passed = refl };
    }

four : (i : ℕ) → all_four i ≡ true → nat_lt i 4 ≡ true
four i h = h

pub wrong_sites_lose : WrongSitesLose
wrong_sites_lose =
    record {
      refusing_all = lost refuses_all all_refused (λ v m k books out. refl) four computed.refusing;
      drafting_nothing = lost drafts_nothing nothing_drafted (λ v m k books out. refl) four computed.drafting;
      gathering_too_few = lost gathers_too_few too_few_gathered (λ v m k books out. refl) not_0 computed.too_few;
      keeping_rows = lost keeps_rows rows_kept (λ v m k books out. refl) not_0 computed.rows;
      committing_once = lost commits_once commit_missing (λ v m k books out. refl) not_0 computed.once;
      falling_silent = lost silent_once_decided prepare_missing (λ v m k books out. refl) not_0 computed.silent;
      gathering_unchecked = lost gathers_unchecked false_gathered (λ v m k books out. refl) not_0 computed.unchecked;
    }
