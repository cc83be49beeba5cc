-- Judging a progress certificate.
use Rattle.std.specs.Prelude.{ℕ, Bool, true, false, not, List, [], ◌∷◌, ◌++◌, map, Ok, Err, Result, nat_le}
use Rattle.values.specs.Refusals.{Refused, layout, wrong_view, conflicting}
use Rattle.verdicts.specs.declared.rule.Reported.{Reported}
use Rattle.verdicts.specs.Rule.{Finding, free, forced, conflict, finding}
use Rattle.verdicts.specs.Told.{Told, finding_told}
use Rattle.wire.specs.declared.words.Malformed.{Malformed}
use Rattle.wire.specs.Contents.{reported, Turn}
use Rattle.wire.specs.Layout.{progress_of}
use Rattle.checks.specs.Vouching.{Vouched}
use Rattle.certificates.specs.Steps.{Question, Step, test, passed, asked, answering}
use Rattle.certificates.specs.Examining.{progress_steps}

-- what the entries report
abbrev pub reports_of : List Turn → List Reported
reports_of ms = map (λ (m : Turn). record { prepared = m.prepared; committed = reported m.committed }) ms

abbrev pub conflicts : Finding → Bool
conflicts free = false
conflicts (forced r c) = false
conflicts conflict = true

-- a call: what it tests and asks, and what it answers if nothing fails
pub record Call (A : Type 0) : Type 0 where
  pub steps : List (Step Refused)
  pub answer : A

abbrev pub outcome : {A : Type 0} → Vouched → Call A → Result A Refused
outcome v c = answering (passed v c.steps) c.answer

-- the judging of a progress certificate that stands at a place
abbrev pub verdict_call : ℕ → ℕ → ℕ → ℕ → ℕ → List Turn → Call Told
verdict_call f t round view place ms =
    record {
      steps = progress_steps f t round view place ms ++ (test (not (conflicts (finding f t (reports_of ms)))) conflicting ∷ []);
      answer = finding_told (finding f t (reports_of ms));
    }

-- the whole bytes as a progress certificate, for a view that is not 0
abbrev pub judge_read : ℕ → ℕ → ℕ → ℕ → Result (List Turn) Malformed → Call Told
judge_read f t round view (Ok ms) =
    record {
      steps = test (nat_le 1 view) (wrong_view 0) ∷ (verdict_call f t round view 0 ms).steps;
      answer = (verdict_call f t round view 0 ms).answer;
    }
judge_read f t round view (Err e) = record { steps = test false (layout e.place) ∷ []; answer = finding_told free }

unfoldable pub judge_call : ℕ → ℕ → ℕ → ℕ → ℕ → List ℕ → Call Told
judge_call f t limit round view b = judge_read f t round view (progress_of limit b)

-- what judging answers, and what it asks
abbrev pub judging : Vouched → ℕ → ℕ → ℕ → ℕ → ℕ → List ℕ → Result Told Refused
judging v f t limit round view b = outcome v (judge_call f t limit round view b)

abbrev pub judge_asks : Vouched → ℕ → ℕ → ℕ → ℕ → ℕ → List ℕ → List Question
judge_asks v f t limit round view b = asked v (judge_call f t limit round view b).steps
