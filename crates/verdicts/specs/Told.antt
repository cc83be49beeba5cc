-- Verdicts, as the number and the values that callers are told.
use Rattle.std.specs.Prelude.{ℕ, List, [], ◌∷◌, Some, None, Ok, Err, Option, Result}
use Rattle.values.specs.declared.fix.Value.{Value}
use Rattle.verdicts.specs.declared.rule.Conflict.{Conflict}
use Rattle.verdicts.specs.declared.rule.Forcing.{Forcing}
use Rattle.verdicts.specs.declared.rule.Forcing.TheVariants.{Fast, Commit}
use Rattle.verdicts.specs.declared.verdict.Verdict.{Verdict}
use Rattle.verdicts.specs.declared.verdict.Verdict.TheVariants.{Free, Forced}
use Rattle.verdicts.specs.Rule.{By, by_fast, by_commit, Finding, free, forced, conflict}

-- a verdict's number, and the values that go with it
pub record Told : Type 0 where
  pub number : ℕ
  pub values : List ℕ

-- 0: free. 1: forced by a fast certificate. 2: forced by a commit certificate. The forced value's words, and the view
abbrev pub told_forced : ℕ → Value → ℕ → Told
told_forced number d v = record { number = number; values = d.first ∷ d.second ∷ d.third ∷ v ∷ [] }

abbrev pub told_free : Told
told_free = record { number = 0; values = [] }

abbrev pub by_number : By → ℕ
by_number by_fast = 1
by_number by_commit = 2

-- a conflict is no verdict: it is refused with 14
abbrev pub finding_told : Finding → Told
finding_told free = told_free
finding_told (forced r c) = told_forced (by_number c) r.value r.view
finding_told conflict = record { number = 14; values = [] }

abbrev pub forcing_number : Forcing → ℕ
forcing_number Fast = 1
forcing_number Commit = 2

abbrev pub verdict_told : Verdict → Told
verdict_told Free = told_free
verdict_told (Forced x) = told_forced (forcing_number x.by) x.value x.view

-- what the weighing of reports answers
abbrev pub forced_told : Option (Value × ℕ × Forcing) → Told
forced_told None = told_free
forced_told (Some x) = told_forced (forcing_number x.2) x.0 x.1

abbrev pub weighed : Result (Option (Value × ℕ × Forcing)) Conflict → Told
weighed (Ok x) = forced_told x
weighed (Err e) = finding_told conflict
