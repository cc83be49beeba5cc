-- what is found, with what is left, is the whole
use Rattle.std.proofs.Common.{◌≡◌, max, drop}
use Rattle.verdicts.specs.Rule.{top_committed}
use Rattle.verdicts.proofs.rule.top_committed.Given as goal

abbrev pub invariant-loop-entry : goal.invariant-loop-entry
invariant-loop-entry l = max l.top (top_committed (drop l.entry-index l.reports)) ≡ top_committed l.reports
