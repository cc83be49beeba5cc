-- what is found, with what is left, is the whole
use Rattle.std.proofs.Common.{◌≡◌, max, drop}
use Rattle.verdicts.proofs.Search.{reach}
use Rattle.verdicts.proofs.rule.fast_view.Given as goal

abbrev pub invariant-loop-entry : goal.invariant-loop-entry
invariant-loop-entry l = max l.highest (reach l.enough l.reports l.value (drop l.entry-index l.reports)) ≡ reach l.enough l.reports l.value l.reports
