-- what the candidates left give is what all give; so many of the entries up to here report the candidate
use Rattle.std.proofs.Common.{◌≡◌, ◌≤◌, ◌<◌, drop}
use Rattle.verdicts.specs.Rule.{fast_among, fast_certificate}
use Rattle.verdicts.proofs.Search.{counted}
use Rattle.verdicts.proofs.rule.fast_certificate.Given as goal

abbrev pub invariant-loop-entry : goal.invariant-loop-entry
invariant-loop-entry l = record {
  few : l.count < l.enough;
  within : l.count ≤ l.entry-index;
  counted : l.count ≡ counted l.report.value l.reports l.entry-index;
}

abbrev pub invariant-loop-candidate : goal.invariant-loop-candidate
invariant-loop-candidate l = fast_among l.enough l.reports (drop l.candidate-index l.reports) ≡ fast_certificate l.enough l.reports
