-- what was found, with what is left, settles as the whole does
use Rattle.std.proofs.Common.{◌≡◌, drop}
use Rattle.verdicts.specs.Rule.{committed_in, by_commits}
use Rattle.verdicts.proofs.Commits.{settle}
use Rattle.verdicts.proofs.rule.by_commits.Given as goal

abbrev pub invariant-loop-entry : goal.invariant-loop-entry
invariant-loop-entry l = settle l.view l.found (committed_in l.view (drop l.entry-index l.reports)) ≡ by_commits l.view (committed_in l.view l.reports)
