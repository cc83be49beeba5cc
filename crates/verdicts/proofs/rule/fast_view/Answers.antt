-- nothing is left behind the last entry
use Rattle.std.proofs.Common.{ap, arith}
use Rattle.std.proofs.lemmas.List.{drop_all}
use Rattle.verdicts.proofs.Search.{reach, reach_is}
use Rattle.verdicts.proofs.rule.fast_view.Goals as goal

pub returns : goal.returns
returns c =
    let es = c.args.reports.now in
    let none = ap (λ xs. reach c.args.enough es c.args.value xs) (drop_all c.loop-entry.entry-index es c.loop-entry-test.false) in
    omega (arith, none, c.loop-entry.invariant, reach_is c.args.enough es c.args.value c.requires)
