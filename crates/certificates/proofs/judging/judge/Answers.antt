-- The laws hold whatever is answered.
use Rattle.agreement.proofs.Examples.{examples_hold}
use Rattle.certificates.proofs.Laws.{asked_decides, counting, agreement}
use Rattle.certificates.proofs.Runs.{judging_keeps_decisions, judging_never_conflicts}
use Rattle.certificates.proofs.Witness.{judging_answers}
use Rattle.certificates.proofs.judging.judge.Goals as goal

pub returns-in_err-judge-clause-asked : goal.returns-in_err-judge-clause-asked
returns-in_err-judge-clause-asked g c = asked_decides

pub returns-in_err-judge-clause-examples : goal.returns-in_err-judge-clause-examples
returns-in_err-judge-clause-examples g c = examples_hold

pub returns-in_err-judge-clause-counting : goal.returns-in_err-judge-clause-counting
returns-in_err-judge-clause-counting g c = counting

pub returns-in_err-judge-clause-agreement : goal.returns-in_err-judge-clause-agreement
returns-in_err-judge-clause-agreement g c = agreement

pub returns-clause-asked : goal.returns-clause-asked
returns-clause-asked g c = asked_decides

pub returns-clause-examples : goal.returns-clause-examples
returns-clause-examples g c = examples_hold

pub returns-clause-counting : goal.returns-clause-counting
returns-clause-counting g c = counting

pub returns-clause-agreement : goal.returns-clause-agreement
returns-clause-agreement g c = agreement

pub returns-in_err-judge-clause-decisions : goal.returns-in_err-judge-clause-decisions
returns-in_err-judge-clause-decisions g c = judging_keeps_decisions

pub returns-in_err-judge-clause-conflicts : goal.returns-in_err-judge-clause-conflicts
returns-in_err-judge-clause-conflicts g c = judging_never_conflicts

pub returns-clause-decisions : goal.returns-clause-decisions
returns-clause-decisions g c = judging_keeps_decisions

pub returns-clause-conflicts : goal.returns-clause-conflicts
returns-clause-conflicts g c = judging_never_conflicts

pub returns-in_err-judge-clause-answers : goal.returns-in_err-judge-clause-answers
returns-in_err-judge-clause-answers g c = judging_answers

pub returns-clause-answers : goal.returns-clause-answers
returns-clause-answers g c = judging_answers
