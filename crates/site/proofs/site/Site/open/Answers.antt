-- The worked examples stand beside what open answers.
use Rattle.site.proofs.Worked.{worked_examples}
use Rattle.site.proofs.site.Site.open.Goals as goal

pub returns-in_err-fleet-clause-examples : goal.returns-in_err-fleet-clause-examples
returns-in_err-fleet-clause-examples c = worked_examples

pub returns-then-own-n-clause-examples : goal.returns-then-own-n-clause-examples
returns-then-own-n-clause-examples c = worked_examples

pub returns-in_err-limit-clause-examples : goal.returns-in_err-limit-clause-examples
returns-in_err-limit-clause-examples c = worked_examples

pub returns-clause-examples : goal.returns-clause-examples
returns-clause-examples c = worked_examples
