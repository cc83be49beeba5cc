-- What every run keeps is proved in runs.
use Rattle.runs.proofs.Agreed.{later_certificates_force, never_conflict}
use Rattle.site.proofs.site.Site.judge.Goals as goal

pub returns-clause-later_certificates : goal.returns-clause-later_certificates
returns-clause-later_certificates g c = later_certificates_force

pub returns-clause-conflict : goal.returns-clause-conflict
returns-clause-conflict g c = never_conflict
