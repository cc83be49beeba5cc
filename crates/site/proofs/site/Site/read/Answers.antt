-- What every run keeps is proved in runs.
use Rattle.runs.proofs.Agreed.{decisions_agree}
use Rattle.runs.proofs.Later.{later_views_keep_it}
use Rattle.runs.proofs.Laws.{run_laws}
use Rattle.runs.proofs.Happens.{happens}
use Rattle.runs.proofs.TwoLiars.{two_liars}
use Rattle.liveness.proofs.Meet.{chosen_recover, chosen_decide_fast}
use Rattle.liveness.proofs.Meets.{recovers, decides_fast, decides_first}
use Rattle.wrong_sites.proofs.Undecided.{wrong_sites_lose}
use Rattle.wrong_sites.proofs.Differing.{wrong_rules_differ}
use Rattle.site.proofs.site.Site.read.Goals as goal

pub returns-clause-agree : goal.returns-clause-agree
returns-clause-agree c = decisions_agree

pub returns-clause-later_views : goal.returns-clause-later_views
returns-clause-later_views c = later_views_keep_it

pub returns-clause-laws : goal.returns-clause-laws
returns-clause-laws c = run_laws

pub returns-clause-happens : goal.returns-clause-happens
returns-clause-happens c = happens

pub returns-clause-two_liars : goal.returns-clause-two_liars
returns-clause-two_liars c = two_liars

pub returns-clause-recover : goal.returns-clause-recover
returns-clause-recover c = chosen_recover

pub returns-clause-fast : goal.returns-clause-fast
returns-clause-fast c = chosen_decide_fast

pub returns-clause-recovers : goal.returns-clause-recovers
returns-clause-recovers c = recovers

pub returns-clause-decides_fast : goal.returns-clause-decides_fast
returns-clause-decides_fast c = decides_fast

pub returns-clause-decides_first : goal.returns-clause-decides_first
returns-clause-decides_first c = decides_first

pub returns-clause-wrong_sites : goal.returns-clause-wrong_sites
returns-clause-wrong_sites c = wrong_sites_lose

pub returns-clause-wrong_rules : goal.returns-clause-wrong_rules
returns-clause-wrong_rules c = wrong_rules_differ
