-- The same steps, with other faults.
use Rattle.std.proofs.Common.{rules}
use Rattle.records.specs.Kept.{kept_of}
use Rattle.calls.proofs.Heard.{claim_by}
use Rattle.calls.proofs.record.Record.heard_claim.Goals as goal

pub returns-clause-value : goal.returns-clause-value
returns-clause-value g c =
    let a = c.args in
    let e = claim_by (g.C.Check.vouched a.examiner.now.check.now) (kept_of a.self.now.round) a.known a.claim a.said a.tag.now in
    search rules
