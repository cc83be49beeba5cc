-- The same steps, with other faults.
use Rattle.std.proofs.Common.{rules}
use Rattle.records.specs.Kept.{kept_of}
use Rattle.calls.proofs.Heard.{change_by}
use Rattle.calls.proofs.record.Record.heard_change.Goals as goal

pub returns-clause-value : goal.returns-clause-value
returns-clause-value g c =
    let a = c.args in
    let e = change_by (g.C.Check.vouched a.examiner.now.check.now) (kept_of a.self.now.round) a.known a.change a.tag.bytes.now in
    search rules
