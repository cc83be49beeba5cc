-- The claim first, then the sender's row.
use Rattle.std.proofs.Common.{rules}
use Rattle.records.specs.Kept.{membership_of, kept_of}
use Rattle.calls.proofs.Heard.{prepare_by}
use Rattle.calls.proofs.record.Record.admit_prepare.Goals as goal

pub returns-in_err-heard_claim : goal.returns-in_err-heard_claim
returns-in_err-heard_claim g c =
    let a = c.args in
    let e = prepare_by (g.C.Check.vouched a.check.now) (membership_of a.self.now.member) (kept_of a.self.now.round) a.claim a.tag.now in
    search rules

pub returns : goal.returns
returns g c =
    let a = c.args in
    let v = g.C.Check.vouched a.check.now in
    let e = prepare_by v (membership_of a.self.now.member) (kept_of a.self.now.round) a.claim a.tag.now in
    let e' = c.vacant.ensures v in
    search rules
