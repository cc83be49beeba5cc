-- The claim first, then the last prepare, then the certificate and its verdict.
use Rattle.std.proofs.Common.{rules}
use Rattle.certificates.specs.Reading.{progress_in}
use Rattle.records.specs.Kept.{membership_of, kept_of}
use Rattle.calls.proofs.Heard.{propose_by, propose_judged}
use Rattle.calls.proofs.record.Record.admit_propose.Goals as goal

pub returns-in_err-heard_claim : goal.returns-in_err-heard_claim
returns-in_err-heard_claim g c =
    let a = c.args in
    let v = g.C.Check.vouched a.check.now in
    let e = propose_by v (membership_of a.self.now.member) (kept_of a.self.now.round) a.claim a.tag.now a.at (progress_in a.packet a.at) c.requires.place in
    search rules

pub returns-then-is_some_and : goal.returns-then-is_some_and
returns-then-is_some_and g c =
    let a = c.args in
    let v = g.C.Check.vouched a.check.now in
    let e = propose_by v (membership_of a.self.now.member) (kept_of a.self.now.round) a.claim a.tag.now a.at (progress_in a.packet a.at) c.requires.place in
    search rules

pub returns-in_err-verdict : goal.returns-in_err-verdict
returns-in_err-verdict g c =
    let a = c.args in
    let v = g.C.Check.vouched a.check.now in
    let e = propose_by v (membership_of a.self.now.member) (kept_of a.self.now.round) a.claim a.tag.now a.at (progress_in a.packet a.at) c.requires.place in
    search rules

pub returns-then-not-permits : goal.returns-then-not-permits
returns-then-not-permits g c =
    let a = c.args in
    let v = g.C.Check.vouched a.check.now in
    let e = propose_by v (membership_of a.self.now.member) (kept_of a.self.now.round) a.claim a.tag.now a.at (progress_in a.packet a.at) c.requires.place in
    let j = propose_judged v (membership_of a.self.now.member) (kept_of a.self.now.round) c.number-view.result a.at (progress_in a.packet a.at) a.claim.value c.in_ok-verdict.verdict c.number-view.ensures c.in_ok-verdict.ensures in
    search rules

pub returns : goal.returns
returns g c =
    let a = c.args in
    let v = g.C.Check.vouched a.check.now in
    let e = propose_by v (membership_of a.self.now.member) (kept_of a.self.now.round) a.claim a.tag.now a.at (progress_in a.packet a.at) c.requires.place in
    let j = propose_judged v (membership_of a.self.now.member) (kept_of a.self.now.round) c.number-view.result a.at (progress_in a.packet a.at) a.claim.value c.in_ok-verdict.verdict c.number-view.ensures c.in_ok-verdict.ensures in
    search rules
