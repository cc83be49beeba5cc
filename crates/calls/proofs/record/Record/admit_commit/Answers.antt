-- The claim first, then the sender's row, then the certificate.
use Rattle.std.proofs.Common.{rules}
use Rattle.certificates.specs.Reading.{votes_in}
use Rattle.records.specs.Kept.{membership_of, kept_of}
use Rattle.calls.proofs.Heard.{commit_by}
use Rattle.calls.proofs.record.Record.admit_commit.Goals as goal

pub returns-in_err-heard_claim : goal.returns-in_err-heard_claim
returns-in_err-heard_claim g c =
    let a = c.args in
    let e = commit_by (g.C.Check.vouched a.check.now) (membership_of a.self.now.member) (kept_of a.self.now.round) a.claim a.tag.now (votes_in a.packet a.at) in
    search rules

pub returns-in_err-vacant : goal.returns-in_err-vacant
returns-in_err-vacant g c =
    let a = c.args in
    let v = g.C.Check.vouched a.check.now in
    let e = commit_by v (membership_of a.self.now.member) (kept_of a.self.now.round) a.claim a.tag.now (votes_in a.packet a.at) in
    let e' = c.vacant.ensures v in
    search rules

pub returns-in_err-commit_certificate : goal.returns-in_err-commit_certificate
returns-in_err-commit_certificate g c =
    let a = c.args in
    let v = g.C.Check.vouched a.check.now in
    let e = commit_by v (membership_of a.self.now.member) (kept_of a.self.now.round) a.claim a.tag.now (votes_in a.packet a.at) in
    let e' = c.vacant.ensures v in
    let e'' = c.commit_certificate.ensures 1 in
    search rules

pub returns : goal.returns
returns g c =
    let a = c.args in
    let v = g.C.Check.vouched a.check.now in
    let e = commit_by v (membership_of a.self.now.member) (kept_of a.self.now.round) a.claim a.tag.now (votes_in a.packet a.at) in
    let e' = c.vacant.ensures v in
    let e'' = c.commit_certificate.ensures 1 in
    search rules
