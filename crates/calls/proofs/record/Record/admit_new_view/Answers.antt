-- The statement first, then the row and how many are gathered, then the certificate.
use Rattle.std.proofs.Common.{rules, arith}
use Rattle.records.specs.Kept.{membership_of, kept_of}
use Rattle.calls.proofs.Heard.{new_view_read}
use Rattle.calls.proofs.record.Record.admit_new_view.Goals as goal

pub returns-in_err-heard_change : goal.returns-in_err-heard_change
returns-in_err-heard_change g c =
    let a = c.args in
    let v = g.C.Check.vouched a.check.now in
    let e = new_view_read a.packet a.change a.at c.requires.reads v (membership_of a.self.now.member) (kept_of a.self.now.round) a.tag.bytes.now (omega (arith, c.requires.tag, c.requires.place)) in
    search rules

pub returns-then-is_gathered : goal.returns-then-is_gathered
returns-then-is_gathered g c =
    let a = c.args in
    let v = g.C.Check.vouched a.check.now in
    let e = new_view_read a.packet a.change a.at c.requires.reads v (membership_of a.self.now.member) (kept_of a.self.now.round) a.tag.bytes.now (omega (arith, c.requires.tag, c.requires.place)) in
    search rules

pub returns-then-gathered-progress_quorum : goal.returns-then-gathered-progress_quorum
returns-then-gathered-progress_quorum g c =
    let a = c.args in
    let v = g.C.Check.vouched a.check.now in
    let e = new_view_read a.packet a.change a.at c.requires.reads v (membership_of a.self.now.member) (kept_of a.self.now.round) a.tag.bytes.now (omega (arith, c.requires.tag, c.requires.place)) in
    search rules

pub returns-in_err-certified : goal.returns-in_err-certified
returns-in_err-certified g c =
    let a = c.args in
    let v = g.C.Check.vouched a.check.now in
    let e = new_view_read a.packet a.change a.at c.requires.reads v (membership_of a.self.now.member) (kept_of a.self.now.round) a.tag.bytes.now (omega (arith, c.requires.tag, c.requires.place)) in
    let e' = c.certified.ensures 1 in
    search rules

pub returns : goal.returns
returns g c =
    let a = c.args in
    let v = g.C.Check.vouched a.check.now in
    let e = new_view_read a.packet a.change a.at c.requires.reads v (membership_of a.self.now.member) (kept_of a.self.now.round) a.tag.bytes.now (omega (arith, c.requires.tag, c.requires.place)) in
    let e' = c.certified.ensures 1 in
    search rules
