-- The layout first, then the view, then the entries and the verdict.
use Rattle.std.proofs.Common.{rules}
use Rattle.certificates.proofs.Whole.{read_fails, read_good, read_whole}
use Rattle.certificates.proofs.examiner.Examiner.judge.Goals as goal

pub returns-in_err-read_progress : goal.returns-in_err-read_progress
returns-in_err-read_progress g c =
    let s = c.args.self.now in
    let e = read_fails (g.C.Check.vouched s.check.now) s.fleet.f s.fleet.t s.packet.limit.bytes s.round c.args.view s.packet.bytes.now _ c.in_err-read_progress.ensures in
    search rules

pub returns-then-view-eq0 : goal.returns-then-view-eq0
returns-then-view-eq0 g c =
    let s = c.args.self.now in
    let e = read_whole (g.C.Check.vouched s.check.now) s.fleet.f s.fleet.t s.packet.limit.bytes s.round c.args.view s.packet.bytes.now c.in_ok-read_progress.ensures in
    search rules

pub verdict-requires : goal.verdict-requires
verdict-requires g c =
    let s = c.args.self.now in
    read_good (g.C.Check.vouched s.check.now) s.fleet.f s.fleet.t s.packet.limit.bytes s.round c.args.view s.packet.bytes.now c.in_ok-read_progress.ensures

pub returns : goal.returns
returns g c =
    let s = c.args.self.now in
    let e = read_whole (g.C.Check.vouched s.check.now) s.fleet.f s.fleet.t s.packet.limit.bytes s.round c.args.view s.packet.bytes.now c.in_ok-read_progress.ensures in
    search rules
