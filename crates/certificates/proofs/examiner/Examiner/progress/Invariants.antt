-- what is left can be read, and passes as the whole does; what was read is laid down
use Rattle.std.proofs.Common.{◌≡◌, ◌+◌, ◌-◌, ◌++◌, take}
use Rattle.std.specs.Result.{IsOk}
use Rattle.wire.specs.Layout.{many_at, turn_at}
use Rattle.certificates.specs.Steps.{passed}
use Rattle.certificates.specs.Examining.{entries_steps}
use Rattle.certificates.specs.Reading.{read_of}
use Rattle.certificates.specs.Judging.{reports_of}
use Rattle.certificates.proofs.examiner.Examiner.progress.Given as goal

abbrev pub invariant-loop-i : goal.invariant-loop-i
invariant-loop-i g l =
    let one = turn_at l.self.packet.limit.bytes l.self.packet.bytes.now in
    let v = g.C.Check.vouched l.self.check.now in
    let steps = entries_steps l.self.fleet.f l.self.fleet.t l.self.round l.view in
    record {
      reads : IsOk (many_at one (l.count - l.i) l.next);
      rest : passed v (steps l.low l.next (read_of (many_at one (l.count - l.i) l.next))) ≡ passed v (steps 0 (l.at + 4) (read_of (many_at one l.count (l.at + 4))));
      filled : take l.i l.reports ++ reports_of (read_of (many_at one (l.count - l.i) l.next)) ≡ reports_of (read_of (many_at one l.count (l.at + 4)));
    }
