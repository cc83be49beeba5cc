-- what is left can be read, and passes as the whole does
use Rattle.std.proofs.Common.{◌≡◌, ◌+◌, ◌-◌}
use Rattle.std.specs.Result.{IsOk}
use Rattle.wire.specs.Layout.{many_at, vote_at}
use Rattle.certificates.specs.Steps.{passed}
use Rattle.certificates.specs.Examining.{votes_steps}
use Rattle.certificates.specs.Reading.{read_of}
use Rattle.certificates.proofs.examiner.Examiner.commit_certificate.Given as goal

abbrev pub invariant-loop : goal.invariant-loop
invariant-loop g l =
    let one = vote_at l.self.packet.limit.bytes l.self.packet.bytes.now in
    let v = g.C.Check.vouched l.self.check.now in
    let steps = votes_steps l.self.fleet.f l.self.fleet.t l.self.round l.report in
    record {
      reads : IsOk (many_at one (l.count - l.counter) l.next);
      rest : passed v (steps l.low l.next (read_of (many_at one (l.count - l.counter) l.next))) ≡ passed v (steps 0 (l.at + 4) (read_of (many_at one l.count (l.at + 4))));
    }
