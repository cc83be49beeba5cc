-- The lengths above 0 are counted.
use Rattle.std.proofs.Common.{rules, refl}
use Rattle.std.specs.Prelude.{nat_lt}
use Rattle.values.specs.Fleets.{sites}
use Rattle.calls.proofs.Gathered.{members_count}
use Rattle.calls.proofs.record.Record.gathered.Goals as goal

pub returns : goal.returns
returns c =
    let s = c.args.self.now in
    let e = members_count (λ x. nat_lt 0 x) (sites s.member.fleet.f s.member.fleet.t) s.round.lengths.views refl in
    search rules
