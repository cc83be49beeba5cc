-- No more new-views are gathered than there are sites.
use Rattle.std.proofs.Common.{arith}
use Rattle.values.specs.Fleets.{sites}
use Rattle.records.specs.Kept.{membership_of, kept_of}
use Rattle.calls.specs.Gathering.{is_gathered}
use Rattle.calls.proofs.Joined.{few_members}
use Rattle.effects.proofs.counting.gather.Goals as goal

pub overflow_add-last : goal.overflow_add-last
overflow_add-last c =
    let r = c.args.kept.now in
    omega (arith, c.gathered.ensures, few_members (is_gathered (membership_of r.member) (kept_of r.round)) 0 (sites r.member.fleet.f r.member.fleet.t), r.member.fleet.legal)
