-- A recovery quorum of entries is the longest certificate.
use Rattle.std.proofs.Common.{◌≡◌, sym, ◌∙◌, arith}
use Rattle.values.specs.Fleets.{recovery_quorum}
use Rattle.records.specs.Kept.{membership_of}
use Rattle.calls.specs.Effects.{holding}
use Rattle.calls.proofs.Room.{certificate_long}
use Rattle.effects.proofs.counting.certify.Goals as goal

pub commit-requires-clause-book : goal.commit-requires-clause-book
commit-requires-clause-book c =
    let r = c.args.kept.now in
    let many : holding (membership_of r.member) r.round.rows.prepares c.args.value ≡ recovery_quorum r.member.fleet.f r.member.fleet.t = sym c.requires.many ∙ c.if-many-recovery_quorum.false ∙ c.recovery_quorum.ensures in
    omega (arith, certificate_long (membership_of r.member) r.round.rows.prepares c.args.tags.now r.round.lengths.tags c.args.value many, c.requires.book)

pub commit-requires-clause-out : goal.commit-requires-clause-out
commit-requires-clause-out c =
    let r = c.args.kept.now in
    let many : holding (membership_of r.member) r.round.rows.prepares c.args.value ≡ recovery_quorum r.member.fleet.f r.member.fleet.t = sym c.requires.many ∙ c.if-many-recovery_quorum.false ∙ c.recovery_quorum.ensures in
    omega (arith, certificate_long (membership_of r.member) r.round.rows.prepares c.args.tags.now r.round.lengths.tags c.args.value many, c.requires.out)
