-- Sealing is what the call is defined to do.
use Rattle.std.proofs.Common.{rules}
use Rattle.records.specs.Kept.{membership_of, kept_of}
use Rattle.calls.proofs.Laws.{seal_is_sealing}
use Rattle.liveness.proofs.Sealing.{drafts_are_sealed}
use Rattle.site.proofs.site.Site.seal.Goals as goal

pub returns-clause-value : goal.returns-clause-value
returns-clause-value c v books =
    let a = c.args in
    let e = (seal_is_sealing v (membership_of a.self.now.record.member) (kept_of a.self.now.record.round) books a.draft.now a.tag.now a.out.now).0 in
    search rules

pub returns-clause-after : goal.returns-clause-after
returns-clause-after c v books =
    let a = c.args in
    let e = (seal_is_sealing v (membership_of a.self.now.record.member) (kept_of a.self.now.record.round) books a.draft.now a.tag.now a.out.now).1 in
    search rules

pub returns-clause-drafts : goal.returns-clause-drafts
returns-clause-drafts c = drafts_are_sealed
