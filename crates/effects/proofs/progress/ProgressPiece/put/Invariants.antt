-- the count word is laid, and the new-views of the sites before
use Rattle.values.specs.Fleets.{sites}
use Rattle.records.specs.Kept.{membership_of, kept_of}
use Rattle.calls.specs.Gathering.{is_gathered, gathered_turn}
use Rattle.effects.proofs.Joining.{Unfinished}
use Rattle.effects.proofs.progress.ProgressPiece.put.Given as goal

abbrev pub invariant-loop-site : goal.invariant-loop-site
invariant-loop-site l =
    let s = l.self.kept.now in
    let m = membership_of s.member in
    let k = kept_of s.round in
    Unfinished (is_gathered m k) (gathered_turn m k l.self.views.now) (sites m.f m.t) l.fn.out l.at l.out l.next l.site
