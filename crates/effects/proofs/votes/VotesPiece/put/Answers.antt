-- A site whose row does not hold the value is passed over; the vote of one whose row does is laid behind the others.
use Rattle.std.proofs.Common.{◌≡◌, length, sym, ap, ◌∙◌}
use Rattle.values.specs.Fleets.{sites}
use Rattle.agreement.specs.Sites.{size}
use Rattle.agreement.specs.Moves.{holders}
use Rattle.records.specs.Rows.{row_of}
use Rattle.calls.specs.Gathering.{members}
use Rattle.calls.proofs.Members.{size_members}
use Rattle.effects.proofs.Joining.{begun, passed_over, room_for, joined_on, finished}
use Rattle.effects.proofs.votes.VotesPiece.put.Goals as goal
use Rattle.effects.proofs.votes.VotesPiece.put.Goals.{then-holds, else-holds}

pub loop-site-init : goal.loop-site-init
loop-site-init c =
    let s = c.args.self.kept.now in
    let p = holders (row_of s.round.rows.prepares) c.args.self.value in
    let n = sites s.member.fleet.f s.member.fleet.t in
    let many : c.holding.result ≡ length (members p 0 n) = c.holding.ensures ∙ ap (size p) c.n-sites.ensures ∙ sym (size_members p n) in
    begun many c.requires c.put-next.ensures.after

pub put-next-requires-then-holds : goal.put-next-requires-then-holds
put-next-requires-then-holds c =
    rw c.tag.ensures (room_for (rw c.n-sites.ensures at c.loop-site-test.true) (sym c.holds.ensures ∙ c.if-holds.true) c.loop-site.invariant)

pub loop-site-preserved : goal.loop-site-preserved
loop-site-preserved c =
    let inside = rw c.n-sites.ensures at c.loop-site-test.true in
    elim c.if-holds.branch [
      | then-holds w ↦ rw (w.out-is, w.next-is) (joined_on inside (sym c.holds.ensures ∙ w.if-holds.true) c.loop-site.invariant (rw w.tag.ensures at w.put-next-then-holds.ensures.after))
      | else-holds w ↦ rw (w.out-is, w.next-is) (passed_over inside (sym c.holds.ensures ∙ w.if-holds.false) c.loop-site.invariant)
    ]

pub returns : goal.returns
returns c =
    let e = finished (rw c.n-sites.ensures at c.loop-site-test.false) c.loop-site.invariant in
    record { next = e.ends; after = e }
