-- A site whose new-view is not gathered is passed over; one that is gathered is laid behind the others.
use Rattle.std.proofs.Common.{sym, ◌∙◌, arith}
use Rattle.values.specs.Fleets.{sites}
use Rattle.records.specs.Kept.{membership_of, kept_of}
use Rattle.calls.specs.Gathering.{is_gathered}
use Rattle.calls.proofs.Joined.{few_members}
use Rattle.effects.proofs.Joining.{begun, passed_over, room_for, joined_on, finished}
use Rattle.effects.proofs.progress.ProgressPiece.put.Goals as goal
use Rattle.effects.proofs.progress.ProgressPiece.put.Goals.{then-is_gathered, else-is_gathered}

-- no more than 16 are gathered
pub overflow_cast-gathered : goal.overflow_cast-gathered
overflow_cast-gathered c =
    let s = c.args.self.kept.now in
    omega (arith, c.gathered.ensures, few_members (is_gathered (membership_of s.member) (kept_of s.round)) 0 (sites s.member.fleet.f s.member.fleet.t), s.member.fleet.legal.2)

pub loop-site-init : goal.loop-site-init
loop-site-init c = begun c.gathered.ensures c.requires c.put-next.ensures.after

pub put-next-requires-then-is_gathered : goal.put-next-requires-then-is_gathered
put-next-requires-then-is_gathered c =
    rw c.gathered_turn.ensures.value
    (room_for (rw c.n-sites.ensures at c.loop-site-test.true) (sym c.is_gathered.ensures ∙ c.if-is_gathered.true) c.loop-site.invariant)

pub loop-site-preserved : goal.loop-site-preserved
loop-site-preserved c =
    let inside = rw c.n-sites.ensures at c.loop-site-test.true in
    elim c.if-is_gathered.branch [
      | then-is_gathered w ↦
          rw (w.out-is, w.next-is)
          (joined_on inside (sym c.is_gathered.ensures ∙ w.if-is_gathered.true) c.loop-site.invariant (rw w.gathered_turn.ensures.value at w.put-next-then-is_gathered.ensures.after))
      | else-is_gathered w ↦ rw (w.out-is, w.next-is) (passed_over inside (sym c.is_gathered.ensures ∙ w.if-is_gathered.false) c.loop-site.invariant)
    ]

pub returns : goal.returns
returns c =
    let e = finished (rw c.n-sites.ensures at c.loop-site-test.false) c.loop-site.invariant in
    record { next = e.ends; after = e }
