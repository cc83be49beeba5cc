use Rattle.std.proofs.Common.{◌+◌, ◌-◌, arith, rules}
use Rattle.wire.proofs.Many.{many_ok}
use Rattle.wire.proofs.words.Packet.counted_end.Goals as goal

pub loop-preserved : goal.loop-preserved
loop-preserved g c =
    let step = many_ok (g.C.Counted.ends c.args.self.limit.bytes c.args.self.bytes.now) (c.in_ok-count.count - c.loop.counter) (c.in_ok-count.count - (c.loop.counter + 1)) c.loop.next c.in_ok-next.next (omega arith) (search rules) in
    search rules
