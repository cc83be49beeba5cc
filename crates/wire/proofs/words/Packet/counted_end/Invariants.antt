use Rattle.std.proofs.Common.{◌≡◌, ◌+◌, ◌-◌, ◌≤◌, length}
use Rattle.wire.specs.Places.{many_end}
use Rattle.wire.proofs.words.Packet.counted_end.Given as goal

-- what is left ends where the whole does
abbrev pub invariant-loop : goal.invariant-loop
invariant-loop g l =
    (many_end (g.C.Counted.ends l.self.limit.bytes l.self.bytes.now) (l.count - l.counter) l.next ≡ many_end (g.C.Counted.ends l.self.limit.bytes l.self.bytes.now) l.count (l.at + 4))
    × (l.at ≤ l.next) × (l.next ≤ length l.self.bytes.now)
