-- What was read as a whole, and its parts, one after another.
use Rattle.std.proofs.Common.{rules, sym}
use Rattle.wire.specs.Layout.{turn_at}
use Rattle.certificates.proofs.Turns.{ok_of, turn_parts, turn_reads, entry_by, entry_answer}
use Rattle.certificates.proofs.examiner.Examiner.entry.Goals as goal

pub returns-in_err-message-clause-value : goal.returns-in_err-message-clause-value
returns-in_err-message-clause-value g c =
    let s = c.args.self.now in
    let k = ok_of (turn_at s.packet.limit.bytes s.packet.bytes.now c.args.at) c.requires in
    absurd (turn_reads s.packet.limit.bytes s.packet.bytes.now c.args.at k.0 _ k.1 (sym c.in_err-message.ensures.value))

pub change-requires : goal.change-requires
change-requires g c =
    let s = c.args.self.now in
    let k = ok_of (turn_at s.packet.limit.bytes s.packet.bytes.now c.args.at) c.requires in
    (turn_parts s.packet.limit.bytes s.packet.bytes.now c.args.at k.0 _ k.1 (sym c.in_ok-message.ensures.value)).tag_place

pub returns-in_err-change-clause-value : goal.returns-in_err-change-clause-value
returns-in_err-change-clause-value g c =
    let s = c.args.self.now in
    let k = ok_of (turn_at s.packet.limit.bytes s.packet.bytes.now c.args.at) c.requires in
    let e = entry_by (g.C.Check.vouched s.check.now) s.fleet.f s.fleet.t s.round c.args.view c.args.low s.packet.limit.bytes s.packet.bytes.now c.args.at k.0 _ k.1 (sym c.in_ok-message.ensures.value) in
    rw k.1 (search rules)

pub returns-in_err-certified-clause-value : goal.returns-in_err-certified-clause-value
returns-in_err-certified-clause-value g c =
    let s = c.args.self.now in
    let k = ok_of (turn_at s.packet.limit.bytes s.packet.bytes.now c.args.at) c.requires in
    let e = entry_by (g.C.Check.vouched s.check.now) s.fleet.f s.fleet.t s.round c.args.view c.args.low s.packet.limit.bytes s.packet.bytes.now c.args.at k.0 _ k.1 (sym c.in_ok-message.ensures.value) in
    let d = c.certified.ensures 2 in
    rw k.1 (search rules)

pub returns-clause-value : goal.returns-clause-value
returns-clause-value g c =
    let s = c.args.self.now in
    let k = ok_of (turn_at s.packet.limit.bytes s.packet.bytes.now c.args.at) c.requires in
    let e = entry_by (g.C.Check.vouched s.check.now) s.fleet.f s.fleet.t s.round c.args.view c.args.low s.packet.limit.bytes s.packet.bytes.now c.args.at k.0 _ k.1 (sym c.in_ok-message.ensures.value) in
    let a = entry_answer (g.C.Check.vouched s.check.now) s.fleet.f s.fleet.t s.round c.args.view c.args.low s.packet.limit.bytes s.packet.bytes.now c.args.at k.0 _ k.1 (sym c.in_ok-message.ensures.value) in
    let d = c.certified.ensures 2 in
    rw k.1 (search rules)
