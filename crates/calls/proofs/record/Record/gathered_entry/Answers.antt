-- The row's entry, with its faults' places counted from where the certificate begins.
use Rattle.std.proofs.Common.{rules, length}
use Rattle.wire.specs.Layout.{turn_at}
use Rattle.certificates.proofs.Turns.{ok_of}
use Rattle.calls.specs.Gathering.{turn_of}
use Rattle.calls.proofs.Rows.{row_turn, row_length, if_ok, entry_good, entry_bad, entry_fits}
use Rattle.calls.proofs.record.Record.gathered_entry.Goals as goal

pub moved-requires : goal.moved-requires
moved-requires g c =
    let s = c.args.self.now in
    let b = c.args.row.now in
    let v = g.C.Check.vouched c.args.check.now in
    let k = ok_of (turn_of s.member.limit.bytes b) c.requires.reads in
    let at = row_turn s.member.limit.bytes b k.0 k.1 in
    let h = if_ok (turn_at s.member.limit.bytes b 0) (k.0, length b) _ at c.in-Err.ensures.value in
    rw c.from.ensures (entry_fits v s.member.fleet.f s.member.fleet.t s.round.number s.round.view.number c.args.low c.args.place k.0 c.number.result c.number.ensures _ _ b h (row_length s.member.limit.bytes b k.0 k.1) c.requires.place)

pub returns-in-Ok-clause-value : goal.returns-in-Ok-clause-value
returns-in-Ok-clause-value g c =
    let s = c.args.self.now in
    let b = c.args.row.now in
    let v = g.C.Check.vouched c.args.check.now in
    let k = ok_of (turn_of s.member.limit.bytes b) c.requires.reads in
    let at = row_turn s.member.limit.bytes b k.0 k.1 in
    let h = if_ok (turn_at s.member.limit.bytes b 0) (k.0, length b) _ at c.in-Ok.ensures.value in
    rw k.1 (entry_good v s.member.fleet.f s.member.fleet.t s.round.number s.round.view.number c.args.low c.args.place k.0 c.number.result c.number.ensures _ _ _ h)

pub returns-in-Err-clause-value : goal.returns-in-Err-clause-value
returns-in-Err-clause-value g c =
    let s = c.args.self.now in
    let b = c.args.row.now in
    let v = g.C.Check.vouched c.args.check.now in
    let k = ok_of (turn_of s.member.limit.bytes b) c.requires.reads in
    let at = row_turn s.member.limit.bytes b k.0 k.1 in
    let h = if_ok (turn_at s.member.limit.bytes b 0) (k.0, length b) _ at c.in-Err.ensures.value in
    let e = entry_bad v s.member.fleet.f s.member.fleet.t s.round.number s.round.view.number c.args.low c.args.place k.0 c.number.result c.number.ensures _ _ h in
    rw k.1 (search rules)
