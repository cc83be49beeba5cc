-- The fault lies within the row.
use Rattle.std.proofs.Common.{rules}
use Rattle.wire.specs.Layout.{turn_at, wholly}
use Rattle.certificates.proofs.Whole.{err_of}
use Rattle.calls.proofs.Within.{turn_fault_within}
use Rattle.calls.proofs.record.Record.read_row.Goals as goal

pub overflow_add-result : goal.overflow_add-result
overflow_add-result c =
    let limit = c.args.self.now.member.limit.bytes in
    let b = c.args.row.now in
    let within = turn_fault_within limit b c.in-Err.fault (err_of (wholly b (turn_at limit b 0)) c.in-Err.fault c.in-Err.ensures) in
    search rules
