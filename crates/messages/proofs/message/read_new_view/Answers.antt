use Rattle.std.proofs.Common.{rules}
use Rattle.wire.specs.Layout.{turn_at}
use Rattle.messages.proofs.Ends.{wholly_behind}
use Rattle.messages.proofs.Located.{turn_behind}
use Rattle.messages.proofs.message.read_new_view.Goals as goal

pub returns-in_err-end : goal.returns-in_err-end
returns-in_err-end c =
    let b = c.args.packet.bytes.now in
    let e = wholly_behind b (turn_at c.args.packet.limit.bytes b 0) in
    let e' = turn_behind c.args.packet.limit.bytes b 0 in
    search rules

pub returns : goal.returns
returns c =
    let b = c.args.packet.bytes.now in
    let e = wholly_behind b (turn_at c.args.packet.limit.bytes b 0) in
    let e' = turn_behind c.args.packet.limit.bytes b 0 in
    search rules
