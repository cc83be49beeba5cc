use Rattle.std.proofs.Common.{rules}
use Rattle.wire.specs.Layout.{progress_at, progress_of}
use Rattle.messages.proofs.Ends.{wholly_behind}
use Rattle.messages.proofs.message.read_progress.Goals as goal

pub returns-in_err-progress_end : goal.returns-in_err-progress_end
unfolding progress_of
returns-in_err-progress_end c =
    let b = c.args.packet.bytes.now in
    let e = wholly_behind b (progress_at c.args.packet.limit.bytes b 0) in
    search rules

pub returns : goal.returns
unfolding progress_of
returns c =
    let b = c.args.packet.bytes.now in
    let e = wholly_behind b (progress_at c.args.packet.limit.bytes b 0) in
    search rules
