use Rattle.std.proofs.Common.{◌∙◌}
use Rattle.wire.specs.Layout.{turn_at, progress_at}
use Rattle.wire.proofs.Many.{counted_behind}
use Rattle.messages.proofs.kind.progress_end.Goals as goal

pub returns : goal.returns
unfolding progress_at
returns c =
    record {
      value = c.counted_end.ensures.value ∙ counted_behind (turn_at c.args.packet.limit.bytes c.args.packet.bytes.now) c.args.packet.bytes.now c.args.at;
      within = c.counted_end.ensures.within;
    }
