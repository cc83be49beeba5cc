use Rattle.std.proofs.Common.{◌∙◌}
use Rattle.wire.specs.Layout.{vote_at, votes_at}
use Rattle.wire.proofs.Many.{counted_behind}
use Rattle.wire.proofs.words.Packet.certificate_end.Goals as goal

pub returns : goal.returns
unfolding votes_at
returns c =
    record {
      value = c.counted_end.ensures.value ∙ counted_behind (vote_at c.args.self.limit.bytes c.args.self.bytes.now) c.args.self.bytes.now c.args.at;
      within = c.counted_end.ensures.within;
    }
