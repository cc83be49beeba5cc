use Rattle.std.proofs.Common.{◌∙◌, arith}
use Rattle.std.proofs.lemmas.List.{length-set}
use Rattle.sha256.proofs.Schedule.{later_word}
use Rattle.sha256.proofs.compression.message_schedule.Goals as goal

pub loop-t-preserved : goal.loop-t-preserved
loop-t-preserved c = (
  length-set _ _ _ ∙ c.loop-t.invariant.0,
  later_word c.loop-t.w c.args.block.now c.loop-t.t _ (omega arith) (omega arith) c.loop-t.invariant.1 (cc),
)
