use Rattle.std.proofs.Common.{refl, ◌∙◌, arith}
use Rattle.std.proofs.lemmas.List.{length-set}
use Rattle.buffers.specs.Words.{word_from}
use Rattle.sha256.specs.Sha256.{schedule}
use Rattle.sha256.proofs.Blocks.{word_of_chunk}
use Rattle.sha256.proofs.Schedule.{own_word}
use Rattle.sha256.proofs.compression.block_words.Goals as goal

pub loop-t-init : goal.loop-t-init
unfolding schedule
loop-t-init c = (refl, refl)

pub loop-t-preserved : goal.loop-t-preserved
unfolding word_from
loop-t-preserved c = (
  length-set _ _ _ ∙ c.loop-t.invariant.0,
  own_word c.loop-t.w c.args.block.now c.loop-t.t _ (omega (arith, c.as_chunks.ensures.front_len)) (omega (arith, c.as_chunks.ensures.front_len)) c.loop-t.invariant.1
      (word_of_chunk c.args.block.now c.as_chunks.result.0.now _ _ c.loop-t.t _ c.as_chunks.ensures.front (omega (arith, c.as_chunks.ensures.front_len)) c.from_be_bytes.ensures),
)
