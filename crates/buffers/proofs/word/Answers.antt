use Rattle.buffers.specs.Words.{word_from}
use Rattle.buffers.proofs.word.Goals as goal

pub returns : goal.returns
unfolding word_from
returns c = c.from_be_bytes.ensures
