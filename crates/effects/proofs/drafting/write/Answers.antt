-- What is laid at the start of a buffer stands there.
use Rattle.buffers.proofs.Laying.{from_start}
use Rattle.effects.proofs.drafting.write.Goals as goal

pub returns-clause-after : goal.returns-clause-after
returns-clause-after g c = from_start c.put.ensures.after
