use Rattle.buffers.proofs.Laying.{then}
use Rattle.buffers.proofs.Tuple2Piece.put.Goals as goal

pub returns-clause-after : goal.returns-clause-after
returns-clause-after g c = then c.put-next.ensures.after c.put.ensures.after
