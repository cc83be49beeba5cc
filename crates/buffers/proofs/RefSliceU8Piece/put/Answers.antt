use Rattle.std.proofs.Common.{rules}
use Rattle.buffers.proofs.Laying.{laid_part}
use Rattle.buffers.proofs.RefSliceU8Piece.put.Goals as goal

pub returns-clause-after : goal.returns-clause-after
returns-clause-after c = search (rules, laid_part)
