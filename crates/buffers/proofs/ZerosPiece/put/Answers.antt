use Rattle.std.proofs.Common.{rules}
use Rattle.std.proofs.lemmas.List.{length-replicate}
use Rattle.buffers.proofs.Laying.{laid_part}
use Rattle.buffers.proofs.ZerosPiece.put.Goals as goal

pub returns-clause-after : goal.returns-clause-after
returns-clause-after c = search (rules, laid_part, length-replicate)
