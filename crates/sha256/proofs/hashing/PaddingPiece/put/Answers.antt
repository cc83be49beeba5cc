use Rattle.sha256.specs.Sha256.{padding}
use Rattle.sha256.proofs.Blocks.{bits_of}
use Rattle.sha256.proofs.hashing.PaddingPiece.put.Goals as goal

pub put-requires : goal.put-requires
unfolding padding
put-requires c = rw (bits_of c.args.self.0 _ c.to_be_bytes.ensures) c.requires

pub returns-clause-next : goal.returns-clause-next
unfolding padding
returns-clause-next c = rw (bits_of c.args.self.0 _ c.to_be_bytes.ensures) at c.put.ensures.next

pub returns-clause-after : goal.returns-clause-after
unfolding padding
returns-clause-after c = rw (bits_of c.args.self.0 _ c.to_be_bytes.ensures) at c.put.ensures.after
