use Rattle.std.proofs.Common.{rules}
use Rattle.std.proofs.lemmas.List.{length-replicate}
use Rattle.buffers.proofs.Laying.{filled}
use Rattle.buffers.proofs.array.Goals as goal

pub returns : goal.returns
returns g c = filled c.put.ensures.after (search (rules, length-replicate))
