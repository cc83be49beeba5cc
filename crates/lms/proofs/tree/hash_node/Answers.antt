use Rattle.std.proofs.Common.{ap, ◌∙◌}
use Rattle.buffers.proofs.Laying.{fronted}
use Rattle.sha256.specs.Sha256.{sha256}
use Rattle.lms.proofs.Texts.{hashed_32}
use Rattle.lms.proofs.tree.hash_node.Goals as goal

pub returns : goal.returns
returns g c = c.hash.ensures.value ∙ ap sha256 (fronted c.put-end.ensures.after) ∙ hashed_32 _
