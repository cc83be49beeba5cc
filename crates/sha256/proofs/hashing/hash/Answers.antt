use Rattle.std.proofs.Common.{◌++◌, length, ap, ◌∙◌, zero-add}
use Rattle.sha256.specs.Sha256.{padding, H0, after_all, digest, sha256}
use Rattle.sha256.proofs.Blocks.{shortest}
use Rattle.sha256.proofs.hashing.hash.Goals as goal

pub returns : goal.returns
unfolding sha256
returns c =
    record {
      value = c.finish.ensures ∙ ap (λ n. digest (after_all H0 (c.args.message.now ++ padding n))) (zero-add (length c.args.message.now));
      padding = shortest;
    }
