-- The rows that hold the value are counted.
use Rattle.std.proofs.Common.{rules, None, refl}
use Rattle.agreement.specs.Moves.{holds}
use Rattle.effects.proofs.Counted.{count_size}
use Rattle.effects.proofs.votes.holding.Goals as goal

pub returns : goal.returns
returns c =
    let e = count_size (holds c.args.value) None refl c.args.rows.now c.args.sites in
    search rules
