use Rattle.std.proofs.Common.{refl}
use Rattle.checks.proofs.Rows.{found_row}
use Rattle.checks.proofs.register.RegisterCheck.vouches.Goals as goal

pub returns : goal.returns
returns c =
    found_row c.args.self.now.rows.now c.args.site c.args.statement.now c.args.tag.now c.in-Some.row c.word.result c.in-Some.ensures c.if-tag-ne4.false c.word.ensures
    c.as_chunks.result.0.now c.get.result _ c.eq.result c.as_chunks.ensures.front c.as_chunks.ensures.front_len refl c.get.ensures.lookup c.eq.ensures
