use Rattle.std.proofs.Common.{ℕ, List, length, refl, ap, ◌∙◌}
use Rattle.std.proofs.lemmas.Bool.{le-leb}
use Rattle.buffers.proofs.Laying.{fronted}
use Rattle.checks.proofs.port.PortPrefixCheck.vouches.Goals as goal

pub returns : goal.returns
returns g c =
    c.vouches.ensures
    ∙ ap (λ (l : List ℕ). g.C.Check.vouched c.args.self.now.below c.args.site l c.args.tag.now) (fronted c.put-end.ensures.after)
    ∙ (rw (le-leb (length c.args.statement.now) 60 c.if-statement-gt60.false) refl)
