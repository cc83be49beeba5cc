use Rattle.std.proofs.Common.{◌≡◌, None, sym, ◌∙◌, arith, rules}
use Rattle.lines.proofs.Steps.{goes_on, stops, ends, whole}
use Rattle.lines.proofs.number.Goals as goal

pub returns-in_err-number : goal.returns-in_err-number
returns-in_err-number c =
    let e : c.from_residual.result ≡ None = search rules in
    e
    ∙ sym (stops c.args.word.now c.loop-b.b-index c.loop-b.number c.loop-b-test.true (search rules))
    ∙ c.loop-b.invariant
    ∙ sym (whole c.args.word.now (sym c.is_empty.ensures ∙ c.if-is_empty.false))

pub loop-b-preserved : goal.loop-b-preserved
loop-b-preserved c =
    goes_on c.args.word.now c.loop-b.b-index c.loop-b.number c.in_ok-number.number c.loop-b-test.true (search rules) ∙ c.loop-b.invariant

pub returns : goal.returns
returns c =
    sym (ends c.args.word.now c.loop-b.b-index c.loop-b.number (omega arith))
    ∙ c.loop-b.invariant
    ∙ sym (whole c.args.word.now (sym c.is_empty.ensures ∙ c.if-is_empty.false))
