use Rattle.std.proofs.Common.{ap, ◌∙◌, rules}
use Rattle.wire.specs.Places.{behind}
use Rattle.messages.proofs.Located.{turn_behind}
use Rattle.messages.proofs.kind.NewViewCounted.end.Goals as goal

pub returns-in_err-end : goal.returns-in_err-end
returns-in_err-end c =
    let e = ap behind c.envelope_at.ensures.value ∙ turn_behind c.args.packet.limit.bytes c.args.packet.bytes.now c.args.at in
    search rules

pub returns : goal.returns
returns c =
    let e = ap behind c.envelope_at.ensures.value ∙ turn_behind c.args.packet.limit.bytes c.args.packet.bytes.now c.args.at in
    search rules
