use Rattle.std.proofs.Common.{sym, ◌∙◌}
use Rattle.wire.specs.Contents.{statement_bytes}
use Rattle.writing.specs.Written.{drafting}
use Rattle.writing.proofs.Laying.{writes, cramped}
use Rattle.writing.proofs.message.write_draft.Goals as goal

pub returns-then-not-has_room : goal.returns-then-not-has_room
unfolding drafting
returns-then-not-has_room c =
    let w = cramped c.args.out.now (statement_bytes c.args.statement) c.args.attachment.now c.length.result c.length.ensures.value (sym c.has_room.ensures ∙ c.if-not-has_room.true) in
    record { value = w.0; after = w.1 }

pub returns : goal.returns
unfolding drafting
returns c = let w = writes c.put.ensures.after in record { value = w.0; after = w.1 }
