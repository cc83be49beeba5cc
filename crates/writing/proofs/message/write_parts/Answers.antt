use Rattle.std.proofs.Common.{sym, ◌∙◌, rules}
use Rattle.wire.specs.Contents.{statement_bytes, tag_bytes}
use Rattle.writing.specs.Written.{sending_of}
use Rattle.writing.proofs.Laying.{writes, cramped_message, tag_fits, tag_long}
use Rattle.writing.proofs.message.write_parts.Goals as goal

pub returns-in_err-tag : goal.returns-in_err-tag
unfolding sending_of
returns-in_err-tag c =
    let t = tag_long c.args.limit.bytes c.args.parts.tag.now _ c.in_err-tag.ensures in
    search rules

pub returns-then-not-has_room : goal.returns-then-not-has_room
unfolding sending_of
returns-then-not-has_room c =
    let t = tag_fits c.args.limit.bytes c.args.parts.tag.now _ c.in_ok-tag.ensures in
    let w = cramped_message c.args.out.now (statement_bytes c.args.parts.statement) (tag_bytes c.args.parts.tag.now) c.args.parts.attachment.now c.length.result c.length-2.result c.length.ensures.value (simp t.1 at c.length-2.ensures) (sym c.has_room.ensures ∙ c.if-not-has_room.true) in
    record { value = simp t.0 w.0; after = simp t.0 w.1 }

pub returns : goal.returns
unfolding sending_of
returns c =
    let t = tag_fits c.args.limit.bytes c.args.parts.tag.now _ c.in_ok-tag.ensures in
    let w = writes (simp t.1 at c.put.ensures.after) in
    record { value = simp t.0 w.0; after = simp t.0 w.1 }
