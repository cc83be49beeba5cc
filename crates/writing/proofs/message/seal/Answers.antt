use Rattle.std.proofs.Common.{◌≡◌, Ok, sym, ap, ◌∙◌, zero-add, rules}
use Rattle.wire.specs.Layout.{draft_end}
use Rattle.writing.specs.Written.{sealing}
use Rattle.buffers.proofs.Laying.{from_start}
use Rattle.writing.proofs.Laying.{tag_fits, tag_long}
use Rattle.writing.proofs.message.seal.Goals as goal

pub returns-in_err-tag : goal.returns-in_err-tag
unfolding sealing
returns-in_err-tag c =
    let t = tag_long c.args.limit.bytes c.args.tag.now _ c.in_err-tag.ensures in
    search rules

pub returns-then-not-has_room : goal.returns-then-not-has_room
unfolding sealing
returns-then-not-has_room c =
    let t = tag_fits c.args.limit.bytes c.args.tag.now _ c.in_ok-tag.ensures in
    search rules

pub returns-in_err-end : goal.returns-in_err-end
unfolding sealing
returns-in_err-end c =
    let t = tag_fits c.args.limit.bytes c.args.tag.now _ c.in_ok-tag.ensures in
    search rules

pub returns : goal.returns
unfolding sealing
returns c =
    let t = tag_fits c.args.limit.bytes c.args.tag.now _ c.in_ok-tag.ensures in
    let known : draft_end c.args.limit.bytes c.args.draft.now ≡ Ok c.in_ok-end.end = sym c.draft_end.ensures.value ∙ c.in_ok-end.was in
    let room = sym c.has_room.ensures ∙ c.if-not-has_room.false in
    let whole = simp (t.1, c.split_at.ensures.front, c.split_at.ensures.back) at c.put.ensures.after in
    record {
      value = simp (t.0, simp c.bytes.ensures at room, known) (ap Ok (whole.ends ∙ zero-add _));
      after = simp (t.0, simp c.bytes.ensures at room, known) (from_start whole);
    }
