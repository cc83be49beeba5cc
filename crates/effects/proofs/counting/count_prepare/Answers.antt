-- The sender's row lies in the tag book.
use Rattle.std.proofs.Common.{length}
use Rattle.values.specs.Fleets.{sites}
use Rattle.wire.specs.Contents.{tag_bytes}
use Rattle.records.specs.Sizes.{tag_row}
use Rattle.calls.proofs.Laid.{row_inside}
use Rattle.effects.proofs.counting.count_prepare.Goals as goal

pub fill_prepare-requires-clause-room : goal.fill_prepare-requires-clause-room
fill_prepare-requires-clause-room c =
    let m = c.args.kept.now.member in
    row_inside c.args.claim.head.site (sites m.fleet.f m.fleet.t) (tag_row m.limit.bytes) (length (tag_bytes c.args.tag.bytes.now)) (length c.args.tags.now) c.requires.site c.requires.tags c.requires.tag
