-- the count word is laid, and the votes of the sites before
use Rattle.std.proofs.Common.{ℕ, ◌++◌}
use Rattle.buffers.specs.Words.{word_bytes}
use Rattle.values.specs.Fleets.{sites}
use Rattle.agreement.specs.Moves.{holders}
use Rattle.records.specs.Sizes.{tag_row}
use Rattle.records.specs.Rows.{row_of}
use Rattle.records.specs.Books.{held_row}
use Rattle.effects.proofs.Joining.{Unfinished}
use Rattle.effects.proofs.votes.VotesPiece.put.Given as goal

abbrev pub invariant-loop-site : goal.invariant-loop-site
invariant-loop-site l =
    let s = l.self.kept.now in
    let vote = λ (j : ℕ). word_bytes j ++ held_row l.self.tags.now (tag_row s.member.limit.bytes) s.round.lengths.tags j in
    Unfinished (holders (row_of s.round.rows.prepares) l.self.value) vote (sites s.member.fleet.f s.member.fleet.t) l.fn.out l.at l.out l.next l.site
