-- What is drafted has room.
use Rattle.std.proofs.Common.{sym, length}
use Rattle.records.specs.Books.{books_of}
use Rattle.records.specs.Kept.{membership_of, kept_of}
use Rattle.calls.specs.Effects.{proposing}
use Rattle.calls.specs.Calls.{to_propose}
use Rattle.calls.proofs.Done.{propose_done}
use Rattle.calls.proofs.Filling.{room_ok}
use Rattle.calls.proofs.Room.{written_fits}
use Rattle.site.proofs.Admitted.{fleet_legal, limit_legal}
use Rattle.site.proofs.site.Site.propose.Goals as goal

pub propose-requires-clause-views : goal.propose-requires-clause-views
propose-requires-clause-views g c =
    let a = c.args in
    let v = g.C.Check.vouched a.check.now in
    let r = a.self.now.record in
    let p = propose_done v (membership_of r.member) (kept_of r.round) (books_of a.books) (length a.out.now) a.value _ (sym c.in_ok-value.ensures) in
    (room_ok v (membership_of r.member) (books_of a.books) (length a.out.now) p.room).views

pub propose-requires-clause-room : goal.propose-requires-clause-room
propose-requires-clause-room g c =
    let a = c.args in
    let v = g.C.Check.vouched a.check.now in
    let r = a.self.now.record in
    written_fits v (membership_of r.member) (kept_of r.round) (books_of a.books) (length a.out.now) (to_propose a.value) (proposing (membership_of r.member) (kept_of r.round) (books_of a.books) c.in_ok-value.value) (fleet_legal r.member.fleet) (limit_legal r.member.limit) (sym c.in_ok-value.ensures)
