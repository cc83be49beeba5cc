-- What is drafted has room.
use Rattle.std.proofs.Common.{true, sym, length, arith}
use Rattle.checks.specs.Vouching.{Vouched}
use Rattle.records.specs.Books.{books_of}
use Rattle.records.specs.Kept.{membership_of, kept_of}
use Rattle.calls.proofs.Done.{leave_done}
use Rattle.calls.proofs.Filling.{room_ok}
use Rattle.site.proofs.Admitted.{row_in}
use Rattle.site.proofs.site.Site.leave.Goals as goal

-- any check: leave asks none
yes : Vouched
yes site statement tag = true

pub leave-requires : goal.leave-requires
leave-requires c =
    let a = c.args in
    let r = a.self.now.record in
    let m = membership_of r.member in
    let p = leave_done yes m (kept_of r.round) (books_of a.books) (length a.out.now) a.view _ (sym (c.in_ok-higher.ensures yes)) in
    let room = (room_ok yes m (books_of a.books) (length a.out.now) p.room).whole in
    omega (arith, row_in m.f m.t m.limit (length a.out.now) room)
