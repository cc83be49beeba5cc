-- The room, the value, whether the site may, the reading of the gathered new-views, and their verdict.
use Rattle.std.proofs.Common.{rules, Some, None, sym}
use Rattle.records.specs.Books.{books_of}
use Rattle.records.specs.Kept.{membership_of, kept_of}
use Rattle.calls.proofs.Propose.{views_room, propose_no_room, propose_by, unread, are_read, bad_certificate, good_certificate}
use Rattle.calls.proofs.record.Record.may_propose.Goals as goal

pub returns-in_err-room : goal.returns-in_err-room
returns-in_err-room g c =
    let a = c.args in
    let v = g.C.Check.vouched a.check.now in
    let m = membership_of a.self.now.member in
    let k = kept_of a.self.now.round in
    let books = books_of a.books in
    let e = propose_no_room v m k books a.out a.value _ (sym (c.in_err-room.ensures v)) in
    search rules

pub returns-in_err-test : goal.returns-in_err-test
returns-in_err-test g c =
    let a = c.args in
    let v = g.C.Check.vouched a.check.now in
    let m = membership_of a.self.now.member in
    let k = kept_of a.self.now.round in
    let books = books_of a.books in
    let room = sym (c.in_ok-room.ensures v) in
    let e = propose_by v m k books a.out a.value room in
    search rules

pub returns-then-not-in_turn : goal.returns-then-not-in_turn
returns-then-not-in_turn g c =
    let a = c.args in
    let v = g.C.Check.vouched a.check.now in
    let m = membership_of a.self.now.member in
    let k = kept_of a.self.now.round in
    let books = books_of a.books in
    let room = sym (c.in_ok-room.ensures v) in
    let e = propose_by v m k books a.out a.value room in
    search rules

pub read_gathered-requires : goal.read_gathered-requires
read_gathered-requires g c =
    let a = c.args in
    let v = g.C.Check.vouched a.check.now in
    let m = membership_of a.self.now.member in
    let k = kept_of a.self.now.round in
    let books = books_of a.books in
    let room = sym (c.in_ok-room.ensures v) in
    views_room v m books a.out room

pub returns-in_err-read_gathered : goal.returns-in_err-read_gathered
returns-in_err-read_gathered g c =
    let a = c.args in
    let v = g.C.Check.vouched a.check.now in
    let m = membership_of a.self.now.member in
    let k = kept_of a.self.now.round in
    let books = books_of a.books in
    let room = sym (c.in_ok-room.ensures v) in
    let e = propose_by v m k books a.out a.value room in
    let e' = unread v m k books a.out a.value _ c.in_err-read_gathered.ensures in
    search rules

pub gathered_verdict-requires-clause-room : goal.gathered_verdict-requires-clause-room
gathered_verdict-requires-clause-room g c =
    let a = c.args in
    let v = g.C.Check.vouched a.check.now in
    let m = membership_of a.self.now.member in
    let k = kept_of a.self.now.round in
    let books = books_of a.books in
    let room = sym (c.in_ok-room.ensures v) in
    views_room v m books a.out room

pub gathered_verdict-requires-clause-reads : goal.gathered_verdict-requires-clause-reads
gathered_verdict-requires-clause-reads g c =
    let a = c.args in
    let v = g.C.Check.vouched a.check.now in
    let m = membership_of a.self.now.member in
    let k = kept_of a.self.now.round in
    let books = books_of a.books in
    are_read v m k books a.out a.value c.in_ok-read_gathered.ensures

pub returns-in_err-gathered_verdict : goal.returns-in_err-gathered_verdict
returns-in_err-gathered_verdict g c =
    let a = c.args in
    let v = g.C.Check.vouched a.check.now in
    let m = membership_of a.self.now.member in
    let k = kept_of a.self.now.round in
    let books = books_of a.books in
    let room = sym (c.in_ok-room.ensures v) in
    let e = propose_by v m k books a.out a.value room in
    let e' = bad_certificate v m k books a.out a.value _ c.in_ok-read_gathered.ensures c.in_err-gathered_verdict.ensures in
    search rules

pub returns-in-None : goal.returns-in-None
returns-in-None g c =
    let a = c.args in
    let v = g.C.Check.vouched a.check.now in
    let m = membership_of a.self.now.member in
    let k = kept_of a.self.now.round in
    let books = books_of a.books in
    let room = sym (c.in_ok-room.ensures v) in
    let e = propose_by v m k books a.out a.value room in
    let e' = good_certificate v m k books a.out a.value None c.in_ok-read_gathered.ensures (rw c.in-None.is at c.in_ok-gathered_verdict.ensures) in
    search rules

pub returns-in-Some : goal.returns-in-Some
returns-in-Some g c =
    let a = c.args in
    let v = g.C.Check.vouched a.check.now in
    let m = membership_of a.self.now.member in
    let k = kept_of a.self.now.round in
    let books = books_of a.books in
    let room = sym (c.in_ok-room.ensures v) in
    let e = propose_by v m k books a.out a.value room in
    let e' = good_certificate v m k books a.out a.value (Some (c.in-Some.forced, c.in-Some.field-0-1, c.in-Some.field-0-2)) c.in_ok-read_gathered.ensures (rw c.in-Some.is at c.in_ok-gathered_verdict.ensures) in
    search rules
