-- The room, the reading, and then the tests of its kind.
use Rattle.std.proofs.Common.{rules, ◌+◌, [], length, sym}
use Rattle.wire.specs.Contents.{tag_bytes}
use Rattle.messages.specs.Parts.{cut_of}
use Rattle.records.specs.Books.{books_of}
use Rattle.records.specs.Kept.{membership_of, kept_of}
use Rattle.calls.proofs.Read.{unread}
use Rattle.calls.proofs.Hear.{hear_no_room, hear_unread, hears_propose, hears_prepare, hears_commit, hears_new_view}
use Rattle.calls.proofs.record.Record.admit.Goals as goal
use Rattle.calls.proofs.record.Record.admit.Goals.{in-Propose+in_ok-admit_propose-in-Propose, in-Prepare+in_ok-admit_prepare-in-Prepare, in-Commit+in_ok-admit_commit-in-Commit, in-NewView+in_ok-admit_new_view-in-NewView}

pub returns-in_err-room-clause-value : goal.returns-in_err-room-clause-value
returns-in_err-room-clause-value g c =
    let a = c.args in
    let v = g.C.Check.vouched a.check.now in
    let e = hear_no_room v (membership_of a.self.now.member) (kept_of a.self.now.round) (books_of a.books) a.out a.bytes.now _ (sym (c.in_err-room.ensures v)) in
    search rules

pub returns-in_err-message-clause-value : goal.returns-in_err-message-clause-value
returns-in_err-message-clause-value g c =
    let a = c.args in
    let v = g.C.Check.vouched a.check.now in
    let m = membership_of a.self.now.member in
    let k = kept_of a.self.now.round in
    let room = sym (c.in_ok-room.ensures v) in
    let e = hear_unread v m k (books_of a.books) a.out a.bytes.now _ room (unread a.self.now.member.limit.bytes a.bytes.now _ _ c.in_err-message.ensures) in
    search rules

pub admit_propose-requires-clause-reads : goal.admit_propose-requires-clause-reads
admit_propose-requires-clause-reads g c =
    let a = c.args in
    let v = g.C.Check.vouched a.check.now in
    let m = membership_of a.self.now.member in
    let k = kept_of a.self.now.round in
    let room = sym (c.in_ok-room.ensures v) in
    let r = hears_propose v m k (books_of a.books) a.out a.bytes.now c.in-Propose.claim (cut_of c.in-Propose.tag) (cut_of c.in-Propose.progress) room (rw c.in-Propose.is at c.in_ok-message.ensures) in
    r.reads.stands

pub admit_propose-requires-clause-place : goal.admit_propose-requires-clause-place
admit_propose-requires-clause-place g c =
    let a = c.args in
    let v = g.C.Check.vouched a.check.now in
    let m = membership_of a.self.now.member in
    let k = kept_of a.self.now.round in
    let room = sym (c.in_ok-room.ensures v) in
    let r = hears_propose v m k (books_of a.books) a.out a.bytes.now c.in-Propose.claim (cut_of c.in-Propose.tag) (cut_of c.in-Propose.progress) room (rw c.in-Propose.is at c.in_ok-message.ensures) in
    r.reads.place

pub returns-in_err-admit_propose-in-Propose-clause-value : goal.returns-in_err-admit_propose-in-Propose-clause-value
returns-in_err-admit_propose-in-Propose-clause-value g c =
    let a = c.args in
    let v = g.C.Check.vouched a.check.now in
    let m = membership_of a.self.now.member in
    let k = kept_of a.self.now.round in
    let room = sym (c.in_ok-room.ensures v) in
    let r = hears_propose v m k (books_of a.books) a.out a.bytes.now c.in-Propose.claim (cut_of c.in-Propose.tag) (cut_of c.in-Propose.progress) room (rw c.in-Propose.is at c.in_ok-message.ensures) in
    let e = r.is in
    search rules

pub returns-in_err-admit_prepare-in-Prepare-clause-value : goal.returns-in_err-admit_prepare-in-Prepare-clause-value
returns-in_err-admit_prepare-in-Prepare-clause-value g c =
    let a = c.args in
    let v = g.C.Check.vouched a.check.now in
    let m = membership_of a.self.now.member in
    let k = kept_of a.self.now.round in
    let room = sym (c.in_ok-room.ensures v) in
    let r = hears_prepare v m k (books_of a.books) a.out a.bytes.now c.in-Prepare.claim (cut_of c.in-Prepare.tag) (record { place = c.in-Prepare.tag.place + length (tag_bytes c.in-Prepare.tag.bytes.now); bytes = [] }) room (rw c.in-Prepare.is at c.in_ok-message.ensures) in
    search rules

pub admit_commit-requires-clause-reads : goal.admit_commit-requires-clause-reads
admit_commit-requires-clause-reads g c =
    let a = c.args in
    let v = g.C.Check.vouched a.check.now in
    let m = membership_of a.self.now.member in
    let k = kept_of a.self.now.round in
    let room = sym (c.in_ok-room.ensures v) in
    let r = hears_commit v m k (books_of a.books) a.out a.bytes.now c.in-Commit.claim (cut_of c.in-Commit.tag) (cut_of c.in-Commit.certificate) room (rw c.in-Commit.is at c.in_ok-message.ensures) in
    r.reads.stands

pub admit_commit-requires-clause-place : goal.admit_commit-requires-clause-place
admit_commit-requires-clause-place g c =
    let a = c.args in
    let v = g.C.Check.vouched a.check.now in
    let m = membership_of a.self.now.member in
    let k = kept_of a.self.now.round in
    let room = sym (c.in_ok-room.ensures v) in
    let r = hears_commit v m k (books_of a.books) a.out a.bytes.now c.in-Commit.claim (cut_of c.in-Commit.tag) (cut_of c.in-Commit.certificate) room (rw c.in-Commit.is at c.in_ok-message.ensures) in
    r.reads.place

pub returns-in_err-admit_commit-in-Commit-clause-value : goal.returns-in_err-admit_commit-in-Commit-clause-value
returns-in_err-admit_commit-in-Commit-clause-value g c =
    let a = c.args in
    let v = g.C.Check.vouched a.check.now in
    let m = membership_of a.self.now.member in
    let k = kept_of a.self.now.round in
    let room = sym (c.in_ok-room.ensures v) in
    let r = hears_commit v m k (books_of a.books) a.out a.bytes.now c.in-Commit.claim (cut_of c.in-Commit.tag) (cut_of c.in-Commit.certificate) room (rw c.in-Commit.is at c.in_ok-message.ensures) in
    let e = r.is in
    search rules

pub admit_new_view-requires-clause-reads : goal.admit_new_view-requires-clause-reads
admit_new_view-requires-clause-reads g c =
    let a = c.args in
    let v = g.C.Check.vouched a.check.now in
    let m = membership_of a.self.now.member in
    let k = kept_of a.self.now.round in
    let room = sym (c.in_ok-room.ensures v) in
    let r = hears_new_view v m k (books_of a.books) a.out a.bytes.now c.in-NewView.change (cut_of c.in-NewView.tag) (cut_of c.in-NewView.certificate) room (rw c.in-NewView.is at c.in_ok-message.ensures) in
    r.reads.stands

pub admit_new_view-requires-clause-tag : goal.admit_new_view-requires-clause-tag
admit_new_view-requires-clause-tag g c =
    let a = c.args in
    let v = g.C.Check.vouched a.check.now in
    let m = membership_of a.self.now.member in
    let k = kept_of a.self.now.round in
    let room = sym (c.in_ok-room.ensures v) in
    let r = hears_new_view v m k (books_of a.books) a.out a.bytes.now c.in-NewView.change (cut_of c.in-NewView.tag) (cut_of c.in-NewView.certificate) room (rw c.in-NewView.is at c.in_ok-message.ensures) in
    r.reads.tag_place

pub admit_new_view-requires-clause-place : goal.admit_new_view-requires-clause-place
admit_new_view-requires-clause-place g c =
    let a = c.args in
    let v = g.C.Check.vouched a.check.now in
    let m = membership_of a.self.now.member in
    let k = kept_of a.self.now.round in
    let room = sym (c.in_ok-room.ensures v) in
    let r = hears_new_view v m k (books_of a.books) a.out a.bytes.now c.in-NewView.change (cut_of c.in-NewView.tag) (cut_of c.in-NewView.certificate) room (rw c.in-NewView.is at c.in_ok-message.ensures) in
    r.reads.place

pub returns-in_err-admit_new_view-in-NewView-clause-value : goal.returns-in_err-admit_new_view-in-NewView-clause-value
returns-in_err-admit_new_view-in-NewView-clause-value g c =
    let a = c.args in
    let v = g.C.Check.vouched a.check.now in
    let m = membership_of a.self.now.member in
    let k = kept_of a.self.now.round in
    let room = sym (c.in_ok-room.ensures v) in
    let r = hears_new_view v m k (books_of a.books) a.out a.bytes.now c.in-NewView.change (cut_of c.in-NewView.tag) (cut_of c.in-NewView.certificate) room (rw c.in-NewView.is at c.in_ok-message.ensures) in
    let e = r.is in
    search rules

pub returns-clause-value : goal.returns-clause-value
returns-clause-value g c =
    let a = c.args in
    let v = g.C.Check.vouched a.check.now in
    let m = membership_of a.self.now.member in
    let k = kept_of a.self.now.round in
    let room = sym (c.in_ok-room.ensures v) in
    elim c.match-message.branch [
      | in-Propose+in_ok-admit_propose-in-Propose w ↦
          let r = hears_propose v m k (books_of a.books) a.out a.bytes.now w.in-Propose.claim (cut_of w.in-Propose.tag) (cut_of w.in-Propose.progress) room (rw w.in-Propose.is at c.in_ok-message.ensures) in
          let e = r.is in
          search rules
      | in-Prepare+in_ok-admit_prepare-in-Prepare w ↦
          let r = hears_prepare v m k (books_of a.books) a.out a.bytes.now w.in-Prepare.claim (cut_of w.in-Prepare.tag) (record { place = w.in-Prepare.tag.place + length (tag_bytes w.in-Prepare.tag.bytes.now); bytes = [] }) room (rw w.in-Prepare.is at c.in_ok-message.ensures) in
          search rules
      | in-Commit+in_ok-admit_commit-in-Commit w ↦
          let r = hears_commit v m k (books_of a.books) a.out a.bytes.now w.in-Commit.claim (cut_of w.in-Commit.tag) (cut_of w.in-Commit.certificate) room (rw w.in-Commit.is at c.in_ok-message.ensures) in
          let e = r.is in
          search rules
      | in-NewView+in_ok-admit_new_view-in-NewView w ↦
          let r = hears_new_view v m k (books_of a.books) a.out a.bytes.now w.in-NewView.change (cut_of w.in-NewView.tag) (cut_of w.in-NewView.certificate) room (rw w.in-NewView.is at c.in_ok-message.ensures) in
          let e = r.is in
          search rules
    ]
