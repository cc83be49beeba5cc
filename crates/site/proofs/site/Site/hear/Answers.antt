-- The message's parts say who it is, and that what it leaves has room; then the contracts of what is left say the rest.
use Rattle.std.proofs.Common.{ap, ◌∙◌, arith}
use Rattle.messages.specs.declared.message.Message.TheVariants.{Propose, Prepare, Commit, NewView}
use Rattle.records.specs.Books.{books_of, writable_of}
use Rattle.records.specs.Kept.{membership_of, kept_of}
use Rattle.calls.specs.Effects.{counting_prepare}
use Rattle.calls.proofs.Laws.{call_laws}
use Rattle.calls.proofs.Examples.{call_examples}
use Rattle.effects.specs.Answers.{heard_told}
use Rattle.effects.specs.Changes.{onto, shelf}
use Rattle.site.specs.declared.site.Site.{Site}
use Rattle.site.proofs.Admitted.{admitted, left_by, proposal_in, prepare_in, commit_in, new_view_in, answer_left, kept_left, books_left, out_left, same_books}
use Rattle.site.proofs.site.Site.hear.Goals as goal
use Rattle.site.proofs.site.Site.hear.Goals.{in-Propose, in-Prepare, in-Commit, in-NewView}

pub prepare-heard-requires : goal.prepare-heard-requires
prepare-heard-requires g c =
    let a = c.args in
    let w = admitted (g.C.Check.vouched a.check.now) a.self.now.record (writable_of a.books) a.out.now a.packet.now (books_of c.shared.result) c.in_ok-message.message c.shared.ensures c.in_ok-message.ensures.value c.in_ok-message.ensures.message in
    omega (arith, (proposal_in w c.in-Propose.claim c.in-Propose.tag c.in-Propose.progress c.in-Propose.is).row)

pub new-requires : goal.new-requires
new-requires g c =
    let a = c.args in
    let w = admitted (g.C.Check.vouched a.check.now) a.self.now.record (writable_of a.books) a.out.now a.packet.now (books_of c.shared.result) c.in_ok-message.message c.shared.ensures c.in_ok-message.ensures.value c.in_ok-message.ensures.message in
    omega (arith, (prepare_in w c.in-Prepare.claim c.in-Prepare.tag c.in-Prepare.is).said.1, a.self.now.record.member.limit.legal)

pub count_prepare-heard-requires-clause-site : goal.count_prepare-heard-requires-clause-site
count_prepare-heard-requires-clause-site g c =
    let a = c.args in
    let w = admitted (g.C.Check.vouched a.check.now) a.self.now.record (writable_of a.books) a.out.now a.packet.now (books_of c.shared.result) c.in_ok-message.message c.shared.ensures c.in_ok-message.ensures.value c.in_ok-message.ensures.message in
    (prepare_in w c.in-Prepare.claim c.in-Prepare.tag c.in-Prepare.is).said.0

pub count_prepare-heard-requires-clause-tag : goal.count_prepare-heard-requires-clause-tag
count_prepare-heard-requires-clause-tag g c =
    let a = c.args in
    let w = admitted (g.C.Check.vouched a.check.now) a.self.now.record (writable_of a.books) a.out.now a.packet.now (books_of c.shared.result) c.in_ok-message.message c.shared.ensures c.in_ok-message.ensures.value c.in_ok-message.ensures.message in
    rw c.new.ensures (prepare_in w c.in-Prepare.claim c.in-Prepare.tag c.in-Prepare.is).said.2

pub count_prepare-heard-requires-clause-tags : goal.count_prepare-heard-requires-clause-tags
count_prepare-heard-requires-clause-tags g c =
    let a = c.args in
    let w = admitted (g.C.Check.vouched a.check.now) a.self.now.record (writable_of a.books) a.out.now a.packet.now (books_of c.shared.result) c.in_ok-message.message c.shared.ensures c.in_ok-message.ensures.value c.in_ok-message.ensures.message in
    (prepare_in w c.in-Prepare.claim c.in-Prepare.tag c.in-Prepare.is).room.tags

pub count_prepare-heard-requires-clause-book : goal.count_prepare-heard-requires-clause-book
count_prepare-heard-requires-clause-book g c =
    let a = c.args in
    let w = admitted (g.C.Check.vouched a.check.now) a.self.now.record (writable_of a.books) a.out.now a.packet.now (books_of c.shared.result) c.in_ok-message.message c.shared.ensures c.in_ok-message.ensures.value c.in_ok-message.ensures.message in
    (prepare_in w c.in-Prepare.claim c.in-Prepare.tag c.in-Prepare.is).room.certificate

pub count_prepare-heard-requires-clause-out : goal.count_prepare-heard-requires-clause-out
count_prepare-heard-requires-clause-out g c =
    let a = c.args in
    let w = admitted (g.C.Check.vouched a.check.now) a.self.now.record (writable_of a.books) a.out.now a.packet.now (books_of c.shared.result) c.in_ok-message.message c.shared.ensures c.in_ok-message.ensures.value c.in_ok-message.ensures.message in
    omega (arith, (prepare_in w c.in-Prepare.claim c.in-Prepare.tag c.in-Prepare.is).row)

pub count_commit-heard-requires : goal.count_commit-heard-requires
count_commit-heard-requires g c =
    let a = c.args in
    let w = admitted (g.C.Check.vouched a.check.now) a.self.now.record (writable_of a.books) a.out.now a.packet.now (books_of c.shared.result) c.in_ok-message.message c.shared.ensures c.in_ok-message.ensures.value c.in_ok-message.ensures.message in
    omega (arith, (commit_in w c.in-Commit.claim c.in-Commit.tag c.in-Commit.certificate c.in-Commit.is).said, a.self.now.record.member.fleet.legal)

pub gather-heard-requires-clause-site : goal.gather-heard-requires-clause-site
gather-heard-requires-clause-site g c =
    let a = c.args in
    let w = admitted (g.C.Check.vouched a.check.now) a.self.now.record (writable_of a.books) a.out.now a.packet.now (books_of c.shared.result) c.in_ok-message.message c.shared.ensures c.in_ok-message.ensures.value c.in_ok-message.ensures.message in
    (new_view_in w (λ j. (c.type_inv.packet j).fits) c.in-NewView.change c.in-NewView.tag c.in-NewView.certificate c.in-NewView.is).said.0

pub gather-heard-requires-clause-short : goal.gather-heard-requires-clause-short
gather-heard-requires-clause-short g c =
    let a = c.args in
    let w = admitted (g.C.Check.vouched a.check.now) a.self.now.record (writable_of a.books) a.out.now a.packet.now (books_of c.shared.result) c.in_ok-message.message c.shared.ensures c.in_ok-message.ensures.value c.in_ok-message.ensures.message in
    (new_view_in w (λ j. (c.type_inv.packet j).fits) c.in-NewView.change c.in-NewView.tag c.in-NewView.certificate c.in-NewView.is).said.1

pub gather-heard-requires-clause-views : goal.gather-heard-requires-clause-views
gather-heard-requires-clause-views g c =
    let a = c.args in
    let w = admitted (g.C.Check.vouched a.check.now) a.self.now.record (writable_of a.books) a.out.now a.packet.now (books_of c.shared.result) c.in_ok-message.message c.shared.ensures c.in_ok-message.ensures.value c.in_ok-message.ensures.message in
    (new_view_in w (λ j. (c.type_inv.packet j).fits) c.in-NewView.change c.in-NewView.tag c.in-NewView.certificate c.in-NewView.is).room.views

pub returns-clause-answer : goal.returns-clause-answer
returns-clause-answer g c =
    let a = c.args in
    let w = admitted (g.C.Check.vouched a.check.now) a.self.now.record (writable_of a.books) a.out.now a.packet.now (books_of c.shared.result) c.in_ok-message.message c.shared.ensures c.in_ok-message.ensures.value c.in_ok-message.ensures.message in
    elim c.match-message.branch [
      | in-Propose x ↦ answer_left (left_by w (Propose x.in-Propose.claim x.in-Propose.tag x.in-Propose.progress) x.in-Propose.is) (heard_told c.match-message.heard) (ap heard_told x.heard-is ∙ x.prepare-heard.ensures.answer (writable_of a.books))
      | in-Prepare x ↦ answer_left (left_by w (Prepare x.in-Prepare.claim x.in-Prepare.tag) x.in-Prepare.is) (heard_told c.match-message.heard) (ap heard_told x.heard-is ∙ x.count_prepare-heard.ensures.answer a.books.views.now ∙ ap (λ t. (counting_prepare (membership_of a.self.now.record.member) (kept_of a.self.now.record.round) (writable_of a.books) x.in-Prepare.claim.head.site x.in-Prepare.claim.value t).answer) x.new.ensures)
      | in-Commit x ↦ answer_left (left_by w (Commit x.in-Commit.claim x.in-Commit.tag x.in-Commit.certificate) x.in-Commit.is) (heard_told c.match-message.heard) (ap heard_told x.heard-is ∙ x.count_commit-heard.ensures.answer (writable_of a.books))
      | in-NewView x ↦ answer_left (left_by w (NewView x.in-NewView.change x.in-NewView.tag x.in-NewView.certificate) x.in-NewView.is) (heard_told c.match-message.heard) (ap heard_told x.heard-is ∙ x.gather-heard.ensures.answer a.books.tags.now a.books.certificate.now)
    ]

pub returns-clause-kept : goal.returns-clause-kept
returns-clause-kept g c =
    let a = c.args in
    let w = admitted (g.C.Check.vouched a.check.now) a.self.now.record (writable_of a.books) a.out.now a.packet.now (books_of c.shared.result) c.in_ok-message.message c.shared.ensures c.in_ok-message.ensures.value c.in_ok-message.ensures.message in
    elim c.match-message.branch [
      | in-Propose x ↦ kept_left (left_by w (Propose x.in-Propose.claim x.in-Propose.tag x.in-Propose.progress) x.in-Propose.is) (kept_of a.self.now.record.round) (kept_of c.match-message.self.record.round) (ap (λ (s : Site). kept_of s.record.round) x.self-is ∙ x.prepare-heard.ensures.kept (writable_of a.books))
      | in-Prepare x ↦ kept_left (left_by w (Prepare x.in-Prepare.claim x.in-Prepare.tag) x.in-Prepare.is) (kept_of a.self.now.record.round) (kept_of c.match-message.self.record.round) (ap (λ (s : Site). kept_of s.record.round) x.self-is ∙ x.count_prepare-heard.ensures.kept a.books.views.now ∙ ap (λ t. (counting_prepare (membership_of a.self.now.record.member) (kept_of a.self.now.record.round) (writable_of a.books) x.in-Prepare.claim.head.site x.in-Prepare.claim.value t).kept) x.new.ensures)
      | in-Commit x ↦ kept_left (left_by w (Commit x.in-Commit.claim x.in-Commit.tag x.in-Commit.certificate) x.in-Commit.is) (kept_of a.self.now.record.round) (kept_of c.match-message.self.record.round) (ap (λ (s : Site). kept_of s.record.round) x.self-is ∙ x.count_commit-heard.ensures.kept (writable_of a.books))
      | in-NewView x ↦ kept_left (left_by w (NewView x.in-NewView.change x.in-NewView.tag x.in-NewView.certificate) x.in-NewView.is) (kept_of a.self.now.record.round) (kept_of c.match-message.self.record.round) (ap (λ (s : Site). kept_of s.record.round) x.self-is ∙ x.gather-heard.ensures.kept a.books.tags.now a.books.certificate.now)
    ]

pub returns-clause-books : goal.returns-clause-books
returns-clause-books g c =
    let a = c.args in
    let w = admitted (g.C.Check.vouched a.check.now) a.self.now.record (writable_of a.books) a.out.now a.packet.now (books_of c.shared.result) c.in_ok-message.message c.shared.ensures c.in_ok-message.ensures.value c.in_ok-message.ensures.message in
    elim c.match-message.branch [
      | in-Propose x ↦ books_left (left_by w (Propose x.in-Propose.claim x.in-Propose.tag x.in-Propose.progress) x.in-Propose.is) (writable_of a.books) (shelf c.match-message.tags c.match-message.certificate c.match-message.views) (same_books x.tags-is x.certificate-is x.views-is)
      | in-Prepare x ↦ books_left (left_by w (Prepare x.in-Prepare.claim x.in-Prepare.tag) x.in-Prepare.is) (writable_of a.books) (shelf c.match-message.tags c.match-message.certificate c.match-message.views) (same_books x.tags-is x.certificate-is x.views-is ∙ x.count_prepare-heard.ensures.books a.books.views.now ∙ ap (λ t. (counting_prepare (membership_of a.self.now.record.member) (kept_of a.self.now.record.round) (writable_of a.books) x.in-Prepare.claim.head.site x.in-Prepare.claim.value t).books) x.new.ensures)
      | in-Commit x ↦ books_left (left_by w (Commit x.in-Commit.claim x.in-Commit.tag x.in-Commit.certificate) x.in-Commit.is) (writable_of a.books) (shelf c.match-message.tags c.match-message.certificate c.match-message.views) (same_books x.tags-is x.certificate-is x.views-is)
      | in-NewView x ↦ books_left (left_by w (NewView x.in-NewView.change x.in-NewView.tag x.in-NewView.certificate) x.in-NewView.is) (writable_of a.books) (shelf c.match-message.tags c.match-message.certificate c.match-message.views) (same_books x.tags-is x.certificate-is x.views-is ∙ x.gather-heard.ensures.books a.books.tags.now a.books.certificate.now)
    ]

pub returns-clause-out : goal.returns-clause-out
returns-clause-out g c =
    let a = c.args in
    let w = admitted (g.C.Check.vouched a.check.now) a.self.now.record (writable_of a.books) a.out.now a.packet.now (books_of c.shared.result) c.in_ok-message.message c.shared.ensures c.in_ok-message.ensures.value c.in_ok-message.ensures.message in
    elim c.match-message.branch [
      | in-Propose x ↦ out_left (left_by w (Propose x.in-Propose.claim x.in-Propose.tag x.in-Propose.progress) x.in-Propose.is) a.out.now c.match-message.out (x.out-is ∙ x.prepare-heard.ensures.out (writable_of a.books))
      | in-Prepare x ↦ out_left (left_by w (Prepare x.in-Prepare.claim x.in-Prepare.tag) x.in-Prepare.is) a.out.now c.match-message.out (x.out-is ∙ x.count_prepare-heard.ensures.out a.books.views.now ∙ ap (λ t. onto (counting_prepare (membership_of a.self.now.record.member) (kept_of a.self.now.record.round) (writable_of a.books) x.in-Prepare.claim.head.site x.in-Prepare.claim.value t).output a.out.now) x.new.ensures)
      | in-Commit x ↦ out_left (left_by w (Commit x.in-Commit.claim x.in-Commit.tag x.in-Commit.certificate) x.in-Commit.is) a.out.now c.match-message.out (x.out-is)
      | in-NewView x ↦ out_left (left_by w (NewView x.in-NewView.change x.in-NewView.tag x.in-NewView.certificate) x.in-NewView.is) a.out.now c.match-message.out (x.out-is)
    ]

pub returns-in_err-message-clause-laws : goal.returns-in_err-message-clause-laws
returns-in_err-message-clause-laws g c = call_laws

pub returns-in_err-message-clause-examples : goal.returns-in_err-message-clause-examples
returns-in_err-message-clause-examples g c = call_examples

pub returns-clause-laws : goal.returns-clause-laws
returns-clause-laws g c = call_laws

pub returns-clause-examples : goal.returns-clause-examples
returns-clause-examples g c = call_examples
