-- Each turn of the loop takes one entry from what is left.
use Rattle.std.proofs.Common.{rules, ◌≡◌, ◌+◌, ◌-◌, sym, ◌∙◌, arith}
use Rattle.wire.specs.Contents.{Vote, vote_bytes}
use Rattle.wire.specs.Layout.{vote_at}
use Rattle.certificates.specs.Examining.{vote_steps}
use Rattle.certificates.proofs.Ascending.{turned}
use Rattle.certificates.proofs.Votes.{vote_ends, certificate_passes, certificate_entries, certificate_counted}
use Rattle.certificates.proofs.examiner.Examiner.commit_certificate.Goals as goal

pub returns-in_err-count : goal.returns-in_err-count
returns-in_err-count g c =
    let s = c.args.self.now in
    absurd (certificate_counted s.packet.limit.bytes s.packet.bytes.now c.args.at _ (sym c.count_at.ensures.value ∙ c.in_err-count.was) c.requires)

pub returns-in_err-ensure : goal.returns-in_err-ensure
returns-in_err-ensure g c =
    let s = c.args.self.now in
    let e = certificate_passes s.packet.limit.bytes s.packet.bytes.now (g.C.Check.vouched s.check.now) s.fleet.f s.fleet.t s.round c.args.report c.args.at c.in_ok-count.count
    (sym c.count_at.ensures.value ∙ c.in_ok-count.was) c.requires in
    λ depth. let e' = e depth in search rules

pub loop-init : goal.loop-init
loop-init g c =
    let s = c.args.self.now in
    let whole : c.in_ok-count.count - 0 ≡ c.in_ok-count.count = omega arith in
    record {
      reads = rw whole (certificate_entries s.packet.limit.bytes s.packet.bytes.now (g.C.Check.vouched s.check.now) s.fleet.f s.fleet.t s.round c.args.report c.args.at c.in_ok-count.count
          (sym c.count_at.ensures.value ∙ c.in_ok-count.was) c.requires);
      rest = rw whole;
    }

pub returns-in_err-vote : goal.returns-in_err-vote
returns-in_err-vote g c =
    let s = c.args.self.now in
    let e = certificate_passes s.packet.limit.bytes s.packet.bytes.now (g.C.Check.vouched s.check.now) s.fleet.f s.fleet.t s.round c.args.report c.args.at c.in_ok-count.count
    (sym c.count_at.ensures.value ∙ c.in_ok-count.was) c.requires in
    let x : Vote = record { site = c.in_ok-entry.entry.site; tag = c.in_ok-entry.entry.tag.bytes.now } in
    let u = turned (vote_at s.packet.limit.bytes s.packet.bytes.now) (λ (y : Vote). y.site) vote_bytes (vote_steps s.fleet.f s.fleet.t s.round c.args.report) (vote_ends s.packet.limit.bytes s.packet.bytes.now) (g.C.Check.vouched s.check.now)
    (c.in_ok-count.count - c.loop.counter) (c.in_ok-count.count - (c.loop.counter + 1)) c.loop.low c.loop.next (x, c.in_ok-entry.end) (omega arith) c.loop.invariant.reads (sym c.in_ok-entry.ensures.value) in
    λ depth. let e' = e depth in search rules

pub loop-preserved : goal.loop-preserved
loop-preserved g c =
    let s = c.args.self.now in
    let x : Vote = record { site = c.in_ok-entry.entry.site; tag = c.in_ok-entry.entry.tag.bytes.now } in
    let u = turned (vote_at s.packet.limit.bytes s.packet.bytes.now) (λ (y : Vote). y.site) vote_bytes (vote_steps s.fleet.f s.fleet.t s.round c.args.report) (vote_ends s.packet.limit.bytes s.packet.bytes.now) (g.C.Check.vouched s.check.now)
    (c.in_ok-count.count - c.loop.counter) (c.in_ok-count.count - (c.loop.counter + 1)) c.loop.low c.loop.next (x, c.in_ok-entry.end) (omega arith) c.loop.invariant.reads (sym c.in_ok-entry.ensures.value) in
    record { reads = u.others; rest = search rules }

pub returns : goal.returns
returns g c =
    let s = c.args.self.now in
    let e = certificate_passes s.packet.limit.bytes s.packet.bytes.now (g.C.Check.vouched s.check.now) s.fleet.f s.fleet.t s.round c.args.report c.args.at c.in_ok-count.count
    (sym c.count_at.ensures.value ∙ c.in_ok-count.was) c.requires in
    λ depth. let e' = e depth in search rules
