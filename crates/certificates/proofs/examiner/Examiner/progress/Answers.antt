-- Each turn of the loop takes one entry from what is left.
use Rattle.std.proofs.Common.{rules, ◌≡◌, ◌+◌, ◌-◌, take, ◌++◌, append-nil, sym, ap, ◌∙◌, arith}
use Rattle.wire.specs.Layout.{turn_at}
use Rattle.certificates.proofs.Reading.{first_good, counted_few}
use Rattle.certificates.proofs.Turns.{ok_of}
use Rattle.certificates.proofs.Entries.{progress_passes, progress_entries, progress_reports, progress_counted, filled_more, entry_on, entry_fails}
use Rattle.certificates.proofs.examiner.Examiner.progress.Goals as goal

pub returns-in_err-count-clause-value : goal.returns-in_err-count-clause-value
returns-in_err-count-clause-value g c =
    let s = c.args.self.now in
    absurd (progress_counted s.packet.limit.bytes s.packet.bytes.now c.args.at _ (sym c.count_at.ensures.value ∙ c.in_err-count.was) c.requires.reads)

pub returns-in_err-ensure-clause-value : goal.returns-in_err-ensure-clause-value
returns-in_err-ensure-clause-value g c =
    let s = c.args.self.now in
    let e = progress_passes s.packet.limit.bytes s.packet.bytes.now (g.C.Check.vouched s.check.now) s.fleet.f s.fleet.t s.round c.args.view c.args.at c.in_ok-count.count
    (sym c.count_at.ensures.value ∙ c.in_ok-count.was) c.requires.reads in
    search rules

pub loop-i-init : goal.loop-i-init
loop-i-init g c =
    let s = c.args.self.now in
    let whole : c.in_ok-count.count - 0 ≡ c.in_ok-count.count = omega arith in
    record {
      reads = rw whole (progress_entries s.packet.limit.bytes s.packet.bytes.now (g.C.Check.vouched s.check.now) s.fleet.f s.fleet.t s.round c.args.view c.args.at c.in_ok-count.count
          (sym c.count_at.ensures.value ∙ c.in_ok-count.was) c.requires.reads);
      rest = rw whole;
      filled = rw whole;
    }

pub entry-requires : goal.entry-requires
entry-requires g c =
    let s = c.args.self.now in
    first_good (turn_at s.packet.limit.bytes s.packet.bytes.now) (c.in_ok-count.count - c.loop-i.i) (c.in_ok-count.count - (c.loop-i.i + 1)) c.loop-i.next (omega arith) c.loop-i.invariant.reads

pub returns-in_err-said-clause-value : goal.returns-in_err-said-clause-value
returns-in_err-said-clause-value g c =
    let s = c.args.self.now in
    let v = g.C.Check.vouched s.check.now in
    let e = progress_passes s.packet.limit.bytes s.packet.bytes.now v s.fleet.f s.fleet.t s.round c.args.view c.args.at c.in_ok-count.count
    (sym c.count_at.ensures.value ∙ c.in_ok-count.was) c.requires.reads in
    let k = ok_of (turn_at s.packet.limit.bytes s.packet.bytes.now c.loop-i.next)
    (first_good (turn_at s.packet.limit.bytes s.packet.bytes.now) (c.in_ok-count.count - c.loop-i.i) (c.in_ok-count.count - (c.loop-i.i + 1)) c.loop-i.next (omega arith) c.loop-i.invariant.reads) in
    let r = rw k.1 at c.in_err-said.ensures.value in
    let u = entry_fails s.packet.limit.bytes s.packet.bytes.now v s.fleet.f s.fleet.t s.round c.args.view (c.in_ok-count.count - c.loop-i.i) (c.in_ok-count.count - (c.loop-i.i + 1)) c.loop-i.low c.loop-i.next k.0 _
    (omega arith) c.loop-i.invariant.reads k.1 r in
    search rules

pub loop-i-preserved : goal.loop-i-preserved
loop-i-preserved g c =
    let s = c.args.self.now in
    let v = g.C.Check.vouched s.check.now in
    let k = ok_of (turn_at s.packet.limit.bytes s.packet.bytes.now c.loop-i.next)
    (first_good (turn_at s.packet.limit.bytes s.packet.bytes.now) (c.in_ok-count.count - c.loop-i.i) (c.in_ok-count.count - (c.loop-i.i + 1)) c.loop-i.next (omega arith) c.loop-i.invariant.reads) in
    let r = rw k.1 at c.in_ok-said.ensures.value in
    let u = entry_on s.packet.limit.bytes s.packet.bytes.now v s.fleet.f s.fleet.t s.round c.args.view (c.in_ok-count.count - c.loop-i.i) (c.in_ok-count.count - (c.loop-i.i + 1)) c.loop-i.low c.loop-i.next k.0 c.in_ok-said.said c.in_ok-said.end
    (omega arith) c.loop-i.invariant.reads k.1 r in
    let few = counted_few s.packet.bytes.now c.args.at c.in_ok-count.count (sym c.count_at.ensures.value ∙ c.in_ok-count.was) in
    record {
      reads = u.others;
      rest = sym u.steps ∙ c.loop-i.invariant.rest;
      filled = filled_more c.loop-i.reports c.loop-i.i _ _ (omega arith) ∙ ap (λ xs. take c.loop-i.i c.loop-i.reports ++ xs) (sym u.reports) ∙ c.loop-i.invariant.filled;
    }

pub returns-clause-value : goal.returns-clause-value
returns-clause-value g c =
    let s = c.args.self.now in
    let v = g.C.Check.vouched s.check.now in
    let e = progress_passes s.packet.limit.bytes s.packet.bytes.now v s.fleet.f s.fleet.t s.round c.args.view c.args.at c.in_ok-count.count
    (sym c.count_at.ensures.value ∙ c.in_ok-count.was) c.requires.reads in
    let e' = progress_reports s.packet.limit.bytes s.packet.bytes.now v s.fleet.f s.fleet.t s.round c.args.view c.args.at c.in_ok-count.count
    (sym c.count_at.ensures.value ∙ c.in_ok-count.was) c.requires.reads in
    let none : c.in_ok-count.count - c.loop-i.i ≡ 0 = omega arith in
    let all : c.loop-i.i ≡ c.in_ok-count.count = omega arith in
    let rest = rw none at c.loop-i.invariant.rest in
    let filled = sym (append-nil (take c.loop-i.i c.loop-i.reports)) ∙ (rw none at c.loop-i.invariant.filled) in
    search rules
