-- How many they are, then the entries, and then what they report is weighed.
use Rattle.std.proofs.Common.{rules, ◌≡◌, Ok, sym, ap, ◌∙◌}
use Rattle.verdicts.specs.Rule.{finding}
use Rattle.verdicts.specs.Told.{finding_told, forced_told}
use Rattle.certificates.specs.Examining.{entries_needed}
use Rattle.certificates.specs.Judging.{reports_of}
use Rattle.certificates.proofs.Passing.{answered_ok, answered_err}
use Rattle.certificates.proofs.Verdicts.{told_conflict, told_verdict, entries_fail, conflict_found, verdict_found}
use Rattle.records.specs.Kept.{membership_of, kept_of}
use Rattle.calls.specs.Gathering.{gathered, turns_read}
use Rattle.calls.specs.Hearing.{turns_of}
use Rattle.calls.proofs.Rows.{enough, not_enough}
use Rattle.calls.proofs.record.Record.gathered_verdict.Goals as goal

pub returns-then-gathered-needed : goal.returns-then-gathered-needed
returns-then-gathered-needed g c =
    let s = c.args.self.now in
    let m = membership_of s.member in
    let k = kept_of s.round in
    let v = g.C.Check.vouched c.args.check.now in
    let xs = turns_of (turns_read m k c.args.views.now 4 (gathered m k)) in
    let n = not_enough v m k c.args.views.now c.gathered.result c.gathered.ensures c.requires.reads (λ e. c.if-gathered-needed.true (e ∙ sym (c.entries_needed-needed.ensures ∙ ap (entries_needed m.f m.t) c.number.ensures))) in
    let u = entries_fail v m.f m.t k.round k.view 0 xs _ n in
    search rules

pub returns-in_err-count : goal.returns-in_err-count
returns-in_err-count g c =
    let s = c.args.self.now in
    let m = membership_of s.member in
    let k = kept_of s.round in
    let v = g.C.Check.vouched c.args.check.now in
    let xs = turns_of (turns_read m k c.args.views.now 4 (gathered m k)) in
    let n = enough v m k c.args.views.now c.gathered.result c.gathered.ensures c.requires.reads (c.if-gathered-needed.false ∙ (c.entries_needed-needed.ensures ∙ ap (entries_needed m.f m.t) c.number.ensures)) in
    let e = answered_err _ _ _ c.in_err-count.ensures.value in
    let u = entries_fail v m.f m.t k.round k.view 0 xs _ (n ∙ e) in
    search rules

pub returns-in_err-weigh : goal.returns-in_err-weigh
returns-in_err-weigh g c =
    let s = c.args.self.now in
    let m = membership_of s.member in
    let k = kept_of s.round in
    let v = g.C.Check.vouched c.args.check.now in
    let xs = turns_of (turns_read m k c.args.views.now 4 (gathered m k)) in
    let n = enough v m k c.args.views.now c.gathered.result c.gathered.ensures c.requires.reads (c.if-gathered-needed.false ∙ (c.entries_needed-needed.ensures ∙ ap (entries_needed m.f m.t) c.number.ensures)) in
    let a = answered_ok _ _ _ c.in_ok-count.ensures.value in
    let d = told_conflict _ (c.in_err-weigh.ensures ∙ ap (λ ys. finding_told (finding m.f m.t ys)) a.1) in
    let u = conflict_found v m.f m.t k.round k.view 0 xs (n ∙ a.0) d in
    search rules

pub returns : goal.returns
returns g c =
    let s = c.args.self.now in
    let m = membership_of s.member in
    let k = kept_of s.round in
    let v = g.C.Check.vouched c.args.check.now in
    let xs = turns_of (turns_read m k c.args.views.now 4 (gathered m k)) in
    let n = enough v m k c.args.views.now c.gathered.result c.gathered.ensures c.requires.reads (c.if-gathered-needed.false ∙ (c.entries_needed-needed.ensures ∙ ap (entries_needed m.f m.t) c.number.ensures)) in
    let a = answered_ok _ _ _ c.in_ok-count.ensures.value in
    let w : forced_told c.in_ok-weigh.field-0 ≡ finding_told (finding m.f m.t (reports_of xs)) = c.in_ok-weigh.ensures ∙ ap (λ ys. finding_told (finding m.f m.t ys)) a.1 in
    ap Ok w ∙ sym (verdict_found v m.f m.t k.round k.view 0 xs (n ∙ a.0) (told_verdict c.in_ok-weigh.field-0 (finding m.f m.t (reports_of xs)) w))
