-- What the entries report is weighed once they have passed.
use Rattle.std.proofs.Common.{rules, ◌≡◌, Ok, sym, ap, ◌∙◌}
use Rattle.wire.specs.Layout.{progress_at}
use Rattle.verdicts.specs.Rule.{finding}
use Rattle.verdicts.specs.Told.{finding_told, forced_told}
use Rattle.certificates.specs.Reading.{read_of}
use Rattle.certificates.specs.Judging.{reports_of}
use Rattle.certificates.proofs.Passing.{answered_ok, answered_err}
use Rattle.certificates.proofs.Verdicts.{told_conflict, told_verdict, entries_fail, conflict_found, verdict_found}
use Rattle.certificates.proofs.examiner.Examiner.verdict.Goals as goal

pub returns-in_err-count : goal.returns-in_err-count
returns-in_err-count g c =
    let s = c.args.self.now in
    let ms = read_of (progress_at s.packet.limit.bytes s.packet.bytes.now c.args.at) in
    let e = answered_err _ _ _ c.in_err-count.ensures.value in
    let u = entries_fail (g.C.Check.vouched s.check.now) s.fleet.f s.fleet.t s.round c.args.view c.args.at ms _ e in
    search rules

pub returns-in_err-weigh : goal.returns-in_err-weigh
returns-in_err-weigh g c =
    let s = c.args.self.now in
    let ms = read_of (progress_at s.packet.limit.bytes s.packet.bytes.now c.args.at) in
    let a = answered_ok _ _ _ c.in_ok-count.ensures.value in
    let k = told_conflict _ (c.in_err-weigh.ensures ∙ ap (λ xs. finding_told (finding s.fleet.f s.fleet.t xs)) a.1) in
    let u = conflict_found (g.C.Check.vouched s.check.now) s.fleet.f s.fleet.t s.round c.args.view c.args.at ms a.0 k in
    search rules

pub returns : goal.returns
returns g c =
    let s = c.args.self.now in
    let ms = read_of (progress_at s.packet.limit.bytes s.packet.bytes.now c.args.at) in
    let a = answered_ok _ _ _ c.in_ok-count.ensures.value in
    let w : forced_told c.in_ok-weigh.field-0 ≡ finding_told (finding s.fleet.f s.fleet.t (reports_of ms)) = c.in_ok-weigh.ensures ∙ ap (λ xs. finding_told (finding s.fleet.f s.fleet.t xs)) a.1 in
    ap Ok w ∙ sym (verdict_found (g.C.Check.vouched s.check.now) s.fleet.f s.fleet.t s.round c.args.view c.args.at ms a.0 (told_verdict c.in_ok-weigh.field-0 (finding s.fleet.f s.fleet.t (reports_of ms)) w))
