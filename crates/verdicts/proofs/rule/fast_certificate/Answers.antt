-- A candidate with enough reports ends the search; one with too few is passed over.
use Rattle.std.proofs.Common.{◌+◌, sym, ◌∙◌, arith}
use Rattle.verdicts.proofs.Search.{candidate_yes, candidate_no, candidate_none, counted_more, counted_front, counted_all}
use Rattle.verdicts.proofs.rule.fast_certificate.Goals as goal
use Rattle.verdicts.proofs.rule.fast_certificate.Goals.{in-Some+else-loop-entry-test, in_default}

pub loop-candidate-preserved : goal.loop-candidate-preserved
loop-candidate-preserved c =
    let es = c.args.reports.now in
    let q = c.args.enough in
    let i = c.loop-candidate.candidate-index in
    elim c.match-candidate.branch [
      | in-Some+else-loop-entry-test w ↦
          let all = counted_all w.in-Some.report.value es w.loop-entry.entry-index w.loop-entry-test.false in
          sym (candidate_no q es i _ c.loop-candidate-test.true w.in-Some.report w.in-Some.is (omega arith)) ∙ c.loop-candidate.invariant
      | in_default w ↦ sym (candidate_none q es i _ c.loop-candidate-test.true w.in_default.is) ∙ c.loop-candidate.invariant
    ]

pub returns-then-count-enough : goal.returns-then-count-enough
returns-then-count-enough c =
    let es = c.args.reports.now in
    let q = c.args.enough in
    let r = c.in-Some.report in
    let i = c.loop-candidate.candidate-index in
    let more = counted_more r.value es c.loop-entry.entry-index _ c.loop-entry-test.true (sym c.reaches.ensures ∙ c.if-reaches.true) in
    let front = counted_front r.value es (c.loop-entry.entry-index + 1) in
    let k = candidate_yes q es i _ c.loop-candidate-test.true r c.in-Some.is (omega arith) in
    rw c.fast_view-view.ensures (sym k ∙ c.loop-candidate.invariant)
