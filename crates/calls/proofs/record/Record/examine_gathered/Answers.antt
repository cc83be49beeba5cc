-- A row that is not gathered is passed over; one that is passes as an entry, or its fault is the whole's.
use Rattle.std.proofs.Common.{rules, ◌≡◌, suc, ◌+◌, ◌-◌, ◌<◌, ◌++◌, length, take, sym, ap, ◌∙◌, arith}
use Rattle.certificates.specs.Steps.{passed}
use Rattle.certificates.specs.Examining.{entries_steps}
use Rattle.certificates.specs.Judging.{reports_of}
use Rattle.certificates.proofs.Entries.{filled_more}
use Rattle.records.specs.Sizes.{view_row}
use Rattle.records.specs.Kept.{membership_of, kept_of}
use Rattle.calls.specs.Gathering.{turn_of}
use Rattle.calls.specs.Hearing.{turns_of}
use Rattle.calls.proofs.Rows.{place_on, place_stays, set_long, passed_over, row_on, if_ok, entry_on, entry_stops}
use Rattle.calls.proofs.record.Record.examine_gathered.Goals as goal
use Rattle.calls.proofs.record.Record.examine_gathered.Goals.{then-is_gathered+in_ok-said, else-is_gathered}

pub returns-in_err-said-clause-value : goal.returns-in_err-said-clause-value
returns-in_err-said-clause-value g c =
    let s = c.args.self.now in
    let m = membership_of s.member in
    let k = kept_of s.round in
    let v = g.C.Check.vouched c.args.check.now in
    let l = c.loop-site in
    let left : c.n-site-end.result - l.site ≡ suc (c.n-site-end.result - (l.site + 1)) = omega (arith, c.loop-site-test.true) in
    let r = row_on m k c.args.views.now l.place (c.n-site-end.result - l.site) (c.n-site-end.result - (l.site + 1)) l.site left (sym c.is_gathered.ensures ∙ c.if-is_gathered.true) l.invariant.reads in
    let h = if_ok (turn_of s.member.limit.bytes _) r.turn _ r.reads (rw c.gathered_turn-row.ensures.value at c.in_err-said.ensures.value) in
    let e = entry_stops m k c.args.views.now v m.f m.t k.round k.view l.low l.place (c.n-site-end.result - l.site) (c.n-site-end.result - (l.site + 1)) l.site r _ h in
    let whole = sym l.invariant.steps ∙ e in
    search rules

pub loop-site-preserved : goal.loop-site-preserved
loop-site-preserved g c =
    let s = c.args.self.now in
    let m = membership_of s.member in
    let k = kept_of s.round in
    let v = g.C.Check.vouched c.args.check.now in
    let l = c.loop-site in
    let row = view_row s.member.fleet.f s.member.fleet.t s.member.limit.bytes in
    let left : c.n-site-end.result - l.site ≡ suc (c.n-site-end.result - (l.site + 1)) = omega (arith, c.loop-site-test.true) in
    elim c.if-is_gathered.branch [
      | then-is_gathered+in_ok-said w ↦
          let r = row_on m k c.args.views.now l.place (c.n-site-end.result - l.site) (c.n-site-end.result - (l.site + 1)) l.site left (sym c.is_gathered.ensures ∙ w.if-is_gathered.true) l.invariant.reads in
          let h = if_ok (turn_of s.member.limit.bytes _) r.turn _ r.reads (rw w.gathered_turn-row.ensures.value at w.in_ok-said.ensures.value) in
          let u = entry_on m k c.args.views.now v m.f m.t k.round k.view l.low l.place (c.n-site-end.result - l.site) (c.n-site-end.result - (l.site + 1)) l.site r w.in_ok-said.said h in
          let room : l.count < length l.reports = omega (arith, l.invariant.few, c.loop-site-test.true, l.invariant.slots, c.n-site-end.ensures, s.member.fleet.legal.2) in
          rw (w.place-is, w.count-is, w.low-is, w.reports-is, w.gathered_turn-row.ensures.value)
          (record {
            small = place_on l.place l.site row _ l.invariant.small (rw w.gathered_turn-row.ensures.value at w.gathered_turn-row.ensures.short);
            few = omega (arith, l.invariant.few);
            slots = set_long l.reports l.count _ l.invariant.slots;
            reads = r.others;
            steps = sym u.steps ∙ l.invariant.steps;
            filled = filled_more l.reports l.count _ _ room ∙ ap (λ ys. take l.count l.reports ++ ys) (sym u.reports) ∙ l.invariant.filled;
          })
      | else-is_gathered w ↦
          let e = passed_over m k c.args.views.now l.place (c.n-site-end.result - l.site) (c.n-site-end.result - (l.site + 1)) l.site left (sym c.is_gathered.ensures ∙ w.if-is_gathered.false) in
          rw (w.place-is, w.count-is, w.low-is, w.reports-is)
          (record {
            small = place_stays l.place l.site row l.invariant.small;
            few = omega (arith, l.invariant.few);
            slots = l.invariant.slots;
            reads = rw e at l.invariant.reads;
            steps = ap (λ z. passed v (entries_steps m.f m.t k.round k.view l.low l.place (turns_of z))) (sym e) ∙ l.invariant.steps;
            filled = ap (λ z. take l.count l.reports ++ reports_of (turns_of z)) (sym e) ∙ l.invariant.filled;
          })
    ]
