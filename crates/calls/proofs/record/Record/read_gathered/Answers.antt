-- A row that is not gathered is passed over; one that is reads, or its fault is the whole's.
use Rattle.std.proofs.Common.{◌≡◌, suc, ◌+◌, ◌-◌, List, sym, ap, ◌∙◌, arith}
use Rattle.wire.specs.Contents.{Turn}
use Rattle.messages.specs.Parts.{map_ok}
use Rattle.records.specs.Sizes.{view_row}
use Rattle.records.specs.Kept.{membership_of, kept_of}
use Rattle.calls.proofs.Rows.{place_on, place_stays, passed_over, row_read}
use Rattle.calls.proofs.record.Record.read_gathered.Goals as goal
use Rattle.calls.proofs.record.Record.read_gathered.Goals.{then-is_gathered+in_ok-read_row, else-is_gathered}

pub loop-site-preserved : goal.loop-site-preserved
loop-site-preserved c =
    let s = c.args.self.now in
    let m = membership_of s.member in
    let k = kept_of s.round in
    let left : c.n-site-end.result - c.loop-site.site ≡ suc (c.n-site-end.result - (c.loop-site.site + 1)) = omega (arith, c.loop-site-test.true) in
    elim c.if-is_gathered.branch [
      | then-is_gathered+in_ok-read_row w ↦
          let e = row_read m k c.args.views.now c.loop-site.place (c.n-site-end.result - c.loop-site.site) (c.n-site-end.result - (c.loop-site.site + 1)) c.loop-site.site left
          (sym c.is_gathered.ensures ∙ w.if-is_gathered.true) (rw w.gathered_turn-row.ensures.value at w.in_ok-read_row.ensures) in
          record {
            small = rw w.place-is (place_on c.loop-site.place c.loop-site.site (view_row s.member.fleet.f s.member.fleet.t s.member.limit.bytes) _ c.loop-site.invariant.small w.gathered_turn-row.ensures.short);
            same = rw (w.place-is, w.gathered_turn-row.ensures.value) (sym e ∙ c.loop-site.invariant.same);
          }
      | else-is_gathered w ↦
          let e = passed_over m k c.args.views.now c.loop-site.place (c.n-site-end.result - c.loop-site.site) (c.n-site-end.result - (c.loop-site.site + 1)) c.loop-site.site left
          (sym c.is_gathered.ensures ∙ w.if-is_gathered.false) in
          record {
            small = rw w.place-is (place_stays c.loop-site.place c.loop-site.site (view_row s.member.fleet.f s.member.fleet.t s.member.limit.bytes) c.loop-site.invariant.small);
            same = rw w.place-is (ap (map_ok (λ (xs : List Turn). tt {0})) (sym e) ∙ c.loop-site.invariant.same);
          }
    ]
