-- what is left passes as the whole does, and what was laid into the reports, with what is left, are the whole's
use Rattle.std.proofs.Common.{◌≡◌, ◌+◌, ◌-◌, ◌*◌, ◌≤◌, ◌++◌, length, take}
use Rattle.std.specs.Result.{IsOk}
use Rattle.certificates.specs.Steps.{passed}
use Rattle.certificates.specs.Examining.{entries_steps}
use Rattle.certificates.specs.Judging.{reports_of}
use Rattle.records.specs.Sizes.{view_row}
use Rattle.records.specs.Kept.{membership_of, kept_of}
use Rattle.calls.specs.Gathering.{gathered, turns_read}
use Rattle.calls.specs.Hearing.{turns_of}
use Rattle.calls.proofs.Rows.{rest}
use Rattle.calls.proofs.record.Record.examine_gathered.Given as goal

abbrev pub invariant-loop-site : goal.invariant-loop-site
invariant-loop-site g l =
    let m = membership_of l.self.member in
    let k = kept_of l.self.round in
    let all = turns_of (turns_read m k l.views 4 (gathered m k)) in
    let left = rest m k l.views l.place (l.site-end - l.site) l.site in
    let v = g.C.Check.vouched l.check in
    record {
      small : l.place ≤ 4 + l.site * view_row l.self.member.fleet.f l.self.member.fleet.t l.self.member.limit.bytes;
      few : l.count ≤ l.site;
      slots : 16 ≤ length l.reports;
      reads : IsOk left;
      steps : passed v (entries_steps m.f m.t k.round k.view l.low l.place (turns_of left)) ≡ passed v (entries_steps m.f m.t k.round k.view 0 4 all);
      filled : take l.count l.reports ++ reports_of (turns_of left) ≡ reports_of all;
    }
