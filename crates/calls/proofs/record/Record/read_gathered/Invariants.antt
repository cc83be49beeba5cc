-- what is left reads as the whole does, and the place has not gone past the rows
use Rattle.std.proofs.Common.{◌≡◌, ◌+◌, ◌-◌, ◌*◌, ◌≤◌, List, Result}
use Rattle.wire.specs.declared.words.Malformed.{Malformed}
use Rattle.wire.specs.Contents.{Turn}
use Rattle.messages.specs.Parts.{map_ok}
use Rattle.records.specs.Sizes.{view_row}
use Rattle.records.specs.Kept.{membership_of, kept_of}
use Rattle.calls.specs.Gathering.{gathered, turns_read}
use Rattle.calls.proofs.Rows.{rest}
use Rattle.calls.proofs.record.Record.read_gathered.Given as goal

abbrev pub invariant-loop-site : goal.invariant-loop-site
invariant-loop-site l =
    let m = membership_of l.self.member in
    let k = kept_of l.self.round in
    record {
      small : l.place ≤ 4 + l.site * view_row l.self.member.fleet.f l.self.member.fleet.t l.self.member.limit.bytes;
      same : ◌≡◌ {A = Result (Unit {0}) Malformed} (map_ok (λ (xs : List Turn). tt {0}) (rest m k l.views l.place (l.site-end - l.site) l.site)) (map_ok (λ (xs : List Turn). tt {0}) (turns_read m k l.views 4 (gathered m k)));
    }
