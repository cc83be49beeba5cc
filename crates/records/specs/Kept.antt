-- What a site keeps, without the limits that the code's types carry.
use Rattle.std.specs.Prelude.{ℕ, Bool, false, cond, ◌&&◌, replicate, Some, None, Ok, Err, Option, Result, nat_lt}
use Rattle.std.specs.Option.{option_map}
use Rattle.values.specs.declared.fix.Report.{Report}
use Rattle.values.specs.Fleets.{sites, legal_fleet, legal_limit}
use Rattle.values.specs.Refusals.{Refused, limits}
use Rattle.records.specs.declared.member.Member.{Member}
use Rattle.records.specs.declared.rows.Rows.{Rows}
use Rattle.records.specs.declared.round.Lengths.{Lengths}
use Rattle.records.specs.declared.round.Way.{Way}
use Rattle.records.specs.declared.round.Way.TheVariants.{Fast, Recovery}
use Rattle.records.specs.declared.round.Decision.{Decision}
use Rattle.records.specs.declared.round.Round.{Round}
use Rattle.records.specs.Rows.{no_rows}

-- what a site shares among its rounds: the fleet, the tag limit, its own number
pub record Membership : Type 0 where
  pub f : ℕ
  pub t : ℕ
  pub limit : ℕ
  pub own : ℕ

abbrev pub membership_of : Member → Membership
membership_of m = record { f = m.fleet.f; t = m.fleet.t; limit = m.limit.bytes; own = m.own }

-- how a decision came about
abbrev pub fast : ℕ
fast = 1

abbrev pub recovery : ℕ
recovery = 2

abbrev pub way_number : Way → ℕ
way_number Fast = fast
way_number Recovery = recovery

-- a decision: its view and value, and its way
pub record Decided : Type 0 where
  pub report : Report
  pub way : ℕ

abbrev pub decided_as : Decision → Decided
decided_as x = record { report = x.report; way = way_number x.way }

-- what a site keeps of a round
pub record Kept : Type 0 where
  pub round : ℕ
  pub view : ℕ
  -- it has proposed in this view
  pub proposed : Bool
  -- its last prepare and its last commit
  pub prepared : Option Report
  pub committed : Option Report
  -- what it heard in this view
  pub rows : Rows
  -- how many bytes the books hold
  pub lengths : Lengths
  pub decision : Option Decided

abbrev pub kept_of : Round → Kept
kept_of r =
    record {
      round = r.number;
      view = r.view.number;
      proposed = r.proposed;
      prepared = r.prepared;
      committed = r.committed;
      rows = r.rows;
      lengths = r.lengths;
      decision = option_map decided_as r.decision;
    }

abbrev pub no_lengths : Lengths
no_lengths = record { tags = replicate 16 0; certificate = 0; views = replicate 16 0 }

-- ---- opening ----

-- a round in view 1 with nothing heard
abbrev pub fresh : ℕ → Kept
fresh round =
    record { round = round; view = 1; proposed = false; prepared = None; committed = None; rows = no_rows; lengths = no_lengths; decision = None }

-- a legal fleet, one of its numbers, and a legal tag limit
abbrev pub openable : ℕ → ℕ → ℕ → ℕ → Bool
openable f t own limit = legal_fleet f t && nat_lt own (sites f t) && legal_limit limit

abbrev pub opening : ℕ → ℕ → ℕ → ℕ → ℕ → Result (Membership × Kept) Refused
opening f t own limit round =
    cond (openable f t own limit) (Ok (record { f = f; t = t; limit = limit; own = own }, fresh round)) (Err limits)
