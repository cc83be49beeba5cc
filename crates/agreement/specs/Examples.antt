-- Worked examples, as one statement.
use Rattle.std.specs.Prelude.{◌≡◌, ℕ, [], ◌∷◌, Some, None, Ok, Err, Option}
use Rattle.values.specs.declared.fix.Value.{Value}
use Rattle.values.specs.declared.fix.Report.{Report}
use Rattle.values.specs.Fleets.{sites, fleet_of, fast_quorum, recovery_quorum, progress_quorum}
use Rattle.values.specs.Fixes.{legal_at}
use Rattle.values.specs.Refusals.{limits, illegal}
use Rattle.verdicts.specs.declared.rule.Reported.{Reported}
use Rattle.verdicts.specs.Rule.{Finding, free, forced, conflict, by_fast, by_commit, finding}

-- the words of a value
abbrev pub words : ℕ → ℕ → ℕ → Value
words x y z = record { first = x; second = y; third = z }

abbrev pub d : Value
d = words 7 600000 30000000

abbrev pub e : Value
e = words 7 600001 30000000

-- a value in a view
abbrev pub viewed : ℕ → Value → Report
viewed v x = record { view = v; value = x }

-- what an entry reports: its last prepare, its last commit
abbrev pub reports : Option Report → Option Report → Reported
reports p c = record { prepared = p; committed = c }

abbrev pub prepared : ℕ → Value → Reported
prepared v x = reports (Some (viewed v x)) None

abbrev pub committed : ℕ → Value → Reported
committed v x = reports None (Some (viewed v x))

abbrev pub prepared_and_committed : ℕ → Value → Reported
prepared_and_committed v x = reports (Some (viewed v x)) (Some (viewed v x))

abbrev pub nothing : Reported
nothing = reports None None

-- what three entries come to, in the fleet of four sites
abbrev pub found : Reported → Reported → Reported → Finding
found x y z = finding 1 0 (x ∷ y ∷ z ∷ [])

pub record Examples : Type 0 where
  -- fleets of four and of six sites, and the quorums in them
  pub four_sites : sites 1 0 ≡ 4
  pub four_fast : fast_quorum 1 0 ≡ 4
  pub four_recovery : recovery_quorum 1 0 ≡ 3
  pub four_progress : progress_quorum 1 0 ≡ 3
  pub six_sites : sites 1 1 ≡ 6
  pub six_fast : fast_quorum 1 1 ≡ 5
  pub six_recovery : recovery_quorum 1 1 ≡ 4
  pub six_progress : progress_quorum 1 1 ≡ 5
  -- the greatest fleet, and one too great
  pub greatest : fleet_of 3 3 ≡ Ok (3, 3)
  pub greatest_sites : sites 3 3 ≡ 16
  pub too_great : fleet_of 4 2 ≡ Err limits
  -- a longitude and a track number outside their limits, at any place
  pub too_far : (p : ℕ) → legal_at (words 7 108000001 30000000) p ≡ Err (illegal p)
  pub no_track : (p : ℕ) → legal_at (words 1000 600000 30000000) p ≡ Err (illegal p)
  -- a commit outweighs the prepares of its view
  pub commit_first : found (prepared 1 e) (prepared_and_committed 1 d) (prepared 1 e) ≡ forced (viewed 1 d) by_commit
  -- without it the prepares decide
  pub two_prepares : found (prepared 1 e) (prepared 1 d) (prepared 1 e) ≡ forced (viewed 1 e) by_fast
  -- but not those of a higher view
  pub prepares_above : found (prepared_and_committed 1 d) (prepared 2 e) (prepared 2 e) ≡ forced (viewed 2 e) by_fast
  -- a fast certificate's view is the highest that two of the entries reach
  pub lower_of_two : found (prepared 3 d) (prepared 2 d) nothing ≡ forced (viewed 2 d) by_fast
  pub two_of_three : found (prepared 1 d) (prepared 3 d) (prepared 3 d) ≡ forced (viewed 3 d) by_fast
  -- a commit of that view outweighs it, and one of a lower view does not
  pub same_view : found (prepared 3 d) (prepared 2 d) (committed 2 e) ≡ forced (viewed 2 e) by_commit
  pub lower_view : found (prepared 3 d) (prepared 2 d) (committed 1 e) ≡ forced (viewed 2 d) by_fast
  -- one prepare of each value forces neither
  pub neither : found (prepared 1 d) (prepared 1 e) nothing ≡ free
  -- two values committed in the highest view
  pub two_commits : found (committed 2 d) (committed 2 e) nothing ≡ conflict
