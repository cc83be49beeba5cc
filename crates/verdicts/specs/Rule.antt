-- What a progress certificate lets be proposed: the rule, over what its entries report.
use Rattle.std.specs.Prelude.{ℕ, zero, suc, ◌+◌, max, Bool, true, false, cond, ◌&&◌, List, [], ◌∷◌, count_by, Some, None, Option, ◌==◌, nat_le, nat_lt}
use Rattle.values.specs.declared.fix.Value.{Value}
use Rattle.values.specs.declared.fix.Report.{Report}
use Rattle.verdicts.specs.declared.rule.Reported.{Reported}

-- values are equal when all three words are
abbrev pub same : Value → Value → Bool
same a b = a.first == b.first && a.second == b.second && a.third == b.third

-- the view of a report, 0 where there is none
abbrev pub reported_view : Option Report → ℕ
reported_view None = 0
reported_view (Some r) = r.view

-- ---- fast certificates ----

-- a prepare of d with a view of at least v
abbrev pub reaches : Value → ℕ → Option Report → Bool
reaches d v None = false
reaches d v (Some r) = same d r.value && nat_le v r.view

-- how many entries report one
abbrev pub reporters : Value → ℕ → List Reported → ℕ
reporters d v es = count_by (λ e. reaches d v e.prepared) es

-- the highest of the numbers 1 to top that passes a test, 0 if none does
abbrev pub highest : (ℕ → Bool) → ℕ → ℕ
highest p zero = 0
highest p (suc v) = cond (p (suc v)) (suc v) (highest p v)

-- the highest view of a reported prepare
abbrev pub top_prepared : List Reported → ℕ
top_prepared [] = 0
top_prepared (e ∷ es) = max (reported_view e.prepared) (top_prepared es)

-- the view of d's fast certificate: the highest v such that q entries report a prepare of d with a view of at least v,
-- 0 where there is none
abbrev pub fast_view : ℕ → List Reported → Value → ℕ
fast_view q es d = highest (λ v. nat_le q (reporters d v es)) (top_prepared es)

-- the value of a report and the view of its fast certificate, if q entries report it; otherwise what the rest gives
abbrev pub fast_from : ℕ → List Reported → Option Report → Option Report → Option Report
fast_from q es None rest = rest
fast_from q es (Some r) rest =
    cond (nat_le q (reporters r.value 1 es)) (Some (record { view = fast_view q es r.value; value = r.value })) rest

-- the first value reported in xs that q entries of es report
abbrev pub fast_among : ℕ → List Reported → List Reported → Option Report
fast_among q es [] = None
fast_among q es (x ∷ xs) = fast_from q es x.prepared (fast_among q es xs)

abbrev pub fast_certificate : ℕ → List Reported → Option Report
fast_certificate q es = fast_among q es es

-- ---- commit certificates ----

-- the highest view of a reported commit, 0 where there is none
abbrev pub top_committed : List Reported → ℕ
top_committed [] = 0
top_committed (e ∷ es) = max (reported_view e.committed) (top_committed es)

abbrev pub add_committed : ℕ → Option Report → List Value → List Value
add_committed w None ds = ds
add_committed w (Some r) ds = cond (w == r.view) (r.value ∷ ds) ds

-- the values that are reported as committed in view w
abbrev pub committed_in : ℕ → List Reported → List Value
committed_in w [] = []
committed_in w (e ∷ es) = add_committed w e.committed (committed_in w es)

abbrev pub all_same : Value → List Value → Bool
all_same d [] = true
all_same d (e ∷ es) = same d e && all_same d es

-- ---- the finding ----

-- which certificate forces a value
pub data By : Type 0 where
  by_fast by_commit : By

pub data Finding : Type 0 where
  -- any value may be proposed
  free : Finding
  -- only this value, with the view of the certificate that forces it
  forced : Report → By → Finding
  -- two values are committed in the highest view that has a commit certificate
  conflict : Finding

-- what the values committed in w, the highest view of a commit certificate, come to where no fast certificate is above w
abbrev pub by_commits : ℕ → List Value → Finding
by_commits zero ds = free
by_commits (suc w) [] = free
by_commits (suc w) (d ∷ ds) = cond (all_same d ds) (forced (record { view = suc w; value = d }) by_commit) conflict

abbrev pub weigh : Option Report → ℕ → List Value → Finding
weigh None w ds = by_commits w ds
weigh (Some r) w ds = cond (nat_lt w r.view) (forced r by_fast) (by_commits w ds)

-- so many reports of a prepare make a fast certificate
abbrev pub fast_support : ℕ → ℕ → ℕ
fast_support f t = f + t + 1

-- what the entries of a progress certificate come to, in a fleet of f and t
unfoldable pub finding : ℕ → ℕ → List Reported → Finding
finding f t es = weigh (fast_certificate (fast_support f t) es) (top_committed es) (committed_in (top_committed es) es)
