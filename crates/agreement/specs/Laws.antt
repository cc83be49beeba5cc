-- Laws of quorums and of fast certificates, and what a finding says.
use Rattle.std.specs.Prelude.{◌≡◌, ℕ, ◌+◌, ◌<◌, ◌≤◌, ◌⊎◌, List, [], ◌∷◌, length, Some, None, ◌≢◌}
use Rattle.values.specs.declared.fix.Value.{Value}
use Rattle.values.specs.declared.fix.Report.{Report}
use Rattle.values.specs.Fleets.{sites, progress_quorum}
use Rattle.verdicts.specs.declared.rule.Reported.{Reported}
use Rattle.verdicts.specs.Rule.{reporters, fast_certificate, fast_support, Finding, free, forced, conflict, by_fast, by_commit, finding}
use Rattle.agreement.specs.Sites.{size, both, listed}
use Rattle.agreement.specs.Statements.{Quorum}

-- in a progress certificate, one value at most has a fast certificate
abbrev pub OneFastValue : Type 0
OneFastValue =
    (f t : ℕ) (es : List Reported) (d e : Value) → length es ≤ progress_quorum f t
    → fast_support f t ≤ reporters d 1 es → fast_support f t ≤ reporters e 1 es → d ≡ e

-- any two commit certificates share f + 1 sites, of which one at least follows the rules
abbrev pub CertificatesShare : Type 0
CertificatesShare =
    (f t : ℕ) (xs ys : List ℕ) → Quorum f t xs → Quorum f t ys
    → f + 1 ≤ size (both (listed xs) (listed ys)) (sites f t)

-- the report's view is the highest that q entries reach with its value
pub record Highest (q : ℕ) (es : List Reported) (r : Report) : Type 0 where
  pub low : 1 ≤ r.view
  pub reached : q ≤ reporters r.value r.view es
  pub no_higher : (v : ℕ) → r.view < v → reporters r.value v es < q

-- the fast certificate that is found has the highest view, and where none is found there is none
abbrev pub FastIsHighest : Type 0
FastIsHighest =
    (q : ℕ) (es : List Reported) → 1 ≤ q
    → ((r : Report) → fast_certificate q es ≡ Some r → Highest q es r)
    × (fast_certificate q es ≡ None → (d : Value) (v : ℕ) → 1 ≤ v → reporters d v es < q)

-- ---- the rule ----

-- an entry reports this commit
abbrev pub Commits : Report → List Reported → Type 0
Commits r [] = ⊥
Commits r (e ∷ es) = (e.committed ≡ Some r) ⊎ Commits r es

-- no fast certificate and no reported commit has a view above w
pub record NoneAbove (q : ℕ) (es : List Reported) (w : ℕ) : Type 0 where
  pub fast : (d : Value) (v : ℕ) → w < v → reporters d v es < q
  pub commits : (r : Report) → Commits r es → r.view ≤ w

-- the report is the value and the view of the fast certificate, and each reported commit has a lower view
pub record FastForces (q : ℕ) (es : List Reported) (r : Report) : Type 0 where
  pub fast : Highest q es r
  pub above : (s : Report) → Commits s es → s.view < r.view

-- the report is a commit of the highest view, in which no other value is committed
pub record CommitForces (q : ℕ) (es : List Reported) (r : Report) : Type 0 where
  pub low : 1 ≤ r.view
  pub reported : Commits r es
  pub no_other : (s : Report) → Commits s es → s.view ≡ r.view → s.value ≡ r.value
  pub none_above : NoneAbove q es r.view

-- two values are committed in the highest view
pub record CommitsConflict (q : ℕ) (es : List Reported) : Type 0 where
  pub one : Report
  pub other : Report
  pub low : 1 ≤ one.view
  pub same_view : other.view ≡ one.view
  pub two_values : one.value ≢ other.value
  pub one_reported : Commits one es
  pub other_reported : Commits other es
  pub none_above : NoneAbove q es one.view

-- what a finding says of the entries, where q reports make a fast certificate
abbrev pub Found : ℕ → List Reported → Finding → Type 0
Found q es free = NoneAbove q es 0
Found q es (forced r by_fast) = FastForces q es r
Found q es (forced r by_commit) = CommitForces q es r
Found q es conflict = CommitsConflict q es

-- in a progress certificate, what is found is so, and no other finding would be
abbrev pub FindingIsTheRule : Type 0
FindingIsTheRule =
    (f t : ℕ) (es : List Reported) → length es ≤ progress_quorum f t
    → Found (fast_support f t) es (finding f t es)
    × ((x : Finding) → Found (fast_support f t) es x → x ≡ finding f t es)
