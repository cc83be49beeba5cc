-- Laws of judging.
use Rattle.std.specs.Prelude.{◌≡◌, ℕ, ◌<◌, true, List, length, map, Ok}
use Rattle.values.specs.declared.fix.Report.{Report}
use Rattle.values.specs.Fleets.{sites}
use Rattle.wire.specs.declared.statement.Statement.TheVariants.{NewView}
use Rattle.wire.specs.Contents.{Vote, Turn, change_of}
use Rattle.checks.specs.Vouching.{Vouched}
use Rattle.agreement.specs.Sites.{size, listed}
use Rattle.agreement.specs.Statements.{Each}
use Rattle.agreement.specs.Laws.{OneFastValue, CertificatesShare, FastIsHighest, FindingIsTheRule}
use Rattle.agreement.specs.Promises.{DecisionsAgree, LaterForced, NeverConflict, Happens}
use Rattle.certificates.specs.Steps.{granted, passed}
use Rattle.certificates.specs.Examining.{prepare_of, votes_steps, entries_steps}
use Rattle.certificates.specs.Judging.{judging, judge_asks}

-- what judging asked and was told decides what it answers: two checks that answer these questions alike are asked the same,
-- and judging answers the same by both
abbrev pub AskedDecides : Type 0
AskedDecides =
    (v w : Vouched) (f t limit round view : ℕ) (b : List ℕ) → Each (λ q. granted v q ≡ granted w q) (judge_asks v f t limit round view b)
    → (judging v f t limit round view b ≡ judging w f t limit round view b) × (judge_asks v f t limit round view b ≡ judge_asks w f t limit round view b)

-- ---- counting ----

-- entries that pass, q of them, name q different sites of the fleet, and each is vouched for as that site's prepare
abbrev pub VotesAreCounted : Type 0
VotesAreCounted =
    (v : Vouched) (f t round q : ℕ) (r : Report) (place : ℕ) (xs : List Vote) → length xs ≡ q → passed v (votes_steps f t round r 0 place xs) ≡ Ok tt
    → (size (listed (map (λ (x : Vote). x.site) xs)) (sites f t) ≡ q)
    × Each (λ x. (x.site < sites f t) × (granted v (record { site = x.site; said = prepare_of round r x.site; tag = x.tag }) ≡ true)) xs

-- and so do new-views
abbrev pub EntriesAreCounted : Type 0
EntriesAreCounted =
    (v : Vouched) (f t round view q place : ℕ) (ms : List Turn) → length ms ≡ q → passed v (entries_steps f t round view 0 place ms) ≡ Ok tt
    → (size (listed (map (λ (m : Turn). m.head.site) ms)) (sites f t) ≡ q)
    × Each (λ m. (m.head.site < sites f t) × (granted v (record { site = m.head.site; said = NewView (change_of m); tag = m.tag }) ≡ true)) ms

pub record Counting : Type 0 where
  pub votes : VotesAreCounted
  pub entries : EntriesAreCounted
  -- two commit certificates share at least f + 1 sites
  pub shared : CertificatesShare
  -- one value at most has enough reports for a fast certificate
  pub one_value : OneFastValue
  -- its view is the highest that enough of them reach
  pub highest : FastIsHighest
  -- the verdict is the one that the rule gives
  pub rule : FindingIsTheRule

-- ---- agreement of the rules, in every run with at most f sites that break them ----

pub record Agreement : Type 0 where
  -- any two decisions are of one value
  pub decisions : DecisionsAgree
  -- a progress certificate for a later view forces it
  pub later : LaterForced
  -- none comes to a conflict
  pub never : NeverConflict
  -- and there is a run with a liar in which a site decides and a later certificate is valid
  pub happens : Happens
