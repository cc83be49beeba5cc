-- What every run keeps: over every fleet, every set of at most f sites that break the rules, and every run of moves.
use Rattle.std.specs.Prelude.{◌≡◌, ℕ, ◌<◌, ◌≤◌, true, List, Some, Option, ◌≢◌, nat_lt}
use Rattle.values.specs.declared.fix.Report.{Report}
use Rattle.values.specs.Fleets.{sites}
use Rattle.verdicts.specs.Rule.{forced, conflict, by_fast}
use Rattle.agreement.specs.Sites.{SiteSet, size, all_but}
use Rattle.agreement.specs.Statements.{Entry, judged, Forces, Formed, statements, Drafted}
use Rattle.agreement.specs.Moves.{start, Moved, Run, world_at}
use Rattle.agreement.specs.Examples.{e, viewed}

-- of every fleet of f and t, every set `good` of sites that follow the rules, all but at most f, and every run
abbrev pub InEveryRun : ((f t : ℕ) → SiteSet → List Moved → Type 0) → Type 0
InEveryRun P = (f t : ℕ) (good : SiteSet) → size (all_but good) (sites f t) ≤ f → (ms : List Moved) → Run f t good start ms → P f t good ms

-- what site i has decided after a moves
abbrev pub decision_at : ℕ → ℕ → List Moved → ℕ → ℕ → Option Report
decision_at f t ms a i = ((world_at f t ms a).at i).decision

-- a progress certificate for a view, of which each statement was vouched for after b moves
abbrev pub Valid : ℕ → ℕ → SiteSet → List Moved → ℕ → ℕ → List Entry → Type 0
Valid f t good ms b view es = Formed f t view es × Drafted good (world_at f t ms b).log (statements view es)

-- any two decisions, found at any moments, after a and after b moves, are of one value
abbrev pub DecisionsAgree : Type 0
DecisionsAgree =
    InEveryRun (λ f t good ms.
    (a b i j : ℕ) (r s : Report) → good i ≡ true → good j ≡ true
    → decision_at f t ms a i ≡ Some r → decision_at f t ms b j ≡ Some s
    → r.value ≡ s.value)

-- a progress certificate for a view above that of a decision forces the value decided, whichever was there first
abbrev pub LaterForced : Type 0
LaterForced =
    InEveryRun (λ f t good ms.
    (a b i : ℕ) (r : Report) (view : ℕ) (es : List Entry) → good i ≡ true
    → decision_at f t ms a i ≡ Some r → r.view < view → Valid f t good ms b view es
    → Forces (judged f t es) r.value)

-- no progress certificate comes to a conflict
abbrev pub NeverConflict : Type 0
NeverConflict =
    InEveryRun (λ f t good ms.
    (b view : ℕ) (es : List Entry) → Valid f t good ms b view es
    → judged f t es ≢ conflict)

-- ---- decisions and certificates are found ----

-- the sites but 0
abbrev pub others : SiteSet
others i = nat_lt 0 i

-- there is a run with a liar in which a site decides, and a valid progress certificate of a later view: it forces the
-- value decided
abbrev pub Happens : Type 0
Happens =
    (size (all_but others) (sites 1 0) ≤ 1)
    × ((ms : List Moved) × (a : ℕ) × (b : ℕ) × (es : List Entry)
    × Run 1 0 others start ms
    × (decision_at 1 0 ms a 1 ≡ Some (viewed 2 e))
    × Valid 1 0 others ms b 3 es
    × (judged 1 0 es ≡ forced (viewed 2 e) by_fast))
