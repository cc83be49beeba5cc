-- A rule-following site as far as agreement goes, what one move does to it, and runs of moves.
use Rattle.std.specs.Prelude.{◌≡◌, ℕ, ◌<◌, Bool, true, false, cond, List, [], ◌∷◌, take, Some, None, Option, ◌==◌, ◌≢◌, nat_le}
use Rattle.values.specs.declared.fix.Value.{Value}
use Rattle.values.specs.declared.fix.Report.{Report}
use Rattle.values.specs.Fleets.{sites, fast_quorum, recovery_quorum, leader_of}
use Rattle.verdicts.specs.Rule.{same}
use Rattle.agreement.specs.Sites.{SiteSet, size}
use Rattle.agreement.specs.Statements.{Said, propose, prepare, commit, new_view, Entry, judged, Allows, Formed, statements, Drafted}

-- ---- a site ----

-- a row for each site, with the value heard from it
abbrev pub Rows : Type 0
Rows = ℕ → Option Value

abbrev pub no_rows : Rows
no_rows j = None

abbrev pub fill : Rows → ℕ → Value → Rows
fill rows j d k = cond (k == j) (Some d) (rows k)

abbrev pub holds : Value → Option Value → Bool
holds d None = false
holds d (Some e) = same d e

-- the sites whose row holds d
abbrev pub holders : Rows → Value → SiteSet
holders rows d k = holds d (rows k)

-- what a site keeps, as far as agreement goes: the rows are of its view
pub record Site : Type 0 where
  pub view : ℕ
  pub proposed : Bool
  pub prepared : Option Report
  pub committed : Option Report
  pub prepares : Rows
  pub commits : Rows
  pub decision : Option Report

abbrev pub opened : Site
opened = record { view = 1; proposed = false; prepared = None; committed = None; prepares = no_rows; commits = no_rows; decision = None }

-- ---- moves ----

-- what a call does at a site, once none of its tests has refused it
pub data Move : Type 0 where
  -- it proposes a value
  propose_it : Value → Move
  -- it hears a value proposed, with the entries of the progress certificate (in view 1 they are not looked at), and prepares it
  hear_propose : Value → List Entry → Move
  -- it hears a prepare or a commit: the site, and the value
  hear_prepare : ℕ → Value → Move
  hear_commit : ℕ → Value → Move
  -- it leaves for a higher view
  leave : ℕ → Move
  -- anything that changes none of this
  other : Move

-- a value in the site's view
abbrev pub here : Site → Value → Report
here s d = record { view = s.view; value = d }

-- the first decision stays
abbrev pub decide : Option Report → Bool → Report → Option Report
decide (Some r) b x = Some r
decide None true x = Some x
decide None false x = None

-- the prepare heard makes a commit certificate
abbrev pub makes_commit : ℕ → ℕ → Site → ℕ → Value → Bool
makes_commit f t s j d = size (holders (fill s.prepares j d) d) (sites f t) == recovery_quorum f t

abbrev pub step : ℕ → ℕ → Site → Move → Site
step f t s (propose_it d) = record s { proposed = true }
step f t s (hear_propose d es) = record s { prepared = Some (here s d) }
step f t s (hear_prepare j d) =
    record s {
      committed = cond (makes_commit f t s j d) (Some (here s d)) s.committed;
      prepares = fill s.prepares j d;
      decision = decide s.decision (nat_le (fast_quorum f t) (size (holders (fill s.prepares j d) d) (sites f t))) (here s d);
    }
step f t s (hear_commit j d) =
    record s {
      commits = fill s.commits j d;
      decision = decide s.decision (nat_le (recovery_quorum f t) (size (holders (fill s.commits j d) d) (sites f t))) (here s d);
    }
step f t s (leave v) = record s { view = v; proposed = false; prepares = no_rows; commits = no_rows }
step f t s other = s

-- what the move drafts at site i
abbrev pub draft : ℕ → ℕ → ℕ → Site → Move → Option Said
draft f t i s (propose_it d) = Some (propose i s.view d)
draft f t i s (hear_propose d es) = Some (prepare i s.view d)
draft f t i s (hear_prepare j d) = cond (makes_commit f t s j d) (Some (commit i s.view d)) None
draft f t i s (hear_commit j d) = None
draft f t i s (leave v) = Some (new_view i v s.prepared s.committed)
draft f t i s other = None

-- what the site tested before it moved
abbrev pub Tests : ℕ → ℕ → Site → Move → Type 0
Tests f t s (propose_it d) = s.proposed ≡ false
Tests f t s (hear_propose d es) =
    ((r : Report) → s.prepared ≡ Some r → r.view ≢ s.view)
    × (1 < s.view → Formed f t s.view es × Allows (judged f t es) d)
Tests f t s (hear_prepare j d) = s.prepares j ≡ None
Tests f t s (hear_commit j d) = s.commits j ≡ None
Tests f t s (leave v) = s.view < v
Tests f t s other = Unit {0}

-- the statements that were vouched for before it moved
abbrev pub vouched : ℕ → ℕ → Site → Move → List Said
vouched f t s (propose_it d) = []
vouched f t s (hear_propose d es) = propose (leader_of (sites f t) s.view) s.view d ∷ statements s.view es
vouched f t s (hear_prepare j d) = prepare j s.view d ∷ []
vouched f t s (hear_commit j d) = commit j s.view d ∷ []
vouched f t s (leave v) = []
vouched f t s other = []

-- ---- runs ----

-- the rule-following sites of a fleet, and what they have drafted
pub record World : Type 0 where
  pub at : ℕ → Site
  pub log : List Said

abbrev pub start : World
start = record { at = λ i. opened; log = [] }

abbrev pub more : Option Said → List Said → List Said
more None log = log
more (Some x) log = x ∷ log

abbrev pub next : ℕ → ℕ → World → ℕ → Move → World
next f t w i m =
    record {
      at = λ k. cond (k == i) (step f t (w.at i) m) (w.at k);
      log = more (draft f t i (w.at i) m) w.log;
    }

-- a move of a site
pub data Moved : Type 0 where
  moves : ℕ → Move → Moved

-- a run, in the order of time: only rule-following sites move, each has made its tests, and no statement of a
-- rule-following site was vouched for before it was drafted
abbrev pub Run : ℕ → ℕ → SiteSet → World → List Moved → Type 0
Run f t good w [] = Unit {0}
Run f t good w (moves i m ∷ ms) =
    (good i ≡ true) × Tests f t (w.at i) m × Drafted good w.log (vouched f t (w.at i) m) × Run f t good (next f t w i m) ms

abbrev pub after : ℕ → ℕ → World → List Moved → World
after f t w [] = w
after f t w (moves i m ∷ ms) = after f t (next f t w i m) ms

-- the sites when the first a of the moves are made
abbrev pub world_at : ℕ → ℕ → List Moved → ℕ → World
world_at f t ms a = after f t start (take a ms)
