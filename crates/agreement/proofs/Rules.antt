-- The rules that sites keep, decisions, and what follows from the rules, over relations that say what each site stated.
-- The sites of `good` follow the rules. What the other sites state is not bound by anything.
use Rattle.std.specs.Prelude.{◌≡◌, ℕ, ◌<◌, ◌≤◌, true, List, Some, Option, ◌≢◌}
use Rattle.values.specs.declared.fix.Value.{Value}
use Rattle.values.specs.declared.fix.Report.{Report}
use Rattle.values.specs.Fleets.{sites, fast_quorum, recovery_quorum}
use Rattle.verdicts.specs.Rule.{conflict}
use Rattle.agreement.specs.Sites.{SiteSet, size, all_but}
use Rattle.agreement.specs.Statements.{Said, prepare, commit, new_view, In, Each, Of, Certificate, Entry, report_of, judged, Forces, Allows, FormedCertificate, Formed}

module _ (f t : ℕ) (good : SiteSet) (Prepared Committed : ℕ → ℕ → Value → Type 0) (Spoke : ℕ → ℕ → Option Report → Option Report → Type 0) where
  -- a recovery quorum of which the rule-following sites prepared d in view v
  pub record Backing (v : ℕ) (d : Value) (S : SiteSet) : Type 0 where
    pub enough : recovery_quorum f t ≤ size S (sites f t)
    pub prepared : (i : ℕ) → i < sites f t → good i ≡ true → S i ≡ true → Prepared i v d

  abbrev pub Backed : ℕ → Value → Type 0
  Backed v d = (S : SiteSet) × Backing v d S

  -- a commit certificate of which the rule-following sites did prepare
  pub record Certifies (view : ℕ) (c : Certificate) : Type 0 where
    pub formed : FormedCertificate f t view c
    pub meant : Each (λ i. good i ≡ true → Prepared i c.report.view c.report.value) c.sites

  -- an entry of a progress certificate for a view: if its site follows the rules, this is what the site stated
  pub record Sound (view : ℕ) (e : Entry) : Type 0 where
    pub said : good e.site ≡ true → Spoke e.site view e.prepared (report_of e.committed)
    pub certificate : Of (Certifies view) e.committed

  -- a progress certificate for a view that holds what rule-following sites stated
  pub record Progress (view : ℕ) (es : List Entry) : Type 0 where
    pub formed : Formed f t view es
    pub sound : Each (Sound view) es

  -- the rules
  pub record Rules : Type 0 where
    -- at most f sites do not follow them
    pub few : size (all_but good) (sites f t) ≤ f
    pub from_one : {i v : ℕ} {d : Value} → good i ≡ true → Prepared i v d → 1 ≤ v
    -- one prepare in a view
    pub once : {i v : ℕ} {d e : Value} → good i ≡ true → Prepared i v d → Prepared i v e → d ≡ e
    -- a prepare after view 1 came with a progress certificate that lets its value be proposed
    pub justified : {i v : ℕ} {d : Value} → good i ≡ true → Prepared i v d → 1 < v → (es : List Entry) × Progress v es × Allows (judged f t es) d
    -- a commit came with a commit certificate
    pub backed : {i v : ℕ} {d : Value} → good i ≡ true → Committed i v d → Backed v d
    -- a new-view reports the site's last prepare and last commit of the views below
    pub made : {i view : ℕ} {r : Report} {c : Option Report} → good i ≡ true → Spoke i view (Some r) c → Prepared i r.view r.value × (r.view < view)
    pub last_prepare : {i view v : ℕ} {d : Value} {p c : Option Report} → good i ≡ true → Spoke i view p c → Prepared i v d → v < view
        → (r : Report) × (p ≡ Some r) × (v ≤ r.view)
    pub last_commit : {i view v : ℕ} {d : Value} {p c : Option Report} → good i ≡ true → Spoke i view p c → Committed i v d → v < view
        → (r : Report) × (c ≡ Some r) × (v ≤ r.view)

  -- a fast quorum of which the rule-following sites prepared d in view v
  pub record Fast (v : ℕ) (d : Value) (S : SiteSet) : Type 0 where
    pub enough : fast_quorum f t ≤ size S (sites f t)
    pub prepared : (i : ℕ) → i < sites f t → good i ≡ true → S i ≡ true → Prepared i v d

  -- a recovery quorum of which the rule-following sites committed to d in view v
  pub record Recovered (v : ℕ) (d : Value) (S : SiteSet) : Type 0 where
    pub enough : recovery_quorum f t ≤ size S (sites f t)
    pub committed : (i : ℕ) → i < sites f t → good i ≡ true → S i ≡ true → Committed i v d

  -- d is decided in view v
  pub data Decided (v : ℕ) (d : Value) : Type 0 where
    fast_path : (S : SiteSet) → Fast v d S → Decided v d
    recovery_path : (S : SiteSet) → Recovered v d S → Decided v d

  -- any two decisions, of whatever views and paths, are of one value
  abbrev pub Agree : Type 0
  Agree = (v w : ℕ) (d e : Value) → Decided v d → Decided w e → d ≡ e

  -- each progress certificate for a view above a decision's forces the value decided
  abbrev pub Later : Type 0
  Later = (v view : ℕ) (d : Value) (es : List Entry) → Decided v d → v < view → Progress view es → Forces (judged f t es) d

  -- no progress certificate comes to a conflict
  abbrev pub Certain : Type 0
  Certain = (view : ℕ) (es : List Entry) → Progress view es → judged f t es ≢ conflict

-- ---- the relations that a list of statements gives ----

module _ (log : List Said) where
  abbrev pub PreparedIn : ℕ → ℕ → Value → Type 0
  PreparedIn i v d = In (prepare i v d) log

  abbrev pub CommittedIn : ℕ → ℕ → Value → Type 0
  CommittedIn i v d = In (commit i v d) log

  abbrev pub SpokeIn : ℕ → ℕ → Option Report → Option Report → Type 0
  SpokeIn i view p c = In (new_view i view p c) log

module _ (f t : ℕ) (good : SiteSet) (log : List Said) where
  abbrev pub RulesIn : Type 0
  RulesIn = Rules f t good (PreparedIn log) (CommittedIn log) (SpokeIn log)

  abbrev pub BackedIn : ℕ → Value → Type 0
  BackedIn v d = Backed f t good (PreparedIn log) (CommittedIn log) (SpokeIn log) v d

  abbrev pub ProgressIn : ℕ → List Entry → Type 0
  ProgressIn view es = Progress f t good (PreparedIn log) (CommittedIn log) (SpokeIn log) view es

  abbrev pub DecidedIn : ℕ → Value → Type 0
  DecidedIn v d = Decided f t good (PreparedIn log) (CommittedIn log) (SpokeIn log) v d
