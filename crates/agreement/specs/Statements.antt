-- What sites state, the certificates that hold statements, and what a progress certificate comes to.
use Rattle.std.specs.Prelude.{◌≡◌, ℕ, ◌<◌, ◌≤◌, true, List, [], ◌∷◌, ◌++◌, length, map, Some, None, Option}
use Rattle.values.specs.declared.fix.Value.{Value}
use Rattle.values.specs.declared.fix.Report.{Report}
use Rattle.values.specs.Fleets.{sites, recovery_quorum, progress_quorum}
use Rattle.verdicts.specs.declared.rule.Reported.{Reported}
use Rattle.verdicts.specs.Rule.{Finding, free, forced, conflict, finding}
use Rattle.agreement.specs.Sites.{SiteSet, Ascending}

-- ---- statements ----

-- a statement, without its round
pub data Said : Type 0 where
  -- site, view, value
  propose : ℕ → ℕ → Value → Said
  prepare : ℕ → ℕ → Value → Said
  commit : ℕ → ℕ → Value → Said
  -- site, view, last prepare, last commit
  new_view : ℕ → ℕ → Option Report → Option Report → Said

-- the site whose number it bears
abbrev pub who : Said → ℕ
who (propose i v d) = i
who (prepare i v d) = i
who (commit i v d) = i
who (new_view i v p c) = i

-- x stands in the list
pub data In (x : Said) : List Said → Type 0 where
  newest : {ys : List Said} → In x (x ∷ ys)
  before : {y : Said} {ys : List Said} → In x ys → In x (y ∷ ys)

-- each member has the property; the value has it, if there is one
abbrev pub Each : {A : Type 0} → (A → Type 0) → List A → Type 0
Each P [] = Unit {0}
Each P (x ∷ xs) = P x × Each P xs

abbrev pub Of : {A : Type 0} → (A → Type 0) → Option A → Type 0
Of P None = Unit {0}
Of P (Some x) = P x

-- ---- certificates ----

-- a commit certificate: a report, and the sites whose prepares of it the certificate holds
pub record Certificate : Type 0 where
  pub report : Report
  pub sites : List ℕ

-- one new-view of a progress certificate: its site, its last prepare, and its last commit with the certificate
pub record Entry : Type 0 where
  pub site : ℕ
  pub prepared : Option Report
  pub committed : Option Certificate

abbrev pub report_of : Option Certificate → Option Report
report_of None = None
report_of (Some c) = Some c.report

abbrev pub reported : Entry → Reported
reported e = record { prepared = e.prepared; committed = report_of e.committed }

-- what a progress certificate comes to
abbrev pub judged : ℕ → ℕ → List Entry → Finding
judged f t es = finding f t (map reported es)

-- the finding forces d
abbrev pub Forces : Finding → Value → Type 0
Forces free d = ⊥
Forces (forced r b) d = r.value ≡ d
Forces conflict d = ⊥

-- the finding lets d be proposed
abbrev pub Allows : Finding → Value → Type 0
Allows free d = Unit {0}
Allows (forced r b) d = r.value ≡ d
Allows conflict d = ⊥

-- ---- the form of certificates ----

-- the sites of a recovery quorum, ascending
pub record Quorum (f t : ℕ) (xs : List ℕ) : Type 0 where
  pub rising : Ascending (λ (i : ℕ). i) 0 (sites f t) xs
  pub enough : length xs ≡ recovery_quorum f t

-- a commit certificate in a new-view for a view
pub record FormedCertificate (f t view : ℕ) (c : Certificate) : Type 0 where
  pub view_low : 1 ≤ c.report.view
  pub view_high : c.report.view < view
  pub quorum : Quorum f t c.sites

-- a progress certificate for a view: the new-views of a progress quorum, their sites ascending
pub record Formed (f t view : ℕ) (es : List Entry) : Type 0 where
  pub rising : Ascending (λ (e : Entry). e.site) 0 (sites f t) es
  pub enough : length es ≡ progress_quorum f t
  pub certificates : Each (λ e. Of (FormedCertificate f t view) e.committed) es

-- ---- the statements in certificates ----

abbrev pub prepares_of : Report → List ℕ → List Said
prepares_of r [] = []
prepares_of r (i ∷ is) = prepare i r.view r.value ∷ prepares_of r is

abbrev pub certificate_statements : Option Certificate → List Said
certificate_statements None = []
certificate_statements (Some c) = prepares_of c.report c.sites

-- the statements that a progress certificate for a view holds: each is to be vouched for
abbrev pub statements : ℕ → List Entry → List Said
statements view [] = []
statements view (e ∷ es) =
    new_view e.site view e.prepared (report_of e.committed) ∷ (certificate_statements e.committed ++ statements view es)

-- of these statements, those of rule-following sites were drafted
abbrev pub Drafted : SiteSet → List Said → List Said → Type 0
Drafted good log xs = Each (λ x. good (who x) ≡ true → In x log) xs
