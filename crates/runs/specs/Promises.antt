-- What every run keeps.
use Rattle.std.specs.Prelude.{◌≡◌, ◌≢◌, ℕ, ◌<◌, ◌⊎◌, true, List, take, Some, None, Ok, Err, Option}
use Rattle.values.specs.Refusals.{Refused}
use Rattle.verdicts.specs.Rule.{By}
use Rattle.verdicts.specs.Told.{told_forced, by_number}
use Rattle.wire.specs.declared.statement.Claim.{Claim}
use Rattle.wire.specs.declared.statement.Statement.{Statement}
use Rattle.wire.specs.declared.statement.Statement.TheVariants.{Propose, Prepare, Commit, NewView}
use Rattle.wire.specs.Contents.{statement_bytes}
use Rattle.packets.specs.Fits.{StatementFits}
use Rattle.agreement.specs.Sites.{SiteSet}
use Rattle.records.specs.Kept.{Decided}
use Rattle.calls.specs.Effects.{judged, found}
use Rattle.calls.specs.Calls.{to_judge, to_read, answer_of}
use Rattle.runs.specs.Runs.{World, Event, result, after, Comes, HasDrafted, Behaviour, by_the_rules, RunBy}

-- read gives this decision at site i
abbrev pub Reads : World → ℕ → Decided → Type 0
Reads w i x = (e : Event) × (e.site ≡ i) × (e.request ≡ to_read) × (answer_of (result w e) ≡ Ok (found (Some x)))

-- of every run of sites that behave so: of every fleet, tag limit and round, of every choice of at most f sites that break the
-- rules, of whatever the others' books held, and whatever they were called with and checked by
abbrev pub InEveryRunBy : Behaviour → ((f t limit round : ℕ) → SiteSet → World → List Event → Type 0) → Type 0
InEveryRunBy rules P =
    (f t limit round : ℕ) (good : SiteSet) (w : World) (es : List Event) → RunBy rules f t limit round good w es → P f t limit round good w es

-- and of the sites as they are defined
abbrev pub InEveryRun : ((f t limit round : ℕ) → SiteSet → World → List Event → Type 0) → Type 0
InEveryRun P = InEveryRunBy by_the_rules P

-- whatever read gives at any two moments, after a calls and after b, at any two rule-following sites, or at one, names one fix
abbrev pub DecisionsAgreeBy : Behaviour → Type 0
DecisionsAgreeBy rules =
    InEveryRunBy rules (λ f t limit round good w es.
    (a b i j : ℕ) (x y : Decided) → good i ≡ true → good j ≡ true
    → Reads (after w (take a es)) i x → Reads (after w (take b es)) j y
    → x.report.value ≡ y.report.value)

abbrev pub DecisionsAgree : Type 0
DecisionsAgree = DecisionsAgreeBy by_the_rules

-- a judge that is asked at any moment, also before the decision, about a view above that of the decision answers that the fix
-- decided is forced, or refuses the certificate for its layout, or as a bad one
abbrev pub LaterCertificatesForce : Type 0
LaterCertificatesForce =
    InEveryRun (λ f t limit round good w es.
    (a i : ℕ) (x : Decided) → good i ≡ true → Reads (after w (take a es)) i x
    → (past : List Event) (e : Event) (view : ℕ) (certificate : List ℕ) → Comes es past e → e.request ≡ to_judge view certificate → x.report.view < view
    → ((by : By) × (v : ℕ) × (answer_of (result (after w past) e) ≡ Ok (judged (told_forced (by_number by) x.report.value v))))
    ⊎ ((r : Refused) × (result (after w past) e ≡ Err r) × ((r.number ≡ 3) ⊎ (r.number ≡ 12))))

-- no call is refused with 14
abbrev pub NeverConflict : Type 0
NeverConflict =
    InEveryRun (λ f t limit round good w es.
    (past : List Event) (e : Event) (r : Refused) → Comes es past e → result (after w past) e ≡ Err r → r.number ≢ 14)

-- what the statement says of a fix, in a view
abbrev pub claim_in : Statement → Option Claim
claim_in (Propose c) = Some c
claim_in (Prepare c) = Some c
claim_in (Commit c) = Some c
claim_in (NewView c) = None

-- whatever a rule-following site proposes, prepares or commits in a view above that of a decision, before the decision or
-- after it, is the fix decided
abbrev pub LaterViewsKeepIt : Type 0
LaterViewsKeepIt =
    InEveryRun (λ f t limit round good w es.
    (a i : ℕ) (x : Decided) → good i ≡ true → Reads (after w (take a es)) i x
    → (j : ℕ) (s : Statement) (c : Claim) → StatementFits s → HasDrafted w es j (statement_bytes s) → claim_in s ≡ Some c → x.report.view < c.head.view
    → c.value ≡ x.report.value)
