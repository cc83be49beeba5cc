-- What judging means to the runs of abstract sites: certificates as the rules see them, and what judging keeps in every run.
use Rattle.std.specs.Prelude.{◌≡◌, ℕ, ◌<◌, ◌≤◌, true, List, map, Some, None, Ok, Err, Option, ◌≢◌}
use Rattle.values.specs.declared.fix.Report.{Report}
use Rattle.values.specs.Fleets.{sites}
use Rattle.values.specs.Refusals.{conflicting}
use Rattle.verdicts.specs.Rule.{By}
use Rattle.verdicts.specs.Told.{Told, told_forced, by_number}
use Rattle.wire.specs.declared.statement.Statement.{Statement}
use Rattle.wire.specs.declared.statement.Statement.TheVariants.{Propose, Prepare, Commit, NewView}
use Rattle.wire.specs.Contents.{Vote, Certified, Turn}
use Rattle.checks.specs.Vouching.{Vouched, Short}
use Rattle.agreement.specs.Sites.{SiteSet, size, all_but}
use Rattle.agreement.specs.Statements.{Said, propose, prepare, commit, new_view, In, Each, Certificate, Entry}
use Rattle.agreement.specs.Moves.{start, Moved, Run, world_at}
use Rattle.agreement.specs.Examples.{e, viewed}
use Rattle.agreement.specs.Promises.{InEveryRun, decision_at, others}
use Rattle.certificates.specs.Steps.{Question, granted}
use Rattle.certificates.specs.Judging.{judging, judge_asks}

-- ---- statements and certificates without their bytes ----

abbrev pub said_of : Statement → Said
said_of (Propose c) = propose c.head.site c.head.view c.value
said_of (Prepare c) = prepare c.head.site c.head.view c.value
said_of (Commit c) = commit c.head.site c.head.view c.value
said_of (NewView c) = new_view c.head.site c.head.view c.prepared c.committed

abbrev pub certificate_of : Option Certified → Option Certificate
certificate_of None = None
certificate_of (Some c) = Some (record { report = c.report; sites = map (λ (x : Vote). x.site) c.votes })

abbrev pub entry_of : Turn → Entry
entry_of m = record { site = m.head.site; prepared = m.prepared; committed = certificate_of m.committed }

-- ---- what judging keeps ----

-- of the questions that a check answered with yes, those about rule-following sites are about statements that these drafted
abbrev pub Meant : SiteSet → List Said → Vouched → List Question → Type 0
Meant good log v qs = Each (λ q. granted v q ≡ true → good q.site ≡ true → In (said_of q.said) log) qs

-- at any moment of a run, judging a certificate for a view above a decision's, if it answers, forces the value decided
abbrev pub JudgingKeepsDecisions : Type 0
JudgingKeepsDecisions =
    InEveryRun (λ f t good ms.
    (a b i : ℕ) (r : Report) (v : Vouched) (limit round view : ℕ) (bytes : List ℕ) (x : Told) → good i ≡ true
    → decision_at f t ms a i ≡ Some r → r.view < view
    → Meant good (world_at f t ms b).log v (judge_asks v f t limit round view bytes)
    → judging v f t limit round view bytes ≡ Ok x
    → (c : By) × (w : ℕ) × (x ≡ told_forced (by_number c) r.value w))

-- and at no moment it is refused with 14
abbrev pub JudgingNeverConflicts : Type 0
JudgingNeverConflicts =
    InEveryRun (λ f t good ms.
    (b : ℕ) (v : Vouched) (limit round view : ℕ) (bytes : List ℕ)
    → Meant good (world_at f t ms b).log v (judge_asks v f t limit round view bytes)
    → judging v f t limit round view bytes ≢ Err conflicting)

-- there is a run with a liar in which a site decides, and for a later view a check whose answers are meant as in that run,
-- and bytes: judging them answers, and forces the value decided
abbrev pub JudgingAnswers : Type 0
JudgingAnswers =
    (size (all_but others) (sites 1 0) ≤ 1)
    × ((ms : List Moved) × (a : ℕ) × (b : ℕ) × (v : Vouched) × (limit : ℕ) × (round : ℕ) × (bytes : List ℕ)
    × Run 1 0 others start ms
    × (decision_at 1 0 ms a 1 ≡ Some (viewed 2 e))
    × Short v
    × Meant others (world_at 1 0 ms b).log v (judge_asks v 1 0 limit round 3 bytes)
    × (judging v 1 0 limit round 3 bytes ≡ Ok (told_forced 1 e 2)))
