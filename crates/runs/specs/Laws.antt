-- Laws of runs.
use Rattle.std.specs.Prelude.{◌≡◌, ℕ, ◌<◌, List, [], ◌++◌, Ok}
use Rattle.values.specs.Fleets.{sites}
use Rattle.wire.specs.declared.statement.Statement.{Statement}
use Rattle.wire.specs.Contents.{statement_bytes}
use Rattle.packets.specs.Fits.{StatementFits}
use Rattle.agreement.specs.Sites.{SiteSet}
use Rattle.agreement.specs.Statements.{Each}
use Rattle.certificates.specs.Steps.{Question}
use Rattle.calls.specs.Effects.{Output, nothing, draft, message, Effect, head_of}
use Rattle.runs.specs.Runs.{by_the_rules, World, Event, result, questions, draft_left, Drafts, after, Comes, Run}
use Rattle.runs.specs.Promises.{InEveryRun}

-- the draft among what is written
abbrev pub draft_of : Output → List ℕ
draft_of nothing = []
draft_of (draft s attached) = statement_bytes s ++ attached
draft_of (message b) = []

-- the draft that a call leaves in out is the one that it is defined to write: its statement, and what that attaches
abbrev pub DraftIsInOut : Type 0
DraftIsInOut =
    (w : World) (e : Event) (x : Effect) → (w e.site).behaviour ≡ by_the_rules → result w e ≡ Ok x → draft_left w e ≡ draft_of x.output

-- and it begins with one statement only, whose numbers are words
abbrev pub OneStatement : Type 0
OneStatement =
    (w : World) (e : Event) (s s' : Statement) → StatementFits s → StatementFits s' → Drafts w e (statement_bytes s) → Drafts w e (statement_bytes s')
    → s ≡ s'

-- a question about a statement of a site of the fleet, under its own number, of the round, with all numbers words
pub record InForm (n round : ℕ) (q : Question) : Type 0 where
  pub site : q.site < n
  pub own : (head_of q.said).site ≡ q.site
  pub round_is : (head_of q.said).round ≡ round
  pub fits : StatementFits q.said

-- in every run, a call asks its check about nothing else
abbrev pub AsksInForm : Type 0
AsksInForm =
    InEveryRun (λ f t limit round good w es.
    (past : List Event) (e : Event) → Comes es past e → Each (InForm (sites f t) round) (questions (after w past) e))

-- each beginning of a run is a run
abbrev pub BeginningsAreRuns : Type 0
BeginningsAreRuns =
    (f t limit round : ℕ) (good : SiteSet) (w : World) (es rest : List Event) → Run f t limit round good w (es ++ rest) → Run f t limit round good w es

pub record RunLaws : Type 0 where
  pub drafts : DraftIsInOut
  pub one : OneStatement
  pub asks : AsksInForm
  pub beginnings : BeginningsAreRuns
