-- The numbers of a content fit their words, its tags the limit, and its counts 16.
use Rattle.std.specs.Prelude.{ℕ, ◌^◌, ◌<◌, ◌≤◌, List, [], ◌∷◌, length, Some, None, Option}
use Rattle.values.specs.declared.fix.Value.{Value}
use Rattle.values.specs.declared.fix.Report.{Report}
use Rattle.wire.specs.declared.statement.Head.{Head}
use Rattle.wire.specs.declared.statement.Claim.{Claim}
use Rattle.wire.specs.declared.statement.ViewChange.{ViewChange}
use Rattle.wire.specs.declared.statement.Statement.{Statement}
use Rattle.wire.specs.declared.statement.Statement.TheVariants.{Propose, Prepare, Commit, NewView}
use Rattle.wire.specs.Contents.{Vote, Certified, Turn, change_of, Content, propose, prepare, commit, new_view}

pub record ValueFits (v : Value) : Type 0 where
  pub first : v.first < 2 ^ 32
  pub second : v.second < 2 ^ 32
  pub third : v.third < 2 ^ 32

pub record HeadFits (h : Head) : Type 0 where
  pub round : h.round < 2 ^ 32
  pub view : h.view < 2 ^ 32
  pub site : h.site < 2 ^ 32

abbrev pub ReportFits : Option Report → Type 0
ReportFits None = Unit {0}
ReportFits (Some r) = (r.view < 2 ^ 32) × ValueFits r.value

abbrev pub ClaimFits : Claim → Type 0
ClaimFits c = HeadFits c.head × ValueFits c.value

abbrev pub ChangeFits : ViewChange → Type 0
ChangeFits c = HeadFits c.head × ReportFits c.prepared × ReportFits c.committed

abbrev pub StatementFits : Statement → Type 0
StatementFits (Propose c) = ClaimFits c
StatementFits (Prepare c) = ClaimFits c
StatementFits (Commit c) = ClaimFits c
StatementFits (NewView c) = ChangeFits c

abbrev pub VotesFit : ℕ → List Vote → Type 0
VotesFit limit [] = Unit {0}
VotesFit limit (v ∷ vs) = (v.site < 2 ^ 32) × (length v.tag ≤ limit) × VotesFit limit vs

abbrev pub CertificateFits : ℕ → List Vote → Type 0
CertificateFits limit vs = (length vs ≤ 16) × VotesFit limit vs

abbrev pub CertifiedFits : ℕ → Option Certified → Type 0
CertifiedFits limit None = Unit {0}
CertifiedFits limit (Some c) = CertificateFits limit c.votes

pub record TurnFits (limit : ℕ) (m : Turn) : Type 0 where
  pub change : ChangeFits (change_of m)
  pub tag : length m.tag ≤ limit
  pub votes : CertifiedFits limit m.committed

abbrev pub TurnsFit : ℕ → List Turn → Type 0
TurnsFit limit [] = Unit {0}
TurnsFit limit (m ∷ ms) = TurnFits limit m × TurnsFit limit ms

abbrev pub ContentFits : ℕ → Content → Type 0
ContentFits limit (propose c t ms) = ClaimFits c × (length t ≤ limit) × (length ms ≤ 16) × TurnsFit limit ms
ContentFits limit (prepare c t) = ClaimFits c × (length t ≤ limit)
ContentFits limit (commit c t vs) = ClaimFits c × (length t ≤ limit) × CertificateFits limit vs
ContentFits limit (new_view m) = TurnFits limit m
