-- What is written is the claim with the gathered new-views.
use Rattle.std.proofs.Common.{ℕ, List, ap, ap₂}
use Rattle.wire.specs.declared.statement.Statement.TheVariants.{Propose}
use Rattle.records.specs.Kept.{membership_of, kept_of}
use Rattle.calls.specs.declared.record.Record.{Record}
use Rattle.calls.specs.Gathering.{own_progress}
use Rattle.effects.proofs.Drafts.{same_draft}
use Rattle.effects.proofs.drafting.propose.Goals as goal

pub returns-clause-out : goal.returns-clause-out
returns-clause-out c =
    let progress = ap₂ (λ (r : Record) (views : List ℕ). own_progress (membership_of r.member) (kept_of r.round) views) c.new-progress.ensures.kept c.new-progress.ensures.views in
    same_draft c.args.out.now c.write-bytes.new.out (ap Propose c.own_claim-claim.ensures) progress c.write-bytes.ensures.after
