-- What is written is the claim with the certificate.
use Rattle.std.proofs.Common.{ℕ, List, ap, ap₂, ◌∙◌}
use Rattle.wire.specs.declared.statement.Statement.TheVariants.{Commit}
use Rattle.calls.specs.declared.record.Record.{Record}
use Rattle.effects.specs.Changes.{certificate_of}
use Rattle.effects.proofs.Drafts.{same_draft}
use Rattle.effects.proofs.counting.commit.Goals as goal

pub returns-clause-out : goal.returns-clause-out
returns-clause-out c =
    let n = c.new-votes in
    let votes = ap₂ (λ (r : Record) (tags : List ℕ). certificate_of r tags n.result.value) n.ensures.kept n.ensures.tags in
    let value = ap (certificate_of c.args.kept.now c.args.tags.now) n.ensures.value in
    same_draft c.args.out.now c.write-bytes.new.out (ap Commit c.own_claim-claim.ensures) (votes ∙ value) c.write-bytes.ensures.after
