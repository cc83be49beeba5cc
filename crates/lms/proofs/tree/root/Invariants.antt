use Rattle.std.proofs.Common.{◌≡◌, ◌/◌, ◌^◌}
use Rattle.lms.specs.Lms.{climbed}
use Rattle.lms.proofs.tree.root.Given as goal

abbrev pub invariant-loop-sibling : goal.invariant-loop-sibling
invariant-loop-sibling l =
    (l.node ≡ l.initial.node / 2 ^ l.sibling-index) ×
    (l.value ≡ climbed 32 l.id l.signed.path.now l.initial.node l.initial.value l.sibling-index)
