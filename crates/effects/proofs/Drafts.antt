-- The same draft, written in other words.
use Rattle.std.proofs.Common.{◌≡◌, ℕ, List, ap₂, ◌∙◌}
use Rattle.wire.specs.declared.statement.Statement.{Statement}
use Rattle.calls.specs.Effects.{draft}
use Rattle.effects.specs.Changes.{onto}

pub same_draft : (o o' : List ℕ) {s s' : Statement} {p p' : List ℕ} → s ≡ s' → p ≡ p' → o' ≡ onto (draft s p) o → o' ≡ onto (draft s' p') o
same_draft o o' e f h = h ∙ ap₂ (λ (s : Statement) (p : List ℕ). onto (draft s p) o) e f
