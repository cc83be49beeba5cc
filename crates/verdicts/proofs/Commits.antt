-- One entry more of those that report a commit.
use Rattle.std.proofs.Common.{◌≡◌, ℕ, zero, suc, ◌≤◌, false, List, [], ◌∷◌, Some, None, Option, refl, ap, arith}
use Rattle.values.specs.declared.fix.Value.{Value}
use Rattle.verdicts.specs.Rule.{same, by_commit, Finding, free, forced, conflict, by_commits}
use Rattle.verdicts.proofs.Counts.{eq_same}

-- a value that was found goes before those that are left
abbrev pub settle : ℕ → Option Value → List Value → Finding
settle w None ds = by_commits w ds
settle w (Some d) ds = by_commits w (d ∷ ds)

-- another report of the value that was found
pub settle_again : (w : ℕ) (d e : Value) (ds : List Value) → d ≡ e → settle w (Some d) (e ∷ ds) ≡ settle w (Some e) ds
settle_again zero d e ds h = refl
settle_again (suc w) d e ds h = rw (eq_same d e h) (ap (λ (x : Value). by_commits (suc w) (x ∷ ds)) h)

-- a report of another value
pub settle_other : (w : ℕ) (d e : Value) (ds : List Value) → 1 ≤ w → same d e ≡ false → settle w (Some d) (e ∷ ds) ≡ conflict
settle_other zero d e ds l h = absurd (omega arith)
settle_other (suc w) d e ds l h = rw h

-- nothing is left
pub settle_none : (w : ℕ) → settle w None [] ≡ free
settle_none zero = refl
settle_none (suc w) = refl

pub settle_one : (w : ℕ) (d : Value) → 1 ≤ w → settle w (Some d) [] ≡ forced (record { view = w; value = d }) by_commit
settle_one zero d l = absurd (omega arith)
settle_one (suc w) d l = refl
