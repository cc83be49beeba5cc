-- What judging comes to, once the entries have passed or failed.
use Rattle.std.proofs.Common.{◌≡◌, ℕ, true, false, not, cond, List, [], ◌∷◌, Some, None, Ok, Err, Option, sym, refl, ap, arith}
use Rattle.values.specs.declared.fix.Value.{Value}
use Rattle.values.specs.Refusals.{Refused, conflicting}
use Rattle.verdicts.specs.declared.rule.Forcing.{Forcing}
use Rattle.verdicts.specs.declared.rule.Forcing.TheVariants.{Fast, Commit}
use Rattle.verdicts.specs.Rule.{Finding, By, free, forced, conflict, by_fast, by_commit, finding}
use Rattle.verdicts.specs.Told.{Told, by_number, forcing_number, finding_told, forced_told}
use Rattle.wire.specs.Contents.{Turn}
use Rattle.checks.specs.Vouching.{Vouched}
use Rattle.certificates.specs.Steps.{test, passed}
use Rattle.certificates.specs.Examining.{progress_steps}
use Rattle.certificates.specs.Judging.{reports_of, conflicts, outcome, verdict_call}
use Rattle.certificates.proofs.Passing.{next, passed_append}

by_small : (c : By) → by_number c ≡ 14 → ⊥
by_small by_fast h = omega arith
by_small by_commit h = omega arith

pub forcing_small : (c : Forcing) → forcing_number c ≡ 14 → ⊥
forcing_small Fast h = omega arith
forcing_small Commit h = omega arith

-- number 14 is told of a conflict alone
pub told_conflict : (x : Finding) → finding_told conflict ≡ finding_told x → conflicts x ≡ true
told_conflict free h = absurd (let z = ap (λ (t : Told). t.number) h in omega arith)
told_conflict (forced r c) h = absurd (by_small c (sym (ap (λ (t : Told). t.number) h)))
told_conflict conflict h = refl

forced_other : (x : Option (Value × ℕ × Forcing)) → forced_told x ≡ finding_told conflict → ⊥
forced_other None h = let z = ap (λ (t : Told). t.number) h in omega arith
forced_other (Some x) h = forcing_small x.2 (ap (λ (t : Told). t.number) h)

-- and never of a verdict
pub told_verdict : (x : Option (Value × ℕ × Forcing)) (y : Finding) → forced_told x ≡ finding_told y → conflicts y ≡ false
told_verdict x free h = refl
told_verdict x (forced r c) h = refl
told_verdict x conflict h = absurd (forced_other x h)

module _ (v : Vouched) (f t round view place : ℕ) (ms : List Turn) where
  by_steps : passed v (verdict_call f t round view place ms).steps ≡ next (passed v (progress_steps f t round view place ms)) (cond (not (conflicts (finding f t (reports_of ms)))) (Ok tt) (Err conflicting))
  by_steps = passed_append v (progress_steps f t round view place ms) (test (not (conflicts (finding f t (reports_of ms)))) conflicting ∷ [])

  pub entries_fail : (e : Refused) → passed v (progress_steps f t round view place ms) ≡ Err e → outcome v (verdict_call f t round view place ms) ≡ Err e
  entries_fail e h = rw (by_steps, h)

  pub conflict_found : passed v (progress_steps f t round view place ms) ≡ Ok tt → conflicts (finding f t (reports_of ms)) ≡ true → outcome v (verdict_call f t round view place ms) ≡ Err conflicting
  conflict_found h k = rw (by_steps, h, k)

  pub verdict_found : passed v (progress_steps f t round view place ms) ≡ Ok tt → conflicts (finding f t (reports_of ms)) ≡ false
      → outcome v (verdict_call f t round view place ms) ≡ Ok (finding_told (finding f t (reports_of ms)))
  verdict_found h k = rw (by_steps, h, k)
