-- Things that stand one behind the other, read again and passed one by one.
use Rattle.std.proofs.Common.{◌≡◌, ℕ, suc, ◌+◌, List, ◌∷◌, length, Ok, Result, sym, ap, ◌∙◌}
use Rattle.std.specs.Result.{IsOk}
use Rattle.wire.specs.declared.words.Malformed.{Malformed}
use Rattle.wire.specs.Layout.{many_at}
use Rattle.checks.specs.Vouching.{Vouched}
use Rattle.certificates.specs.Steps.{Step, passed}
use Rattle.certificates.specs.Examining.{ascending}
use Rattle.certificates.specs.Reading.{read_of}
use Rattle.certificates.proofs.Passing.{next, passed_append}
use Rattle.certificates.proofs.Reading.{first_read}

module _ {A F : Type 0} (one : ℕ → Result (A × ℕ) Malformed) (site : A → ℕ) (bytes : A → List ℕ) (own : ℕ → ℕ → A → List (Step F))
    (ends : (at : ℕ) (p : A × ℕ) → one at ≡ Ok p → p.1 ≡ at + length (bytes p.0)) (v : Vouched) where
  -- the steps of so many things from a place on
  abbrev rest : ℕ → ℕ → ℕ → Result (Unit {0}) F
  rest n low at = passed v (ascending site bytes own low at (read_of (many_at one n at)))

  -- the first of the things that are left, and those behind it
  pub record Turned (n m low at : ℕ) (p : A × ℕ) : Type 0 where
    pub others : IsOk (many_at one m p.1)
    pub split : read_of (many_at one n at) ≡ p.0 ∷ read_of (many_at one m p.1)
    pub steps : rest n low at ≡ next (passed v (own low at p.0)) (rest m (site p.0 + 1) p.1)

  pub turned : (n m low at : ℕ) (p : A × ℕ) → n ≡ suc m → IsOk (many_at one n at) → one at ≡ Ok p → Turned n m low at p
  turned n m low at p e h k =
      let first = first_read one n m at p e h k in
      let xs = read_of (many_at one m p.1) in
      record {
        others = first.others;
        split = first.split;
        steps =
            ap (λ (ys : List A). passed v (ascending site bytes own low at ys)) first.split
            ∙ passed_append v (own low at p.0) (ascending site bytes own (site p.0 + 1) (at + length (bytes p.0)) xs)
            ∙ ap (λ (z : ℕ). next (passed v (own low at p.0)) (passed v (ascending site bytes own (site p.0 + 1) z xs))) (sym (ends at p k));
      }
