-- Things that stand one behind the other.
use Rattle.std.proofs.Common.{◌≡◌, ℕ, zero, suc, ◌+◌, List, ◌∷◌, Ok, Err, Result, sym, refl, ◌∙◌}
use Rattle.wire.specs.declared.words.Malformed.{Malformed}
use Rattle.wire.specs.Words.{bind}
use Rattle.wire.specs.Layout.{many_at, count_at, counted_at}
use Rattle.wire.specs.Places.{behind, many_end, counted_end}

-- one turn of a loop over them
module _ (one : ℕ → Result ℕ Malformed) where
  pub many_ok : (n m at end : ℕ) → n ≡ suc m → one at ≡ Ok end → many_end one m end ≡ many_end one n at
  many_ok n m at end h e = rw (h, e)

-- the place behind is that of the reading
module _ {A : Type 0} (one : ℕ → Result (A × ℕ) Malformed) where
  more : (x : A) (r : Result (List A × ℕ) Malformed) → behind (bind r (λ q. Ok (x ∷ q.0, q.1))) ≡ behind r
  more x (Ok q) = refl
  more x (Err e) = refl

  step : (n : ℕ) (r : Result (A × ℕ) Malformed) → ((at : ℕ) → many_end (λ k. behind (one k)) n at ≡ behind (many_at one n at))
      → bind (behind r) (many_end (λ k. behind (one k)) n) ≡ behind (bind r (λ p. bind (many_at one n p.1) (λ q. Ok (p.0 ∷ q.0, q.1))))
  step n (Ok p) rest = rest p.1 ∙ sym (more p.0 (many_at one n p.1))
  step n (Err e) rest = refl

  pub many_behind : (n at : ℕ) → many_end (λ k. behind (one k)) n at ≡ behind (many_at one n at)
  many_behind zero at = refl
  many_behind (suc n) at = step n (one at) (λ k. many_behind n k)

  counted : (r : Result ℕ Malformed) (at : ℕ) → bind r (λ n. many_end (λ k. behind (one k)) n (at + 4)) ≡ behind (bind r (λ n. many_at one n (at + 4)))
  counted (Ok n) at = many_behind n (at + 4)
  counted (Err e) at = refl

  pub counted_behind : (b : List ℕ) (at : ℕ) → counted_end (λ k. behind (one k)) b at ≡ behind (counted_at one b at)
  counted_behind b at = counted (count_at b at) at
