-- Things that stand one behind the other, read again one by one.
use Rattle.std.proofs.Common.{◌≡◌, ℕ, zero, suc, ◌+◌, ◌≤◌, leb, List, ◌∷◌, length, Ok, Err, Result, refl, ap, arith}
use Rattle.std.proofs.lemmas.Bool.{leb-true, false≢true}
use Rattle.std.specs.Result.{IsOk}
use Rattle.wire.specs.declared.words.Malformed.{Malformed}
use Rattle.wire.specs.Words.{bind, word_at}
use Rattle.wire.proofs.Results.{bind_ok, cond_ok, ok_same}
use Rattle.wire.specs.Layout.{many_at, count_at, counted_at}
use Rattle.certificates.specs.Reading.{read_of}

pub never : {A : Type 0} (r : Result A Malformed) (e : Malformed) → IsOk r → r ≡ Err e → ⊥
never (Ok x) e h k = absurd (let z : ◌≡◌ {A = ℕ} 0 1 = cc in omega arith)
never (Err x) e h k = false≢true h

-- a count is 16 at most
pub counted_few : (b : List ℕ) (at n : ℕ) → count_at b at ≡ Ok n → n ≤ 16
counted_few b at n h =
    let q = bind_ok (word_at b at) _ n h in
    let r = cond_ok (leb q.0 16) (Ok q.0) at n q.2 in
    omega (arith, ok_same r.1, leb-true q.0 16 r.0)

module _ {A : Type 0} (one : ℕ → Result (A × ℕ) Malformed) where
  abbrev add : A → List A × ℕ → Result (List A × ℕ) Malformed
  add x q = Ok (x ∷ q.0, q.1)

  abbrev behind_first : ℕ → A × ℕ → Result (List A × ℕ) Malformed
  behind_first m p = bind (many_at one m p.1) (add p.0)

  -- the first of so many was read, and the others can be
  pub record First (n m at : ℕ) (p : A × ℕ) : Type 0 where
    pub others : IsOk (many_at one m p.1)
    pub split : read_of (many_at one n at) ≡ p.0 ∷ read_of (many_at one m p.1)

  rest_of : (x : A) (r : Result (List A × ℕ) Malformed) → IsOk (bind r (add x)) → IsOk r × (read_of (bind r (add x)) ≡ x ∷ read_of r)
  rest_of x (Ok q) h = (refl, refl)
  rest_of x (Err e) h = absurd (false≢true h)

  first_of : (m at : ℕ) (p : A × ℕ) (r : Result (A × ℕ) Malformed) → r ≡ Ok p → IsOk (bind r (behind_first m))
      → IsOk (many_at one m p.1) × (read_of (bind r (behind_first m)) ≡ p.0 ∷ read_of (many_at one m p.1))
  first_of m at p r e h = rw e (rest_of p.0 (many_at one m p.1) (rw e at h))

  pub first_read : (n m at : ℕ) (p : A × ℕ) → n ≡ suc m → IsOk (many_at one n at) → one at ≡ Ok p → First n m at p
  first_read n m at p e h k =
      let f = first_of m at p (one at) k (rw e at h) in
      record { others = f.0; split = rw e f.1 }

  fails : (m : ℕ) (e : Malformed) (r : Result (A × ℕ) Malformed) → r ≡ Err e → IsOk (bind r (behind_first m)) → ⊥
  fails m e r k h = let z = rw k at h in false≢true z

  pub first_fails : (n m at : ℕ) (e : Malformed) → n ≡ suc m → IsOk (many_at one n at) → one at ≡ Err e → ⊥
  first_fails n m at e q h k = fails m e (one at) k (rw q at h)

  good_of : (m : ℕ) (r : Result (A × ℕ) Malformed) → IsOk (bind r (behind_first m)) → IsOk r
  good_of m (Ok p) h = refl
  good_of m (Err e) h = absurd (false≢true h)

  pub first_good : (n m at : ℕ) → n ≡ suc m → IsOk (many_at one n at) → IsOk (one at)
  first_good n m at e h = good_of m (one at) (rw e at h)

  one_more : (n : ℕ) (x : A) (r : Result (List A × ℕ) Malformed) → (IsOk r → length (read_of r) ≡ n) → IsOk (bind r (add x)) → length (read_of (bind r (add x))) ≡ suc n
  one_more n x (Ok q) ih h = ap suc (ih refl)
  one_more n x (Err e) ih h = absurd (false≢true h)

  all_more : (n : ℕ) (r : Result (A × ℕ) Malformed) → ((at : ℕ) → IsOk (many_at one n at) → length (read_of (many_at one n at)) ≡ n) → IsOk (bind r (behind_first n))
      → length (read_of (bind r (behind_first n))) ≡ suc n
  all_more n (Ok p) ih h = one_more n p.0 (many_at one n p.1) (ih p.1) h
  all_more n (Err e) ih h = absurd (false≢true h)

  many_length : (n at : ℕ) → IsOk (many_at one n at) → length (read_of (many_at one n at)) ≡ n
  many_length zero at h = refl
  many_length (suc n) at h = all_more n (one at) (λ k. many_length n k) h

  -- the count was read, and so many things can be
  pub record Counted (b : List ℕ) (at n : ℕ) : Type 0 where
    pub all : IsOk (many_at one n (at + 4))
    pub same : read_of (counted_at one b at) ≡ read_of (many_at one n (at + 4))
    pub many : length (read_of (counted_at one b at)) ≡ n

  pub counted_read : (b : List ℕ) (at n : ℕ) → count_at b at ≡ Ok n → IsOk (counted_at one b at) → Counted b at n
  counted_read b at n e h =
      let all = rw e at h in
      record { all = all; same = rw e; many = rw e (many_length n (at + 4) all) }

  pub count_fails : (b : List ℕ) (at : ℕ) (e : Malformed) → count_at b at ≡ Err e → IsOk (counted_at one b at) → ⊥
  count_fails b at e k h = let z = rw k at h in false≢true z
