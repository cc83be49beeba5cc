-- What is laid at the start of a buffer is what writing there gives.
use Rattle.std.proofs.Common.{◌≡◌, ℕ, ◌+◌, List, ◌++◌, length, true, false, cond, Bool, Ok, Err, sym, refl, ap, ◌∙◌, append_assoc, zero-add, arith, length-append, ◌≤◌}
use Rattle.std.proofs.lemmas.Bool.{le-leb, lt-leb, leb-false}
use Rattle.std.specs.Prelude.{nat_le, Result}
use Rattle.values.specs.Refusals.{Refused, short, layout}
use Rattle.buffers.specs.Lays.{Lays}
use Rattle.buffers.proofs.Laying.{from_start}
use Rattle.writing.specs.Written.{writing, tagging}

-- what was laid at the start of a buffer is what writing there gives
pub writes : {o o' xs : List ℕ} {n : ℕ} → Lays o 0 xs o' n → (Ok n ≡ (writing xs o).0) × (o' ≡ (writing xs o).1)
writes {o} {o'} {xs} {n} e =
    let long : length xs ≤ length o = omega (arith, e.ends, e.inside) in
    rw (le-leb (length xs) (length o) long) (ap Ok (e.ends ∙ zero-add (length xs)), from_start e)

-- bytes that are too many are refused
pub cramped : (o xs ys : List ℕ) (n : ℕ) → n ≡ length xs → nat_le (n + length ys) (length o) ≡ false → (Err short ≡ (writing (xs ++ ys) o).0) × (o ≡ (writing (xs ++ ys) o).1)
cramped o xs ys n e h =
    let tight = leb-false (n + length ys) (length o) h in
    rw (lt-leb (length (xs ++ ys)) (length o) (omega (arith, length-append xs ys))) (refl, refl)

-- the same of a message, whose statement and tag are counted together
pub cramped_message : (o xs ts ys : List ℕ) (n m : ℕ) → n ≡ length xs → m ≡ length ts → nat_le (n + m + length ys) (length o) ≡ false
    → (Err short ≡ (writing (xs ++ (ts ++ ys)) o).0) × (o ≡ (writing (xs ++ (ts ++ ys)) o).1)
cramped_message o xs ts ys n m e f h =
    let w = cramped o (xs ++ ts) ys (n + m) (omega (arith, length-append xs ts)) h in
    rw (sym (append_assoc xs ts ys)) w

-- what it says of a tag that making one succeeded, or failed
module _ (limit : ℕ) (tag : List ℕ) where
  pub tag_fits : (t : List ℕ) → Ok t ≡ tagging limit tag → (nat_le (length tag) limit ≡ true) × (t ≡ tag)
  tag_fits t = by (nat_le (length tag) limit)
    where
      by : (b : Bool) → ◌≡◌ {A = Result (List ℕ) Refused} (Ok t) (cond b (Ok tag) (Err (layout 0))) → (b ≡ true) × (t ≡ tag)
      by true e = (refl, cc)
      by false e = absurd (let z : ◌≡◌ {A = ℕ} 0 1 = cc in omega arith)

  pub tag_long : (r : Refused) → Err r ≡ tagging limit tag → (nat_le (length tag) limit ≡ false) × (r ≡ layout 0)
  tag_long r = by (nat_le (length tag) limit)
    where
      by : (b : Bool) → ◌≡◌ {A = Result (List ℕ) Refused} (Err r) (cond b (Ok tag) (Err (layout 0))) → (b ≡ false) × (r ≡ layout 0)
      by false e = (refl, cc)
      by true e = absurd (let z : ◌≡◌ {A = ℕ} 0 1 = cc in omega arith)
