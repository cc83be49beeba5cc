-- What a reading that succeeded went through.
use Rattle.std.proofs.Common.{◌≡◌, ℕ, Bool, true, false, cond, Ok, Err, Result, refl, arith}
use Rattle.wire.specs.declared.words.Malformed.{Malformed}
use Rattle.wire.specs.Words.{bind, fault}

pub bind_ok : {A B : Type 0} (r : Result A Malformed) (k : A → Result B Malformed) (y : B) → bind r k ≡ Ok y → (x : A) × (r ≡ Ok x) × (k x ≡ Ok y)
bind_ok (Ok x) k y e = (x, refl, e)
bind_ok (Err f) k y e = let z : ◌≡◌ {A = ℕ} 0 1 = cc in absurd (omega arith)

pub cond_ok : {A : Type 0} (t : Bool) (r : Result A Malformed) (at : ℕ) (y : A) → cond t r (fault at) ≡ Ok y → (t ≡ true) × (r ≡ Ok y)
cond_ok true r at y e = (refl, e)
cond_ok false r at y e = let z : ◌≡◌ {A = ℕ} 0 1 = cc in absurd (omega arith)

pub ok_same : {A : Type 0} {x y : A} → ◌≡◌ {A = Result A Malformed} (Ok x) (Ok y) → x ≡ y
ok_same e = cc
