-- Lists of steps, one behind the other, and with their faults seen otherwise.
use Rattle.std.proofs.Common.{◌≡◌, ℕ, Bool, true, false, cond, List, [], ◌∷◌, ◌++◌, Ok, Err, Result, sym, refl, ◌∙◌, arith}
use Rattle.checks.specs.Vouching.{Vouched}
use Rattle.certificates.specs.Steps.{granted, Step, test, ask, passed, blamed, answering}
use Rattle.certificates.specs.Faults.{failing}

-- what is left to do once a result is good
abbrev pub next : {A F : Type 0} → Result (Unit {0}) F → Result A F → Result A F
next (Ok u) r = r
next (Err e) r = Err e

next_cond : {F : Type 0} (b : Bool) (r s : Result (Unit {0}) F) (e : F) → cond b (next r s) (Err e) ≡ next (cond b r (Err e)) s
next_cond true r s e = refl
next_cond false r s e = refl

-- the steps in front first
pub passed_append : {F : Type 0} (v : Vouched) (xs ys : List (Step F)) → passed v (xs ++ ys) ≡ next (passed v xs) (passed v ys)
passed_append v [] ys = refl
passed_append v (test b e ∷ xs) ys = rw (passed_append v xs ys) (next_cond b (passed v xs) (passed v ys) e)
passed_append v (ask q e ∷ xs) ys = rw (passed_append v xs ys) (next_cond (granted v q) (passed v xs) (passed v ys) e)

failing_cond : {E F : Type 0} (g : E → F) (b : Bool) (r : Result (Unit {0}) E) (e : E) → cond b (failing g r) (Err (g e)) ≡ failing g (cond b r (Err e))
failing_cond g true r e = refl
failing_cond g false r e = refl

pub passed_blamed : {E F : Type 0} (g : E → F) (v : Vouched) (xs : List (Step E)) → passed v (blamed g xs) ≡ failing g (passed v xs)
passed_blamed g v [] = refl
passed_blamed g v (test b e ∷ xs) = rw (passed_blamed g v xs) (failing_cond g b (passed v xs) e)
passed_blamed g v (ask q e ∷ xs) = rw (passed_blamed g v xs) (failing_cond g (granted v q) (passed v xs) e)

-- what an answer that was given went through
pub answered_ok : {A F : Type 0} (r : Result (Unit {0}) F) (x y : A) → ◌≡◌ {A = Result A F} (Ok y) (answering r x) → (r ≡ Ok (tt {0})) × (y ≡ x)
answered_ok (Ok u) x y e = (refl, cc)
answered_ok (Err f) x y e = absurd (let z : ◌≡◌ {A = ℕ} 0 1 = cc in omega arith)

pub answered_err : {A F : Type 0} (r : Result (Unit {0}) F) (x : A) (f : F) → ◌≡◌ {A = Result A F} (Err f) (answering r x) → r ≡ Err f
answered_err (Ok u) x f e = absurd (let z : ◌≡◌ {A = ℕ} 0 1 = cc in omega arith)
answered_err (Err h) x f e = cc

-- what a list of steps that was passed went through
pub test_ok : {F : Type 0} (b : Bool) (r : Result (Unit {0}) F) (e : F) → cond b r (Err e) ≡ Ok (tt {0}) → (b ≡ true) × (r ≡ Ok (tt {0}))
test_ok true r e h = (refl, h)
test_ok false r e h = absurd (let z : ◌≡◌ {A = ℕ} 0 1 = cc in omega arith)

next_ok : {F : Type 0} (r s : Result (Unit {0}) F) → next r s ≡ Ok (tt {0}) → (r ≡ Ok (tt {0})) × (s ≡ Ok (tt {0}))
next_ok (Ok u) s h = (refl, h)
next_ok (Err e) s h = absurd (let z : ◌≡◌ {A = ℕ} 0 1 = cc in omega arith)

pub append_ok : {F : Type 0} (v : Vouched) (xs ys : List (Step F)) → passed v (xs ++ ys) ≡ Ok (tt {0}) → (passed v xs ≡ Ok (tt {0})) × (passed v ys ≡ Ok (tt {0}))
append_ok v xs ys h = next_ok (passed v xs) (passed v ys) (sym (passed_append v xs ys) ∙ h)

failing_ok : {E F : Type 0} (g : E → F) (r : Result (Unit {0}) E) → failing g r ≡ Ok (tt {0}) → r ≡ Ok (tt {0})
failing_ok g (Ok u) h = refl
failing_ok g (Err e) h = absurd (let z : ◌≡◌ {A = ℕ} 0 1 = cc in omega arith)

pub blamed_ok : {E F : Type 0} (g : E → F) (v : Vouched) (xs : List (Step E)) → passed v (blamed g xs) ≡ Ok (tt {0}) → passed v xs ≡ Ok (tt {0})
blamed_ok g v xs h = failing_ok g (passed v xs) (sym (passed_blamed g v xs) ∙ h)
