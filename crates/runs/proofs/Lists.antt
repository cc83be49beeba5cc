-- Lists of calls, one behind the other.
use Rattle.std.proofs.Common.{◌≡◌, ℕ, ◌⊎◌, List, [], ◌∷◌, ◌++◌, length, take, refl, sym, ap, ◌∙◌, subst, inl, inr, arith, append_assoc}
use Rattle.agreement.specs.Statements.{Each}
use Rattle.runs.specs.Runs.{World, Event, next, after, Comes}

pub after_append : (w : World) (xs ys : List Event) → after w (xs ++ ys) ≡ after (after w xs) ys
after_append w [] ys = refl
after_append w (x ∷ xs) ys = after_append (next w x) xs ys

pub take_front : {A : Type 0} (xs ys : List A) → take (length xs) (xs ++ ys) ≡ xs
take_front [] ys = refl
take_front (x ∷ xs) ys = ap (λ (z : List _). x ∷ z) (take_front xs ys)

-- what holds of all holds of each of a list
pub each_all : {A : Type 0} (P : A → Type 0) → ((x : A) → P x) → (xs : List A) → Each P xs
each_all P p [] = tt
each_all P p (x ∷ xs) = (p x, each_all P p xs)

pub each_of : (P : Event → Type 0) (es past : List Event) (e : Event) → Comes es past e → Each P es → P e
each_of P es past e c h = at past (subst (Each P) c.1 h)
  where
    at : (past : List Event) → Each P (past ++ (e ∷ c.0)) → P e
    at [] k = k.0
    at (x ∷ past) k = at past k.1

-- no call is in a list of none
pub comes_nowhere : (past : List Event) (e : Event) → Comes [] past e → ⊥
comes_nowhere [] e c = let h = c.1 in let z : ◌≡◌ {A = ℕ} 0 1 = cc in omega arith
comes_nowhere (p ∷ past) e c = let h = c.1 in let z : ◌≡◌ {A = ℕ} 0 1 = cc in omega arith

-- the calls of a list are among those of a longer one
pub comes_further : (past p more : List Event) (e : Event) → Comes past p e → Comes (past ++ more) p e
comes_further past p more e c = (c.0 ++ more, ap (λ (z : List Event). z ++ more) c.1 ∙ append_assoc p (e ∷ c.0) more)

-- a call of a list with one call more is that, or one of the others
pub comes_more : (past p : List Event) (e x : Event) → Comes (past ++ (x ∷ [])) p e → ((p ≡ past) × (e ≡ x)) ⊎ Comes past p e
comes_more [] [] e x c = inl (refl, let z : x ≡ e = cc in sym z)
comes_more [] (y ∷ p) e x c = absurd (comes_nowhere p e (c.0, let z : [] ≡ p ++ (e ∷ c.0) = cc in z))
comes_more (y ∷ past) [] e x c = let same : y ≡ e = cc in inr (past, ap (λ (z : Event). z ∷ past) same)
comes_more (y ∷ past) (z ∷ p) e x c =
    let same : y ≡ z = cc in
    let rest : past ++ (x ∷ []) ≡ p ++ (e ∷ c.0) = cc in
    elim (comes_more past p e x (c.0, rest)) [
      | inl h ↦ inl (ap (λ (q : List Event). z ∷ q) h.0 ∙ ap (λ (q : Event). q ∷ past) (sym same), h.1)
      | inr h ↦ inr (h.0, ap (λ (q : List Event). y ∷ q) h.1 ∙ ap (λ (q : Event). q ∷ (p ++ (e ∷ h.0))) same)
    ]
