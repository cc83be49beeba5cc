-- Calls of a list, by their numbers.
use Rattle.std.proofs.Common.{◌≡◌, ℕ, zero, suc, ◌<◌, ◌⊎◌, List, [], ◌∷◌, ◌++◌, length, take, drop, refl, sym, ap, ◌∙◌, subst, inl, inr, arith, take-append-drop}
use Rattle.runs.specs.Runs.{World, Event, next, after, Comes}
use Rattle.calls.specs.Calls.{Request}
use Rattle.liveness.specs.Recovery.{At, CallOf}
use Rattle.runs.proofs.Lists.{take_front, after_append}

no_call : {P : Type 0} (e : Event) (rest : List Event) → [] ≡ e ∷ rest → P
no_call e rest h = absurd (let l : ◌≡◌ {A = ℕ} 0 (length (e ∷ rest)) = ap length h in omega arith)

-- the calls before it are the first p
pub at_comes : (es : List Event) (p : ℕ) (e : Event) → At es p e → Comes es (take p es) e
at_comes es p e h = (h.0, sym (take-append-drop p es) ∙ ap (λ (z : List Event). take p es ++ z) h.1)

pub at_length : (es : List Event) (p : ℕ) (e : Event) → At es p e → length (take p es) ≡ p
at_length es zero e h = refl
at_length [] (suc p) e h = no_call e h.0 h.1
at_length (x ∷ es) (suc p) e h = ap suc (at_length es p e h)

drop_front : (xs ys : List Event) → drop (length xs) (xs ++ ys) ≡ ys
drop_front [] ys = refl
drop_front (x ∷ xs) ys = drop_front xs ys

pub comes_at : (es past : List Event) (e : Event) → Comes es past e → At es (length past) e
comes_at es past e c = (c.0, ap (drop (length past)) c.1 ∙ drop_front past (e ∷ c.0))

pub comes_take : (es past : List Event) (e : Event) → Comes es past e → take (length past) es ≡ past
comes_take es past e c = ap (take (length past)) c.1 ∙ take_front past (e ∷ c.0)

at_same : (es : List Event) (p : ℕ) (e e' : Event) → At es p e → At es p e' → e ≡ e'
at_same es p e e' h h' =
    let q : e ∷ h.0 ≡ e' ∷ h'.0 = sym h.1 ∙ h'.1 in
    cc

-- and it is the next
one_more : (es : List Event) (p : ℕ) (e : Event) → At es p e → take (suc p) es ≡ take p es ++ (e ∷ [])
one_more [] zero e h = no_call e h.0 h.1
one_more (x ∷ es) zero e h = let q = h.1 in let s : x ≡ e = cc in ap (λ (z : Event). z ∷ []) s
one_more [] (suc p) e h = no_call e h.0 h.1
one_more (x ∷ es) (suc p) e h = ap (λ (z : List Event). x ∷ z) (one_more es p e h)

-- the sites after it
pub next_moment : (w : World) (es : List Event) (p : ℕ) (e : Event) → At es p e → after w (take (suc p) es) ≡ next (after w (take p es)) e
next_moment w es p e h = ap (after w) (one_more es p e h) ∙ after_append w (take p es) (e ∷ [])

-- there is a call number p, or the list ends before it
pub moment_cases : (es : List Event) (p : ℕ) → ((e : Event) × At es p e) ⊎ (take (suc p) es ≡ take p es)
moment_cases [] zero = inr refl
moment_cases [] (suc p) = inr refl
moment_cases (x ∷ es) zero = inl (x, (es, refl))
moment_cases (x ∷ es) (suc p) = elim (moment_cases es p) [ inl h ↦ inl h | inr h ↦ inr (ap (λ (z : List Event). x ∷ z) h) ]

-- ---- the first n calls ----

pub at_take : (es : List Event) (n p : ℕ) (e : Event) → At (take n es) p e → At es p e × (p < n)
at_take es zero zero e h = no_call e h.0 h.1
at_take es zero (suc p) e h = no_call e h.0 h.1
at_take [] (suc n) zero e h = no_call e h.0 h.1
at_take [] (suc n) (suc p) e h = no_call e h.0 h.1
at_take (x ∷ es) (suc n) zero e h = let q = h.1 in let s : x ≡ e = cc in ((es, ap (λ (z : Event). z ∷ es) s), omega arith)
at_take (x ∷ es) (suc n) (suc p) e h = let r = at_take es n p e h in (r.0, let l = r.1 in omega arith)

pub at_in_take : (es : List Event) (n p : ℕ) (e : Event) → At es p e → p < n → At (take n es) p e
at_in_take es zero p e h l = absurd (omega arith)
at_in_take [] (suc n) zero e h l = no_call e h.0 h.1
at_in_take [] (suc n) (suc p) e h l = no_call e h.0 h.1
at_in_take (x ∷ es) (suc n) zero e h l = let q = h.1 in let s : x ≡ e = cc in (take n es, ap (λ (z : Event). z ∷ take n es) s)
at_in_take (x ∷ es) (suc n) (suc p) e h l = at_in_take es n p e h (omega arith)

pub at_inside : (es : List Event) (p : ℕ) (e : Event) → At es p e → p < length es
at_inside [] zero e h = no_call e h.0 h.1
at_inside [] (suc p) e h = no_call e h.0 h.1
at_inside (x ∷ es) zero e h = omega arith
at_inside (x ∷ es) (suc p) e h = let l = at_inside es p e h in omega arith

-- a call asks for one thing
pub one_request : (w : World) (es : List Event) (p q i j : ℕ) (r s : Request) → p ≡ q → CallOf w es p i r → CallOf w es q j s → r ≡ s
one_request w es p q i j r s e a b =
    let there = subst (λ (n : ℕ). At es n a.call) e a.at in
    sym a.request ∙ ap (λ (z : Event). z.request) (at_same es q a.call b.call there b.at) ∙ b.request
