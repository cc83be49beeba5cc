-- The message schedule and the rounds, one step at a time.
use Rattle.std.proofs.Common.{◌≡◌, ℕ, suc, ◌+◌, ◌-◌, ◌*◌, ◌<◌, ◌≤◌, List, [], ◌∷◌, ◌++◌, length, get_or, take, set, sym, refl, ap, ◌∙◌, add-one, arith}
use Rattle.std.proofs.lemmas.List.{take_more_set, get_or-take}
use Rattle.std.proofs.lemmas.Bool.{lt-ltb, le-ltb}
use Rattle.buffers.specs.Words.{word_from}
use Rattle.sha256.specs.declared.compression.State.{State}
use Rattle.sha256.specs.Sha256.{◌⊞◌, σ0, σ1, K, W, schedule, round, rounds}

-- one word more
more : (w m : List ℕ) (t x : ℕ) → t < length w → take t w ≡ schedule t m → x ≡ W t m (schedule t m) → take (t + 1) (set w t x) ≡ schedule (t + 1) m
unfolding schedule
more w m t x h p q =
    take_more_set w t x h ∙ (let e : take t w ++ x ∷ [] ≡ schedule (suc t) m = cc in rw add-one e)

-- one of the block's own
pub own_word : (w m : List ℕ) (t x : ℕ) → t < 16 → t < length w → take t w ≡ schedule t m → x ≡ word_from m (4 * t) → take (t + 1) (set w t x) ≡ schedule (t + 1) m
unfolding W
own_word w m t x s h p q = more w m t x h p (q ∙ (let b = lt-ltb t 16 s in rw b refl))

-- one of the others, which the words before it make
pub later_word : (w m : List ℕ) (t x : ℕ) → 16 ≤ t → t < length w → take t w ≡ schedule t m → x ≡ σ1 (get_or w (t - 2) 0) ⊞ get_or w (t - 7) 0 ⊞ σ0 (get_or w (t - 15) 0) ⊞ get_or w (t - 16) 0 → take (t + 1) (set w t x) ≡ schedule (t + 1) m
unfolding W
later_word w m t x s h p q =
    let back : (k : ℕ) → k < t → get_or (schedule t m) k 0 ≡ get_or w k 0 = λ k l. ap (λ v. get_or v k 0) (sym p) ∙ get_or-take t w k 0 l in
    let b = le-ltb t 16 s in
    let e2 = back (t - 2) (omega arith) in
    let e7 = back (t - 7) (omega arith) in
    let e15 = back (t - 15) (omega arith) in
    let e16 = back (t - 16) (omega arith) in
    more w m t x h p (q ∙ rw (b, e2, e7, e15, e16) refl)

-- one round more
pub round_more : (s v r : State) (w : List ℕ) (t k x : ℕ) → v ≡ rounds t s w → k ≡ get_or K t 0 → x ≡ get_or w t 0 → r ≡ round v k x → r ≡ rounds (t + 1) s w
unfolding rounds
round_more s v r w t k x ev ek ex er = let e : r ≡ rounds (suc t) s w = rw (← ev, ← ek, ← ex) er in rw add-one e
