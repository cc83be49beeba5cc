-- Laws of what is laid over a buffer.
use Rattle.std.proofs.Common.{◌≡◌, ℕ, ◌+◌, ◌≤◌, List, [], ◌++◌, length, take, drop, sym, ap, ◌∙◌, append_assoc, append-nil, arith, length-append, length-drop, length-take}
use borrow.Rule.Slice.PartMut.{put_mid}
use Rattle.std.proofs.lemmas.List.{drop-drop, drop_at, take_at, length-take-le, drop_all, take-append-le, take-take}
use Rattle.buffers.specs.Lays.{laid, Lays}

-- what a write to a part of a slice leaves
pub laid_part : (o ys zs : List ℕ) (at k : ℕ) → ys ≡ zs → k ≡ length zs → put_mid at k o ys ≡ laid o at zs
unfolding laid
laid_part o ys zs at k e n = rw (e, n) (ap (λ d. take at o ++ (zs ++ d)) (drop-drop (length zs) at o))

-- one write behind another
pub laid_more : (o xs ys : List ℕ) (at n : ℕ) → n ≡ at + length xs → at ≤ length o → laid (laid o at xs) n ys ≡ laid o at (xs ++ ys)
unfolding laid
laid_more o xs ys at n e h =
    let p = take at o in
    let d = drop (at + length xs) o in
    let split : p ++ (xs ++ d) ≡ (p ++ xs) ++ d = sym (append_assoc p xs d) in
    let long : length (p ++ xs) ≡ n = omega (arith, length-append p xs, length-take-le at o h) in
    let front : take n (p ++ (xs ++ d)) ≡ p ++ xs = ap (take n) split ∙ take_at (p ++ xs) d n long in
    let rest : drop n (p ++ (xs ++ d)) ≡ d = ap (drop n) split ∙ drop_at (p ++ xs) d n long in
    let back : drop (n + length ys) (p ++ (xs ++ d)) ≡ drop (at + length xs + length ys) o =
    sym (drop-drop (length ys) n (p ++ (xs ++ d))) ∙ ap (drop (length ys)) rest ∙ drop-drop (length ys) (at + length xs) o in
    let place : at + length xs + length ys ≡ at + length (xs ++ ys) = omega (arith, length-append xs ys) in
    rw (front, back, place) (append_assoc p xs (ys ++ drop (at + length (xs ++ ys)) o) ∙ ap (λ l. p ++ l) (sym (append_assoc xs ys (drop (at + length (xs ++ ys)) o))))

-- at the start of a buffer
pub laid_start : (o xs : List ℕ) → laid o 0 xs ≡ xs ++ drop (length xs) o
unfolding laid
laid_start o xs = let e : 0 + length xs ≡ length xs = omega arith in rw e

pub length-laid : (o xs : List ℕ) (at : ℕ) → at + length xs ≤ length o → length (laid o at xs) ≡ length o
unfolding laid
length-laid o xs at h = simp (length-append, length-take, length-drop) (omega arith)

pub then : {o o' o'' xs ys : List ℕ} {at n m : ℕ} → Lays o at xs o' n → Lays o' n ys o'' m → Lays o at (xs ++ ys) o'' m
then {o} {o'} {o''} {xs} {ys} {at} {n} {m} e f =
    let long : length o' ≡ length o = ap length e.is ∙ length-laid o xs at (omega (arith, e.ends, e.inside)) in
    record {
      is = f.is ∙ ap (λ l. laid l n ys) e.is ∙ laid_more o xs ys at n e.ends (omega (arith, e.ends, e.inside));
      ends = omega (arith, e.ends, f.ends, length-append xs ys);
      inside = omega (arith, f.inside);
    }

pub from_start : {o o' xs : List ℕ} {n : ℕ} → Lays o 0 xs o' n → o' ≡ xs ++ drop (length xs) o
from_start {o} {o'} {xs} e = e.is ∙ laid_start o xs

-- a buffer that is filled from its start to its end
pub filled : {o o' xs : List ℕ} {n : ℕ} → Lays o 0 xs o' n → n ≡ length o → o' ≡ xs
filled {o} {o'} {xs} e k =
    from_start e ∙ ap (λ d. xs ++ d) (drop_all (length xs) o (omega (arith, e.ends))) ∙ append-nil xs

-- what stands at the start of a buffer, up to the place behind what was laid there
pub fronted : {o o' xs : List ℕ} {n : ℕ} → Lays o 0 xs o' n → take n o' ≡ xs
fronted {o} {o'} {xs} {n} e = ap (take n) (from_start e) ∙ take_at xs (drop (length xs) o) n (omega (arith, e.ends))

-- what stands before what was laid, and behind it, stays
pub before : {o o' xs : List ℕ} {at n : ℕ} (k : ℕ) → Lays o at xs o' n → k ≤ at → take k o' ≡ take k o
unfolding laid
before {o} {o'} {xs} {at} k e h =
    let within : at ≤ length o = omega (arith, e.ends, e.inside) in
    let front : k ≤ length (take at o) = omega (arith, length-take-le at o within) in
    ap (take k) e.is ∙ take-append-le k (take at o) (xs ++ drop (at + length xs) o) front ∙ take-take k at o h

pub behind : {o o' xs : List ℕ} {at n : ℕ} → Lays o at xs o' n → o' ≡ take at o ++ (xs ++ drop n o)
unfolding laid
behind {o} {o'} {xs} {at} {n} e = e.is ∙ ap (λ k. take at o ++ (xs ++ drop k o)) (sym e.ends)

-- what was laid up to the end of a buffer
pub last : {o o' xs : List ℕ} {at n : ℕ} → Lays o at xs o' n → n ≡ length o → drop at o' ≡ xs
last {o} {o'} {xs} {at} {n} e k =
    let within : at ≤ length o = omega (arith, e.ends, e.inside) in
    let rest : drop n o ≡ [] = drop_all n o (omega arith) in
    ap (drop at) (behind e) ∙ drop_at (take at o) (xs ++ drop n o) at (length-take-le at o within) ∙ ap (λ d. xs ++ d) rest ∙ append-nil xs
