-- Blocks of 64 bytes: of a message, of its padding, and of both.
use Rattle.std.proofs.Common.{◌≡◌, ℕ, zero, suc, ◌+◌, ◌-◌, ◌*◌, ◌/◌, ◌%◌, ◌^◌, ◌<◌, ◌≤◌, List, [], ◌∷◌, ◌++◌, length, get_or, take, drop, replicate, sym, refl, ap, ◌∙◌, add-zero, add-suc, mul-zero, mul-suc, add-one, arith, length-append, length-drop}
use Rattle.std.proofs.lemmas.List.{drop-drop, drop-append-le, take-append-le, drop_at, take_all, length-replicate, get_or-take, get_or-drop}
use Rattle.std.specs.Simd.{first_chunks}
use Rattle.buffers.specs.Words.{Bytes, word_from}
use Rattle.sha256.specs.declared.compression.State.{State}
use Rattle.sha256.specs.Sha256.{block64, zero_bytes, padding, H0, compressed, after, after_all, words_bytes, digest, sha256}
use Rattle.sha256.specs.Laws.{PaddingIsTheShortest}

-- ---- blocks ----

-- the blocks that a slice is cut into
pub get_or-first_chunks : (n k : ℕ) (xs : List ℕ) (i : ℕ) (d : List ℕ) → i < k → get_or (first_chunks n k xs) i d ≡ take n (drop (n * i) xs)
get_or-first_chunks n zero xs i d h = absurd (omega arith)
get_or-first_chunks n (suc k) xs zero d h = rw mul-zero refl
get_or-first_chunks n (suc k) xs (suc i) d h =
    let e = get_or-first_chunks n k (drop n xs) i d (omega arith) in
    let t = drop-drop (n * i) n xs in
    let m : n * suc i ≡ n + n * i = mul-suc n i ∙ omega arith in
    rw m (cc)

-- the word that a chunk of four bytes writes
pub word_of_chunk : (m : List ℕ) (cs : List (List ℕ)) (d : List ℕ) (k t x : ℕ) → cs ≡ first_chunks 4 k m → t < k → x ≡ word_from (get_or cs t d) 0 → x ≡ word_from m (4 * t)
unfolding word_from
word_of_chunk m cs d k t x ec h e =
    let c : get_or cs t d ≡ take 4 (drop (4 * t) m) = ap (λ l. get_or l t d) ec ∙ get_or-first_chunks 4 k m t d h in
    let at : (j : ℕ) → j < 4 → get_or (get_or cs t d) j 0 ≡ get_or m (4 * t + j) 0 = λ j l. ap (λ b. get_or b j 0) c ∙ get_or-take 4 (drop (4 * t) m) j 0 l ∙ get_or-drop (4 * t) m j 0 in
    let z : 4 * t + 0 ≡ 4 * t = omega arith in
    let a0 = at 0 (omega arith) in
    let a1 = at 1 (omega arith) in
    let a2 = at 2 (omega arith) in
    let a3 = at 3 (omega arith) in
    rw z at (rw (a0, a1, a2, a3) at e)

-- one block more
pub block_more : (h s t : State) (m : List ℕ) (bs : List (List ℕ)) (d : List ℕ) (i k : ℕ) → bs ≡ first_chunks 64 k m → i < k → s ≡ after i h m → t ≡ compressed s (get_or bs i d) → t ≡ after (i + 1) h m
unfolding after
block_more h s t m bs d i k b l e f =
    let g = get_or-first_chunks 64 k m i d l in let r : t ≡ after (suc i) h m = cc in rw add-one r

-- blocks, and then blocks of what is left
after_add : (i k : ℕ) (s : State) (m : List ℕ) → after (i + k) s m ≡ after k (after i s m) (drop (64 * i) m)
unfolding after
after_add i zero s m = rw add-zero refl
after_add i (suc k) s m =
    let e = after_add i k s m in
    let d = drop-drop (64 * k) (64 * i) m in
    let n : 64 * (i + k) ≡ 64 * i + 64 * k = omega arith in
    rw add-suc (rw n (cc))

-- blocks of the front of a list
after_front : (i : ℕ) (s : State) (m p : List ℕ) → 64 * i ≤ length m → after i s (m ++ p) ≡ after i s m
unfolding after
after_front zero s m p h = refl
after_front (suc i) s m p h =
    let e = after_front i s m p (omega arith) in
    let d = drop-append-le (64 * i) m p (omega arith) in
    let n : 64 ≤ length (drop (64 * i) m) = simp length-drop (omega arith) in
    let t = take-append-le 64 (drop (64 * i) m) p n in
    cc

-- the whole blocks of m, and then what is left of it with p behind
pub whole_blocks : (s : State) (m p : List ℕ) (k : ℕ) → k ≡ length m / 64 → after_all s (m ++ p) ≡ after_all (after k s m) (drop (64 * k) m ++ p)
whole_blocks s m p k e =
    let le : 64 * k ≤ length m = omega arith in
    let d = drop-append-le (64 * k) m p le in
    let n : length (m ++ p) / 64 ≡ k + length (drop (64 * k) m ++ p) / 64 = omega (arith, length-append m p, length-append (drop (64 * k) m) p, length-drop (64 * k) m) in
    let a = after_add k (length (drop (64 * k) m ++ p) / 64) s (m ++ p) in
    let f = after_front k s m p le in
    rw n (cc)

-- a block, and then the rest
pub first_block : (s : State) (b p : List ℕ) → length b ≡ 64 → after_all s (b ++ p) ≡ after_all (compressed s b) p
unfolding after
first_block s b p h =
    let w = whole_blocks s b p 1 (omega arith) in
    let d = drop_at b p 64 h in
    let t = take_all 64 b (omega arith) in
    let e : drop 64 b ++ p ≡ p = sym (drop-append-le 64 b p (omega arith)) ∙ d in
    w ∙ (rw e (ap (λ x. after_all (compressed s x) p) t))

-- one block alone
pub one_block : (s : State) (b : List ℕ) → length b ≡ 64 → after_all s b ≡ compressed s b
unfolding after
one_block s b h = rw h (ap (compressed s) (take_all 64 b (omega arith)))

-- ---- padding ----

pub length-padding : (n : ℕ) → length (padding n) ≡ zero_bytes n + 9
unfolding padding
length-padding n = simp (length-append, length-replicate) (omega arith)

-- a number in 64 bits, as a machine writes it
pub block64-bytes : (x : ℕ) → x / 2 ^ 56 % 256 ∷ x / 2 ^ 48 % 256 ∷ x / 2 ^ 40 % 256 ∷ x / 2 ^ 32 % 256 ∷ x / 2 ^ 24 % 256 ∷ x / 2 ^ 16 % 256 ∷ x / 2 ^ 8 % 256 ∷ x % 256 ∷ [] ≡ block64 x
block64-bytes x =
    let a : x / 2 ^ 56 % 256 ≡ x / 2 ^ 32 / 16777216 % 256 = omega arith in
    let b : x / 2 ^ 48 % 256 ≡ x / 2 ^ 32 / 65536 % 256 = omega arith in
    let c : x / 2 ^ 40 % 256 ≡ x / 2 ^ 32 / 256 % 256 = omega arith in
    rw (a, b, c) refl

-- the length counts modulo 2 ^ 64
block64-mod : (x : ℕ) → block64 (x % 2 ^ 64) ≡ block64 x
block64-mod x =
    let a : x % 2 ^ 64 / 2 ^ 32 / 16777216 % 256 ≡ x / 2 ^ 32 / 16777216 % 256 = omega arith in
    let b : x % 2 ^ 64 / 2 ^ 32 / 65536 % 256 ≡ x / 2 ^ 32 / 65536 % 256 = omega arith in
    let c : x % 2 ^ 64 / 2 ^ 32 / 256 % 256 ≡ x / 2 ^ 32 / 256 % 256 = omega arith in
    let d : x % 2 ^ 64 / 2 ^ 32 % 256 ≡ x / 2 ^ 32 % 256 = omega arith in
    let e : x % 2 ^ 64 / 16777216 % 256 ≡ x / 16777216 % 256 = omega arith in
    let f : x % 2 ^ 64 / 65536 % 256 ≡ x / 65536 % 256 = omega arith in
    let g : x % 2 ^ 64 / 256 % 256 ≡ x / 256 % 256 = omega arith in
    let h : x % 2 ^ 64 % 256 ≡ x % 256 = omega arith in
    rw (a, b, c, d, e, f, g, h) refl

-- a message's length in bits, as a machine writes it
pub bits_of : (len : ℕ) (bytes : List ℕ) → (let x = len * 8 % 2 ^ 64 in bytes ≡ x / 2 ^ 56 % 256 ∷ x / 2 ^ 48 % 256 ∷ x / 2 ^ 40 % 256 ∷ x / 2 ^ 32 % 256 ∷ x / 2 ^ 24 % 256 ∷ x / 2 ^ 16 % 256 ∷ x / 2 ^ 8 % 256 ∷ x % 256 ∷ []) → bytes ≡ block64 (8 * len)
bits_of len bytes e =
    let c : len * 8 ≡ 8 * len = omega arith in e ∙ block64-bytes (len * 8 % 2 ^ 64) ∙ (rw c (block64-mod (8 * len)))

pub padding-mod : (n : ℕ) → padding (n % 2 ^ 64) ≡ padding n
unfolding padding
padding-mod n =
    let z : n % 2 ^ 64 % 64 ≡ n % 64 = omega arith in
    let m : 8 * (n % 2 ^ 64) % 2 ^ 64 ≡ 8 * n % 2 ^ 64 = omega arith in
    let b : block64 (8 * (n % 2 ^ 64)) ≡ block64 (8 * n) = sym (block64-mod (8 * (n % 2 ^ 64))) ∙ ap block64 m ∙ block64-mod (8 * n) in
    rw z (ap (λ t. 0x80 ∷ (replicate ((119 - n % 64) % 64) 0 ++ t)) b)

-- a message that fills one block with its padding
pub sha256_block : (m : List ℕ) → length m < 56 → sha256 m ≡ digest (compressed H0 (m ++ padding (length m)))
unfolding sha256
sha256_block m h =
    ap digest (one_block H0 (m ++ padding (length m)) (omega (arith, length-append m (padding (length m)), length-padding (length m))))

pub length-sha256 : (m : List ℕ) → length (sha256 m) ≡ 32
unfolding sha256 digest
length-sha256 m = refl

pub shortest : PaddingIsTheShortest
shortest n = (omega arith, λ k h. omega arith)

-- ---- what a digest is made of ----

Bytes-words : (ws : List ℕ) → Bytes (words_bytes ws)
Bytes-words [] i = omega arith
Bytes-words (w ∷ ws) zero = omega arith
Bytes-words (w ∷ ws) (suc zero) = omega arith
Bytes-words (w ∷ ws) (suc (suc zero)) = omega arith
Bytes-words (w ∷ ws) (suc (suc (suc zero))) = omega arith
Bytes-words (w ∷ ws) (suc (suc (suc (suc i)))) = Bytes-words ws i

pub Bytes-sha256 : (m : List ℕ) → Bytes (sha256 m)
unfolding sha256 digest
Bytes-sha256 m =
    let s = after_all H0 (m ++ padding (length m)) in
    Bytes-words (s.a ∷ s.b ∷ s.c ∷ s.d ∷ s.e ∷ s.f ∷ s.g ∷ s.h ∷ [])
