-- SHA-256 as FIPS 180-4 defines it, section by section, over words of 32 bits and over bytes.
use Rattle.std.specs.Prelude.{ℕ, zero, suc, ◌+◌, ◌-◌, ◌*◌, ◌/◌, ◌%◌, ◌^◌, cond, List, [], ◌∷◌, ◌++◌, length, take, drop, replicate, bit_and, bit_or, bit_xor, nat_lt, slice_index}
use Rattle.buffers.specs.Words.{word_from, word_bytes}
use Rattle.sha256.specs.declared.compression.State.{State}

-- ---- 2.2.2 and 3.2: operations on words ----

infixl 6 ◌⊞◌
-- addition modulo 2 ^ 32
abbrev pub ◌⊞◌ : ℕ → ℕ → ℕ
x ⊞ y = (x + y) % 2 ^ 32

-- the complement
abbrev pub flip : ℕ → ℕ
flip x = 2 ^ 32 - 1 - x

-- the shift and the rotation to the right by n bits
abbrev pub SHR : ℕ → ℕ → ℕ
SHR n x = x / 2 ^ n

abbrev pub ROTR : ℕ → ℕ → ℕ
ROTR n x = bit_or (x / 2 ^ n) ((x * 2 ^ (32 - n)) % 2 ^ 32)

-- ---- 4.1.2: the six functions ----

abbrev pub Ch : ℕ → ℕ → ℕ → ℕ
Ch x y z = bit_xor (bit_and x y) (bit_and (flip x) z)

abbrev pub Maj : ℕ → ℕ → ℕ → ℕ
Maj x y z = bit_xor (bit_xor (bit_and x y) (bit_and x z)) (bit_and y z)

abbrev pub Σ0 : ℕ → ℕ
Σ0 x = bit_xor (bit_xor (ROTR 2 x) (ROTR 13 x)) (ROTR 22 x)

abbrev pub Σ1 : ℕ → ℕ
Σ1 x = bit_xor (bit_xor (ROTR 6 x) (ROTR 11 x)) (ROTR 25 x)

abbrev pub σ0 : ℕ → ℕ
σ0 x = bit_xor (bit_xor (ROTR 7 x) (ROTR 18 x)) (SHR 3 x)

abbrev pub σ1 : ℕ → ℕ
σ1 x = bit_xor (bit_xor (ROTR 17 x) (ROTR 19 x)) (SHR 10 x)

-- ---- 4.2.2: the constants ----

abbrev pub K : List ℕ
K =
    0x428a2f98 ∷ 0x71374491 ∷ 0xb5c0fbcf ∷ 0xe9b5dba5 ∷ 0x3956c25b ∷ 0x59f111f1 ∷ 0x923f82a4 ∷ 0xab1c5ed5 ∷
    0xd807aa98 ∷ 0x12835b01 ∷ 0x243185be ∷ 0x550c7dc3 ∷ 0x72be5d74 ∷ 0x80deb1fe ∷ 0x9bdc06a7 ∷ 0xc19bf174 ∷
    0xe49b69c1 ∷ 0xefbe4786 ∷ 0x0fc19dc6 ∷ 0x240ca1cc ∷ 0x2de92c6f ∷ 0x4a7484aa ∷ 0x5cb0a9dc ∷ 0x76f988da ∷
    0x983e5152 ∷ 0xa831c66d ∷ 0xb00327c8 ∷ 0xbf597fc7 ∷ 0xc6e00bf3 ∷ 0xd5a79147 ∷ 0x06ca6351 ∷ 0x14292967 ∷
    0x27b70a85 ∷ 0x2e1b2138 ∷ 0x4d2c6dfc ∷ 0x53380d13 ∷ 0x650a7354 ∷ 0x766a0abb ∷ 0x81c2c92e ∷ 0x92722c85 ∷
    0xa2bfe8a1 ∷ 0xa81a664b ∷ 0xc24b8b70 ∷ 0xc76c51a3 ∷ 0xd192e819 ∷ 0xd6990624 ∷ 0xf40e3585 ∷ 0x106aa070 ∷
    0x19a4c116 ∷ 0x1e376c08 ∷ 0x2748774c ∷ 0x34b0bcb5 ∷ 0x391c0cb3 ∷ 0x4ed8aa4a ∷ 0x5b9cca4f ∷ 0x682e6ff3 ∷
    0x748f82ee ∷ 0x78a5636f ∷ 0x84c87814 ∷ 0x8cc70208 ∷ 0x90befffa ∷ 0xa4506ceb ∷ 0xbef9a3f7 ∷ 0xc67178f2 ∷ []

-- ---- 5.1.1: padding ----

-- a number as a block of 64 bits
abbrev pub block64 : ℕ → List ℕ
block64 l = word_bytes (l / 2 ^ 32) ++ word_bytes l

-- how many zero bytes stand behind the byte that begins with the one bit
abbrev pub zero_bytes : ℕ → ℕ
zero_bytes n = (119 - n % 64) % 64

-- what is put behind a message of n bytes: a one bit, zero bits, and the length in bits
unfoldable pub padding : ℕ → List ℕ
padding n = 0x80 ∷ (replicate (zero_bytes n) 0 ++ block64 (8 * n))

-- ---- 5.3.3: the initial hash value ----

abbrev pub H0 : State
H0 =
    record {
      a = 0x6a09e667;
      b = 0xbb67ae85;
      c = 0x3c6ef372;
      d = 0xa54ff53a;
      e = 0x510e527f;
      f = 0x9b05688c;
      g = 0x1f83d9ab;
      h = 0x5be0cd19;
    }

-- ---- 6.2.2: the hash computation ----

-- step 1: word t of the message schedule, from the block's bytes m and the words w before it
unfoldable pub W : ℕ → List ℕ → List ℕ → ℕ
W t m w =
    cond (nat_lt t 16)
    (word_from m (4 * t))
    (σ1 (slice_index w (t - 2)) ⊞ slice_index w (t - 7) ⊞ σ0 (slice_index w (t - 15)) ⊞ slice_index w (t - 16))

-- the first t words of the message schedule
unfoldable pub schedule : ℕ → List ℕ → List ℕ
schedule zero m = []
schedule (suc t) m = schedule t m ++ W t m (schedule t m) ∷ []

-- the words that are the block's own
abbrev pub first_words : List ℕ → List ℕ
first_words w = take 16 w

-- step 3: one round, with its constant k and its word w of the schedule
abbrev pub T1 : State → ℕ → ℕ → ℕ
T1 s k w = s.h ⊞ Σ1 s.e ⊞ Ch s.e s.f s.g ⊞ k ⊞ w

abbrev pub T2 : State → ℕ
T2 s = Σ0 s.a ⊞ Maj s.a s.b s.c

abbrev pub round : State → ℕ → ℕ → State
round s k w =
    record {
      h = s.g;
      g = s.f;
      f = s.e;
      e = s.d ⊞ T1 s k w;
      d = s.c;
      c = s.b;
      b = s.a;
      a = T1 s k w ⊞ T2 s;
    }

-- the first t rounds, from the working variables of step 2 on
unfoldable pub rounds : ℕ → State → List ℕ → State
rounds zero s w = s
rounds (suc t) s w = round (rounds t s w) (slice_index K t) (slice_index w t)

-- step 4: the intermediate hash value
abbrev pub added : State → State → State
added v s =
    record {
      a = v.a ⊞ s.a;
      b = v.b ⊞ s.b;
      c = v.c ⊞ s.c;
      d = v.d ⊞ s.d;
      e = v.e ⊞ s.e;
      f = v.f ⊞ s.f;
      g = v.g ⊞ s.g;
      h = v.h ⊞ s.h;
    }

-- the hash value after one block of 64 bytes
unfoldable pub compressed : State → List ℕ → State
compressed s m = added (rounds 64 s (schedule 64 m)) s

-- the hash value after the first n blocks
unfoldable pub after : ℕ → State → List ℕ → State
after zero s m = s
after (suc n) s m = compressed (after n s m) (take 64 (drop (64 * n) m))

-- the hash value after all blocks
abbrev pub after_all : State → List ℕ → State
after_all s m = after (length m / 64) s m

-- the message digest: the words of the last hash value, one behind the other
abbrev pub words_bytes : List ℕ → List ℕ
words_bytes [] = []
words_bytes (w ∷ ws) = word_bytes w ++ words_bytes ws

unfoldable pub digest : State → List ℕ
digest s = words_bytes (s.a ∷ s.b ∷ s.c ∷ s.d ∷ s.e ∷ s.f ∷ s.g ∷ s.h ∷ [])

unfoldable pub sha256 : List ℕ → List ℕ
sha256 m = digest (after_all H0 (m ++ padding (length m)))
