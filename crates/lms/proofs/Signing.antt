-- Every signature that a key makes is valid under it.
use Rattle.std.proofs.Common.{◌≡◌, ℕ, zero, suc, ◌+◌, ◌-◌, ◌*◌, ◌/◌, ◌%◌, ◌^◌, ◌<◌, ◌≤◌, ◌⊎◌, List, ◌++◌, length, take, drop, Some, sym, refl, ap, ◌∙◌, inl, inr, add-zero, add-suc, mul-le-mul_left, mul-zero, zero-add, mul-suc, div-one, add-one, arith, length-append, length-drop}
use Rattle.std.proofs.lemmas.Nat.{shr-shr}
use Rattle.std.proofs.lemmas.List.{drop-append-le, take-append-le, drop_at, take_all}
use Rattle.std.proofs.lemmas.Bool.{cases_lt, cases_eq, eq-eqb, ne_eqb, lt-ltb}
use Rattle.buffers.specs.Words.{Bytes, word_from}
use Rattle.sha256.specs.Sha256.{sha256}
use Rattle.sha256.proofs.Blocks.{Bytes-sha256}
use Rattle.lms.specs.Lms.{u8str, u16str, u32str, nth, coef, Form, m32_h5, hashed, D-PBLC, D-LEAF, D-INTR, Cksm, chain, z, ends, Q, summed, Kc, in_order, climbed, Tc, signature_of, key_of, valid}
use Rattle.lms.specs.Signing.{joined, one_time_key, y, T, public_key, sibling, path_node, signature, SignedIsValid}
use Rattle.buffers.proofs.Equal.{equal}
use Rattle.buffers.proofs.Bytes.{bytes_take, bytes_append}
use Rattle.buffers.proofs.Held.{front, next, whole, word_held, part_held}
use Rattle.lms.proofs.Texts.{length-hashed}

-- ---- strings one behind the other ----

module _ (n : ℕ) (f : ℕ → List ℕ) (long : (i : ℕ) → length (f i) ≡ n) where
  pub length-joined : (p : ℕ) → length (joined p f) ≡ n * p
  unfolding joined
  length-joined zero = sym (mul-zero n)
  length-joined (suc p) = length-append (joined p f) (f p) ∙ (let a = length-joined p in let b = long p in rw (a, b, mul-suc) (omega arith))

  -- string i of them is the i-th
  pub nth_joined : (p i : ℕ) → i < p → nth n i (joined p f) ≡ f i
  unfolding nth joined
  nth_joined zero i h = absurd (omega arith)
  nth_joined (suc p) i h = by (λ l. nth_joined p i l) (cases_lt i p)
    where
      all : length (joined p f) ≡ n * p
      all = length-joined p

      by : (i < p → nth n i (joined p f) ≡ f i) → (i < p) ⊎ (p ≤ i) → take n (drop (n * i) (joined p f ++ f p)) ≡ f i
      by rest (inl l) =
          let room : n * i + n ≤ n * p = omega (arith, mul-le-mul_left n l, mul-suc n i) in
          let d = drop-append-le (n * i) (joined p f) (f p) (omega (arith, all)) in
          let t = take-append-le n (drop (n * i) (joined p f)) (f p) (omega (arith, all, length-drop (n * i) (joined p f))) in
          ap (take n) d ∙ t ∙ rest l
      by rest (inr e) =
          let same : i ≡ p = omega arith in
          rw same (ap (take n) (drop_at (joined p f) (f p) (n * p) all) ∙ take_all n (f p) (omega (arith, long p)))

-- ---- one chain ----

-- steps from 0 on, and then steps from there on
pub chain_on : (n i a k : ℕ) (Iq s : List ℕ) → chain n Iq i 0 s (a + k) ≡ chain n Iq i a (chain n Iq i 0 s a) k
unfolding chain
chain_on n i a zero Iq s = rw add-zero refl
chain_on n i a (suc k) Iq s = rw (add-suc, zero-add) (ap (λ c. hashed n (Iq ++ (u16str i ++ (u8str (a + k) ++ c)))) (chain_on n i a k Iq s))

-- ---- the ends of the chains ----

module _ (n : ℕ) (Iq S : List ℕ) (x : ℕ → List ℕ) (narrow : n ≤ 32) (bytes : Bytes S) (long : (i : ℕ) → length (x i) ≡ n) where
  pub length-chain : (i a k : ℕ) (s : List ℕ) → length s ≡ n → length (chain n Iq i a s k) ≡ n
  unfolding chain
  length-chain i a zero s h = h
  length-chain i a (suc k) s h = length-hashed n _ narrow

  -- a string of a signature ends where its private string does
  end_is : (p i : ℕ) → i < p → z n Iq S (joined p (y n Iq S x)) i ≡ chain n Iq i 0 (x i) 255
  end_is p i h =
      let s = nth_joined n (y n Iq S x) (λ j. length-chain j 0 (coef S j) (x j) (long j)) p i h in
      let whole : coef S i + (255 - coef S i) ≡ 255 = omega (arith, bytes i) in
      ap (λ t. chain n Iq i (coef S i) t (255 - coef S i)) s
      ∙ sym (chain_on n i (coef S i) (255 - coef S i) Iq (x i))
      ∙ ap (chain n Iq i 0 (x i)) whole

  pub ends_are : (p k : ℕ) → k ≤ p → ends n Iq S (joined p (y n Iq S x)) k ≡ joined k (λ i. chain n Iq i 0 (x i) 255)
  unfolding ends joined
  ends_are p zero h = refl
  ends_are p (suc k) h = rw (ends_are p k (omega arith), end_is p k h) refl

-- ---- the way up the tree ----

-- the two children of a node's parent, in their order
children : (node : ℕ) (A : ℕ → List ℕ) → in_order node (A node) (A (sibling node)) ≡ A (2 * (node / 2)) ++ A (2 * (node / 2) + 1)
children node A = by (cases_eq (node % 2) 1)
  where
    by : (node % 2 ≡ 1) ⊎ (node % 2 ≡ 1 → ⊥) → in_order node (A node) (A (sibling node)) ≡ A (2 * (node / 2)) ++ A (2 * (node / 2) + 1)
    by (inl e) =
        let l : 2 * (node / 2) ≡ node - 1 = omega arith in
        let m : node - 1 + 1 ≡ node = omega arith in
        rw (eq-eqb (node % 2) 1 e, l, m) refl
    by (inr e) =
        let l : 2 * (node / 2) ≡ node = omega arith in
        rw (ne_eqb (node % 2) 1 e, l) refl

module _ (f : Form) (I : List ℕ) (x : ℕ → ℕ → List ℕ) (q : ℕ) (narrow : f.n ≤ 32) where
  pub length-T : (d r : ℕ) → length (T f I x d r) ≡ f.n
  unfolding T
  length-T zero r = length-hashed f.n _ narrow
  length-T (suc d) r = length-hashed f.n _ narrow

  -- on the way up stand the nodes of the tree
  pub climbed_is : (i : ℕ) → i ≤ f.h → climbed f.n I (joined f.h (path_node f I x q)) (2 ^ f.h + q) (T f I x 0 (2 ^ f.h + q)) i ≡ T f I x i ((2 ^ f.h + q) / 2 ^ i)
  unfolding climbed T
  climbed_is zero h = ap (T f I x 0) (sym (div-one (2 ^ f.h + q)))
  climbed_is (suc i) h =
      let r = 2 ^ f.h + q in
      let node = r / 2 ^ i in
      let below = climbed_is i (omega arith) in
      let other = nth_joined f.n (path_node f I x q) (λ j. length-T j (sibling (r / 2 ^ j))) f.h i h in
      let up : r / 2 ^ suc i ≡ node / 2 = sym (rw add-one at (shr-shr r i 1)) in
      rw (below, other, up) (ap (λ c. hashed f.n (I ++ (u32str (node / 2) ++ (D-INTR ++ c)))) (children node (T f I x i)))

-- ---- the law ----

-- the bytes of a key
key_read_lem : (I root : List ℕ) → length I ≡ 16 → length root ≡ 32 → key_of (u32str 5 ++ (u32str 4 ++ (I ++ root))) ≡ Some (record { form = m32_h5; I = I; root = root })
key_read_lem I root li lr =
    let key = u32str 5 ++ (u32str 4 ++ (I ++ root)) in
    let h0 = whole key in
    let h4 = next 4 (u32str 5) (u32str 4 ++ (I ++ root)) refl h0 in
    let h8 = next 4 (u32str 4) (I ++ root) refl h4 in
    let h24 = next 16 I root li h8 in
    let long : length key ≡ 56 = omega (arith, length-append I root) in
    let a = eq-eqb (length key) 56 long in
    let b = eq-eqb (word_from key 0) 5 (word_held key 0 5 (omega arith) (front (u32str 5) _ h0)) in
    let d = eq-eqb (word_from key 4) 4 (word_held key 4 4 (omega arith) (front (u32str 4) _ h4)) in
    let i = part_held 16 li (front I root h8) in
    let t = part_held 32 lr h24 in
    rw (a, b, d, i, t) refl

-- the bytes of a signature
signature_read_lem : (q : ℕ) (C ys path : List ℕ) → q < 32 → length C ≡ 32 → length ys ≡ 1088 → length path ≡ 160 → signature_of m32_h5 (u32str q ++ (u32str 4 ++ (C ++ (ys ++ (u32str 5 ++ path))))) ≡ Some (record { q = q; C = C; y = ys; path = path })
signature_read_lem q C ys path hq lc ly lp =
    let s = u32str q ++ (u32str 4 ++ (C ++ (ys ++ (u32str 5 ++ path)))) in
    let h0 = whole s in
    let h4 = next 4 (u32str q) (u32str 4 ++ (C ++ (ys ++ (u32str 5 ++ path)))) refl h0 in
    let h8 = next 4 (u32str 4) (C ++ (ys ++ (u32str 5 ++ path))) refl h4 in
    let h40 = next 32 C (ys ++ (u32str 5 ++ path)) lc h8 in
    let h1128 = next 1088 ys (u32str 5 ++ path) ly h40 in
    let h1132 = next 4 (u32str 5) path refl h1128 in
    let long : length s ≡ 1292 = omega (arith, length-append C (ys ++ (u32str 5 ++ path)), length-append ys (u32str 5 ++ path)) in
    let leaf = word_held s 0 q (omega arith) (front (u32str q) _ h0) in
    let a = eq-eqb (length s) 1292 long in
    let b = eq-eqb (word_from s 4) 4 (word_held s 4 4 (omega arith) (front (u32str 4) _ h4)) in
    let d = eq-eqb (word_from s 1128) 5 (word_held s 1128 5 (omega arith) (front (u32str 5) _ h1128)) in
    let e = lt-ltb q 32 hq in
    let c = part_held 32 lc (front C _ h8) in
    let w = part_held 1088 ly (front ys _ h40) in
    let t = part_held 160 lp h1132 in
    rw (a, b, d, leaf, e, c, w, t) refl

-- the steps at which chains start are bytes
Bytes-u16str : (w : ℕ) → Bytes (u16str w)
Bytes-u16str w zero = omega arith
Bytes-u16str w (suc zero) = omega arith
Bytes-u16str w (suc (suc i)) = omega arith

Bytes-summed : (n : ℕ) (s : List ℕ) → Bytes (summed (hashed n s))
unfolding hashed
Bytes-summed n s = bytes_append (take n (sha256 s)) _ (bytes_take n (sha256 s) (Bytes-sha256 s)) (Bytes-u16str (Cksm (take n (sha256 s))))

module _ (I : List ℕ) (x : ℕ → ℕ → List ℕ) (q : ℕ) (C message : List ℕ) (long : (r i : ℕ) → length (x r i) ≡ 32) (small : q < 32) where
  abbrev steps : List ℕ
  steps = summed (Q 32 (I ++ u32str q) C message)

  abbrev strings : List ℕ
  strings = joined 34 (y 32 (I ++ u32str q) steps (x q))

  abbrev path : List ℕ
  path = joined 5 (path_node m32_h5 I x q)

  -- the strings of a signature lead to the one-time key of its leaf
  key_is : Kc 32 34 (I ++ u32str q) C strings message ≡ one_time_key 32 34 (I ++ u32str q) (x q)
  unfolding Kc one_time_key
  key_is =
      ap (λ e. hashed 32 ((I ++ u32str q) ++ (D-PBLC ++ e)))
      (ends_are 32 (I ++ u32str q) steps (x q) (omega arith) (Bytes-summed 32 _) (λ i. long q i) 34 34 (omega arith))

  leaf_is : (K : List ℕ) → K ≡ one_time_key 32 34 (I ++ u32str q) (x q) → hashed 32 (I ++ (u32str (32 + q) ++ (D-LEAF ++ K))) ≡ T m32_h5 I x 0 (32 + q)
  unfolding T
  leaf_is K e =
      let back : 32 + q - 32 ≡ q = omega arith in
      ap (λ k. hashed 32 (I ++ (u32str (32 + q) ++ (D-LEAF ++ k)))) (e ∙ sym (ap (λ k. one_time_key 32 34 (I ++ u32str k) (x k)) back))

  -- and that, with the path, to the root
  root_is : Tc 32 5 I q path (Kc 32 34 (I ++ u32str q) C strings message) ≡ T m32_h5 I x 5 1
  unfolding Tc
  root_is =
      let top : (32 + q) / 32 ≡ 1 = omega arith in
      ap (λ l. climbed 32 I path (32 + q) l 5) (leaf_is _ key_is)
      ∙ climbed_is m32_h5 I x q (omega arith) 5 (omega arith)
      ∙ ap (T m32_h5 I x 5) top

  long_strings : length strings ≡ 1088
  long_strings = length-joined 32 _ (λ i. length-chain 32 (I ++ u32str q) steps (x q) (omega arith) (Bytes-summed 32 _) (λ j. long q j) i 0 (coef steps i) (x q i) (long q i)) 34

  long_path : length path ≡ 160
  long_path = length-joined 32 _ (λ i. length-T m32_h5 I x q (omega arith) i (sibling ((32 + q) / 2 ^ i))) 5

pub signed_is_valid : SignedIsValid
unfolding valid public_key signature
signed_is_valid I x q C message li long small lc =
    let key = key_read_lem I (T m32_h5 I x 5 1) li (length-T m32_h5 I x q (omega arith) 5 1) in
    let sig = signature_read_lem q C (strings I x q C message long small) (path I x q C message long small) small lc (long_strings I x q C message long small) (long_path I x q C message long small) in
    rw (key, sig, root_is I x q C message long small) (equal (T m32_h5 I x 5 1))
