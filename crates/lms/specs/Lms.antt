-- LMS signatures as RFC 8554 defines them, at Winternitz parameter w = 8 and for a hash of any width. Names are the
-- standard's own: || is ++, and INVALID is None.
use Rattle.std.specs.Prelude.{ℕ, zero, suc, ◌+◌, ◌-◌, ◌*◌, ◌/◌, ◌%◌, ◌^◌, Bool, false, cond, ◌&&◌, List, [], ◌∷◌, ◌++◌, length, take, drop, Some, None, Option, ◌==◌, nat_lt, slice_index}
use Rattle.std.specs.Str.{bytes_eq}
use Rattle.buffers.specs.Words.{word_from, word_bytes}
use Rattle.sha256.specs.Sha256.{sha256}

-- ---- 3.1: byte strings ----

abbrev pub u8str : ℕ → List ℕ
u8str i = i % 256 ∷ []

abbrev pub u16str : ℕ → List ℕ
u16str i = i / 256 % 256 ∷ i % 256 ∷ []

abbrev pub u32str : ℕ → List ℕ
u32str i = word_bytes i

-- so many bytes of a string, from byte at on
abbrev pub part : ℕ → ℕ → List ℕ → List ℕ
part at count s = take count (drop at s)

-- string i of those of n bytes that stand one behind the other
unfoldable pub nth : ℕ → ℕ → List ℕ → List ℕ
nth n i s = part (n * i) n s

-- 3.1.3: with w = 8, element i of a string is its byte i
abbrev pub coef : List ℕ → ℕ → ℕ
coef S i = slice_index S i

-- ---- 4.1 and 5.1: parameter sets ----

-- a one-time signature and a tree that go together: their typecodes, the bytes n of a hash (m in the tree), the
-- number p of strings in a one-time signature, and the height h of the tree
pub record Form : Type 0 where
  pub lms : ℕ
  pub ots : ℕ
  pub n : ℕ
  pub p : ℕ
  pub h : ℕ

-- LMS_SHA256_M32_H5 with LMOTS_SHA256_N32_W8
abbrev pub m32_h5 : Form
m32_h5 = record { lms = 5; ots = 4; n = 32; p = 34; h = 5 }

-- the hash of n bytes: the first n of SHA-256
unfoldable pub hashed : ℕ → List ℕ → List ℕ
hashed n s = take n (sha256 s)

-- 7.1: what keeps the uses of the hash apart
abbrev pub D-PBLC : List ℕ
D-PBLC = u16str 0x8080

abbrev pub D-MESG : List ℕ
D-MESG = u16str 0x8181

abbrev pub D-LEAF : List ℕ
D-LEAF = u16str 0x8282

abbrev pub D-INTR : List ℕ
D-INTR = u16str 0x8383

-- ---- 4.4: the checksum ----

unfoldable pub Cksm : List ℕ → ℕ
Cksm [] = 0
Cksm (b ∷ S) = (255 - b) + Cksm S

-- ---- 4.6, algorithm 4b: the candidate for the one-time public key ----
-- Iq is I || u32str(q)

-- the string y of chain i, after the steps j = a, a + 1, .. of which there are so many
unfoldable pub chain : ℕ → List ℕ → ℕ → ℕ → List ℕ → ℕ → List ℕ
chain n Iq i a y zero = y
chain n Iq i a y (suc k) = hashed n (Iq ++ (u16str i ++ (u8str (a + k) ++ chain n Iq i a y k)))

-- z[i]: its chain goes on from element i of S up to step 254
abbrev pub z : ℕ → List ℕ → List ℕ → List ℕ → ℕ → List ℕ
z n Iq S y i = chain n Iq i (coef S i) (nth n i y) (255 - coef S i)

-- z[0] || .. || z[p - 1]
unfoldable pub ends : ℕ → List ℕ → List ℕ → List ℕ → ℕ → List ℕ
ends n Iq S y zero = []
ends n Iq S y (suc p) = ends n Iq S y p ++ z n Iq S y p

-- step 3: Q, Q || Cksm(Q), and Kc
abbrev pub Q : ℕ → List ℕ → List ℕ → List ℕ → List ℕ
Q n Iq C message = hashed n (Iq ++ (D-MESG ++ (C ++ message)))

abbrev pub summed : List ℕ → List ℕ
summed q = q ++ u16str (Cksm q)

unfoldable pub Kc : ℕ → ℕ → List ℕ → List ℕ → List ℕ → List ℕ → List ℕ
Kc n p Iq C y message = hashed n (Iq ++ (D-PBLC ++ ends n Iq (summed (Q n Iq C message)) y p))

-- ---- 5.4.2, algorithm 6a: the candidate for the root ----

-- a node and its sibling, the left child first: a node with an odd number is the right child
abbrev pub in_order : ℕ → List ℕ → List ℕ → List ℕ
in_order r tmp sibling = cond (r % 2 == 1) (sibling ++ tmp) (tmp ++ sibling)

-- step 4: tmp, so many levels above the leaf that is node number r
unfoldable pub climbed : ℕ → List ℕ → List ℕ → ℕ → List ℕ → ℕ → List ℕ
climbed n I path r leaf zero = leaf
climbed n I path r leaf (suc i) =
    hashed n (I ++ (u32str (r / 2 ^ suc i) ++ (D-INTR ++ in_order (r / 2 ^ i) (climbed n I path r leaf i) (nth n i path))))

unfoldable pub Tc : ℕ → ℕ → List ℕ → ℕ → List ℕ → List ℕ → List ℕ
Tc n h I q path K = climbed n I path (2 ^ h + q) (hashed n (I ++ (u32str (2 ^ h + q) ++ (D-LEAF ++ K)))) h

-- a signature, taken apart: y are its p strings and path its h strings
pub record Signature : Type 0 where
  pub q : ℕ
  pub C : List ℕ
  pub y : List ℕ
  pub path : List ℕ

-- step 2: a signature has its two typecodes, a leaf's number and its exact length, or is invalid
abbrev pub signature_of : Form → List ℕ → Option Signature
signature_of f s =
    cond (
    (length s == 12 + f.n * (f.p + 1) + f.n * f.h)
    && word_from s 4 == f.ots
    && word_from s (8 + f.n * (f.p + 1)) == f.lms
    && nat_lt (word_from s 0) (2 ^ f.h))
    (Some (record {
      q = word_from s 0;
      C = part 8 f.n s;
      y = part (8 + f.n) (f.n * f.p) s;
      path = part (12 + f.n * (f.p + 1)) (f.n * f.h) s;
    }))
    None

-- steps 3 and 4
abbrev pub candidate : Form → List ℕ → List ℕ → Signature → List ℕ
candidate f I message s =
    Tc f.n f.h I s.q s.path (Kc f.n f.p (I ++ u32str s.q) s.C s.y message)

-- ---- 5.4.2, algorithm 6: whether a signature is valid ----

-- a public key, taken apart: root is T[1]
pub record Key : Type 0 where
  pub form : Form
  pub I : List ℕ
  pub root : List ℕ

-- steps 1 and 2: a key of a form has its two typecodes and its exact length, or is invalid
abbrev pub key_as : Form → List ℕ → Option Key
key_as f k =
    cond (length k == 24 + f.n && word_from k 0 == f.lms && word_from k 4 == f.ots)
    (Some (record { form = f; I = part 8 16 k; root = part 24 f.n k }))
    None

-- one form is known
abbrev pub key_of : List ℕ → Option Key
key_of k = key_as m32_h5 k

abbrev pub valid_for : Key → List ℕ → Option Signature → Bool
valid_for k message None = false
valid_for k message (Some s) = bytes_eq (candidate k.form k.I message s) k.root

abbrev pub valid_by : Option Key → List ℕ → List ℕ → Bool
valid_by None message signature = false
valid_by (Some k) message signature = valid_for k message (signature_of k.form signature)

-- steps 3 and 4
unfoldable pub valid : List ℕ → List ℕ → List ℕ → Bool
valid key message signature = valid_by (key_of key) message signature
