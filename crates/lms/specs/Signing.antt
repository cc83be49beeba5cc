-- How keys and signatures are made. The library makes none: this is what verification is held against.
use Rattle.std.specs.Prelude.{◌≡◌, ℕ, zero, suc, ◌+◌, ◌-◌, ◌*◌, ◌/◌, ◌%◌, ◌^◌, ◌<◌, true, cond, List, [], ◌++◌, length, ◌==◌}
use Rattle.lms.specs.Lms.{u32str, coef, Form, m32_h5, hashed, D-PBLC, D-LEAF, D-INTR, chain, Q, summed, valid}

-- f 0 || .. || f (p - 1)
unfoldable pub joined : ℕ → (ℕ → List ℕ) → List ℕ
joined zero f = []
joined (suc p) f = joined p f ++ f p

-- ---- 4.3, algorithm 1: the one-time public key of the private strings x ----

unfoldable pub one_time_key : ℕ → ℕ → List ℕ → (ℕ → List ℕ) → List ℕ
one_time_key n p Iq x = hashed n (Iq ++ (D-PBLC ++ joined p (λ i. chain n Iq i 0 (x i) 255)))

-- ---- 4.5, algorithm 3: the strings of a one-time signature; S is Q || Cksm(Q) ----

abbrev pub y : ℕ → List ℕ → List ℕ → (ℕ → List ℕ) → ℕ → List ℕ
y n Iq S x i = chain n Iq i 0 (x i) (coef S i)

-- ---- 5.3: the tree over the keys of all leaves; x q are the private strings of leaf q ----

-- T[r], for a node r so many levels above the leaves
unfoldable pub T : Form → List ℕ → (ℕ → ℕ → List ℕ) → ℕ → ℕ → List ℕ
T f I x zero r =
    hashed f.n (I ++ (u32str r ++ (D-LEAF ++ one_time_key f.n f.p (I ++ u32str (r - 2 ^ f.h)) (x (r - 2 ^ f.h)))))
T f I x (suc d) r = hashed f.n (I ++ (u32str r ++ (D-INTR ++ (T f I x d (2 * r) ++ T f I x d (2 * r + 1)))))

unfoldable pub public_key : Form → List ℕ → (ℕ → ℕ → List ℕ) → List ℕ
public_key f I x = u32str f.lms ++ (u32str f.ots ++ (I ++ T f I x f.h 1))

-- ---- 5.4.1, algorithm 5: the signature of a message by leaf q ----

-- the other child of a node's parent
abbrev pub sibling : ℕ → ℕ
sibling r = cond (r % 2 == 1) (r - 1) (r + 1)

abbrev pub path_node : Form → List ℕ → (ℕ → ℕ → List ℕ) → ℕ → ℕ → List ℕ
path_node f I x q i = T f I x i (sibling ((2 ^ f.h + q) / 2 ^ i))

unfoldable pub signature : Form → List ℕ → (ℕ → ℕ → List ℕ) → ℕ → List ℕ → List ℕ → List ℕ
signature f I x q C message =
    u32str q ++ (u32str f.ots ++ (C ++
    (joined f.p (y f.n (I ++ u32str q) (summed (Q f.n (I ++ u32str q) C message)) (x q)) ++
    (u32str f.lms ++ joined f.h (path_node f I x q)))))

-- ---- the law ----

-- every signature that a key makes is valid under it: of any message, by any of its leaves
abbrev pub SignedIsValid : Type 0
SignedIsValid = (I : List ℕ) (x : ℕ → ℕ → List ℕ) (q : ℕ) (C message : List ℕ) →
    length I ≡ 16 → ((r i : ℕ) → length (x r i) ≡ 32) → q < 32 → length C ≡ 32 →
    valid (public_key m32_h5 I x) message (signature m32_h5 I x q C message) ≡ true
