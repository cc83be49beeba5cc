-- The chains of a one-time signature, for a hash of any width.
use Rattle.std.proofs.Common.{◌≡◌, ℕ, suc, ◌+◌, ◌-◌, ◌%◌, ◌<◌, ◌≤◌, List, ◌∷◌, ◌++◌, length, get_or, take, sym, refl, ap, ◌∙◌, append_assoc, add-one, arith, length-append}
use Rattle.std.specs.List.{sum_by}
use Rattle.std.proofs.lemmas.List.Recursion.{is_sum_by}
use Rattle.buffers.specs.Lays.{Lays}
use Rattle.buffers.proofs.Laying.{then}
use Rattle.sha256.specs.Sha256.{padding, H0, compressed, digest, sha256}
use Rattle.sha256.proofs.Blocks.{sha256_block}
use Rattle.lms.specs.Lms.{u16str, nth, hashed, Cksm, chain, z, ends}

-- ---- one chain ----

-- one step more: the block that it hashes is its text and the padding
pub step_more : (n i a j : ℕ) (Iq y string block h r : List ℕ) → n ≤ 32 → length Iq ≡ 20 → length string ≡ n → a ≤ j → j < 256 → string ≡ chain n Iq i a y (j - a) → block ≡ (Iq ++ (u16str i ++ (j ∷ string))) ++ padding (23 + n) → h ≡ digest (compressed H0 block) → r ≡ take n h → r ≡ chain n Iq i a y (j + 1 - a)
unfolding chain hashed
step_more n i a j Iq y string block h r narrow li ls la lj es eb eh er =
    let text = Iq ++ (u16str i ++ (j ∷ string)) in
    let long : length text ≡ 23 + n = omega (arith, length-append Iq (u16str i ++ (j ∷ string))) in
    let hash : h ≡ sha256 text = eh ∙ ap (λ b. digest (compressed H0 b)) (eb ∙ ap (λ k. text ++ padding k) (sym long)) ∙ sym (sha256_block text (omega arith)) in
    let s : j + 1 - a ≡ suc (j - a) = omega arith in
    let m : a + (j - a) ≡ j = omega arith in
    let b : j % 256 ≡ j = omega arith in
    er ∙ ap (take n) hash ∙ (rw (s, m, b, ← es) refl)

-- ---- the checksum ----

pub checksum_is : (S : List ℕ) → Cksm S ≡ sum_by (λ b. 255 - b) S
unfolding Cksm
checksum_is = is_sum_by Cksm (λ b. 255 - b) refl (λ _ _. refl)

-- ---- the ends of the chains ----

-- one end more behind the others
pub ends_more : {o text after : List ℕ} {at next : ℕ} (n i d : ℕ) (front Iq S y end : List ℕ) → d ≡ get_or S i 0 → end ≡ chain n Iq i d (nth n i y) (255 - d) → Lays o 0 (front ++ ends n Iq S y i) text at → Lays text at end after next → Lays o 0 (front ++ ends n Iq S y (i + 1)) after next
unfolding ends
ends_more n i d front Iq S y end ed ee l m =
    let e : end ≡ z n Iq S y i = ee ∙ ap (λ k. chain n Iq i k (nth n i y) (255 - k)) ed in
    let w : (front ++ ends n Iq S y i) ++ end ≡ front ++ ends n Iq S y (suc i) = append_assoc front (ends n Iq S y i) end ∙ ap (λ x. front ++ (ends n Iq S y i ++ x)) e in
    rw (add-one, ← w) (then l m)
