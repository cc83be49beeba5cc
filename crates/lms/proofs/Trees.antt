-- The way from a leaf up to the root, for a hash of any width.
use Rattle.std.proofs.Common.{◌≡◌, ℕ, suc, ◌+◌, ◌/◌, ◌^◌, List, ◌++◌, sym, ap, ◌∙◌, add-one}
use Rattle.std.proofs.lemmas.Nat.{shr-shr}
use Rattle.lms.specs.Lms.{u32str, nth, D-INTR, hashed, in_order, climbed}

pub node_above : (r i node : ℕ) → node ≡ r / 2 ^ i → node / 2 ≡ r / 2 ^ (i + 1)
node_above r i node e = ap (λ k. k / 2) e ∙ shr-shr r i 1

-- one level up
pub level_up : (n r i node : ℕ) (I path leaf value sibling above : List ℕ) → node ≡ r / 2 ^ i → value ≡ climbed n I path r leaf i → sibling ≡ nth n i path → above ≡ hashed n (I ++ (u32str (node / 2) ++ (D-INTR ++ in_order node value sibling))) → above ≡ climbed n I path r leaf (i + 1)
unfolding climbed
level_up n r i node I path leaf value sibling above en ev es e =
    let up : r / 2 ^ suc i ≡ node / 2 = sym (rw add-one at (node_above r i node en)) in
    rw (add-one, up, ← en, ← ev, ← es) e
