-- The port that statements are made for, over any check.
use Rattle.std.specs.Prelude.{◌≡◌, ℕ, ◌<◌, ◌≤◌, false, ◌&&◌, List, ◌++◌, length, nat_le}
use Rattle.std.proofs.Common.{arith, leb-true}
use Rattle.buffers.specs.Words.{word_bytes}
use Rattle.checks.specs.Vouching.{Vouched, Short, both}

-- a statement of at most 60 bytes, when the check below vouches for the port's word followed by it
abbrev pub with_port : ℕ → Vouched → Vouched
with_port port below site m tag = nat_le (length m) 60 && below site (word_bytes port ++ m) tag

pub Short-with_port : (port : ℕ) (v : Vouched) → Short (with_port port v)
Short-with_port port v site m tag e = let h = leb-true (length m) 60 (both (nat_le (length m) 60) _ e) in omega arith

-- a port prefix vouches for a short statement as the check below for the port's word with it behind
abbrev pub PrefixedAsBelow : Type 0
PrefixedAsBelow = (port : ℕ) (below : Vouched) (site : ℕ) (m tag : List ℕ)
    → (length m ≤ 60 → with_port port below site m tag ≡ below site (word_bytes port ++ m) tag)
    × (60 < length m → with_port port below site m tag ≡ false)
