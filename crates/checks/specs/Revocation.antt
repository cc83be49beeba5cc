-- Revoked sites, over any check.
use Rattle.std.specs.Prelude.{◌≡◌, ℕ, ◌≤◌, Bool, true, false, cond, List, length, slice_index_or}
use Rattle.std.proofs.Common.{arith}
use Rattle.checks.specs.Vouching.{Vouched, Short}

-- nothing for a site that is revoked; a site without a mark is not
abbrev pub unless_revoked : List Bool → Vouched → Vouched
unless_revoked revoked below site m tag = cond (slice_index_or revoked site false) false (below site m tag)

pub Short-unless_revoked : (revoked : List Bool) (v : Vouched) → Short v → Short (unless_revoked revoked v)
Short-unless_revoked revoked v h site m tag = by (slice_index_or revoked site false)
  where
    by : (b : Bool) → cond b false (v site m tag) ≡ true → length m ≤ 64
    by true e = absurd (let z : ◌≡◌ {A = ℕ} 0 1 = cc in omega arith)
    by false e = h site m tag e

-- for a site that is not revoked a list vouches as the check below, and for one that is revoked never
abbrev pub UnrevokedAsBelow : Type 0
UnrevokedAsBelow = (revoked : List Bool) (below : Vouched) (site : ℕ) (m tag : List ℕ)
    → (slice_index_or revoked site false ≡ false → unless_revoked revoked below site m tag ≡ below site m tag)
    × (slice_index_or revoked site false ≡ true → unless_revoked revoked below site m tag ≡ false)
