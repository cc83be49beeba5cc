-- What the standard says of the padding, as a law about its definition.
use Rattle.std.specs.Prelude.{◌≡◌, ℕ, ◌+◌, ◌*◌, ◌%◌, ◌≤◌}
use Rattle.sha256.specs.Sha256.{zero_bytes}

-- The bits of a message of n bytes, the one bit and k zero bits fill all but 64 bits of their last block, and k is
-- the smallest such number: of these, 7 stand in the byte of the one bit, and the others are the zero bytes.
abbrev pub PaddingIsTheShortest : Type 0
PaddingIsTheShortest = (n : ℕ) →
    ((8 * n + 1 + (7 + 8 * zero_bytes n)) % 512 ≡ 448)
    × ((k : ℕ) → (8 * n + 1 + k) % 512 ≡ 448 → 7 + 8 * zero_bytes n ≤ k)
