-- A check of another kind: it vouches for what a tag repeats, up to so many bytes.
use Rattle.std.specs.Prelude.{ℕ, ◌&&◌, length, nat_le}
use Rattle.std.proofs.Common.{leb-true}
use Rattle.std.specs.Str.{bytes_eq}
use Rattle.checks.specs.Vouching.{Vouched, Short, both}

abbrev pub echoed : ℕ → Vouched
echoed most site m tag = nat_le (length m) 64 && (nat_le (length m) most && bytes_eq tag m)

pub Short-echoed : (most : ℕ) → Short (echoed most)
Short-echoed most site m tag e = leb-true (length m) 64 (both (nat_le (length m) 64) _ e)
