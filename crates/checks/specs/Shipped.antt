-- The check that is shipped: revoked sites, over the port, over LMS keys.
use Rattle.std.specs.Prelude.{◌≡◌, ℕ, ◌<◌, ◌≤◌, Bool, true, false, List, ◌++◌, length, slice_index_or}
use Rattle.buffers.specs.Words.{word_bytes}
use Rattle.lms.specs.Lms.{m32_h5}
use Rattle.lms.specs.Signing.{signature}
use Rattle.checks.specs.Vouching.{Vouched, Short}
use Rattle.checks.specs.Keys.{signed, PrivateKey, KeyOf}
use Rattle.checks.specs.Revocation.{unless_revoked, Short-unless_revoked}
use Rattle.checks.specs.Port.{with_port, Short-with_port}

abbrev pub shipped : List Bool → ℕ → List (List ℕ) → Vouched
shipped revoked port keys = unless_revoked revoked (with_port port (signed keys))

pub Short-shipped : (revoked : List Bool) (port : ℕ) (keys : List (List ℕ)) → Short (shipped revoked port keys)
Short-shipped revoked port keys = Short-unless_revoked revoked (with_port port (signed keys)) (Short-with_port port (signed keys))

-- it vouches for what the key of a site that is not revoked has signed for the port
abbrev pub SignedForThePort : Type 0
SignedForThePort = (revoked : List Bool) (port : ℕ) (keys : List (List ℕ)) (site : ℕ) (k : PrivateKey) (q : ℕ) (C m : List ℕ) → KeyOf keys site k → q < 32 → length C ≡ 32 → slice_index_or revoked site false ≡ false → length m ≤ 60
    → shipped revoked port keys site m (signature m32_h5 k.I k.x q C (word_bytes port ++ m)) ≡ true
