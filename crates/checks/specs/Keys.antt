-- LMS keys: the tag is the site's signature of the statement.
use Rattle.std.specs.Prelude.{◌≡◌, ℕ, ◌<◌, ◌≤◌, true, ◌&&◌, List, [], length, nat_le, nat_lt, slice_index_or}
use Rattle.std.proofs.Common.{leb-true}
use Rattle.lms.specs.Lms.{m32_h5, valid}
use Rattle.lms.specs.Signing.{public_key, signature}
use Rattle.checks.specs.Vouching.{Vouched, Short, both}

-- the site has a key, and the tag is a signature of the statement that is valid under it
abbrev pub signed : List (List ℕ) → Vouched
signed keys site m tag = nat_le (length m) 64 && nat_lt site 16 && valid (slice_index_or keys site []) m tag

pub Short-signed : (keys : List (List ℕ)) → Short (signed keys)
Short-signed keys site m tag e = leb-true (length m) 64 (both (nat_le (length m) 64) _ (both (nat_le (length m) 64 && _) _ e))

-- a private key: an identifier, and strings for each leaf and chain
pub record PrivateKey : Type 0 where
  pub I : List ℕ
  pub x : ℕ → ℕ → List ℕ
  pub identifier : length I ≡ 16
  pub strings : (q i : ℕ) → length (x q i) ≡ 32

-- the site's key in the table is the public key of k
abbrev pub KeyOf : List (List ℕ) → ℕ → PrivateKey → Type 0
KeyOf keys site k = (site < 16) × (slice_index_or keys site [] ≡ public_key m32_h5 k.I k.x)

-- a table of keys vouches for what a site's own key has signed, with any of its leaves
abbrev pub SignedIsVouched : Type 0
SignedIsVouched = (keys : List (List ℕ)) (site : ℕ) (k : PrivateKey) (q : ℕ) (C m : List ℕ) → KeyOf keys site k → q < 32 → length C ≡ 32 → length m ≤ 64
    → signed keys site m (signature m32_h5 k.I k.x q C m) ≡ true
