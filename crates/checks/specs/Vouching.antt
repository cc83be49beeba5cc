-- What a check means: the triples of a site, a statement and a tag that it vouches for.
use Rattle.std.specs.Prelude.{◌≡◌, ℕ, ◌≤◌, Bool, true, false, ◌&&◌, List, length, refl}

-- a set of triples, by its test
abbrev pub Vouched : Type 0
Vouched = ℕ → List ℕ → List ℕ → Bool

-- none of them has a statement above 64 bytes
abbrev pub Short : Vouched → Type 0
Short v = (site : ℕ) (m tag : List ℕ) → v site m tag ≡ true → length m ≤ 64

-- where two tests hold, the first does
pub both : (a b : Bool) → (a && b) ≡ true → a ≡ true
both true b e = refl
both false b e = e
