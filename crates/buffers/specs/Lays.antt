-- Bytes laid over others at a place.
use Rattle.std.specs.Prelude.{◌≡◌, ℕ, ◌+◌, ◌≤◌, List, ◌++◌, length, take, drop}

unfoldable pub laid : List ℕ → ℕ → List ℕ → List ℕ
laid o at xs = take at o ++ (xs ++ drop (at + length xs) o)

-- o with xs laid over it at a place is o', and end is the place behind
pub record Lays (o : List ℕ) (at : ℕ) (xs o' : List ℕ) (end : ℕ) : Type 0 where
  pub is : o' ≡ laid o at xs
  pub ends : end ≡ at + length xs
  pub inside : end ≤ length o
