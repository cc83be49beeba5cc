-- Parts of bytes are bytes, and so are bytes put together.
use Rattle.std.proofs.Common.{ℕ, zero, suc, ◌+◌, List, [], ◌∷◌, ◌++◌, length, take, drop, arith}
use Rattle.std.proofs.lemmas.List.{get_or-drop}
use Rattle.buffers.specs.Words.{Bytes}
use Rattle.buffers.specs.Lays.{laid}

pub bytes_take : (n : ℕ) (b : List ℕ) → Bytes b → Bytes (take n b)
bytes_take zero b h i = omega arith
bytes_take (suc n) [] h i = omega arith
bytes_take (suc n) (x ∷ b) h zero = h 0
bytes_take (suc n) (x ∷ b) h (suc i) = bytes_take n b (λ j. h (suc j)) i

pub bytes_drop : (n : ℕ) (b : List ℕ) → Bytes b → Bytes (drop n b)
bytes_drop n b h i = let e = get_or-drop n b i 0 in let k = h (n + i) in rw e k

pub bytes_append : (a b : List ℕ) → Bytes a → Bytes b → Bytes (a ++ b)
bytes_append [] b h k i = k i
bytes_append (x ∷ a) b h k zero = h 0
bytes_append (x ∷ a) b h k (suc i) = bytes_append a b (λ j. h (suc j)) k i

pub bytes_laid : (o : List ℕ) (at : ℕ) (xs : List ℕ) → Bytes o → Bytes xs → Bytes (laid o at xs)
unfolding laid
bytes_laid o at xs h k =
    bytes_append (take at o) (xs ++ drop (at + length xs) o) (bytes_take at o h) (bytes_append xs (drop (at + length xs) o) k (bytes_drop (at + length xs) o h))
