-- Bytes, and words of 32 bits: four bytes, the highest first.
use Rattle.std.specs.Prelude.{ℕ, ◌+◌, ◌*◌, ◌/◌, ◌%◌, ◌<◌, List, [], ◌∷◌, ◌++◌, Some, None, Option, slice_index}

-- the elements of a list are bytes
abbrev pub Bytes : List ℕ → Type 0
Bytes b = (i : ℕ) → slice_index b i < 256

-- the word that the four bytes from a place on write
unfoldable pub word_from : List ℕ → ℕ → ℕ
word_from b at = slice_index b at * 16777216 + slice_index b (at + 1) * 65536 + slice_index b (at + 2) * 256 + slice_index b (at + 3)

-- the bytes that write a word
abbrev pub word_bytes : ℕ → List ℕ
word_bytes w = w / 16777216 % 256 ∷ w / 65536 % 256 ∷ w / 256 % 256 ∷ w % 256 ∷ []

-- a word that says whether there is a thing, and the bytes that write it
abbrev pub optional : {A : Type 0} → (A → List ℕ) → Option A → List ℕ
optional write None = word_bytes 0
optional write (Some x) = word_bytes 1 ++ write x
