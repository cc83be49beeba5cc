-- Words of a packet, and how readings follow one another.
use Rattle.std.specs.Prelude.{ℕ, ◌+◌, cond, List, length, Ok, Err, Result, nat_le}
use Rattle.buffers.specs.Words.{word_from}
use Rattle.wire.specs.declared.words.Malformed.{Malformed}

-- what a reading answers goes on to the next, and a fault ends it
abbrev pub bind : {A B : Type 0} → Result A Malformed → (A → Result B Malformed) → Result B Malformed
bind (Ok a) next = next a
bind (Err e) next = Err e

abbrev pub fault : {A : Type 0} → ℕ → Result A Malformed
fault at = Err (record { place = at })

-- the word that stands at a place of b, or the fault that it is cut
unfoldable pub word_at : List ℕ → ℕ → Result ℕ Malformed
word_at b at = cond (nat_le (at + 4) (length b)) (Ok (word_from b at)) (fault at)
