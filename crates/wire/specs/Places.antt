-- Readings by their places.
use Rattle.std.specs.Prelude.{ℕ, zero, suc, ◌+◌, ◌≤◌, List, length, Ok, Err, Result}
use Rattle.wire.specs.declared.words.Malformed.{Malformed}
use Rattle.wire.specs.declared.tag.Part.{Part}
use Rattle.wire.specs.declared.certificate.Entry.{Entry}
use Rattle.wire.specs.Words.{bind}
use Rattle.wire.specs.Contents.{Vote}
use Rattle.wire.specs.Layout.{count_at}

-- a place behind at, within b
abbrev pub Inside : ℕ → ℕ → List ℕ → Type 0
Inside at end b = (at ≤ end) × (end ≤ length b)

-- only the place behind what is read
abbrev pub behind : {A : Type 0} → Result (A × ℕ) Malformed → Result ℕ Malformed
behind (Ok p) = Ok p.1
behind (Err e) = Err e

-- the place behind so many things
abbrev pub many_end : (ℕ → Result ℕ Malformed) → ℕ → ℕ → Result ℕ Malformed
many_end one zero at = Ok at
many_end one (suc n) at = bind (one at) (many_end one n)

-- the place behind a count word and so many things
abbrev pub counted_end : (ℕ → Result ℕ Malformed) → List ℕ → ℕ → Result ℕ Malformed
counted_end one b at = bind (count_at b at) (λ n. many_end one n (at + 4))

-- a tag as it is read: its bytes, and the place behind
abbrev pub tag_read : Result (Part × ℕ) Malformed → Result (List ℕ × ℕ) Malformed
tag_read (Ok p) = Ok (p.0.bytes.now, p.1)
tag_read (Err e) = Err e

-- an entry of a commit certificate as it is read
abbrev pub entry_read : Result (Entry × ℕ) Malformed → Result (Vote × ℕ) Malformed
entry_read (Ok p) = Ok (record { site = p.0.site; tag = p.0.tag.bytes.now }, p.1)
entry_read (Err e) = Err e
