-- Texts that are put together in a buffer, and their hashes.
use Rattle.std.proofs.Common.{◌≡◌, ℕ, ◌≤◌, List, length, get_or, ◌<◌, sym, ap, ◌∙◌, arith}
use Rattle.std.proofs.lemmas.List.{take_all, length-take-le}
use Rattle.std.specs.Simd.{first_chunks}
use Rattle.buffers.specs.Lays.{Lays}
use Rattle.buffers.proofs.Laying.{filled}
use Rattle.sha256.specs.Sha256.{sha256}
use Rattle.sha256.proofs.Blocks.{length-sha256, get_or-first_chunks}
use Rattle.lms.specs.Lms.{hashed, nth}

-- the hash of 32 bytes is SHA-256
pub hashed_32 : (s : List ℕ) → sha256 s ≡ hashed 32 s
unfolding hashed
hashed_32 s = sym (take_all 32 (sha256 s) (omega (arith, length-sha256 s)))

pub length-hashed : (n : ℕ) (s : List ℕ) → n ≤ 32 → length (hashed n s) ≡ n
unfolding hashed
length-hashed n s h = length-take-le n (sha256 s) (omega (arith, length-sha256 s))

-- the hash of a buffer that a text fills
pub hashed_text : {o o' text : List ℕ} {n : ℕ} (h : List ℕ) → Lays o 0 text o' n → n ≡ length o → h ≡ sha256 o' → h ≡ hashed 32 text
hashed_text {o} {o'} {text} h e k s = s ∙ ap sha256 (filled e k) ∙ hashed_32 text

-- string i, as code cuts it out
pub chunk_is : (n k i : ℕ) (s : List ℕ) (cs : List (List ℕ)) (d : List ℕ) → cs ≡ first_chunks n k s → i < k → get_or cs i d ≡ nth n i s
unfolding nth
chunk_is n k i s cs d e h = ap (λ l. get_or l i d) e ∙ get_or-first_chunks n k s i d h
