-- What stands at a place of a list, and words that stand there.
use Rattle.std.proofs.Common.{◌≡◌, ℕ, ◌+◌, ◌/◌, ◌%◌, ◌^◌, ◌<◌, List, [], ◌++◌, length, get_or, take, drop, sym, ap, ◌∙◌, append_assoc, append-nil, arith}
use Rattle.std.proofs.lemmas.List.{get_or-drop, drop-drop, drop_at, take_at}
use Rattle.std.proofs.lemmas.Nat.{from_be_bytes-to_be_bytes_4}
use Rattle.buffers.specs.Words.{word_from, word_bytes}

-- at a place of b stands xs, and then the rest
pub record Held (b : List ℕ) (at : ℕ) (xs : List ℕ) : Type 0 where
  pub rest : List ℕ
  pub is : drop at b ≡ xs ++ rest

pub front : {b : List ℕ} {at : ℕ} (xs ys : List ℕ) → Held b at (xs ++ ys) → Held b at xs
front xs ys h = record { rest = ys ++ h.rest; is = h.is ∙ append_assoc xs ys h.rest }

pub next : {b : List ℕ} {at : ℕ} (n : ℕ) (xs ys : List ℕ) → length xs ≡ n → Held b at (xs ++ ys) → Held b (at + n) ys
next {b} {at} n xs ys e h =
    record {
      rest = h.rest;
      is = sym (drop-drop n at b) ∙ ap (drop n) (h.is ∙ append_assoc xs ys h.rest) ∙ drop_at xs (ys ++ h.rest) n e;
    }

pub whole : (xs : List ℕ) → Held xs 0 xs
whole xs = record { rest = []; is = sym (append-nil xs) }

-- the word that stands at a place
pub word_held : (b : List ℕ) (at w : ℕ) → w < 2 ^ 32 → Held b at (word_bytes w) → word_from b at ≡ w
unfolding word_from
word_held b at w f h =
    let z : at ≡ at + 0 = omega arith in
    let d0 : get_or b at 0 ≡ w / 16777216 % 256 = ap (λ k. get_or b k 0) z ∙ sym (get_or-drop at b 0 0) ∙ ap (λ l. get_or l 0 0) h.is in
    let d1 : get_or b (at + 1) 0 ≡ w / 65536 % 256 = sym (get_or-drop at b 1 0) ∙ ap (λ l. get_or l 1 0) h.is in
    let d2 : get_or b (at + 2) 0 ≡ w / 256 % 256 = sym (get_or-drop at b 2 0) ∙ ap (λ l. get_or l 2 0) h.is in
    let d3 : get_or b (at + 3) 0 ≡ w % 256 = sym (get_or-drop at b 3 0) ∙ ap (λ l. get_or l 3 0) h.is in
    rw (d0, d1, d2, d3) (from_be_bytes-to_be_bytes_4 w f)

-- so many bytes from a place on
pub part_held : {b xs : List ℕ} {at : ℕ} (n : ℕ) → length xs ≡ n → Held b at xs → take n (drop at b) ≡ xs
part_held {b} {xs} n e h = ap (take n) h.is ∙ take_at xs h.rest n e
