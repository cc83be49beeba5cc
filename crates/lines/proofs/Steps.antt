-- One character more, and the end of a word.
use Rattle.std.proofs.Common.{◌≡◌, ℕ, ◌+◌, ◌<◌, ◌≤◌, ◌==◌, false, List, length, get_or, drop, Some, None, sym, ◌∙◌}
use Rattle.std.proofs.lemmas.List.{at_drop_more, at_drop_all}
use Rattle.lines.specs.Numbers.{digit_of, behind, read_on, number_of}

module _ (word : List ℕ) (at n : ℕ) where
  first : at < length word → read_on (Some n) (drop at word) ≡ read_on (behind n (digit_of (get_or word at 0))) (drop (at + 1) word)
  unfolding read_on
  first l = at_drop_more (λ cs. read_on (Some n) cs) word at 0 l

  pub goes_on : (m : ℕ) → at < length word → behind n (digit_of (get_or word at 0)) ≡ Some m
      → read_on (Some m) (drop (at + 1) word) ≡ read_on (Some n) (drop at word)
  goes_on m l e = sym (first l ∙ rw e)

  pub stops : at < length word → behind n (digit_of (get_or word at 0)) ≡ None → read_on (Some n) (drop at word) ≡ None
  unfolding read_on
  stops l e = first l ∙ rw e

  pub ends : length word ≤ at → read_on (Some n) (drop at word) ≡ Some n
  unfolding read_on
  ends l = at_drop_all (λ cs. read_on (Some n) cs) word at l

pub whole : (word : List ℕ) → (length word == 0) ≡ false → number_of word ≡ read_on (Some 0) word
whole word e = rw e
