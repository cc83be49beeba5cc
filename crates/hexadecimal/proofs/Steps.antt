-- One character more, and the end of a text.
use Rattle.std.proofs.Common.{◌≡◌, ℕ, ◌+◌, ◌*◌, ◌/◌, ◌%◌, ◌<◌, ◌≤◌, true, false, List, [], ◌∷◌, ◌++◌, length, get_or, drop, is_some, Some, None, Ok, Err, Option, sym, refl, ap, ◌∙◌, append_assoc, append-nil, div-add-mod', arith}
use Rattle.std.proofs.lemmas.List.{at_drop_more, at_drop_all}
use Rattle.std.proofs.lemmas.Nat.{div_below}
use Rattle.std.proofs.lemmas.Bool.Decides.{nat_tests}
use Rattle.std.proofs.lemmas.Bool.{true≢false, false≢true}
use Rattle.hexadecimal.specs.declared.BadText.TheVariants.{NoDigit, HalfByte}
use Rattle.hexadecimal.specs.Spelling.{is_space, digit_of, taken, spelled, digit_text, text_of, AllBytes, SpelledByItsText}

module _ (text : List ℕ) (at : ℕ) (high : Option ℕ) (done : List ℕ) where
  first : at < length text → spelled (drop at text) at high done ≡ spelled (get_or text at 0 ∷ drop (at + 1) text) at high done
  first l = at_drop_more (λ cs. spelled cs at high done) text at 0 l

  pub on_space : at < length text → is_space (get_or text at 0) ≡ true → spelled (drop (at + 1) text) (at + 1) high done ≡ spelled (drop at text) at high done
  unfolding spelled
  on_space l e = sym (first l ∙ rw e)

  pub on_other : at < length text → is_space (get_or text at 0) ≡ false → digit_of (get_or text at 0) ≡ None → spelled (drop at text) at high done ≡ Err (NoDigit at)
  unfolding spelled
  on_other l e f = first l ∙ rw (e, f)

  on_taken : (d : ℕ) → at < length text → is_space (get_or text at 0) ≡ false → digit_of (get_or text at 0) ≡ Some d
      → spelled (drop at text) at high done ≡ spelled (drop (at + 1) text) (at + 1) (taken d high done).0 (taken d high done).1
  unfolding spelled
  on_taken d l e f = first l ∙ rw (e, f)

  pub on_digit_lem : (d : ℕ) (p : Option ℕ × List ℕ) → at < length text → is_space (get_or text at 0) ≡ false → digit_of (get_or text at 0) ≡ Some d → p ≡ taken d high done
      → spelled (drop (at + 1) text) (at + 1) p.0 p.1 ≡ spelled (drop at text) at high done
  on_digit_lem d p l e f g = ap (λ (q : Option ℕ × List ℕ). spelled (drop (at + 1) text) (at + 1) q.0 q.1) g ∙ sym (on_taken d l e f)

  at_end : length text ≤ at → spelled (drop at text) at high done ≡ spelled [] at high done
  at_end l = at_drop_all (λ cs. spelled cs at high done) text at l

half : (at : ℕ) (high : Option ℕ) (done : List ℕ) → is_some high ≡ true → spelled [] at high done ≡ Err HalfByte
unfolding spelled
half at None done e = absurd (false≢true e)
half at (Some h) done e = refl

full : (at : ℕ) (high : Option ℕ) (done : List ℕ) → is_some high ≡ false → spelled [] at high done ≡ Ok done
unfolding spelled
full at None done e = refl
full at (Some h) done e = absurd (true≢false e)

pub ends_half : (text : List ℕ) (at : ℕ) (high : Option ℕ) (done : List ℕ) → length text ≤ at → is_some high ≡ true → spelled (drop at text) at high done ≡ Err HalfByte
ends_half text at high done l e = at_end text at high done l ∙ half at high done e

pub ends_full : (text : List ℕ) (at : ℕ) (high : Option ℕ) (done : List ℕ) → length text ≤ at → is_some high ≡ false → spelled (drop at text) at high done ≡ Ok done
ends_full text at high done l e = at_end text at high done l ∙ full at high done e

-- ---- texts ----

text_space : (d : ℕ) → d < 16 → is_space (digit_text d) ≡ false
text_space d h = grind (arith, nat_tests)

text_digit : (d : ℕ) → d < 16 → digit_of (digit_text d) ≡ Some d
text_digit d h = grind (arith, nat_tests)

halves : (b : ℕ) → b / 16 * 16 + b % 16 ≡ b
halves b = div-add-mod' b 16

one_byte : (b : ℕ) (cs : List ℕ) (at : ℕ) (done : List ℕ) → b < 256 → spelled (digit_text (b / 16) ∷ digit_text (b % 16) ∷ cs) at None done ≡ spelled cs (at + 1 + 1) None (done ++ (b ∷ []))
unfolding spelled
one_byte b cs at done h =
    let high : b / 16 < 16 = div_below b 16 16 (omega arith) h in
    let low : b % 16 < 16 = omega arith in
    rw (text_space (b / 16) high, text_digit (b / 16) high, text_space (b % 16) low, text_digit (b % 16) low, halves b)

text_spells : (bs : List ℕ) (at : ℕ) (done : List ℕ) → AllBytes bs → spelled (text_of bs) at None done ≡ Ok (done ++ bs)
unfolding spelled
text_spells [] at done h = ap Ok (sym (append-nil done))
text_spells (b ∷ bs) at done h = one_byte b (text_of bs) at done h.0 ∙ text_spells bs (at + 1 + 1) (done ++ (b ∷ [])) h.1 ∙ ap Ok (append_assoc done (b ∷ []) bs)

pub spelled_by_its_text : SpelledByItsText
spelled_by_its_text bs h = text_spells bs 0 [] h
