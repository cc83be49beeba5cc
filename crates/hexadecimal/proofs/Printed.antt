-- The text of bytes, printed byte by byte.
use Rattle.std.proofs.Common.{◌≡◌, ℕ, ◌+◌, ◌<◌, ◌^◌, ◌/◌, ◌%◌, ◌-◌, false, List, [], ◌∷◌, ◌++◌, length, get_or, take, refl, ap, sym, ◌∙◌, arith}
use Rattle.std.specs.Fmt.{digit_glyph, digits, padded_integral, format_spec}
use Rattle.std.proofs.lemmas.Fmt.{hex_byte}
use Rattle.std.proofs.lemmas.List.{take_more}
use Rattle.std.proofs.lemmas.Bool.Decides.{nat_tests}
use Rattle.hexadecimal.specs.Spelling.{digit_text, text_of}

text_of_more : (bs : List ℕ) (b : ℕ) → text_of (bs ++ (b ∷ [])) ≡ text_of bs ++ text_of (b ∷ [])
text_of_more [] b = refl
text_of_more (c ∷ cs) b = ap (λ text. digit_text (c / 16) ∷ digit_text (c % 16) ∷ text) (text_of_more cs b)

glyph : (d : ℕ) → digit_glyph false d ≡ digit_text d
glyph d = grind (arith, nat_tests)

printed_byte : (b : ℕ) → b < 256 → padded_integral (format_spec 32 0 4 2 (2 ^ 64 - 1)) false [] (digits 16 false b) ≡ text_of (b ∷ [])
printed_byte b h = hex_byte false b h ∙ rw (glyph (b / 16), glyph (b % 16))

-- the text so far, and a byte more
pub printed_more : (bs : List ℕ) (i : ℕ) → i < length bs → get_or bs i 0 < 256
    → text_of (take i bs) ++ padded_integral (format_spec 32 0 4 2 (2 ^ 64 - 1)) false [] (digits 16 false (get_or bs i 0)) ≡ text_of (take (i + 1) bs)
printed_more bs i l h =
    ap (λ text. text_of (take i bs) ++ text) (printed_byte (get_or bs i 0) h)
    ∙ sym (text_of_more (take i bs) (get_or bs i 0))
    ∙ sym (ap text_of (take_more bs i 0 l))
