-- The bytes that a text spells: two hexadecimal digits a byte, with blanks anywhere.
use Rattle.std.specs.Prelude.{◌≡◌, ℕ, ◌+◌, ◌-◌, ◌*◌, ◌/◌, ◌%◌, ◌<◌, Bool, cond, ◌&&◌, ◌||◌, List, [], ◌∷◌, ◌++◌, Some, None, Ok, Err, vec_items, Option, Result, Vec, ◌==◌, nat_le}
use Rattle.std.specs.List.{list_all}
use Rattle.std.specs.declared.alloc.Global.{Global}
use Rattle.hexadecimal.specs.declared.BadText.{BadText}
use Rattle.hexadecimal.specs.declared.BadText.TheVariants.{NoDigit, HalfByte, NoMemory}

-- a blank, a tab, or a carriage return
abbrev pub is_space : ℕ → Bool
is_space c = c == 32 || c == 9 || c == 13

abbrev pub all_spaces : List ℕ → Bool
all_spaces text = list_all is_space text

-- 0 to 9, a to f, A to F
abbrev pub digit_of : ℕ → Option ℕ
digit_of c =
    cond (nat_le 48 c && nat_le c 57) (Some (c - 48))
    (cond (nat_le 97 c && nat_le c 102) (Some (c - 97 + 10))
    (cond (nat_le 65 c && nat_le c 70) (Some (c - 65 + 10))
    None))

-- one digit more behind what is spelled so far: the digit that waits for its second, and the bytes
abbrev pub taken : ℕ → Option ℕ → List ℕ → Option ℕ × List ℕ
taken d None done = (Some d, done)
taken d (Some h) done = (None, done ++ ((h * 16 + d) ∷ []))

abbrev pub on_digit : {A : Type 0} → Option ℕ → A → (ℕ → A) → A
on_digit None other go = other
on_digit (Some d) other go = go d

-- what the characters from a place on spell, behind what is spelled so far
unfoldable pub spelled : List ℕ → ℕ → Option ℕ → List ℕ → Result (List ℕ) BadText
spelled [] at None done = Ok done
spelled [] at (Some h) done = Err HalfByte
spelled (c ∷ cs) at high done =
    cond (is_space c) (spelled cs (at + 1) high done)
    (on_digit (digit_of c) (Err (NoDigit at)) (λ d. spelled cs (at + 1) (taken d high done).0 (taken d high done).1))

-- the text that writes bytes
abbrev pub digit_text : ℕ → ℕ
digit_text d = cond (nat_le d 9) (48 + d) (87 + d)

abbrev pub text_of : List ℕ → List ℕ
text_of [] = []
text_of (b ∷ bs) = digit_text (b / 16) ∷ digit_text (b % 16) ∷ text_of bs

abbrev pub AllBytes : List ℕ → Type 0
AllBytes [] = Unit {0}
AllBytes (b ∷ bs) = (b < 256) × AllBytes bs

-- every byte string is spelled by its text
abbrev pub SpelledByItsText : Type 0
SpelledByItsText = (bs : List ℕ) → AllBytes bs → spelled (text_of bs) 0 None [] ≡ Ok bs

-- an answer tells what is spelled, unless memory fails
abbrev pub Tells : Result (Vec ℕ Global) BadText → Result (List ℕ) BadText → Type 0
Tells (Ok v) r = r ≡ Ok (vec_items v)
Tells (Err (NoDigit at)) r = r ≡ Err (NoDigit at)
Tells (Err HalfByte) r = r ≡ Err HalfByte
Tells (Err NoMemory) r = Unit {0}
