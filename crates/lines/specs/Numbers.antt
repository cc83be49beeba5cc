-- Decimal numbers of 32 bits.
use Rattle.std.specs.Prelude.{ℕ, ◌+◌, ◌-◌, ◌*◌, ◌^◌, cond, ◌&&◌, ◌==◌, List, [], ◌∷◌, length, Some, None, Option, nat_le, nat_lt}

-- 0 to 9
abbrev pub digit_of : ℕ → Option ℕ
digit_of c = cond (nat_le 48 c && nat_le c 57) (Some (c - 48)) None

-- a digit more behind a number, if that still fits 32 bits
abbrev pub behind : ℕ → Option ℕ → Option ℕ
behind n None = None
behind n (Some d) = cond (nat_lt (n * 10 + d) (2 ^ 32)) (Some (n * 10 + d)) None

-- what digits write, behind a number
unfoldable pub read_on : Option ℕ → List ℕ → Option ℕ
read_on None cs = None
read_on (Some n) [] = Some n
read_on (Some n) (c ∷ cs) = read_on (behind n (digit_of c)) cs

-- at least one digit, and nothing else
abbrev pub number_of : List ℕ → Option ℕ
number_of word = cond (length word == 0) None (read_on (Some 0) word)
