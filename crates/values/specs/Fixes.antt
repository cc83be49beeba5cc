-- Fixes, and the three words that write one.
use Rattle.std.specs.Prelude.{ℕ, ◌/◌, ◌%◌, Bool, cond, ◌&&◌, ℤ, pos, negsuc, Ok, Err, Result, int_le, nat_le}
use Rattle.std.proofs.Common.{to_z, of_z}
use Rattle.std.specs.Int.{w32}
use Rattle.values.specs.declared.fix.Value.{Value}
use Rattle.values.specs.declared.fix.Angle.{Angle}
use Rattle.values.specs.declared.fix.Fix.{Fix}
use Rattle.values.specs.Refusals.{Refused, illegal}

-- 1/10,000 minutes, as degrees, minutes and the rest
abbrev pub angle_of : ℕ → Angle
angle_of n = record { degrees = n / 600000; minutes = n / 10000 % 60; parts = n % 10000 }

-- longitude and latitude are words in two's complement
abbrev pub fix_of : Value → Fix
fix_of v = record { track = v.first; longitude = to_z w32 v.second; latitude = to_z w32 v.third }

abbrev pub words_of : Fix → Value
words_of f = record { first = f.track; second = of_z w32 f.longitude; third = of_z w32 f.latitude }

abbrev pub between_z : ℤ → ℤ → ℤ → Bool
between_z low high z = int_le low z && int_le z high

abbrev pub legal_track : ℕ → Bool
legal_track n = nat_le 1 n && nat_le n 999

-- a track from 1 to 999, a longitude from -108,000,000 to 108,000,000, a latitude from -54,000,000 to 54,000,000
unfoldable pub legal : Fix → Bool
legal f =
    legal_track f.track
    && between_z (negsuc 107999999) (pos 108000000) f.longitude
    && between_z (negsuc 53999999) (pos 54000000) f.latitude

-- the words of a legal fix
abbrev pub legal_value : Value → Bool
legal_value v = legal (fix_of v)

-- the test of a value that stands at a place
abbrev pub legal_at : Value → ℕ → Result (Unit {0}) Refused
legal_at v place = cond (legal_value v) (Ok tt) (Err (illegal place))
