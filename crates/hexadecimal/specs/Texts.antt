-- How a bad text is said to be bad.
use Rattle.std.specs.Prelude.{ℕ, List, ◌++◌, codes, decimal}
use Rattle.hexadecimal.specs.declared.BadText.{BadText}
use Rattle.hexadecimal.specs.declared.BadText.TheVariants.{NoDigit, HalfByte, NoMemory}

abbrev pub bad_text : BadText → List ℕ
bad_text (NoDigit at) = codes "no hexadecimal digit at character " ++ decimal at
bad_text HalfByte = codes "half a byte is left over"
bad_text NoMemory = codes "no memory for this line"
