-- The bytes that write a value, and a report of one.
use Rattle.std.specs.Prelude.{ℕ, List, ◌++◌}
use Rattle.buffers.specs.Words.{word_bytes}
use Rattle.values.specs.declared.fix.Value.{Value}
use Rattle.values.specs.declared.fix.Report.{Report}

abbrev pub three_bytes : ℕ → ℕ → ℕ → List ℕ
three_bytes x y z = word_bytes x ++ (word_bytes y ++ word_bytes z)

abbrev pub value_bytes : Value → List ℕ
value_bytes v = three_bytes v.first v.second v.third

-- the view, and the value
abbrev pub viewed_bytes : Report → List ℕ
viewed_bytes r = word_bytes r.view ++ value_bytes r.value
