-- The table of rows: what was heard from each site in this view.
use Rattle.std.specs.Prelude.{ℕ, List, set, replicate, Some, None, Option, slice_index_or}
use Rattle.values.specs.declared.fix.Value.{Value}
use Rattle.records.specs.declared.rows.Rows.{Rows}

abbrev pub no_rows : Rows
no_rows = record { prepares = replicate 16 None; commits = replicate 16 None }

-- the row of site j
abbrev pub row_of : List (Option Value) → ℕ → Option Value
row_of xs j = slice_index_or xs j None

-- the row of site j is filled, and no other
abbrev pub with_prepare : Rows → ℕ → Value → Rows
with_prepare r j d = record { prepares = set r.prepares j (Some d); commits = r.commits }

abbrev pub with_commit : Rows → ℕ → Value → Rows
with_commit r j d = record { prepares = r.prepares; commits = set r.commits j (Some d) }
