-- The changes that hear makes, one by one.
use Rattle.std.specs.Prelude.{ℕ, Bool, cond, List, ◌++◌, length, drop, set, Some}
use Rattle.values.specs.declared.fix.Value.{Value}
use Rattle.values.specs.declared.fix.Report.{Report}
use Rattle.wire.specs.declared.statement.Statement.TheVariants.{Commit}
use Rattle.records.specs.Rows.{with_prepare}
use Rattle.records.specs.Books.{Books}
use Rattle.records.specs.Kept.{membership_of, Decided, Kept, kept_of}
use Rattle.calls.specs.declared.record.Record.{Record}
use Rattle.calls.specs.Effects.{Output, draft, output_bytes, settle, own_claim, certificate_from}

-- out, with what is written at its start
abbrev pub onto : Output → List ℕ → List ℕ
onto output out = output_bytes output ++ drop (length (output_bytes output)) out

-- books of these bytes
abbrev pub shelf : List ℕ → List ℕ → List ℕ → Books
shelf tags certificate views = record { tags = tags; certificate = certificate; views = views }

-- a value in a view
abbrev pub viewed : ℕ → Value → Report
viewed view d = record { view = view; value = d }

-- the row of site j holds d, with so many bytes of a tag
abbrev pub with_row : ℕ → Value → ℕ → Kept → Kept
with_row j d len k = record k { rows = with_prepare k.rows j d; lengths = record k.lengths { tags = set k.lengths.tags j len } }

-- the last commit is r, with so many bytes of a certificate
abbrev pub committed_to : Report → ℕ → Kept → Kept
committed_to r len k = record k { committed = Some r; lengths = record k.lengths { certificate = len } }

-- the same, if a test says so
abbrev pub certified : Bool → Report → ℕ → Kept → Kept
certified b r len k = record k { committed = cond b (Some r) k.committed; lengths = record k.lengths { certificate = cond b len k.lengths.certificate } }

-- a decision, if it is reached and the first
abbrev pub settled : Bool → Decided → Kept → Kept
settled reached x k = record k { decision = settle k.decision reached x }

-- ---- a commit ----

-- the commit certificate of d that the record's rows of prepares and the tag book make
abbrev pub certificate_of : Record → List ℕ → Value → List ℕ
certificate_of r tags d = certificate_from (membership_of r.member) r.round.rows.prepares tags r.round.lengths.tags d

-- the commit of d, drafted with it
abbrev pub committing : Record → List ℕ → Value → Output
committing r tags d = draft (Commit (own_claim (membership_of r.member) (kept_of r.round) d)) (certificate_of r tags d)
