-- What packets hold, and the bytes that write it: each content has one byte string.
use Rattle.std.specs.Prelude.{ℕ, ◌+◌, ◌-◌, ◌*◌, ◌/◌, List, [], ◌∷◌, ◌++◌, length, replicate, Some, None, Option}
use Rattle.buffers.specs.Words.{word_bytes, optional}
use Rattle.values.specs.declared.fix.Report.{Report}
use Rattle.values.specs.Lines.{three_bytes, value_bytes, viewed_bytes}
use Rattle.wire.specs.declared.statement.Head.{Head}
use Rattle.wire.specs.declared.statement.Claim.{Claim}
use Rattle.wire.specs.declared.statement.ViewChange.{ViewChange}
use Rattle.wire.specs.declared.statement.Statement.{Statement}
use Rattle.wire.specs.declared.statement.Statement.TheVariants.{Propose, Prepare, Commit, NewView}

-- ---- statements ----

abbrev pub head_bytes : Head → List ℕ
head_bytes h = three_bytes h.round h.view h.site

-- a bool, and behind a 1 the view and the value
abbrev pub report_bytes : Option Report → List ℕ
report_bytes r = optional viewed_bytes r

abbrev pub claim_bytes : Claim → List ℕ
claim_bytes c = head_bytes c.head ++ value_bytes c.value

abbrev pub change_bytes : ViewChange → List ℕ
change_bytes c = head_bytes c.head ++ (report_bytes c.prepared ++ report_bytes c.committed)

-- the kinds' numbers
abbrev pub kind_of : Statement → ℕ
kind_of (Propose c) = 1
kind_of (Prepare c) = 2
kind_of (Commit c) = 3
kind_of (NewView c) = 4

abbrev pub body_bytes : Statement → List ℕ
body_bytes (Propose c) = claim_bytes c
body_bytes (Prepare c) = claim_bytes c
body_bytes (Commit c) = claim_bytes c
body_bytes (NewView c) = change_bytes c

abbrev pub statement_bytes : Statement → List ℕ
statement_bytes s = word_bytes (kind_of s) ++ body_bytes s

-- ---- tags and certificates ----

-- the next multiple of four
abbrev pub padded : ℕ → ℕ
padded n = (n + 3) / 4 * 4

-- a length word, the bytes, and zeros up to a multiple of four
abbrev pub tag_bytes : List ℕ → List ℕ
tag_bytes t = word_bytes (length t) ++ (t ++ replicate (padded (length t) - length t) 0)

-- an entry of a commit certificate: a site, and the tag of its prepare
pub record Vote : Type 0 where
  pub site : ℕ
  pub tag : List ℕ

abbrev pub vote_bytes : Vote → List ℕ
vote_bytes v = word_bytes v.site ++ tag_bytes v.tag

abbrev pub votes_bytes : List Vote → List ℕ
votes_bytes [] = []
votes_bytes (v ∷ vs) = vote_bytes v ++ votes_bytes vs

abbrev pub certificate_bytes : List Vote → List ℕ
certificate_bytes vs = word_bytes (length vs) ++ votes_bytes vs

-- ---- messages ----

-- a reported commit, with its commit certificate
pub record Certified : Type 0 where
  pub report : Report
  pub votes : List Vote

abbrev pub reported : Option Certified → Option Report
reported None = None
reported (Some c) = Some c.report

abbrev pub certified_bytes : Option Certified → List ℕ
certified_bytes None = []
certified_bytes (Some c) = certificate_bytes c.votes

-- a whole new-view message
pub record Turn : Type 0 where
  pub head : Head
  pub prepared : Option Report
  pub committed : Option Certified
  pub tag : List ℕ

abbrev pub change_of : Turn → ViewChange
change_of m = record { head = m.head; prepared = m.prepared; committed = reported m.committed }

unfoldable pub turn_bytes : Turn → List ℕ
turn_bytes m = statement_bytes (NewView (change_of m)) ++ (tag_bytes m.tag ++ certified_bytes m.committed)

abbrev pub turns_bytes : List Turn → List ℕ
turns_bytes [] = []
turns_bytes (m ∷ ms) = turn_bytes m ++ turns_bytes ms

-- a progress certificate
abbrev pub progress_bytes : List Turn → List ℕ
progress_bytes ms = word_bytes (length ms) ++ turns_bytes ms

-- a message: a statement, its tag, and what its kind attaches
pub data Content : Type 0 where
  propose : Claim → List ℕ → List Turn → Content
  prepare : Claim → List ℕ → Content
  commit : Claim → List ℕ → List Vote → Content
  new_view : Turn → Content

abbrev pub statement_of : Content → Statement
statement_of (propose c t ms) = Propose c
statement_of (prepare c t) = Prepare c
statement_of (commit c t vs) = Commit c
statement_of (new_view m) = NewView (change_of m)

abbrev pub tag_of : Content → List ℕ
tag_of (propose c t ms) = t
tag_of (prepare c t) = t
tag_of (commit c t vs) = t
tag_of (new_view m) = m.tag

abbrev pub attachment_bytes : Content → List ℕ
attachment_bytes (propose c t ms) = progress_bytes ms
attachment_bytes (prepare c t) = []
attachment_bytes (commit c t vs) = certificate_bytes vs
attachment_bytes (new_view m) = certified_bytes m.committed

abbrev pub message_bytes : Content → List ℕ
message_bytes m = statement_bytes (statement_of m) ++ (tag_bytes (tag_of m) ++ attachment_bytes m)

-- a draft is a message without its outer tag
abbrev pub draft_bytes : Content → List ℕ
draft_bytes m = statement_bytes (statement_of m) ++ attachment_bytes m

abbrev pub with_tag : List ℕ → Content → Content
with_tag t (propose c u ms) = propose c t ms
with_tag t (prepare c u) = prepare c t
with_tag t (commit c u vs) = commit c t vs
with_tag t (new_view m) = new_view (record { head = m.head; prepared = m.prepared; committed = m.committed; tag = t })
