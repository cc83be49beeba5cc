-- What a call leaves once all its tests are passed: the record, the books, what it writes to the start of out, and its answer.
use Rattle.std.specs.Prelude.{ℕ, ◌+◌, ◌*◌, Bool, true, false, cond, List, [], ◌++◌, length, set, Some, None, Option, ◌==◌, nat_le}
use Rattle.buffers.specs.Words.{word_bytes}
use Rattle.buffers.specs.Lays.{laid}
use Rattle.values.specs.declared.fix.Value.{Value}
use Rattle.values.specs.declared.fix.Report.{Report}
use Rattle.values.specs.Fleets.{sites, fast_quorum, recovery_quorum, progress_quorum}
use Rattle.verdicts.specs.Told.{Told}
use Rattle.verdicts.specs.Rule.{Finding, free, forced, conflict}
use Rattle.wire.specs.declared.statement.Head.{Head}
use Rattle.wire.specs.declared.statement.Claim.{Claim}
use Rattle.wire.specs.declared.statement.Statement.{Statement}
use Rattle.wire.specs.declared.statement.Statement.TheVariants.{Propose, Prepare, Commit, NewView}
use Rattle.wire.specs.Contents.{statement_bytes, tag_bytes}
use Rattle.agreement.specs.Sites.{size}
use Rattle.agreement.specs.Moves.{holders}
use Rattle.records.specs.Sizes.{tag_row, certificate_size, view_row}
use Rattle.records.specs.Rows.{no_rows, row_of, with_prepare, with_commit}
use Rattle.records.specs.Books.{Books, held, held_row}
use Rattle.records.specs.Kept.{Membership, fast, recovery, Decided, Kept, no_lengths}
use Rattle.calls.specs.Gathering.{members, joined, gathered, own_progress}

-- what is written to the start of out
pub data Output : Type 0 where
  nothing : Output
  -- a draft: a statement, and what it attaches
  draft : Statement → List ℕ → Output
  -- a sealed message
  message : List ℕ → Output

abbrev pub output_bytes : Output → List ℕ
output_bytes nothing = []
output_bytes (draft s attached) = statement_bytes s ++ attached
output_bytes (message b) = b

-- the statement drafted
abbrev pub drafted : Output → Option Statement
drafted nothing = None
drafted (draft s attached) = Some s
drafted (message b) = None

-- what propose answers: how many bytes it drafted
pub record Proposed : Type 0 where
  pub bytes : ℕ

-- what hear answers: what it did, and how many bytes it drafted
pub record Heard : Type 0 where
  pub what : ℕ
  pub bytes : ℕ

-- what a call answers, as callers are told it
pub data Answer : Type 0 where
  by_propose : Proposed → Answer
  by_hear : Heard → Answer
  -- leave and seal: how many bytes they wrote
  wrote : ℕ → Answer
  -- judge
  judged : Told → Answer
  -- read
  found : Option Decided → Answer

abbrev pub proposed : ℕ → Answer
proposed n = by_propose (record { bytes = n })

abbrev pub heard : ℕ → ℕ → Answer
heard what n = by_hear (record { what = what; bytes = n })

-- the round, view and site that a statement begins with
abbrev pub head_of : Statement → Head
head_of (Propose c) = c.head
head_of (Prepare c) = c.head
head_of (Commit c) = c.head
head_of (NewView c) = c.head

pub record Effect : Type 0 where
  pub kept : Kept
  pub books : Books
  pub output : Output
  pub answer : Answer

-- what hear did
abbrev pub noted : ℕ
noted = 0

abbrev pub gathered_all : ℕ
gathered_all = 1

abbrev pub decided : ℕ
decided = 2

-- the first decision stays, and the hear that makes it answers decided
abbrev pub settle : Option Decided → Bool → Decided → Option Decided
settle (Some x) reached y = Some x
settle None reached y = cond reached (Some y) None

abbrev pub settling : Option Decided → Bool → ℕ
settling (Some x) reached = noted
settling None reached = cond reached decided noted

-- the value to propose
abbrev pub choice : Finding → Value → Value
choice free d = d
choice (forced r c) d = r.value
choice conflict d = d

module _ (m : Membership) where
  -- how many sites' rows hold the value
  abbrev pub holding : List (Option Value) → Value → ℕ
  holding rows d = size (holders (row_of rows) d) (sites m.f m.t)

  -- the tags of the sites whose rows hold d make a commit certificate
  abbrev pub certificate_from : List (Option Value) → List ℕ → List ℕ → Value → List ℕ
  certificate_from rows tags lengths d =
      let voters = members (holders (row_of rows) d) 0 (sites m.f m.t) in
      word_bytes (length voters) ++ joined (λ j. word_bytes j ++ held_row tags (tag_row m.limit) lengths j) voters

  -- the head of what the site says in its view
  abbrev pub own_head : Kept → Head
  own_head k = record { round = k.round; view = k.view; site = m.own }

  -- what the site says of a value in its view
  abbrev pub own_claim : Kept → Value → Claim
  own_claim k d = record { head = own_head k; value = d }

  -- ---- leaving a view, and the new-view message ----

  -- the view is left for a higher one: rows and gathered new-views are gone, and nothing is proposed. Last prepare and commit,
  -- the certificate and the decision stay
  abbrev pub moved_to : ℕ → Kept → Kept
  moved_to view k =
      record k { view = view; proposed = false; rows = no_rows; lengths = record no_lengths { certificate = k.lengths.certificate } }

  -- the certificate of the last commit, if there is one
  abbrev pub last_certificate : Option Report → ℕ → List ℕ → List ℕ
  last_certificate None length book = []
  last_certificate (Some r) length book = held length (held (certificate_size m.f m.t m.limit) book)

  -- the new-view message of the site's view: what it last prepared and committed, with the certificate of the commit
  abbrev pub new_view_draft : Kept → Books → Output
  new_view_draft k books =
      draft (NewView (record { head = own_head k; prepared = k.prepared; committed = k.committed })) (last_certificate k.committed k.lengths.certificate books.certificate)

  module _ (k : Kept) (books : Books) where
    abbrev pub here : Value → Report
    here d = record { view = k.view; value = d }

    -- nothing changes
    abbrev pub unchanged : Answer → Effect
    unchanged answer = record { kept = k; books = books; output = nothing; answer = answer }

    -- ---- propose ----

    abbrev pub proposing : Value → Effect
    proposing d =
        let output = draft (Propose (own_claim k d)) (own_progress m k books.views) in
        record {
          kept = record k { proposed = true };
          books = books;
          output = output;
          answer = proposed (length (output_bytes output));
        }

    -- ---- hear ----

    -- the proposal is prepared
    abbrev pub preparing : Value → Effect
    preparing d =
        let output = draft (Prepare (own_claim k d)) [] in
        record {
          kept = record k { prepared = Some (here d) };
          books = books;
          output = output;
          answer = heard noted (length (output_bytes output));
        }

    -- a prepare fills the sender's row and its row of the tag book; the first recovery quorum of one value is the last
    -- commit, with its certificate, and a fast quorum decides
    abbrev pub counting_prepare : ℕ → Value → List ℕ → Effect
    counting_prepare j d tag =
        let rows = with_prepare k.rows j d in
        let tags = laid books.tags (j * tag_row m.limit) (tag_bytes tag) in
        let lengths = set k.lengths.tags j (length (tag_bytes tag)) in
        let many = holding rows.prepares d in
        let certifies = many == recovery_quorum m.f m.t in
        let certificate = certificate_from rows.prepares tags lengths d in
        let output = cond certifies (draft (Commit (own_claim k d)) certificate) nothing in
        let at_once = nat_le (fast_quorum m.f m.t) many in
        record {
          kept = record k {
            committed = cond certifies (Some (here d)) k.committed;
            rows = rows;
            lengths = record k.lengths { tags = lengths; certificate = cond certifies (length certificate) k.lengths.certificate };
            decision = settle k.decision at_once (record { report = here d; way = fast });
          };
          books = record books { tags = tags; certificate = cond certifies (laid books.certificate 0 certificate) books.certificate };
          output = output;
          answer = heard (settling k.decision at_once) (length (output_bytes output));
        }

    -- a commit fills the sender's row; a recovery quorum of one value decides
    abbrev pub counting_commit : ℕ → Value → Effect
    counting_commit j d =
        let rows = with_commit k.rows j d in
        let reached = nat_le (recovery_quorum m.f m.t) (holding rows.commits d) in
        record {
          kept = record k { rows = rows; decision = settle k.decision reached (record { report = here d; way = recovery }) };
          books = books;
          output = nothing;
          answer = heard (settling k.decision reached) 0;
        }

    -- a new-view is copied into its row of the view book; the last of a progress quorum answers gathered
    abbrev pub gathering : ℕ → List ℕ → Effect
    gathering j packet =
        record {
          kept = record k { lengths = record k.lengths { views = set k.lengths.views j (length packet) } };
          books = record books { views = laid books.views (j * view_row m.f m.t m.limit) packet };
          output = nothing;
          answer = heard (cond (length (gathered m k) + 1 == progress_quorum m.f m.t) gathered_all noted) 0;
        }

    -- ---- leave ----

    abbrev pub leaving : ℕ → Effect
    leaving view =
        let output = new_view_draft (moved_to view k) books in
        record { kept = moved_to view k; books = books; output = output; answer = wrote (length (output_bytes output)) }
