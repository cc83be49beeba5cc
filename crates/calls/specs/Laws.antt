-- Laws of the calls of a site.
use Rattle.std.specs.Prelude.{◌≡◌, ◌≢◌, ℕ, ◌+◌, ◌^◌, ◌<◌, ◌≤◌, ◌⊎◌, ◌↔◌, ◌==◌, true, false, cond, List, [], ◌∷◌, ◌++◌, length, Some, None, Ok, Err, Option, Result, is_some, slice_index}
use Rattle.buffers.specs.Words.{Bytes}
use Rattle.values.specs.declared.fix.Value.{Value}
use Rattle.values.specs.declared.fix.Report.{Report}
use Rattle.values.specs.Fleets.{sites, legal_fleet, fast_quorum, recovery_quorum, progress_quorum, leader_of, legal_limit}
use Rattle.values.specs.Fixes.{legal_value}
use Rattle.values.specs.Refusals.{Refused}
use Rattle.verdicts.specs.Rule.{Finding, free, finding}
use Rattle.verdicts.specs.Told.{Told, finding_told}
use Rattle.wire.specs.declared.statement.ViewChange.{ViewChange}
use Rattle.wire.specs.declared.statement.Statement.{Statement}
use Rattle.wire.specs.declared.statement.Statement.TheVariants.{Propose, Prepare, Commit, NewView}
use Rattle.wire.specs.declared.statement.Claim.{Claim}
use Rattle.wire.specs.Contents.{statement_bytes, tag_bytes, Vote, certificate_bytes, Certified, reported, certified_bytes, Turn, progress_bytes, Content, propose, prepare, commit, new_view, change_of, statement_of, tag_of}
use Rattle.wire.specs.Layout.{message_of, progress_of}
use Rattle.packets.specs.Fits.{ValueFits, CertificateFits, CertifiedFits}
use Rattle.writing.specs.Written.{sealing}
use Rattle.checks.specs.Vouching.{Vouched}
use Rattle.agreement.specs.Sites.{listed}
use Rattle.agreement.specs.Statements.{Each}
use Rattle.certificates.specs.Steps.{Question, granted, passed}
use Rattle.certificates.specs.Examining.{change_steps, certificate_steps, certified_steps, behind_tag, entries_needed, progress_steps}
use Rattle.certificates.specs.Judging.{reports_of, verdict_call, judging}
use Rattle.records.specs.Rows.{row_of}
use Rattle.records.specs.Sizes.{tag_row, certificate_size, view_row, sizes_of, covers}
use Rattle.records.specs.Books.{Books, book_row, held, held_row, lent_sizes}
use Rattle.records.specs.Kept.{Membership, fast, recovery, Decided, Kept, fresh}
use Rattle.calls.specs.Gathering.{gathered, gathered_turn, own_progress, turns_read}
use Rattle.calls.specs.Steps.{permits, is_of}
use Rattle.calls.specs.Effects.{nothing, draft, output_bytes, drafted, Answer, by_propose, by_hear, wrote, heard, judged, found, noted, gathered_all, decided, Effect, own_claim, holding, head_of}
use Rattle.calls.specs.Calls.{Request, to_propose, to_hear, to_leave, to_seal, to_judge, to_read, performed, asks, kept_after, books_after, out_after, answer_of}

-- ---- refusals ----

-- a refused call leaves record, books and out as they were
abbrev pub RefusedChangesNothing : Type 0
RefusedChangesNothing =
    (v : Vouched) (m : Membership) (k : Kept) (books : Books) (out : List ℕ) (r : Request) (e : Refused) → performed v m k books (length out) r ≡ Err e
    → (kept_after k (performed v m k books (length out) r) ≡ k)
    × (books_after books (performed v m k books (length out) r) ≡ books)
    × (out_after out (performed v m k books (length out) r) ≡ out)

-- what was asked and answered decides what a call does: two checks that answer its questions alike are asked the same, and
-- the call does the same by both
abbrev pub AnswersToWhatIsAsked : Type 0
AnswersToWhatIsAsked =
    (v w : Vouched) (m : Membership) (k : Kept) (books : Books) (out : ℕ) (r : Request) → Each (λ q. granted v q ≡ granted w q) (asks v m k books out r)
    → (performed v m k books out r ≡ performed w m k books out r) × (asks v m k books out r ≡ asks w m k books out r)

-- ---- what is written ----

-- how many bytes an answer tells of
abbrev pub told_bytes : Answer → ℕ
told_bytes (by_propose x) = x.bytes
told_bytes (by_hear x) = x.bytes
told_bytes (wrote n) = n
told_bytes (judged x) = 0
told_bytes (found x) = 0

-- they are the bytes that were written
abbrev pub AnswersWhatIsWritten : Type 0
AnswersWhatIsWritten =
    (v : Vouched) (m : Membership) (k : Kept) (books : Books) (out : ℕ) (r : Request) (x : Effect) → performed v m k books out r ≡ Ok x
    → told_bytes x.answer ≡ length (output_bytes x.output)

-- out has room for whatever is written
abbrev pub WrittenFits : Type 0
WrittenFits =
    (v : Vouched) (m : Membership) (k : Kept) (books : Books) (out : ℕ) (r : Request) (x : Effect) → legal_fleet m.f m.t ≡ true → legal_limit m.limit ≡ true
    → performed v m k books out r ≡ Ok x → length (output_bytes x.output) ≤ out

-- a packet that is heard is bytes
abbrev pub OfBytes : Request → Type 0
OfBytes (to_propose d) = Unit {0}
OfBytes (to_hear packet) = Bytes packet
OfBytes (to_leave view) = Unit {0}
OfBytes (to_seal written tag) = Unit {0}
OfBytes (to_judge view bytes) = Unit {0}
OfBytes to_read = Unit {0}

-- no book grows or shrinks
abbrev pub BooksKeepLength : Type 0
BooksKeepLength =
    (v : Vouched) (m : Membership) (k : Kept) (books : Books) (out : ℕ) (r : Request) (x : Effect) → legal_fleet m.f m.t ≡ true → legal_limit m.limit ≡ true → OfBytes r
    → performed v m k books out r ≡ Ok x
    → (length x.books.tags ≡ length books.tags) × (length x.books.certificate ≡ length books.certificate) × (length x.books.views ≡ length books.views)

-- ---- what is drafted ----

-- whatever a site drafts, it drafts under its own number, in its round, and in the view that it is in then
abbrev pub DraftsBearTheOwnNumber : Type 0
DraftsBearTheOwnNumber =
    (v : Vouched) (m : Membership) (k : Kept) (books : Books) (out : ℕ) (r : Request) (x : Effect) (s : Statement) → performed v m k books out r ≡ Ok x → drafted x.output ≡ Some s
    → ((head_of s).site ≡ m.own) × ((head_of s).round ≡ k.round) × ((head_of s).view ≡ x.kept.view)

-- who proposes leads its view, has not proposed in it before, has gathered just enough new-views, and was handed a legal fix
abbrev pub ProposesInTurn : Type 0
ProposesInTurn =
    (v : Vouched) (m : Membership) (k : Kept) (books : Books) (out : ℕ) (d : Value) (x : Effect) → performed v m k books out (to_propose d) ≡ Ok x
    → (m.own ≡ leader_of (sites m.f m.t) k.view)
    × (k.proposed ≡ false)
    × (length (gathered m k) ≡ entries_needed m.f m.t k.view)
    × (legal_value d ≡ true)

-- what is proposed is permitted by the new-views that are gathered, and is the value that was handed in where any is permitted;
-- it is a legal fix, also where it is forced
abbrev pub ProposesWhatIsPermitted : Type 0
ProposesWhatIsPermitted =
    (v : Vouched) (m : Membership) (k : Kept) (books : Books) (out : ℕ) (d : Value) (x : Effect) → performed v m k books out (to_propose d) ≡ Ok x
    → (xs : List Turn) × (d' : Value) × (turns_read m k books.views 4 (gathered m k) ≡ Ok xs)
    × (drafted x.output ≡ Some (Propose (own_claim m k d')))
    × (permits (finding m.f m.t (reports_of xs)) d' ≡ true)
    × (finding m.f m.t (reports_of xs) ≡ free → d' ≡ d)
    × (legal_value d' ≡ true)

-- reading the gathered new-views where they lie is reading the certificate that is drafted: if each can be read, the certificate
-- is the bytes that write them, and reads as them
abbrev pub JoinedIsRead : Type 0
JoinedIsRead =
    (m : Membership) (k : Kept) (books : Books) (xs : List Turn) → legal_fleet m.f m.t ≡ true → legal_limit m.limit ≡ true → Bytes books.views
    → turns_read m k books.views 4 (gathered m k) ≡ Ok xs → (own_progress m k books.views ≡ progress_bytes xs) × (progress_of m.limit (own_progress m k books.views) ≡ Ok xs)

-- what is proposed is permitted by what judging answers to the certificate behind it
abbrev pub ProposalIsJudged : Type 0
ProposalIsJudged =
    (v : Vouched) (m : Membership) (k : Kept) (books : Books) (out : ℕ) (d : Value) (x : Effect) → legal_fleet m.f m.t ≡ true → legal_limit m.limit ≡ true → Bytes books.views → 1 ≤ k.view
    → performed v m k books out (to_propose d) ≡ Ok x
    → (d' : Value) × (certificate : List ℕ) × (g : Finding) × (x.output ≡ draft (Propose (own_claim m k d')) certificate)
    × (judging v m.f m.t m.limit k.round k.view certificate ≡ Ok (finding_told g))
    × (permits g d' ≡ true)

-- ---- what changes ----

-- x leaves record and books as they were
abbrev pub Stays : Kept → Books → Effect → Type 0
Stays k books x = (x.kept ≡ k) × (x.books ≡ books)

-- seal, judge and read change neither record nor books; propose changes the mark that it proposed, and nothing else; only leave
-- changes the view, and to a higher one; nothing changes the round
pub record OnlyThese : Type 0 where
  pub seals : (v : Vouched) (m : Membership) (k : Kept) (books : Books) (out : ℕ) (written tag : List ℕ) (x : Effect) → performed v m k books out (to_seal written tag) ≡ Ok x → Stays k books x
  pub judges : (v : Vouched) (m : Membership) (k : Kept) (books : Books) (out view : ℕ) (bytes : List ℕ) (x : Effect) → performed v m k books out (to_judge view bytes) ≡ Ok x → Stays k books x
  pub reads : (v : Vouched) (m : Membership) (k : Kept) (books : Books) (out : ℕ) (x : Effect) → performed v m k books out to_read ≡ Ok x → Stays k books x
  pub proposes : (v : Vouched) (m : Membership) (k : Kept) (books : Books) (out : ℕ) (d : Value) (x : Effect) → performed v m k books out (to_propose d) ≡ Ok x
      → (x.kept ≡ record k { proposed = true }) × (x.books ≡ books)
  pub views : (v : Vouched) (m : Membership) (k : Kept) (books : Books) (out : ℕ) (r : Request) (x : Effect) → performed v m k books out r ≡ Ok x
      → (x.kept.view ≡ k.view) ⊎ ((r ≡ to_leave x.kept.view) × (k.view < x.kept.view))
  pub rounds : (v : Vouched) (m : Membership) (k : Kept) (books : Books) (out : ℕ) (r : Request) (x : Effect) → performed v m k books out r ≡ Ok x → x.kept.round ≡ k.round

-- ---- leaving ----

-- what a leave for a view leaves: the new-view of the site is drafted, with what it last prepared and committed; nothing is
-- heard in the new view, and nothing proposed; last prepare and commit, decision and books stay
pub record LeaveDone (m : Membership) (k : Kept) (books : Books) (view : ℕ) (x : Effect) : Type 0 where
  pub higher : k.view < view
  pub view_is : x.kept.view ≡ view
  pub reports : drafted x.output
      ≡ Some (NewView (record { head = record { round = k.round; view = view; site = m.own }; prepared = k.prepared; committed = k.committed }))
  pub prepared : x.kept.prepared ≡ k.prepared
  pub committed : x.kept.committed ≡ k.committed
  pub certificate : x.kept.lengths.certificate ≡ k.lengths.certificate
  pub decision : x.kept.decision ≡ k.decision
  pub books_are : x.books ≡ books
  pub proposed : x.kept.proposed ≡ false
  pub no_prepares : (j : ℕ) → row_of x.kept.rows.prepares j ≡ None
  pub no_commits : (j : ℕ) → row_of x.kept.rows.commits j ≡ None
  pub no_tags : (j : ℕ) → slice_index x.kept.lengths.tags j ≡ 0
  pub no_views : (j : ℕ) → slice_index x.kept.lengths.views j ≡ 0
  pub none_gathered : gathered m x.kept ≡ []

abbrev pub LeaveReports : Type 0
LeaveReports =
    (v : Vouched) (m : Membership) (k : Kept) (books : Books) (out view : ℕ) (x : Effect) → performed v m k books out (to_leave view) ≡ Ok x → LeaveDone m k books view x

-- ---- hearing ----

-- a legal fleet and a legal tag limit, and sixteen rows and lengths of each kind
pub record Sound (m : Membership) (k : Kept) : Type 0 where
  pub fleet : legal_fleet m.f m.t ≡ true
  pub limit : legal_limit m.limit ≡ true
  pub prepares : length k.rows.prepares ≡ 16
  pub commits : length k.rows.commits ≡ 16
  pub tags : length k.lengths.tags ≡ 16
  pub views : length k.lengths.views ≡ 16

-- what the hearing of a prepare leaves: the sender's row, which was empty, has the value, and its row of the tag book holds the
-- tag; the rows of all others stay, and so do commits, new-views, last prepare, view and mark
pub record PrepareHeard (m : Membership) (k : Kept) (books : Books) (c : Claim) (tag : List ℕ) (x : Effect) : Type 0 where
  pub was_empty : row_of k.rows.prepares c.head.site ≡ None
  pub filled : row_of x.kept.rows.prepares c.head.site ≡ Some c.value
  pub tag_held : held_row x.books.tags (tag_row m.limit) x.kept.lengths.tags c.head.site ≡ tag_bytes tag
  pub other_rows : (j : ℕ) → j ≢ c.head.site → row_of x.kept.rows.prepares j ≡ row_of k.rows.prepares j
  pub other_lengths : (j : ℕ) → j ≢ c.head.site → slice_index x.kept.lengths.tags j ≡ slice_index k.lengths.tags j
  pub other_tags : (j : ℕ) → j ≢ c.head.site → book_row x.books.tags (tag_row m.limit) j ≡ book_row books.tags (tag_row m.limit) j
  pub commits : x.kept.rows.commits ≡ k.rows.commits
  pub view_book : x.books.views ≡ books.views
  pub view_lengths : x.kept.lengths.views ≡ k.lengths.views
  pub prepared : x.kept.prepared ≡ k.prepared
  pub view : x.kept.view ≡ k.view
  pub proposed : x.kept.proposed ≡ k.proposed

abbrev pub HearFillsPrepare : Type 0
HearFillsPrepare =
    (v : Vouched) (m : Membership) (k : Kept) (books : Books) (out : ℕ) (packet : List ℕ) (c : Claim) (tag : List ℕ) (x : Effect) → Sound m k
    → message_of m.limit packet ≡ Ok (prepare c tag) → performed v m k books out (to_hear packet) ≡ Ok x → PrepareHeard m k books c tag x

-- what the hearing of a commit leaves: the sender's row, which was empty, has the value, and perhaps there is a decision; all else
-- stays
pub record CommitHeard (v : Vouched) (m : Membership) (k : Kept) (books : Books) (c : Claim) (tag : List ℕ) (votes : List Vote) (x : Effect) : Type 0 where
  pub was_empty : row_of k.rows.commits c.head.site ≡ None
  pub filled : row_of x.kept.rows.commits c.head.site ≡ Some c.value
  pub other_rows : (j : ℕ) → j ≢ c.head.site → row_of x.kept.rows.commits j ≡ row_of k.rows.commits j
  pub prepares : x.kept.rows.prepares ≡ k.rows.prepares
  pub rest : x.kept ≡ record k { rows = x.kept.rows; decision = x.kept.decision }
  pub books_are : x.books ≡ books
  -- its certificate is good
  pub certificate : passed v (certificate_steps m.f m.t k.round (record { view = k.view; value = c.value }) (28 + length (tag_bytes tag)) votes) ≡ Ok (tt {0})

abbrev pub HearFillsCommit : Type 0
HearFillsCommit =
    (v : Vouched) (m : Membership) (k : Kept) (books : Books) (out : ℕ) (packet : List ℕ) (c : Claim) (tag : List ℕ) (votes : List Vote) (x : Effect) → Sound m k
    → message_of m.limit packet ≡ Ok (commit c tag votes) → performed v m k books out (to_hear packet) ≡ Ok x → CommitHeard v m k books c tag votes x

-- what the hearing of a new-view leaves: the sender's row of the view book, which was empty, holds the packet; all else stays
pub record NewViewHeard (v : Vouched) (m : Membership) (k : Kept) (books : Books) (t : Turn) (packet : List ℕ) (x : Effect) : Type 0 where
  pub was_empty : slice_index k.lengths.views t.head.site ≡ 0
  pub packet_held : gathered_turn m x.kept x.books.views t.head.site ≡ packet
  pub other_lengths : (j : ℕ) → j ≢ t.head.site → slice_index x.kept.lengths.views j ≡ slice_index k.lengths.views j
  pub other_views : (j : ℕ) → j ≢ t.head.site → book_row x.books.views (view_row m.f m.t m.limit) j ≡ book_row books.views (view_row m.f m.t m.limit) j
  pub rest : x.kept ≡ record k { lengths = record k.lengths { views = x.kept.lengths.views } }
  pub other_books : x.books ≡ record books { views = x.books.views }
  -- it came to the leader of a later view than the first, which had gathered too few, and the certificate of the commit that it
  -- reports is good
  pub to_leader : m.own ≡ leader_of (sites m.f m.t) k.view
  pub later : k.view ≢ 1
  pub too_few : length (gathered m k) < progress_quorum m.f m.t
  pub certificate : passed v (certified_steps m.f m.t k.round (behind_tag 0 t) t.committed) ≡ Ok (tt {0})
  -- its site is gathered now, and no other; the answer says whether that makes a progress quorum
  pub now_gathered : (j : ℕ) → j < sites m.f m.t → (listed (gathered m x.kept) j ≡ true) ↔ ((j ≡ t.head.site) ⊎ (listed (gathered m k) j ≡ true))
  pub one_more : length (gathered m x.kept) ≡ length (gathered m k) + 1
  pub answers : x.answer ≡ heard (cond (length (gathered m x.kept) == progress_quorum m.f m.t) gathered_all noted) 0

abbrev pub HearGathers : Type 0
HearGathers =
    (v : Vouched) (m : Membership) (k : Kept) (books : Books) (out : ℕ) (packet : List ℕ) (t : Turn) (x : Effect) → Sound m k → Bytes packet
    → message_of m.limit packet ≡ Ok (new_view t) → performed v m k books out (to_hear packet) ≡ Ok x → NewViewHeard v m k books t packet x

-- what the hearing of a proposal leaves: its value, which its certificate permits, is prepared, and all else stays; it came from
-- the leader, and nothing was prepared in this view before
pub record ProposeHeard (v : Vouched) (m : Membership) (k : Kept) (books : Books) (c : Claim) (tag : List ℕ) (ms : List Turn) (x : Effect) : Type 0 where
  pub from_leader : c.head.site ≡ leader_of (sites m.f m.t) k.view
  pub was_not : is_of k.view k.prepared ≡ false
  pub permitted : permits (finding m.f m.t (reports_of ms)) c.value ≡ true
  pub prepares : x.kept ≡ record k { prepared = Some (record { view = k.view; value = c.value }) }
  pub books_are : x.books ≡ books
  pub drafts : drafted x.output ≡ Some (Prepare (own_claim m k c.value))
  -- its certificate is good
  pub certificate : passed v (verdict_call m.f m.t k.round k.view (28 + length (tag_bytes tag)) ms).steps ≡ Ok (tt {0})

abbrev pub HearPrepares : Type 0
HearPrepares =
    (v : Vouched) (m : Membership) (k : Kept) (books : Books) (out : ℕ) (packet : List ℕ) (c : Claim) (tag : List ℕ) (ms : List Turn) (x : Effect)
    → message_of m.limit packet ≡ Ok (propose c tag ms) → performed v m k books out (to_hear packet) ≡ Ok x → ProposeHeard v m k books c tag ms x

-- a report, if there is one, is of a view of at least 1, below the view that it is made for, and of a legal fix
abbrev pub LegalReport : ℕ → Option Report → Type 0
LegalReport view None = Unit {0}
LegalReport view (Some r) = (1 ≤ r.view) × (r.view < view) × (legal_value r.value ≡ true)

-- the value of a claim is a legal fix; the reports of a new-view are legal, and made for a view
abbrev pub LegalContent : ℕ → Content → Type 0
LegalContent view (propose c tag ms) = legal_value c.value ≡ true
LegalContent view (prepare c tag) = legal_value c.value ≡ true
LegalContent view (commit c tag votes) = legal_value c.value ≡ true
LegalContent view (new_view t) = LegalReport view t.prepared × LegalReport view (reported t.committed)

-- what is heard is of the site's round and view, and is vouched for as the statement of the site that it names, which is one of
-- the fleet; a claim is of a legal fix, and the reports of a new-view are legal, and of lower views
abbrev pub HeardIsVouched : Type 0
HeardIsVouched =
    (v : Vouched) (m : Membership) (k : Kept) (books : Books) (out : ℕ) (packet : List ℕ) (c : Content) (x : Effect)
    → message_of m.limit packet ≡ Ok c → performed v m k books out (to_hear packet) ≡ Ok x
    → ((head_of (statement_of c)).round ≡ k.round)
    × ((head_of (statement_of c)).view ≡ k.view)
    × (granted v (record { site = (head_of (statement_of c)).site; said = statement_of c; tag = tag_of c }) ≡ true)
    × LegalContent k.view c
    × ((head_of (statement_of c)).site < sites m.f m.t)

-- ---- decisions ----

-- the first decision stays, whatever is called
abbrev pub FirstDecisionStays : Type 0
FirstDecisionStays =
    (v : Vouched) (m : Membership) (k : Kept) (books : Books) (out : ℕ) (r : Request) (x : Decided) → k.decision ≡ Some x → (kept_after k (performed v m k books out r)).decision ≡ Some x

-- a decision is of the site's view, and of a value that a fast quorum prepared, or a recovery quorum committed
abbrev pub DecidesByQuorum : Type 0
DecidesByQuorum =
    (v : Vouched) (m : Membership) (k : Kept) (books : Books) (out : ℕ) (r : Request) (x : Effect) (y : Decided) → k.decision ≡ None → performed v m k books out r ≡ Ok x → x.kept.decision ≡ Some y
    → (y.report.view ≡ k.view)
    × (((y.way ≡ fast) × (fast_quorum m.f m.t ≤ holding m x.kept.rows.prepares y.report.value))
    ⊎ ((y.way ≡ recovery) × (recovery_quorum m.f m.t ≤ holding m x.kept.rows.commits y.report.value)))

-- and where there is such a quorum of the value heard, there is a decision
pub record DecidesAtQuorum : Type 0 where
  pub prepares : (v : Vouched) (m : Membership) (k : Kept) (books : Books) (out : ℕ) (packet : List ℕ) (c : Claim) (tag : List ℕ) (x : Effect)
      → message_of m.limit packet ≡ Ok (prepare c tag) → performed v m k books out (to_hear packet) ≡ Ok x
      → fast_quorum m.f m.t ≤ holding m x.kept.rows.prepares c.value → is_some x.kept.decision ≡ true
  pub commits : (v : Vouched) (m : Membership) (k : Kept) (books : Books) (out : ℕ) (packet : List ℕ) (c : Claim) (tag : List ℕ) (votes : List Vote) (x : Effect)
      → message_of m.limit packet ≡ Ok (commit c tag votes) → performed v m k books out (to_hear packet) ≡ Ok x
      → recovery_quorum m.f m.t ≤ holding m x.kept.rows.commits c.value → is_some x.kept.decision ≡ true

-- a prepare that makes a recovery quorum of its value commits it, and another leaves the last commit and its certificate
pub record CommitsAtQuorum : Type 0 where
  pub quorum : (v : Vouched) (m : Membership) (k : Kept) (books : Books) (out : ℕ) (packet : List ℕ) (c : Claim) (tag : List ℕ) (x : Effect)
      → message_of m.limit packet ≡ Ok (prepare c tag) → performed v m k books out (to_hear packet) ≡ Ok x
      → holding m x.kept.rows.prepares c.value ≡ recovery_quorum m.f m.t
      → (x.kept.committed ≡ Some (record { view = k.view; value = c.value })) × (drafted x.output ≡ Some (Commit (own_claim m k c.value)))
  pub other : (v : Vouched) (m : Membership) (k : Kept) (books : Books) (out : ℕ) (packet : List ℕ) (c : Claim) (tag : List ℕ) (x : Effect)
      → message_of m.limit packet ≡ Ok (prepare c tag) → performed v m k books out (to_hear packet) ≡ Ok x
      → holding m x.kept.rows.prepares c.value ≢ recovery_quorum m.f m.t
      → (x.kept.committed ≡ k.committed)
      × (x.output ≡ nothing)
      × (x.books.certificate ≡ books.certificate)
      × (x.kept.lengths.certificate ≡ k.lengths.certificate)

-- a hear answers that it decided exactly if there was no decision before, and is one after
abbrev pub DecidedIsAnswered : Type 0
DecidedIsAnswered =
    (v : Vouched) (m : Membership) (k : Kept) (books : Books) (out : ℕ) (packet : List ℕ) (x : Effect) → performed v m k books out (to_hear packet) ≡ Ok x
    → ((n : ℕ) × (x.answer ≡ heard decided n)) ↔ ((k.decision ≡ None) × (is_some x.kept.decision ≡ true))

-- ---- what is not refused ----

-- it is done
abbrev pub Done : Vouched → Membership → Kept → Books → ℕ → Request → Type 0
Done v m k books out r = (x : Effect) × (performed v m k books out r ≡ Ok x)

-- books and out are long enough
abbrev pub Room : Membership → Books → ℕ → Type 0
Room m books out = covers (lent_sizes books out) (sizes_of m.f m.t m.limit) ≡ true

-- a claim of this round and view, of a legal fix, that is vouched for
pub record GoodClaim (v : Vouched) (k : Kept) (said : Statement) (c : Claim) (tag : List ℕ) : Type 0 where
  pub round : c.head.round ≡ k.round
  pub view : c.head.view ≡ k.view
  pub fix : legal_value c.value ≡ true
  pub vouched : granted v (record { site = c.head.site; said = said; tag = tag }) ≡ true

-- with enough room, a call is refused for no other reason than that one of these does not hold
pub record NothingElseIsRefused : Type 0 where
  -- leave: the view is higher
  pub leaves : (v : Vouched) (m : Membership) (k : Kept) (books : Books) (out view : ℕ) → Room m books out → k.view < view → Done v m k books out (to_leave view)
  -- propose: the site may propose, and the new-views that it gathered are a certificate that passes
  pub proposes : (v : Vouched) (m : Membership) (k : Kept) (books : Books) (out : ℕ) (d : Value) (xs : List Turn) → Room m books out
      → m.own ≡ leader_of (sites m.f m.t) k.view → k.proposed ≡ false → length (gathered m k) ≡ entries_needed m.f m.t k.view → legal_value d ≡ true
      → turns_read m k books.views 4 (gathered m k) ≡ Ok xs → passed v (verdict_call m.f m.t k.round k.view 0 xs).steps ≡ Ok (tt {0})
      → Done v m k books out (to_propose d)
  -- hear a proposal: a good claim of the leader, nothing prepared in this view, a certificate that passes and permits the value
  pub proposals : (v : Vouched) (m : Membership) (k : Kept) (books : Books) (out : ℕ) (packet : List ℕ) (c : Claim) (tag : List ℕ) (ms : List Turn) → Room m books out
      → message_of m.limit packet ≡ Ok (propose c tag ms) → GoodClaim v k (Propose c) c tag → c.head.site ≡ leader_of (sites m.f m.t) k.view → is_of k.view k.prepared ≡ false
      → passed v (verdict_call m.f m.t k.round k.view (28 + length (tag_bytes tag)) ms).steps ≡ Ok (tt {0}) → permits (finding m.f m.t (reports_of ms)) c.value ≡ true
      → Done v m k books out (to_hear packet)
  -- hear a prepare: a good claim of a site of the fleet, whose row is empty
  pub prepares : (v : Vouched) (m : Membership) (k : Kept) (books : Books) (out : ℕ) (packet : List ℕ) (c : Claim) (tag : List ℕ) → Room m books out
      → message_of m.limit packet ≡ Ok (prepare c tag) → GoodClaim v k (Prepare c) c tag → c.head.site < sites m.f m.t → row_of k.rows.prepares c.head.site ≡ None
      → Done v m k books out (to_hear packet)
  -- hear a commit: the same, and a commit certificate that passes
  pub commits : (v : Vouched) (m : Membership) (k : Kept) (books : Books) (out : ℕ) (packet : List ℕ) (c : Claim) (tag : List ℕ) (votes : List Vote) → Room m books out
      → message_of m.limit packet ≡ Ok (commit c tag votes) → GoodClaim v k (Commit c) c tag → c.head.site < sites m.f m.t → row_of k.rows.commits c.head.site ≡ None
      → passed v (certificate_steps m.f m.t k.round (record { view = k.view; value = c.value }) (28 + length (tag_bytes tag)) votes) ≡ Ok (tt {0})
      → Done v m k books out (to_hear packet)
  -- hear a new-view: one that passes as a new-view of this round and view, from a site of the fleet, whose row is empty, to the
  -- leader of a later view than the first, which has gathered too few, with a commit certificate that passes
  pub new_views : (v : Vouched) (m : Membership) (k : Kept) (books : Books) (out : ℕ) (packet : List ℕ) (t : Turn) → Room m books out
      → message_of m.limit packet ≡ Ok (new_view t) → passed v (change_steps k.round k.view true 0 (change_of t) t.tag) ≡ Ok (tt {0}) → t.head.site < sites m.f m.t
      → m.own ≡ leader_of (sites m.f m.t) k.view → k.view ≢ 1 → slice_index k.lengths.views t.head.site ≡ 0 → length (gathered m k) < progress_quorum m.f m.t
      → passed v (certified_steps m.f m.t k.round (behind_tag 0 t) t.committed) ≡ Ok (tt {0})
      → Done v m k books out (to_hear packet)

-- ---- sealing ----

-- how many bytes were written, as an answer
abbrev pub writing_answer : Result ℕ Refused → Result Answer Refused
writing_answer (Ok n) = Ok (wrote n)
writing_answer (Err e) = Err e

-- what seal answers, and what it leaves in out, is what the sealing of a draft answers and leaves
abbrev pub SealIsSealing : Type 0
SealIsSealing =
    (v : Vouched) (m : Membership) (k : Kept) (books : Books) (written tag out : List ℕ)
    → (answer_of (performed v m k books (length out) (to_seal written tag)) ≡ writing_answer (sealing m.limit written tag out).0)
    × (out_after out (performed v m k books (length out) (to_seal written tag)) ≡ (sealing m.limit written tag out).1)

-- ---- judging and reading ----

abbrev pub judging_answer : Result Told Refused → Result Answer Refused
judging_answer (Ok x) = Ok (judged x)
judging_answer (Err e) = Err e

-- judge answers what judging answers in the site's round, and read tells the decision
pub record JudgesAndReads : Type 0 where
  pub judges : (v : Vouched) (m : Membership) (k : Kept) (books : Books) (out view : ℕ) (bytes : List ℕ)
      → answer_of (performed v m k books out (to_judge view bytes)) ≡ judging_answer (judging v m.f m.t m.limit k.round view bytes)
  pub reads : (v : Vouched) (m : Membership) (k : Kept) (books : Books) (out : ℕ) → answer_of (performed v m k books out to_read) ≡ Ok (found k.decision)

-- ---- certificates ----

-- what a site keeps of a round, with its books
pub record Standing : Type 0 where
  pub kept : Kept
  pub books : Books

-- a call, with its check and how many bytes of out
pub record Called : Type 0 where
  pub check : Vouched
  pub out : ℕ
  pub request : Request

abbrev pub doing : Membership → Standing → Called → Result Effect Refused
doing m s c = performed c.check m s.kept s.books c.out c.request

-- after one call, and after many, whether they are refused or not
abbrev pub after_call : Membership → Standing → Called → Standing
after_call m s c = record { kept = kept_after s.kept (doing m s c); books = books_after s.books (doing m s c) }

abbrev pub after_calls : Membership → Standing → List Called → Standing
after_calls m s [] = s
after_calls m s (c ∷ cs) = after_calls m (after_call m s c) cs

-- a round that was opened with any books
abbrev pub opened : ℕ → Books → Standing
opened round books = record { kept = fresh round; books = books }

-- and what was called then
abbrev pub standing : Membership → ℕ → Books → List Called → Standing
standing m round books cs = after_calls m (opened round books) cs

-- w says yes to all of these questions that v says yes to
abbrev pub KeepsTo : Vouched → Vouched → List Question → Type 0
KeepsTo w v qs = Each (λ q. granted v q ≡ true → granted w q ≡ true) qs

-- w says yes to each question that a call asked and was told yes
abbrev pub KeepsToCall : Vouched → Membership → Standing → Called → Type 0
KeepsToCall w m s c = KeepsTo w c.check (asks c.check m s.kept s.books c.out c.request)

-- and so for each call in turn: w keeps to every yes so far
abbrev pub KeepsToCalls : Vouched → Membership → Standing → List Called → Type 0
KeepsToCalls w m s [] = Unit {0}
KeepsToCalls w m s (c ∷ cs) = KeepsToCall w m s c × KeepsToCalls w m (after_call m s c) cs

-- bytes that are a commit certificate for a report: so many votes, ascending, each vouched for
pub record GoodCertificate (w : Vouched) (m : Membership) (round : ℕ) (r : Report) (bytes : List ℕ) : Type 0 where
  pub votes : List Vote
  pub is : bytes ≡ certificate_bytes votes
  pub fits : CertificateFits m.limit votes
  pub good : (place : ℕ) → passed w (certificate_steps m.f m.t round r place votes) ≡ Ok (tt {0})

-- the same of a commit that may be there; where there is none, there are no bytes
pub record GoodReport (w : Vouched) (m : Membership) (round : ℕ) (r : Option Report) (bytes : List ℕ) : Type 0 where
  pub certified : Option Certified
  pub reports : reported certified ≡ r
  pub is : bytes ≡ certified_bytes certified
  pub fits : CertifiedFits m.limit certified
  pub good : (place : ℕ) → passed w (certified_steps m.f m.t round place certified) ≡ Ok (tt {0})

-- whatever was called and heard, and whatever check each call had: the certificate book holds a good certificate of the last
-- commit, by any check that keeps to every yes so far
abbrev pub KeptCertificateIsGood : Type 0
KeptCertificateIsGood =
    (w : Vouched) (m : Membership) (round : ℕ) (books : Books) (cs : List Called) (r : Report) → legal_fleet m.f m.t ≡ true → legal_limit m.limit ≡ true
    → KeepsToCalls w m (opened round books) cs → (standing m round books cs).kept.committed ≡ Some r
    → GoodCertificate w m round r
    (held (standing m round books cs).kept.lengths.certificate (held (certificate_size m.f m.t m.limit) (standing m round books cs).books.certificate))

-- and a commit is drafted with a good certificate of its value in its view, a new-view with a good one of the commit that it
-- reports, by any check that keeps to every yes so far, those of the call that drafts it too
pub record DraftedCertificatesAreGood : Type 0 where
  pub commits : (w : Vouched) (m : Membership) (round : ℕ) (books : Books) (cs : List Called) (last : Called) (x : Effect) (c : Claim) (attached : List ℕ) → legal_fleet m.f m.t ≡ true → legal_limit m.limit ≡ true
      → KeepsToCalls w m (opened round books) cs → KeepsToCall w m (standing m round books cs) last
      → doing m (standing m round books cs) last ≡ Ok x → x.output ≡ draft (Commit c) attached
      → GoodCertificate w m round (record { view = c.head.view; value = c.value }) attached
  pub new_views : (w : Vouched) (m : Membership) (round : ℕ) (books : Books) (cs : List Called) (last : Called) (x : Effect) (c : ViewChange) (attached : List ℕ) → legal_fleet m.f m.t ≡ true → legal_limit m.limit ≡ true
      → KeepsToCalls w m (opened round books) cs → KeepsToCall w m (standing m round books cs) last
      → doing m (standing m round books cs) last ≡ Ok x → x.output ≡ draft (NewView c) attached
      → GoodReport w m round c.committed attached

-- the new-views that a site holds, once they are a progress quorum: they can be read, and are a good progress certificate, by any
-- check that keeps to every yes so far
abbrev pub GatheredAreGood : Type 0
GatheredAreGood =
    (w : Vouched) (m : Membership) (round : ℕ) (books : Books) (cs : List Called) → legal_fleet m.f m.t ≡ true → legal_limit m.limit ≡ true
    → Each (λ (a : Called). OfBytes a.request) cs → KeepsToCalls w m (opened round books) cs
    → length (gathered m (standing m round books cs).kept) ≡ progress_quorum m.f m.t
    → (xs : List Turn) × (turns_read m (standing m round books cs).kept (standing m round books cs).books.views 4 (gathered m (standing m round books cs).kept) ≡ Ok xs)
    × ((place : ℕ) → passed w (progress_steps m.f m.t round (standing m round books cs).kept.view place xs) ≡ Ok (tt {0}))

-- ---- what is heard by others ----

-- what a site drafts is heard by every other site of the fleet that is in the same round and view, has room and no such message
-- from it yet, and whose check w vouches for the tag that it was sealed with
pub record HeardByOthers : Type 0 where
  -- the proposal that it drafts by a check v, where round, view and the value that was handed in are of 32-bit words, to a site that
  -- has prepared nothing in this view; w keeps to every yes that the call was told
  pub proposals : (v w : Vouched) (m : Membership) (k : Kept) (books : Books) (out : ℕ) (d : Value) (x : Effect) (c : Claim) (attached : List ℕ) → legal_fleet m.f m.t ≡ true → legal_limit m.limit ≡ true
      → Bytes books.views → k.round < 2 ^ 32 → k.view < 2 ^ 32 → ValueFits d
      → performed v m k books out (to_propose d) ≡ Ok x → x.output ≡ draft (Propose c) attached → KeepsTo w v (asks v m k books out (to_propose d))
      → (own : List ℕ) (j : ℕ) (k' : Kept) (books' : Books) (out' : ℕ) → length own ≤ m.limit → k'.round ≡ k.round → k'.view ≡ k.view
      → granted w (record { site = m.own; said = Propose c; tag = own }) ≡ true → is_of k'.view k'.prepared ≡ false → Room (record m { own = j }) books' out'
      → Done w (record m { own = j }) k' books' out' (to_hear (statement_bytes (Propose c) ++ (tag_bytes own ++ attached)))
  -- the prepare that it drafts on hearing a proposal; w need have nothing to do with the check that the proposal was heard by
  pub prepares : (v w : Vouched) (m : Membership) (k : Kept) (books : Books) (out : ℕ) (packet : List ℕ) (c : Claim) (tag : List ℕ) (ms : List Turn) (x : Effect) → legal_fleet m.f m.t ≡ true → legal_limit m.limit ≡ true
      → m.own < sites m.f m.t → Bytes packet → message_of m.limit packet ≡ Ok (propose c tag ms) → performed v m k books out (to_hear packet) ≡ Ok x
      → (own : List ℕ) (j : ℕ) (k' : Kept) (books' : Books) (out' : ℕ) → length own ≤ m.limit → k'.round ≡ k.round → k'.view ≡ k.view
      → granted w (record { site = m.own; said = Prepare (own_claim m k c.value); tag = own }) ≡ true → row_of k'.rows.prepares m.own ≡ None → Room (record m { own = j }) books' out'
      → Done w (record m { own = j }) k' books' out' (to_hear (statement_bytes (Prepare (own_claim m k c.value)) ++ (tag_bytes own ++ [])))
  -- the commit that it drafts on hearing a prepare, by a check v, after any calls; w keeps to every yes so far
  pub commits : (v w : Vouched) (m : Membership) (round : ℕ) (books : Books) (cs : List Called) (out : ℕ) (packet : List ℕ) (a : Claim) (tag : List ℕ) (x : Effect) (c : Claim) (attached : List ℕ)
      → legal_fleet m.f m.t ≡ true → legal_limit m.limit ≡ true → m.own < sites m.f m.t → Bytes packet → message_of m.limit packet ≡ Ok (prepare a tag)
      → KeepsToCalls w m (opened round books) cs → KeepsToCall w m (standing m round books cs) (record { check = v; out = out; request = to_hear packet })
      → doing m (standing m round books cs) (record { check = v; out = out; request = to_hear packet }) ≡ Ok x → x.output ≡ draft (Commit c) attached
      → (own : List ℕ) (j : ℕ) (k' : Kept) (books' : Books) (out' : ℕ) → length own ≤ m.limit → k'.round ≡ round → k'.view ≡ (standing m round books cs).kept.view
      → granted w (record { site = m.own; said = Commit c; tag = own }) ≡ true → row_of k'.rows.commits m.own ≡ None → Room (record m { own = j }) books' out'
      → Done w (record m { own = j }) k' books' out' (to_hear (statement_bytes (Commit c) ++ (tag_bytes own ++ attached)))
  -- the new-view that it drafts on leaving, by a check v, after any calls that heard packets of bytes, where round and new view are of
  -- 32-bit words, to the leader of the new view, which has gathered too few; w keeps to every yes so far
  pub new_views : (v w : Vouched) (m : Membership) (round : ℕ) (books : Books) (cs : List Called) (out view : ℕ) (x : Effect) (c : ViewChange) (attached : List ℕ)
      → legal_fleet m.f m.t ≡ true → legal_limit m.limit ≡ true → m.own < sites m.f m.t → round < 2 ^ 32 → view < 2 ^ 32
      → Each (λ (a : Called). OfBytes a.request) cs → KeepsToCalls w m (opened round books) cs
      → doing m (standing m round books cs) (record { check = v; out = out; request = to_leave view }) ≡ Ok x → x.output ≡ draft (NewView c) attached
      → (own : List ℕ) (j : ℕ) (k' : Kept) (books' : Books) (out' : ℕ) → length own ≤ m.limit → k'.round ≡ round → k'.view ≡ view → j ≡ leader_of (sites m.f m.t) view
      → granted w (record { site = m.own; said = NewView c; tag = own }) ≡ true → slice_index k'.lengths.views m.own ≡ 0 → length (gathered (record m { own = j }) k') < progress_quorum m.f m.t
      → Room (record m { own = j }) books' out'
      → Done w (record m { own = j }) k' books' out' (to_hear (statement_bytes (NewView c) ++ (tag_bytes own ++ attached)))

-- ---- all of them ----

pub record CallLaws : Type 0 where
  pub refused : RefusedChangesNothing
  pub asked : AnswersToWhatIsAsked
  pub told : AnswersWhatIsWritten
  pub fits : WrittenFits
  pub lengths : BooksKeepLength
  pub own : DraftsBearTheOwnNumber
  pub in_turn : ProposesInTurn
  pub permitted : ProposesWhatIsPermitted
  pub joined : JoinedIsRead
  pub judged : ProposalIsJudged
  pub changes : OnlyThese
  pub leaves : LeaveReports
  pub prepares : HearPrepares
  pub prepare : HearFillsPrepare
  pub commit : HearFillsCommit
  pub gathers : HearGathers
  pub vouched : HeardIsVouched
  pub first : FirstDecisionStays
  pub decides : DecidesByQuorum
  pub at_quorum : DecidesAtQuorum
  pub commits : CommitsAtQuorum
  pub answered : DecidedIsAnswered
  pub done : NothingElseIsRefused
  pub seals : SealIsSealing
  pub judges : JudgesAndReads
  pub kept_certificate : KeptCertificateIsGood
  pub drafted_certificates : DraftedCertificatesAreGood
  pub gathered : GatheredAreGood
  pub heard : HeardByOthers
