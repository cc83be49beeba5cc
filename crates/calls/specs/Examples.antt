-- Worked examples: runs of four sites and of six on bytes, call by call, with what each answers. They are played in round 9, with
-- tags of 4 bytes and a tag limit of 4, or of 8. The expected answers are those of tools/site_model.py.
use Rattle.std.specs.Prelude.{◌≡◌, ℕ, ◌+◌, cond, List, [], ◌∷◌, ◌++◌, replicate, take, set, Some, None, Ok, Err, Option, Result, ◌==◌}
use Rattle.buffers.specs.Words.{word_bytes}
use Rattle.values.specs.declared.fix.Value.{Value}
use Rattle.values.specs.declared.fix.Report.{Report}
use Rattle.values.specs.Refusals.{Refused, limits, short, layout, other_round, wrong_view, wrong_site, illegal, bad_tag, repeated, equivocation, gathered_already, bad_certificate, may_not_propose, conflicting, not_forced, not_higher}
use Rattle.verdicts.specs.Told.{told_free, told_forced}
use Rattle.wire.specs.declared.statement.Head.{Head}
use Rattle.wire.specs.declared.statement.Claim.{Claim}
use Rattle.wire.specs.declared.statement.Statement.{Statement}
use Rattle.wire.specs.declared.statement.Statement.TheVariants.{Propose, Prepare, Commit, NewView}
use Rattle.wire.specs.Contents.{statement_bytes, Vote, Turn, change_of, progress_bytes, Content, propose, prepare, commit, new_view, tag_of, message_bytes}
use Rattle.checks.specs.Registers.{row_bytes, registered}
use Rattle.agreement.specs.Examples.{words, d, e, viewed}
use Rattle.records.specs.declared.sizes.Sizes.{Sizes}
use Rattle.records.specs.Sizes.{sizes_of}
use Rattle.records.specs.Books.{Books}
use Rattle.records.specs.Kept.{Membership, fast, recovery, Kept, no_lengths, fresh, opening}
use Rattle.calls.specs.Effects.{Output, nothing, draft, message, output_bytes, Answer, proposed, wrote, heard, judged, found, Effect, noted, gathered_all, decided, head_of}
use Rattle.calls.specs.Calls.{Request, to_propose, to_hear, to_leave, to_seal, to_judge, to_read, performed, out_after, answer_of}

-- ---- runs ----

-- what a site keeps, its books, and the last draft that it made
pub record Site : Type 0 where
  pub kept : Kept
  pub books : Books
  pub draft : List ℕ

abbrev pub World : Type 0
World = ℕ → Site

pub data Event : Type 0 where
  -- a call of a site, with what it answers
  calls : ℕ → Request → Result Answer Refused → Event
  -- a site seals its last draft with the tag of this message, and this message comes out
  seals : ℕ → Content → Event

-- site i of a fleet with f = 1, of four sites or with t = 1 of six, with a tag limit
abbrev pub member : ℕ → ℕ → ℕ → Membership
member t limit i = record { f = 1; t = t; limit = limit; own = i }

-- books of zeros, so long
abbrev pub empty_books : Sizes → Books
empty_books needed = record { tags = replicate needed.tags 0; certificate = replicate needed.certificate 0; views = replicate needed.views 0 }

-- nothing has happened
abbrev pub start : ℕ → ℕ → World
start t limit i = record { kept = fresh 9; books = empty_books (sizes_of 1 t limit); draft = [] }

abbrev pub written : Result Effect Refused → Result (List ℕ) Refused
written (Ok x) = Ok (output_bytes x.output)
written (Err e) = Err e

-- a draft is kept until the next
abbrev pub drafted_after : List ℕ → Output → List ℕ
drafted_after old nothing = old
drafted_after old (draft s attached) = output_bytes (draft s attached)
drafted_after old (message b) = old

abbrev pub site_after : Site → Result Effect Refused → Site
site_after s (Ok x) = record { kept = x.kept; books = x.books; draft = drafted_after s.draft x.output }
site_after s (Err e) = s

abbrev pub with_site : World → ℕ → Site → World
with_site w i s j = cond (j == i) s (w j)

module _ (t limit : ℕ) (rows : List ℕ) where
  -- a call of site i, over a register; out is as long as it has to be
  abbrev pub done : World → ℕ → Request → Result Effect Refused
  done w i r = performed (registered rows) (member t limit i) (w i).kept (w i).books (sizes_of 1 t limit).out r

  -- every event goes as it says
  abbrev pub Played : World → List Event → Type 0
  Played w [] = Unit {0}
  Played w (calls i r a ∷ es) =
      let x = done w i r in
      (answer_of x ≡ a) × Played (with_site w i (site_after (w i) x)) es
  Played w (seals i m ∷ es) =
      (written (done w i (to_seal (w i).draft (tag_of m))) ≡ Ok (message_bytes m)) × Played w es

-- ---- statements and messages ----

-- the tag that names a row
abbrev pub row : ℕ → List ℕ
row k = word_bytes k

abbrev pub head : ℕ → ℕ → Head
head i v = record { round = 9; view = v; site = i }

-- site i, in view v, of a value
abbrev pub claim : ℕ → ℕ → Value → Claim
claim i v x = record { head = head i v; value = x }

-- a new-view of site i for view v, tagged with row k, that reports no commit
abbrev pub moving : ℕ → ℕ → Option Report → ℕ → Turn
moving i v p k = record { head = head i v; prepared = p; committed = None; tag = row k }

-- the same new-view, when it reports as well a commit of x in view 1
abbrev pub committed_too : Turn → Value → List Vote → Turn
committed_too m x votes = record m { committed = Some (record { report = viewed 1 x; votes = votes }) }

-- a prepare of site i in view v, tagged with row k
abbrev pub preparing : ℕ → ℕ → Value → ℕ → Content
preparing i v x k = prepare (claim i v x) (row k)

-- a site's tag in a commit certificate
abbrev pub vote : ℕ → ℕ → Vote
vote i k = record { site = i; tag = row k }

-- a commit of site i in view 1, of d, tagged with row k
abbrev pub committing : ℕ → List Vote → ℕ → Content
committing i votes k = commit (claim i 1 d) (row k) votes

abbrev pub hears : ℕ → Content → Result Answer Refused → Event
hears i m a = calls i (to_hear (message_bytes m)) a

-- the rows of statements, each for the site that its head names
abbrev pub rows_of : List Statement → List ℕ
rows_of [] = []
rows_of (s ∷ ss) = row_bytes (head_of s).site (statement_bytes s) ++ rows_of ss

-- ---- a run with a liar ----

-- site 0 lies. It leads view 1, and proposes d to sites 1 and 2, and e to site 3
abbrev pub offer_d : Content
offer_d = propose (claim 0 1 d) (row 0) []

abbrev pub offer_e : Content
offer_e = propose (claim 0 1 e) (row 1) []

-- to the leader of view 2 it says that it prepared e
abbrev pub lie : Turn
lie = moving 0 2 (Some (viewed 1 e)) 6

-- the new-views that this leader gathers, and what it proposes with them
abbrev pub second : List Turn
second = lie ∷ moving 1 2 (Some (viewed 1 d)) 7 ∷ moving 3 2 (Some (viewed 1 e)) 8 ∷ []

abbrev pub offer : Content
offer = propose (claim 1 2 e) (row 9) second

-- to the leader of view 3 it says that it prepared d in view 1, and shows a commit certificate for d
abbrev pub late : Turn
late = committed_too (moving 0 3 (Some (viewed 1 d)) 14) d (vote 0 5 ∷ vote 1 2 ∷ vote 2 3 ∷ [])

abbrev pub third : List Turn
third = late ∷ moving 2 3 (Some (viewed 2 e)) 15 ∷ moving 3 3 (Some (viewed 2 e)) 16 ∷ []

-- the rows of the register, from 0 on
abbrev pub rehearsed_rows : List ℕ
rehearsed_rows =
    rows_of (
    Propose (claim 0 1 d)
    ∷ Propose (claim 0 1 e)
    ∷ Prepare (claim 1 1 d)
    ∷ Prepare (claim 2 1 d)
    ∷ Prepare (claim 3 1 e)
    ∷ Prepare (claim 0 1 d)
    ∷ NewView (change_of lie)
    ∷ NewView (change_of (moving 1 2 (Some (viewed 1 d)) 7))
    ∷ NewView (change_of (moving 3 2 (Some (viewed 1 e)) 8))
    ∷ Propose (claim 1 2 e)
    ∷ Prepare (claim 0 2 e)
    ∷ Prepare (claim 1 2 e)
    ∷ Prepare (claim 2 2 e)
    ∷ Prepare (claim 3 2 e)
    ∷ NewView (change_of late)
    ∷ NewView (change_of (moving 2 3 (Some (viewed 2 e)) 15))
    ∷ NewView (change_of (moving 3 3 (Some (viewed 2 e)) 16))
    ∷ [])

abbrev pub rehearsal : List Event
rehearsal =
    -- view 1: all prepare what they hear, and no rule-following site hears a prepare
    hears 1 offer_d (Ok (heard noted 28))
    ∷ seals 1 (preparing 1 1 d 2)
    ∷ hears 2 offer_d (Ok (heard noted 28))
    ∷ seals 2 (preparing 2 1 d 3)
    ∷ hears 3 offer_e (Ok (heard noted 28))
    ∷ seals 3 (preparing 3 1 e 4)
    -- they leave for view 2, and its leader, site 1, gathers three new-views
    ∷ calls 1 (to_leave 2) (Ok (wrote 40))
    ∷ calls 2 (to_leave 2) (Ok (wrote 40))
    ∷ calls 3 (to_leave 2) (Ok (wrote 40))
    ∷ seals 1 (new_view (moving 1 2 (Some (viewed 1 d)) 7))
    ∷ seals 3 (new_view (moving 3 2 (Some (viewed 1 e)) 8))
    ∷ hears 1 (new_view lie) (Ok (heard noted 0))
    ∷ hears 1 (new_view (moving 1 2 (Some (viewed 1 d)) 7)) (Ok (heard noted 0))
    ∷ hears 1 (new_view (moving 3 2 (Some (viewed 1 e)) 8)) (Ok (heard gathered_all 0))
    -- these force e: it is handed d, and proposes e
    ∷ calls 1 (to_judge 2 (progress_bytes second)) (Ok (judged (told_forced 1 e 1)))
    ∷ calls 1 (to_propose d) (Ok (proposed 176))
    ∷ seals 1 offer
    ∷ hears 1 offer (Ok (heard noted 28))
    ∷ hears 2 offer (Ok (heard noted 28))
    ∷ hears 3 offer (Ok (heard noted 28))
    ∷ seals 1 (preparing 1 2 e 11)
    ∷ seals 2 (preparing 2 2 e 12)
    ∷ seals 3 (preparing 3 2 e 13)
    -- site 1 hears all four prepares: with the third it commits, with the fourth it decides
    ∷ hears 1 (preparing 0 2 e 10) (Ok (heard noted 0))
    ∷ hears 1 (preparing 1 2 e 11) (Ok (heard noted 0))
    ∷ hears 1 (preparing 2 2 e 12) (Ok (heard noted 68))
    ∷ hears 1 (preparing 3 2 e 13) (Ok (heard decided 0))
    ∷ calls 1 to_read (Ok (found (Some (record { report = viewed 2 e; way = fast }))))
    -- all leave for view 3, and its leader, site 2, gathers three new-views
    ∷ calls 1 (to_leave 3) (Ok (wrote 96))
    ∷ calls 2 (to_leave 3) (Ok (wrote 40))
    ∷ calls 3 (to_leave 3) (Ok (wrote 40))
    ∷ seals 2 (new_view (moving 2 3 (Some (viewed 2 e)) 15))
    ∷ seals 3 (new_view (moving 3 3 (Some (viewed 2 e)) 16))
    ∷ hears 2 (new_view late) (Ok (heard noted 0))
    ∷ hears 2 (new_view (moving 2 3 (Some (viewed 2 e)) 15)) (Ok (heard noted 0))
    ∷ hears 2 (new_view (moving 3 3 (Some (viewed 2 e)) 16)) (Ok (heard gathered_all 0))
    -- the fast certificate of view 2 is above the commit certificate of view 1: e stays
    ∷ calls 2 (to_judge 3 (progress_bytes third)) (Ok (judged (told_forced 1 e 2)))
    ∷ calls 2 (to_propose d) (Ok (proposed 232))
    ∷ calls 1 to_read (Ok (found (Some (record { report = viewed 2 e; way = fast }))))
    ∷ []

abbrev pub Rehearsed : Type 0
Rehearsed = Played 0 4 rehearsed_rows (start 0 4) rehearsal

-- ---- a run in which commits decide, with a tag limit of 8 ----

-- the commit certificate of three sites for d in view 1
abbrev pub three_votes : List Vote
three_votes = vote 0 1 ∷ vote 1 2 ∷ vote 2 3 ∷ []

abbrev pub committed_by : ℕ → Turn
committed_by i = committed_too (moving i 2 (Some (viewed 1 d)) (7 + i)) d three_votes

abbrev pub recovered : List Turn
recovered = committed_by 1 ∷ committed_by 2 ∷ moving 3 2 (Some (viewed 1 d)) 10 ∷ []

abbrev pub recovered_offer : Content
recovered_offer = propose (claim 1 2 d) (row 11) recovered

-- site 2 prepared d in view 2 as well, and leaves for view 3
abbrev pub last_move : Turn
last_move = record (committed_by 2) { head = head 2 3; prepared = Some (viewed 2 d); tag = row 13 }

abbrev pub recovering_rows : List ℕ
recovering_rows =
    rows_of (
    Propose (claim 0 1 d)
    ∷ Prepare (claim 0 1 d)
    ∷ Prepare (claim 1 1 d)
    ∷ Prepare (claim 2 1 d)
    ∷ Commit (claim 0 1 d)
    ∷ Commit (claim 1 1 d)
    ∷ Commit (claim 2 1 d)
    ∷ Prepare (claim 3 1 d)
    ∷ NewView (change_of (committed_by 1))
    ∷ NewView (change_of (committed_by 2))
    ∷ NewView (change_of (moving 3 2 (Some (viewed 1 d)) 10))
    ∷ Propose (claim 1 2 d)
    ∷ Prepare (claim 2 2 d)
    ∷ NewView (change_of last_move)
    ∷ [])

abbrev pub recovering : List Event
recovering =
    -- view 1: sites 0, 1 and 2 prepare d, and with the third prepare each commits
    calls 0 (to_propose d) (Ok (proposed 32))
    ∷ seals 0 offer_d
    ∷ hears 0 offer_d (Ok (heard noted 28))
    ∷ seals 0 (preparing 0 1 d 1)
    ∷ hears 1 offer_d (Ok (heard noted 28))
    ∷ seals 1 (preparing 1 1 d 2)
    ∷ hears 2 offer_d (Ok (heard noted 28))
    ∷ seals 2 (preparing 2 1 d 3)
    ∷ hears 0 (preparing 0 1 d 1) (Ok (heard noted 0))
    ∷ hears 0 (preparing 1 1 d 2) (Ok (heard noted 0))
    ∷ hears 0 (preparing 2 1 d 3) (Ok (heard noted 68))
    ∷ seals 0 (committing 0 three_votes 4)
    ∷ hears 1 (preparing 0 1 d 1) (Ok (heard noted 0))
    ∷ hears 1 (preparing 1 1 d 2) (Ok (heard noted 0))
    ∷ hears 1 (preparing 2 1 d 3) (Ok (heard noted 68))
    ∷ seals 1 (committing 1 three_votes 5)
    ∷ hears 2 (preparing 0 1 d 1) (Ok (heard noted 0))
    ∷ hears 2 (preparing 1 1 d 2) (Ok (heard noted 0))
    ∷ hears 2 (preparing 2 1 d 3) (Ok (heard noted 68))
    ∷ seals 2 (committing 2 three_votes 6)
    -- site 3, which heard nothing else, decides by the three commits
    ∷ hears 3 (committing 0 three_votes 4) (Ok (heard noted 0))
    ∷ hears 3 (committing 1 three_votes 5) (Ok (heard noted 0))
    ∷ hears 3 (committing 2 three_votes 6) (Ok (heard decided 0))
    ∷ calls 3 to_read (Ok (found (Some (record { report = viewed 1 d; way = recovery }))))
    -- it prepares d late, and site 0 decides by four prepares: commits that it hears then change nothing
    ∷ hears 3 offer_d (Ok (heard noted 28))
    ∷ seals 3 (preparing 3 1 d 7)
    ∷ hears 0 (preparing 3 1 d 7) (Ok (heard decided 0))
    ∷ hears 0 (committing 0 three_votes 4) (Ok (heard noted 0))
    ∷ hears 0 (committing 1 three_votes 5) (Ok (heard noted 0))
    ∷ hears 0 (committing 2 three_votes 6) (Ok (heard noted 0))
    ∷ calls 0 to_read (Ok (found (Some (record { report = viewed 1 d; way = fast }))))
    -- in view 2 the commit certificates force d: the leader, site 1, is handed e, and proposes d
    ∷ calls 1 (to_leave 2) (Ok (wrote 96))
    ∷ calls 2 (to_leave 2) (Ok (wrote 96))
    ∷ calls 3 (to_leave 2) (Ok (wrote 40))
    ∷ seals 1 (new_view (committed_by 1))
    ∷ seals 2 (new_view (committed_by 2))
    ∷ seals 3 (new_view (moving 3 2 (Some (viewed 1 d)) 10))
    ∷ hears 1 (new_view (committed_by 1)) (Ok (heard noted 0))
    ∷ hears 1 (new_view (committed_by 2)) (Ok (heard noted 0))
    ∷ hears 1 (new_view (moving 3 2 (Some (viewed 1 d)) 10)) (Ok (heard gathered_all 0))
    ∷ calls 1 (to_judge 2 (progress_bytes recovered)) (Ok (judged (told_forced 2 d 1)))
    ∷ calls 1 (to_propose e) (Ok (proposed 288))
    ∷ seals 1 recovered_offer
    ∷ hears 2 recovered_offer (Ok (heard noted 28))
    ∷ hears 3 recovered_offer (Ok (heard noted 28))
    -- site 2 hears prepares anew, and still shows its commit of view 1
    ∷ seals 2 (preparing 2 2 d 12)
    ∷ hears 2 (preparing 2 2 d 12) (Ok (heard noted 0))
    ∷ calls 2 (to_leave 3) (Ok (wrote 96))
    ∷ seals 2 (new_view last_move)
    -- site 3 keeps its decision, and site 1 has none
    ∷ calls 3 to_read (Ok (found (Some (record { report = viewed 1 d; way = recovery }))))
    ∷ calls 1 to_read (Ok (found None))
    ∷ []

abbrev pub Recovered : Type 0
Recovered = Played 0 8 recovering_rows (start 0 8) recovering

-- ---- a run of six sites: five prepares decide, four make a commit, and five new-views are enough ----

-- the commit certificates of sites 0 to 3, and of sites 2 to 5, for d in view 1
abbrev pub low_votes : List Vote
low_votes = vote 0 1 ∷ vote 1 2 ∷ vote 2 3 ∷ vote 3 4 ∷ []

abbrev pub high_votes : List Vote
high_votes = vote 2 3 ∷ vote 3 4 ∷ vote 4 5 ∷ vote 5 6 ∷ []

-- the new-view of site i for view 2, which prepared d, and of one that committed it as well
abbrev pub prepared_of_six : ℕ → Turn
prepared_of_six i = moving i 2 (Some (viewed 1 d)) (11 + i)

abbrev pub committed_of_six : ℕ → List Vote → Turn
committed_of_six i votes = committed_too (prepared_of_six i) d votes

-- those that the leader of view 2 gathers, and what it proposes with them
abbrev pub five : List Turn
five = committed_of_six 0 low_votes ∷ committed_of_six 1 high_votes ∷ committed_of_six 3 low_votes ∷ prepared_of_six 4 ∷ prepared_of_six 5 ∷ []

abbrev pub offer_of_five : Content
offer_of_five = propose (claim 1 2 d) (row 17) five

abbrev pub six_rows : List ℕ
six_rows =
    rows_of (
    Propose (claim 0 1 d)
    ∷ Prepare (claim 0 1 d)
    ∷ Prepare (claim 1 1 d)
    ∷ Prepare (claim 2 1 d)
    ∷ Prepare (claim 3 1 d)
    ∷ Prepare (claim 4 1 d)
    ∷ Prepare (claim 5 1 d)
    ∷ Commit (claim 0 1 d)
    ∷ Commit (claim 1 1 d)
    ∷ Commit (claim 2 1 d)
    ∷ Commit (claim 3 1 d)
    ∷ NewView (change_of (committed_of_six 0 low_votes))
    ∷ NewView (change_of (committed_of_six 1 high_votes))
    ∷ NewView (change_of (committed_of_six 2 low_votes))
    ∷ NewView (change_of (committed_of_six 3 low_votes))
    ∷ NewView (change_of (prepared_of_six 4))
    ∷ NewView (change_of (prepared_of_six 5))
    ∷ Propose (claim 1 2 d)
    ∷ Prepare (claim 4 2 d)
    ∷ [])

abbrev pub among_six : List Event
among_six =
    -- view 1: all six prepare d
    calls 0 (to_propose d) (Ok (proposed 32))
    ∷ seals 0 offer_d
    ∷ hears 0 offer_d (Ok (heard noted 28))
    ∷ seals 0 (preparing 0 1 d 1)
    ∷ hears 1 offer_d (Ok (heard noted 28))
    ∷ seals 1 (preparing 1 1 d 2)
    ∷ hears 2 offer_d (Ok (heard noted 28))
    ∷ seals 2 (preparing 2 1 d 3)
    ∷ hears 3 offer_d (Ok (heard noted 28))
    ∷ seals 3 (preparing 3 1 d 4)
    ∷ hears 4 offer_d (Ok (heard noted 28))
    ∷ seals 4 (preparing 4 1 d 5)
    ∷ hears 5 offer_d (Ok (heard noted 28))
    ∷ seals 5 (preparing 5 1 d 6)
    -- site 0 commits with the fourth prepare, decides with the fifth, and notes the sixth
    ∷ hears 0 (preparing 0 1 d 1) (Ok (heard noted 0))
    ∷ hears 0 (preparing 1 1 d 2) (Ok (heard noted 0))
    ∷ hears 0 (preparing 2 1 d 3) (Ok (heard noted 0))
    ∷ hears 0 (preparing 3 1 d 4) (Ok (heard noted 80))
    ∷ seals 0 (committing 0 low_votes 7)
    ∷ hears 0 (preparing 4 1 d 5) (Ok (heard decided 0))
    ∷ hears 0 (preparing 5 1 d 6) (Ok (heard noted 0))
    ∷ calls 0 to_read (Ok (found (Some (record { report = viewed 1 d; way = fast }))))
    -- site 1 hears them from the last on: its certificate is another, its sites ascending
    ∷ hears 1 (preparing 5 1 d 6) (Ok (heard noted 0))
    ∷ hears 1 (preparing 4 1 d 5) (Ok (heard noted 0))
    ∷ hears 1 (preparing 3 1 d 4) (Ok (heard noted 0))
    ∷ hears 1 (preparing 2 1 d 3) (Ok (heard noted 80))
    ∷ seals 1 (committing 1 high_votes 8)
    -- sites 2 and 3 commit too
    ∷ hears 2 (preparing 0 1 d 1) (Ok (heard noted 0))
    ∷ hears 2 (preparing 1 1 d 2) (Ok (heard noted 0))
    ∷ hears 2 (preparing 2 1 d 3) (Ok (heard noted 0))
    ∷ hears 2 (preparing 3 1 d 4) (Ok (heard noted 80))
    ∷ seals 2 (committing 2 low_votes 9)
    ∷ hears 3 (preparing 0 1 d 1) (Ok (heard noted 0))
    ∷ hears 3 (preparing 1 1 d 2) (Ok (heard noted 0))
    ∷ hears 3 (preparing 2 1 d 3) (Ok (heard noted 0))
    ∷ hears 3 (preparing 3 1 d 4) (Ok (heard noted 80))
    ∷ seals 3 (committing 3 low_votes 10)
    -- site 5 decides with the fourth commit
    ∷ hears 5 (committing 0 low_votes 7) (Ok (heard noted 0))
    ∷ hears 5 (committing 1 high_votes 8) (Ok (heard noted 0))
    ∷ hears 5 (committing 2 low_votes 9) (Ok (heard noted 0))
    ∷ hears 5 (committing 3 low_votes 10) (Ok (heard decided 0))
    ∷ calls 5 to_read (Ok (found (Some (record { report = viewed 1 d; way = recovery }))))
    -- all leave for view 2, with what they committed and prepared
    ∷ calls 0 (to_leave 2) (Ok (wrote 108))
    ∷ seals 0 (new_view (committed_of_six 0 low_votes))
    ∷ calls 1 (to_leave 2) (Ok (wrote 108))
    ∷ seals 1 (new_view (committed_of_six 1 high_votes))
    ∷ calls 2 (to_leave 2) (Ok (wrote 108))
    ∷ seals 2 (new_view (committed_of_six 2 low_votes))
    ∷ calls 3 (to_leave 2) (Ok (wrote 108))
    ∷ seals 3 (new_view (committed_of_six 3 low_votes))
    ∷ calls 4 (to_leave 2) (Ok (wrote 40))
    ∷ seals 4 (new_view (prepared_of_six 4))
    ∷ calls 5 (to_leave 2) (Ok (wrote 40))
    ∷ seals 5 (new_view (prepared_of_six 5))
    -- its leader, site 1, may not propose with four new-views, has gathered enough with the fifth, and takes no sixth
    ∷ hears 1 (new_view (prepared_of_six 5)) (Ok (heard noted 0))
    ∷ hears 1 (new_view (committed_of_six 3 low_votes)) (Ok (heard noted 0))
    ∷ hears 1 (new_view (committed_of_six 1 high_votes)) (Ok (heard noted 0))
    ∷ hears 1 (new_view (committed_of_six 0 low_votes)) (Ok (heard noted 0))
    ∷ calls 1 (to_propose e) (Err may_not_propose)
    ∷ hears 1 (new_view (prepared_of_six 4)) (Ok (heard gathered_all 0))
    ∷ hears 1 (new_view (committed_of_six 2 low_votes)) (Err gathered_already)
    -- the commit certificates force d: it is handed e, and proposes d over the five, by ascending sites
    ∷ calls 1 (to_judge 2 (progress_bytes five)) (Ok (judged (told_forced 2 d 1)))
    ∷ calls 1 (to_propose e) (Ok (proposed 476))
    ∷ seals 1 offer_of_five
    ∷ hears 4 offer_of_five (Ok (heard noted 28))
    ∷ seals 4 (preparing 4 2 d 18)
    -- site 0 keeps its decision, and site 4 has none
    ∷ calls 0 to_read (Ok (found (Some (record { report = viewed 1 d; way = fast }))))
    ∷ calls 4 to_read (Ok (found None))
    ∷ []

abbrev pub SixSites : Type 0
SixSites = Played 1 4 six_rows (start 1 4) among_six

-- ---- refusals ----

-- a fix with track 1,000
abbrev pub illegal_track : Value
illegal_track = words 1000 600000 30000000

abbrev pub of_round_8 : Content
of_round_8 = prepare (record { head = record { round = 8; view = 1; site = 2 }; value = d }) (row 1)

abbrev pub not_by_the_leader : Content
not_by_the_leader = propose (claim 2 1 d) (row 0) []

-- a proposal of view 1 with a new-view
abbrev pub with_an_entry : Content
with_an_entry = propose (claim 0 1 d) (row 0) (moving 1 2 (Some (viewed 1 d)) 11 ∷ [])

-- a new-view of site i for view 2 that reports a commit of view 1
abbrev pub certifying : ℕ → Value → List Vote → ℕ → Turn
certifying i x votes k = committed_too (moving i 2 None k) x votes

abbrev pub two_voters : Turn
two_voters = certifying 0 d (vote 0 3 ∷ vote 1 4 ∷ []) 8

abbrev pub commits_d : Turn
commits_d = certifying 0 d (vote 0 3 ∷ vote 1 4 ∷ vote 2 1 ∷ []) 8

abbrev pub commits_e : Turn
commits_e = certifying 2 e (vote 0 5 ∷ vote 2 2 ∷ vote 3 6 ∷ []) 9

-- new-views that come to a conflict, and others that force e
abbrev pub clash : List Turn
clash = commits_d ∷ commits_e ∷ moving 3 2 None 10 ∷ []

abbrev pub forcing : List Turn
forcing = moving 0 2 (Some (viewed 1 e)) 12 ∷ moving 1 2 (Some (viewed 1 d)) 11 ∷ moving 3 2 (Some (viewed 1 e)) 13 ∷ []

-- new-views for view 5 that report nothing
abbrev pub fifth : List Turn
fifth = moving 0 5 None 16 ∷ moving 1 5 None 17 ∷ moving 2 5 None 18 ∷ []

-- a proposal of view 2
abbrev pub offering : Value → ℕ → List Turn → Content
offering x k ms = propose (claim 1 2 x) (row k) ms

abbrev pub refusing_rows : List ℕ
refusing_rows =
    rows_of (
    Propose (claim 0 1 d)
    ∷ Prepare (claim 2 1 d)
    ∷ Prepare (claim 2 1 e)
    ∷ Prepare (claim 0 1 d)
    ∷ Prepare (claim 1 1 d)
    ∷ Prepare (claim 0 1 e)
    ∷ Prepare (claim 3 1 e)
    ∷ Commit (claim 2 1 d)
    ∷ NewView (change_of commits_d)
    ∷ NewView (change_of commits_e)
    ∷ NewView (change_of (moving 3 2 None 10))
    ∷ NewView (change_of (moving 1 2 (Some (viewed 1 d)) 11))
    ∷ NewView (change_of (moving 0 2 (Some (viewed 1 e)) 12))
    ∷ NewView (change_of (moving 3 2 (Some (viewed 1 e)) 13))
    ∷ Propose (claim 1 2 d)
    ∷ Propose (claim 1 2 e)
    ∷ NewView (change_of (moving 0 5 None 16))
    ∷ NewView (change_of (moving 1 5 None 17))
    ∷ NewView (change_of (moving 2 5 None 18))
    ∷ Propose (claim 0 5 e)
    ∷ [])

abbrev pub refusing : List Event
refusing =
    -- propose: 7, no legal fix; 13, not the leader, and proposed already
    calls 0 (to_propose illegal_track) (Err (illegal 0))
    ∷ calls 1 (to_propose d) (Err may_not_propose)
    ∷ calls 0 (to_propose d) (Ok (proposed 32))
    ∷ calls 0 (to_propose d) (Err may_not_propose)
    ∷ seals 0 offer_d
    -- 3 to 8: a packet by itself
    ∷ calls 1 (to_hear (take 30 (message_bytes offer_d))) (Err (layout 28))
    ∷ hears 1 of_round_8 (Err (other_round 4))
    ∷ hears 1 (preparing 2 2 d 1) (Err (wrong_view 8))
    ∷ hears 1 (preparing 4 1 d 1) (Err (wrong_site 12))
    ∷ hears 1 not_by_the_leader (Err (wrong_site 12))
    ∷ hears 1 (new_view (moving 2 1 None 1)) (Err (wrong_site 12))
    ∷ hears 0 (new_view (moving 2 1 None 1)) (Err (wrong_site 12))
    ∷ hears 1 (preparing 2 1 illegal_track 1) (Err (illegal 16))
    ∷ hears 1 (preparing 2 1 d 2) (Err (bad_tag 28))
    -- 12: the certificate of a proposal of view 1 has no entries
    ∷ hears 1 with_an_entry (Err (bad_certificate 36 1 1))
    -- 9 and 10: heard already, another heard already
    ∷ hears 1 offer_d (Ok (heard noted 28))
    ∷ hears 1 offer_d (Err repeated)
    ∷ hears 1 (preparing 2 1 d 1) (Ok (heard noted 0))
    ∷ hears 1 (preparing 2 1 d 1) (Err repeated)
    ∷ hears 1 (preparing 2 1 e 2) (Err equivocation)
    -- 12: the certificate of a commit
    ∷ hears 1 (committing 2 (vote 0 3 ∷ vote 1 4 ∷ []) 7) (Err (bad_certificate 36 1 1))
    ∷ hears 1 (committing 2 (vote 0 3 ∷ vote 0 3 ∷ vote 1 4 ∷ []) 7) (Err (bad_certificate 52 4 1))
    ∷ hears 1 (committing 2 (vote 0 3 ∷ vote 1 4 ∷ vote 2 2 ∷ []) 7) (Err (bad_certificate 68 6 1))
    -- 5: no view has number 0; 16: a view that is not higher
    ∷ calls 1 (to_judge 0 (progress_bytes [])) (Err (wrong_view 0))
    ∷ calls 1 (to_leave 1) (Err not_higher)
    -- view 2 at its leader: 13, nothing is gathered; 5, 7 and 12, what a new-view reports
    ∷ calls 1 (to_leave 2) (Ok (wrote 40))
    ∷ calls 1 (to_propose d) (Err may_not_propose)
    ∷ hears 1 (new_view (moving 0 2 (Some (viewed 2 d)) 8)) (Err (wrong_view 20))
    ∷ hears 1 (new_view (moving 0 2 (Some (viewed 0 d)) 8)) (Err (wrong_view 20))
    ∷ hears 1 (new_view (moving 0 2 (Some (viewed 1 illegal_track)) 8)) (Err (illegal 24))
    ∷ hears 1 (new_view two_voters) (Err (bad_certificate 48 1 1))
    -- 9, 11 and 14: gathering, and what is gathered
    ∷ hears 1 (new_view commits_d) (Ok (heard noted 0))
    ∷ hears 1 (new_view commits_d) (Err repeated)
    ∷ hears 1 (new_view commits_e) (Ok (heard noted 0))
    ∷ hears 1 (new_view (moving 3 2 None 10)) (Ok (heard gathered_all 0))
    ∷ hears 1 (new_view (moving 1 2 (Some (viewed 1 d)) 11)) (Err gathered_already)
    ∷ calls 1 (to_propose d) (Err conflicting)
    ∷ calls 1 (to_judge 2 (progress_bytes clash)) (Err conflicting)
    -- view 2 at another site: 6, it does not lead; 14, 12 and 15, the certificate of a proposal
    ∷ calls 2 (to_leave 2) (Ok (wrote 24))
    ∷ hears 2 (new_view (moving 1 2 (Some (viewed 1 d)) 11)) (Err (wrong_site 12))
    ∷ hears 2 (offering d 14 clash) (Err conflicting)
    ∷ hears 2 (offering d 14 (two_voters ∷ commits_e ∷ moving 3 2 None 10 ∷ [])) (Err (bad_certificate 88 1 2))
    ∷ hears 2 (offering d 14 (take 2 forcing)) (Err (bad_certificate 36 1 1))
    ∷ hears 2 (offering d 14 forcing) (Err not_forced)
    ∷ hears 2 (offering e 15 forcing) (Ok (heard noted 28))
    -- later views: 13, what was gathered is forgotten; and so is that a site has proposed
    ∷ calls 1 (to_leave 6) (Ok (wrote 40))
    ∷ calls 1 (to_propose d) (Err may_not_propose)
    ∷ calls 0 (to_leave 5) (Ok (wrote 24))
    ∷ hears 0 (new_view (moving 0 5 None 16)) (Ok (heard noted 0))
    ∷ hears 0 (new_view (moving 1 5 None 17)) (Ok (heard noted 0))
    ∷ hears 0 (new_view (moving 2 5 None 18)) (Ok (heard gathered_all 0))
    ∷ calls 0 (to_judge 5 (progress_bytes fifth)) (Ok (judged told_free))
    ∷ calls 0 (to_propose e) (Ok (proposed 128))
    ∷ seals 0 (propose (claim 0 5 e) (row 19) fifth)
    ∷ []

-- a call of site 1, over no register; and as the first of a round
abbrev pub lone_call : Kept → Books → ℕ → Request → Result Effect Refused
lone_call k books out r = performed (registered []) (member 0 4 1) k books out r

abbrev pub first_call : Books → ℕ → Request → Result Effect Refused
first_call books out r = lone_call (fresh 9) books out r

abbrev pub zeros : Books
zeros = empty_books (sizes_of 1 0 4)

-- the draft of site 1's prepare of d in view 1
abbrev pub prepare_draft : List ℕ
prepare_draft = statement_bytes (Prepare (claim 1 1 d))

-- as if the leader of view 2 had gathered three new-views of 32 bytes
abbrev pub as_if_gathered : Kept
as_if_gathered = record (fresh 9) { view = 2; lengths = record no_lengths { views = 32 ∷ 0 ∷ 32 ∷ 32 ∷ replicate 12 0 } }

-- then it proposes d, over a view book
abbrev pub proposed_over : List ℕ → Result Effect Refused
proposed_over views = lone_call as_if_gathered (record zeros { views = views }) 352 (to_propose d)

-- a row of the view book, of 104 bytes, with a new-view of 32 bytes
abbrev pub view_row_of : ℕ → List ℕ
view_row_of i = message_bytes (new_view (moving i 2 None 0)) ++ replicate 72 0

-- the new-views of sites 0, 2 and 3, as they were gathered
abbrev pub gathered_views : List ℕ
gathered_views = view_row_of 0 ++ (replicate 104 0 ++ (view_row_of 2 ++ view_row_of 3))

pub record Refusals : Type 0 where
  -- 1: no site has number 4; no tag limit is 6; 17 sites are too many
  pub no_such_site : opening 1 0 4 4 9 ≡ Err limits
  pub no_such_limit : opening 1 0 0 6 9 ≡ Err limits
  pub too_many : opening 4 2 0 4 9 ≡ Err limits
  pub opened : opening 1 0 3 4 9 ≡ Ok (member 0 4 3, fresh 9)
  -- 2: out or a book is a byte too short, which speaks before 16, 3 and 7
  pub out_short : first_call zeros 351 (to_leave 1) ≡ Err short
  pub tags_short : first_call (record zeros { tags = replicate 31 0 }) 352 (to_leave 1) ≡ Err short
  pub certificate_short : first_call (record zeros { certificate = replicate 39 0 }) 352 (to_hear []) ≡ Err short
  pub views_short : first_call (record zeros { views = replicate 415 0 }) 352 (to_propose illegal_track) ≡ Err short
  -- sealing: 2 by the tag limit; 3 for a tag above it, before 2, and for a draft that is cut
  pub no_room : first_call zeros 35 (to_seal prepare_draft (row 0)) ≡ Err short
  pub room : answer_of (first_call zeros 36 (to_seal prepare_draft (row 0))) ≡ Ok (wrote 36)
  pub long_tag : first_call zeros 0 (to_seal prepare_draft (replicate 5 0)) ≡ Err (layout 0)
  pub cut_draft : first_call zeros 352 (to_seal (take 20 prepare_draft) (row 0)) ≡ Err (layout 20)
  -- 3: a view book that is not lent as it was left is broken at the kind of its second new-view, by its place in the certificate
  pub other_book : proposed_over (view_row_of 0 ++ replicate 312 0) ≡ Err (layout 36)
  -- 3: each row is read by itself. With the first bool of row 0 overwritten with 1, its new-view reports a prepare of view 0 whose
  -- fix is cut at the row's end, 32; read on into row 2, the next fault were the bool at 40
  pub shifted_border : proposed_over (set gathered_views 19 1) ≡ Err (layout 36)
  -- all others, in a run
  pub others : Played 0 4 refusing_rows (start 0 4) refusing

-- ---- sizes and bytes ----

-- an out of 352 bytes, as it may be lent
abbrev pub old_out : List ℕ
old_out = replicate 352 170

-- the draft of a new-view of site 1 for view 2 that reports nothing
abbrev pub short_draft : List ℕ
short_draft = word_bytes 4 ++ (word_bytes 9 ++ (word_bytes 2 ++ (word_bytes 1 ++ (word_bytes 0 ++ word_bytes 0))))

pub record Sizing : Type 0 where
  pub four_sites : sizes_of 1 0 4 ≡ record { tags = 32; certificate = 40; views = 416; out = 352 }
  pub six_sites : sizes_of 1 1 1292 ≡ record { tags = 7776; certificate = 5204; views = 39336; out = 34108 }
  pub sixteen_sites : sizes_of 5 0 2048 ≡ record { tags = 32832; certificate = 22620; views = 395648; out = 274092 }
  pub longest_out : sizes_of 3 3 2048 ≡ record { tags = 32832; certificate = 20564; views = 362752; out = 296820 }
  -- site 1's prepare of d in round 9, view 1
  pub prepare_bytes :
      prepare_draft
      ≡ (0 ∷ 0 ∷ 0 ∷ 2
      ∷ 0 ∷ 0 ∷ 0 ∷ 9
      ∷ 0 ∷ 0 ∷ 0 ∷ 1
      ∷ 0 ∷ 0 ∷ 0 ∷ 1
      ∷ 0 ∷ 0 ∷ 0 ∷ 7
      ∷ 0 ∷ 9 ∷ 39 ∷ 192
      ∷ 1 ∷ 201 ∷ 195 ∷ 128
      ∷ [])
  -- a draft stands at the start of out, and what lies behind it stays; a refusal leaves all of out
  pub out_behind : out_after old_out (first_call zeros 352 (to_leave 2)) ≡ (short_draft ++ replicate 328 170)
  pub out_refused : out_after old_out (first_call zeros 352 (to_leave 1)) ≡ old_out

-- ---- all of them ----

pub record CallExamples : Type 0 where
  pub rehearsed : Rehearsed
  pub recovered : Recovered
  pub six : SixSites
  pub refusals : Refusals
  pub sizing : Sizing
