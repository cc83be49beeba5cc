-- What is written fits out, and what is laid over a book fits the book.
use Rattle.std.proofs.Common.{◌≡◌, ℕ, suc, ◌+◌, ◌*◌, ◌≤◌, Bool, true, false, cond, List, [], ◌∷◌, ◌++◌, length, take, drop, set, Some, None, Ok, Err, Option, Result, slice_index, sym, refl, ap, ◌∙◌, subst, arith, length-append, length-take, length-drop, suc-mul, one-mul, mul-le-mul_right}
use Rattle.std.specs.Prelude.{◌==◌, nat_le, nat_lt}
use Rattle.std.proofs.lemmas.Bool.{leb-true, ltb-true, eqb-true}
use Rattle.buffers.specs.Words.{word_bytes}
use Rattle.buffers.specs.Lays.{laid}
use Rattle.buffers.proofs.Laying.{length-laid}
use Rattle.values.specs.declared.fix.Value.{Value}
use Rattle.values.specs.declared.fix.Report.{Report}
use Rattle.values.specs.Fleets.{sites, recovery_quorum, progress_quorum, legal_fleet, legal_limit}
use Rattle.values.specs.Refusals.{short, layout}
use Rattle.wire.specs.declared.words.Malformed.{Malformed}
use Rattle.wire.specs.declared.statement.Statement.{Statement}
use Rattle.wire.specs.declared.statement.Statement.TheVariants.{Prepare, Commit, NewView}
use Rattle.wire.specs.Words.{bind}
use Rattle.wire.specs.Contents.{report_bytes, statement_bytes, tag_bytes, Turn, change_of, certified_bytes, Content, propose, prepare, commit, new_view}
use Rattle.wire.specs.Layout.{message_of}
use Rattle.wire.proofs.Results.{bind_ok, ok_same}
use Rattle.packets.proofs.Whole.{message_only}
use Rattle.checks.specs.Vouching.{Vouched}
use Rattle.agreement.specs.Sites.{size}
use Rattle.agreement.specs.Moves.{holders}
use Rattle.certificates.specs.Steps.{passed}
use Rattle.certificates.specs.Faults.{at_depth, bad_count}
use Rattle.certificates.specs.Examining.{entries_needed, progress_steps, behind_tag}
use Rattle.certificates.proofs.Passing.{test_ok, append_ok}
use Rattle.records.specs.Sizes.{tag_row, certificate_size, view_row, out_size}
use Rattle.records.specs.Rows.{row_of, with_prepare}
use Rattle.records.specs.Books.{Books, book_row, held_row}
use Rattle.records.specs.Kept.{Membership, Kept}
use Rattle.calls.specs.Gathering.{members, joined, placed, turn_of, gathered, gathered_turn, turns_read}
use Rattle.calls.specs.Steps.{row_steps, propose_steps, hear_propose_steps, hear_prepare_steps, hear_commit_steps, hear_new_view_steps, claim_heard, change_heard}
use Rattle.calls.specs.Effects.{nothing, draft, output_bytes, Effect, own_claim, holding, last_certificate, certificate_from}
use Rattle.calls.specs.Calls.{to_propose, to_hear, to_leave, to_seal, to_judge, to_read, judging_call, read_call, hear_content, performed}
use Rattle.calls.specs.Laws.{WrittenFits, OfBytes, BooksKeepLength}
use Rattle.calls.proofs.Done.{done_ok, propose_done, hear_done, leave_done, seal_done}
use Rattle.calls.proofs.Laid.{row_inside}
use Rattle.calls.proofs.Members.{size_members}
use Rattle.calls.proofs.Filling.{Roomy, room_ok, claim_ok, turn_ok, tag_fits, report_short, turn_short, tag_short}

-- ---- lengths ----

joined_long : (bytes : ℕ → List ℕ) (size : ℕ) (xs : List ℕ) → ((x : ℕ) → length (bytes x) ≤ size) → length (joined bytes xs) ≤ length xs * size
joined_long bytes size [] h = omega arith
joined_long bytes size (x ∷ xs) h = omega (arith, length-append (bytes x) (joined bytes xs), h x, joined_long bytes size xs h, suc-mul (length xs) size)

held_short : (book : List ℕ) (size : ℕ) (lengths : List ℕ) (j : ℕ) → length (held_row book size lengths j) ≤ size
held_short book size lengths j =
    let row = book_row book size j in
    omega (arith, length-take (slice_index lengths j) row, length-take size (drop (j * size) book))

placed_good : {A : Type 0} (by : ℕ) (r : Result A Malformed) (k : A → Result (List Turn) Malformed) (xs : List Turn) → bind (placed by r) k ≡ Ok xs → (x : A) × (k x ≡ Ok xs)
placed_good by (Ok x) k xs h = (x, h)
placed_good by (Err e) k xs h = absurd (let z : ◌≡◌ {A = ℕ} 0 1 = cc in omega arith)

pub turns_many : (m : Membership) (k : Kept) (books : Books) (place : ℕ) (js : List ℕ) (xs : List Turn) → turns_read m k books.views place js ≡ Ok xs → length xs ≡ length js
turns_many m k books place [] xs h = rw (sym (ok_same h))
turns_many m k books place (j ∷ js) xs h =
    let row = gathered_turn m k books.views j in
    let p = placed_good place (turn_of m.limit row) _ xs h in
    let q = bind_ok (turns_read m k books.views (place + length row) js) _ xs p.1 in
    let e = turns_many m k books (place + length row) js q.0 q.1 in
    rw (sym (ok_same q.2)) (ap suc e)

module _ (m : Membership) (out : ℕ) (room : out_size m.f m.t m.limit ≤ out) where
  row : ℕ
  row = view_row m.f m.t m.limit

  needed_few : (view : ℕ) (b : Bool) → cond b 0 (progress_quorum m.f m.t) ≤ progress_quorum m.f m.t
  needed_few view true = omega arith
  needed_few view false = omega arith

  -- so many rows, behind a statement and a count word
  many_fit : (n long : ℕ) → n ≤ progress_quorum m.f m.t → long ≤ n * view_row m.f m.t m.limit → 32 + long ≤ out
  many_fit n long h l = omega (arith, mul-le-mul_right (view_row m.f m.t m.limit) h)

  -- one row alone
  one_fits : (long : ℕ) → long ≤ view_row m.f m.t m.limit → long ≤ out
  one_fits long l =
      let some : 1 ≤ progress_quorum m.f m.t = omega arith in
      omega (arith, mul-le-mul_right (view_row m.f m.t m.limit) some, one-mul (view_row m.f m.t m.limit))

  small_fits : (n : ℕ) → n ≤ 28 → n ≤ out
  small_fits n h = omega arith

-- ---- commit certificates ----

module _ (m : Membership) where
  pub certificate_long : (rows : List (Option Value)) (tags lengths : List ℕ) (d : Value) → holding m rows d ≡ recovery_quorum m.f m.t
      → length (certificate_from m rows tags lengths d) ≤ certificate_size m.f m.t m.limit
  certificate_long rows tags lengths d h =
      let p = holders (row_of rows) d in
      let voters = members p 0 (sites m.f m.t) in
      let entry = λ (j : ℕ). word_bytes j ++ held_row tags (tag_row m.limit) lengths j in
      let many : length voters ≡ recovery_quorum m.f m.t = size_members p (sites m.f m.t) ∙ h in
      let long = joined_long entry (m.limit + 8) voters (λ j. omega (arith, held_short tags (tag_row m.limit) lengths j)) in
      let e : length voters * (m.limit + 8) ≡ recovery_quorum m.f m.t * (m.limit + 8) = ap (λ (n : ℕ). n * (m.limit + 8)) many in
      omega arith

  last_short : (o : Option Report) (n : ℕ) (book : List ℕ) → length (last_certificate m o n book) ≤ certificate_size m.f m.t m.limit
  last_short None n book = omega arith
  last_short (Some r) n book = omega (arith, length-take n (take (certificate_size m.f m.t m.limit) book), length-take (certificate_size m.f m.t m.limit) book)

-- a draft that is made if a test says so
drafts_fit : (b : Bool) (s : Statement) (attached : List ℕ) (out : ℕ) → (b ≡ true → length (statement_bytes s ++ attached) ≤ out) → length (output_bytes (cond b (draft s attached) nothing)) ≤ out
drafts_fit true s attached out h = h refl
drafts_fit false s attached out h = omega arith

laid_if : (b : Bool) (book xs : List ℕ) → (b ≡ true → length xs ≤ length book) → length (cond b (laid book 0 xs) book) ≡ length book
laid_if true book xs h = let k = h refl in length-laid book xs 0 (omega arith)
laid_if false book xs h = refl

module _ (v : Vouched) (m : Membership) (k : Kept) (books : Books) (out : ℕ) (fleet : legal_fleet m.f m.t ≡ true) (limit : legal_limit m.limit ≡ true) where
  abbrev Fits : Effect → Type 0
  Fits x = length (output_bytes x.output) ≤ out

  propose_fits : (d : Value) (x : Effect) → performed v m k books out (to_propose d) ≡ Ok x → Fits x
  propose_fits d x h =
      let p = propose_done v m k books out d x h in
      let room = (room_ok v m books out p.room).whole in
      let g = gathered m k in
      let a = append_ok v (progress_steps m.f m.t k.round k.view 0 p.xs) _ p.judged in
      let b = test_ok (length p.xs == entries_needed m.f m.t k.view) _ (at_depth 1 (bad_count 0)) a.0 in
      let few = needed_few m out room k.view (k.view == 1) in
      let e = eqb-true (length p.xs) (entries_needed m.f m.t k.view) b.0 in
      let f = turns_many m k books 4 g p.xs p.read in
      let long = joined_long (gathered_turn m k books.views) (view_row m.f m.t m.limit) g (λ j. held_short books.views (view_row m.f m.t m.limit) k.lengths.views j) in
      let many = many_fit m out room (length g) (length (joined (gathered_turn m k books.views) g)) (omega arith) long in
      subst Fits (sym p.is) (omega arith)

  content_fits : (room : out_size m.f m.t m.limit ≤ out) (packet : List ℕ) (c : Content) → Fits (hear_content m k books packet c).answer
  content_fits room packet (propose c tag xs) = small_fits m out room 28 (omega arith)
  content_fits room packet (prepare c tag) =
      let i = c.head.site in
      let rows = (with_prepare k.rows i c.value).prepares in
      let tags = laid books.tags (i * tag_row m.limit) (tag_bytes tag) in
      let lengths = set k.lengths.tags i (length (tag_bytes tag)) in
      let many = holding m rows c.value in
      let q = recovery_quorum m.f m.t in
      let certificate = certificate_from m rows tags lengths c.value in
      drafts_fit (many == q) (Commit (own_claim m k c.value)) certificate out (λ e.
      let l = certificate_long m rows tags lengths c.value (eqb-true many q e) in
      let whole : 28 + length certificate ≤ view_row m.f m.t m.limit = omega arith in
      let fits = one_fits m out room (28 + length certificate) whole in
      omega arith)
  content_fits room packet (commit c tag votes) = small_fits m out room 0 (omega arith)
  content_fits room packet (new_view y) = small_fits m out room 0 (omega arith)

  hear_fits : (packet : List ℕ) (x : Effect) → performed v m k books out (to_hear packet) ≡ Ok x → Fits x
  hear_fits packet x h =
      let p = hear_done v m k books out packet x h in
      subst Fits (sym p.is) (content_fits (room_ok v m books out p.room).whole packet p.content)

  leave_fits : (view : ℕ) (x : Effect) → performed v m k books out (to_leave view) ≡ Ok x → Fits x
  leave_fits view x h =
      let p = leave_done v m k books out view x h in
      let room = (room_ok v m books out p.room).whole in
      let a = report_bytes k.prepared in
      let b = report_bytes k.committed in
      let c = last_certificate m k.committed k.lengths.certificate books.certificate in
      let long : 16 + length ((a ++ b) ++ c) ≤ view_row m.f m.t m.limit =
      omega (arith, length-append (a ++ b) c, length-append a b, report_short k.prepared, report_short k.committed, last_short m k.committed k.lengths.certificate books.certificate) in
      let fits = one_fits m out room (16 + length ((a ++ b) ++ c)) long in
      subst Fits (sym p.is) (omega arith)

  seal_fits : (written tag : List ℕ) (x : Effect) → performed v m k books out (to_seal written tag) ≡ Ok x → Fits x
  seal_fits written tag x h =
      let p = seal_done v m k books out written tag x h in
      let a = test_ok (nat_le (length tag) m.limit) _ (layout 0) p.tested in
      let b = test_ok (nat_le (length written + (m.limit + 4)) out) _ short a.1 in
      let room = leb-true (length written + (m.limit + 4)) out b.0 in
      let t = tag_fits m.limit tag limit (leb-true (length tag) m.limit a.0) in
      let y = take p.end written in
      let z = drop p.end written in
      subst Fits (sym p.is) (omega (arith, length-append y (tag_bytes tag ++ z), length-append (tag_bytes tag) z, length-take p.end written, length-drop p.end written))

  -- ---- books ----

  abbrev Keeps : Effect → Type 0
  Keeps x = (length x.books.tags ≡ length books.tags) × (length x.books.certificate ≡ length books.certificate) × (length x.books.views ≡ length books.views)

  content_keeps : (room : Roomy v m books out) (packet : List ℕ) (c : Content) → OfBytes (to_hear packet) → message_of m.limit packet ≡ Ok c → passed v (hear_content m k books packet c).steps ≡ Ok (tt {0}) → Keeps (hear_content m k books packet c).answer
  unfolding propose_steps hear_propose_steps hear_prepare_steps hear_commit_steps hear_new_view_steps claim_heard change_heard
  content_keeps room packet (propose c tag xs) bytes read h = (refl, refl, refl)
  content_keeps room packet (prepare c tag) bytes read h =
      let i = c.head.site in
      let n = sites m.f m.t in
      let q = claim_ok v k.round k.view (nat_lt i n) c (Prepare c) tag (row_steps (row_of k.rows.prepares i) c.value) h in
      let fits = tag_fits m.limit tag limit (tag_short m.limit packet (prepare c tag) read) in
      let inside = row_inside i n (tag_row m.limit) (length (tag_bytes tag)) (length books.tags) (ltb-true i n q.is_known) room.tags fits in
      let rows = (with_prepare k.rows i c.value).prepares in
      let tags = laid books.tags (i * tag_row m.limit) (tag_bytes tag) in
      let lengths = set k.lengths.tags i (length (tag_bytes tag)) in
      let many = holding m rows c.value in
      let certificate = certificate_from m rows tags lengths c.value in
      let certified = laid_if (many == recovery_quorum m.f m.t) books.certificate certificate (λ e.
      let l = certificate_long m rows tags lengths c.value (eqb-true many (recovery_quorum m.f m.t) e) in
      let r = room.certificate in
      omega arith) in
      (length-laid books.tags (tag_bytes tag) (i * tag_row m.limit) inside, certified, refl)
  content_keeps room packet (commit c tag votes) bytes read h = (refl, refl, refl)
  content_keeps room packet (new_view y) bytes read h =
      let i = y.head.site in
      let n = sites m.f m.t in
      let q = turn_ok v m k y h in
      let w = message_only m.limit packet bytes (new_view y) read in
      let s = turn_short v m.f m.t k.round m.limit (behind_tag 0 y) y limit w.1.tag w.1.votes q.certified in
      let same : length packet ≡ length (statement_bytes (NewView (change_of y)) ++ (tag_bytes y.tag ++ certified_bytes y.committed)) = ap length w.0 in
      let fits : length packet ≤ view_row m.f m.t m.limit = omega arith in
      let inside = row_inside i n (view_row m.f m.t m.limit) (length packet) (length books.views) q.site_is room.views fits in
      (refl, refl, length-laid books.views packet (i * view_row m.f m.t m.limit) inside)

  hear_keeps : (packet : List ℕ) (x : Effect) → OfBytes (to_hear packet) → performed v m k books out (to_hear packet) ≡ Ok x → Keeps x
  hear_keeps packet x bytes h =
      let p = hear_done v m k books out packet x h in
      subst Keeps (sym p.is) (content_keeps (room_ok v m books out p.room) packet p.content bytes p.read p.tested)

pub written_fits : WrittenFits
written_fits v m k books out (to_propose d) x fleet limit h = propose_fits v m k books out fleet limit d x h
written_fits v m k books out (to_hear packet) x fleet limit h = hear_fits v m k books out fleet limit packet x h
written_fits v m k books out (to_leave view) x fleet limit h = leave_fits v m k books out fleet limit view x h
written_fits v m k books out (to_seal written tag) x fleet limit h = seal_fits v m k books out fleet limit written tag x h
written_fits v m k books out (to_judge view bytes) x fleet limit h = let p = done_ok v (judging_call m k books view bytes) x h in rw p.1 (omega arith)
written_fits v m k books out to_read x fleet limit h = let p = done_ok v (read_call m k books) x h in rw p.1 (omega arith)

pub books_keep_length : BooksKeepLength
books_keep_length v m k books out (to_propose d) x fleet limit bytes h = let p = propose_done v m k books out d x h in rw p.is (refl, refl, refl)
books_keep_length v m k books out (to_hear packet) x fleet limit bytes h = hear_keeps v m k books out fleet limit packet x bytes h
books_keep_length v m k books out (to_leave view) x fleet limit bytes h = let p = leave_done v m k books out view x h in rw p.is (refl, refl, refl)
books_keep_length v m k books out (to_seal written tag) x fleet limit bytes h = let p = seal_done v m k books out written tag x h in rw p.is (refl, refl, refl)
books_keep_length v m k books out (to_judge view b) x fleet limit bytes h = let p = done_ok v (judging_call m k books view b) x h in rw p.1 (refl, refl, refl)
books_keep_length v m k books out to_read x fleet limit bytes h = let p = done_ok v (read_call m k books) x h in rw p.1 (refl, refl, refl)
