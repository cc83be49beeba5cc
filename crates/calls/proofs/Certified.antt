-- The certificates that a site keeps and drafts are good: each of their votes was vouched for when it was heard.
use Rattle.std.proofs.Common.{◌≡◌, ℕ, zero, suc, ◌+◌, ◌≤◌, ◌<◌, Bool, true, false, cond, leb, ltb, List, [], ◌∷◌, ◌++◌, length, take, drop, replicate, Some, None, Ok, Err, Option, Result, slice_index_or, sym, refl, ap, ap₂, ◌∙◌, subst, subst₂, inl, inr, arith, length-set}
use Rattle.std.specs.Prelude.{◌==◌, nat_lt}
use Rattle.std.proofs.lemmas.List.{take-take, take_at}
use Rattle.std.proofs.lemmas.Bool.{false≢true, cases_Bool, cases_eq, and_from, eqb-true, eq-eqb, le-leb, lt-ltb}
use Rattle.buffers.specs.Words.{word_bytes}
use Rattle.buffers.specs.Lays.{laid}
use Rattle.buffers.proofs.Laying.{laid_start}
use Rattle.values.specs.declared.fix.Value.{Value}
use Rattle.values.specs.declared.fix.Report.{Report}
use Rattle.values.specs.Fleets.{sites, recovery_quorum, legal_fleet, legal_limit}
use Rattle.values.specs.Refusals.{Refused}
use Rattle.verdicts.proofs.Counts.{same_eq}
use Rattle.wire.specs.declared.statement.Claim.{Claim}
use Rattle.wire.specs.declared.statement.ViewChange.{ViewChange}
use Rattle.wire.specs.declared.statement.Statement.{Statement}
use Rattle.wire.specs.declared.statement.Statement.TheVariants.{Propose, Prepare, Commit, NewView}
use Rattle.wire.specs.Contents.{tag_bytes, Vote, vote_bytes, votes_bytes, Content, propose, prepare, commit, new_view}
use Rattle.wire.specs.Layout.{message_of}
use Rattle.packets.specs.Fits.{VotesFit}
use Rattle.checks.specs.Vouching.{Vouched}
use Rattle.agreement.specs.Sites.{size}
use Rattle.agreement.specs.Moves.{holds, holders}
use Rattle.certificates.specs.Steps.{Question, granted, Step, test, ask, passed, asked, answering}
use Rattle.certificates.specs.Examining.{rising, prepare_of, votes_steps}
use Rattle.records.specs.Sizes.{tag_row, certificate_size, sizes_of, covers}
use Rattle.records.specs.Rows.{row_of}
use Rattle.records.specs.Books.{Books, held, held_row, lent_sizes}
use Rattle.records.specs.Kept.{Membership, Kept, fresh}
use Rattle.calls.specs.Gathering.{members, joined, own_progress}
use Rattle.calls.specs.Effects.{nothing, draft, message, Effect, own_head, own_claim, moved_to, holding, last_certificate, certificate_from, counting_prepare}
use Rattle.calls.specs.Calls.{Request, to_propose, to_hear, to_leave, to_seal, to_judge, to_read, judging_call, read_call, leave_call, call, performed, asks, kept_after, books_after}
use Rattle.calls.specs.Laws.{Sound, PrepareHeard, Standing, Called, doing, after_call, after_calls, opened, standing, KeepsTo, KeepsToCall, KeepsToCalls, GoodCertificate, GoodReport, KeptCertificateIsGood, DraftedCertificatesAreGood}
use Rattle.calls.proofs.Done.{done_ok, propose_done, hear_done, hear_as, leave_done, seal_done}
use Rattle.calls.proofs.Filling.{few_sites, tag_short, hear_fills_prepare, heard_is_vouched}
use Rattle.calls.proofs.Room.{certificate_long}
use Rattle.calls.proofs.Members.{size_members}

-- ---- a certificate made of rows ----

module _ (v : Vouched) (m : Membership) (round view : ℕ) (d : Value) (tags lengths : List ℕ) where
  abbrev report : Report
  report = record { view = view; value = d }

  abbrev entry : ℕ → List ℕ
  entry j = word_bytes j ++ held_row tags (tag_row m.limit) lengths j

  -- the tag of a site's prepare, as it was heard
  record Tagged (j : ℕ) : Type 0 where
    tag : List ℕ
    tag_short : length tag ≤ m.limit
    tag_held : held_row tags (tag_row m.limit) lengths j ≡ tag_bytes tag
    tag_vouched : granted v (record { site = j; said = prepare_of round report j; tag = tag }) ≡ true

  module _ (rows : List (Option Value)) where
    abbrev holder : ℕ → Bool
    holder j = holders (row_of rows) d j

    -- the votes of the holders from a site on
    record Made (low n : ℕ) : Type 0 where
      votes : List Vote
      is : joined entry (members holder low n) ≡ votes_bytes votes
      many : length votes ≡ length (members holder low n)
      fits : VotesFit m.limit votes
      pass : (least place : ℕ) → least ≤ low → passed v (votes_steps m.f m.t round report least place votes) ≡ Ok (tt {0})

    module _ (few : sites m.f m.t ≤ 16) (all : (j : ℕ) → holder j ≡ true → Tagged j) where
      put : (low n : ℕ) → low < sites m.f m.t → Tagged low → Made (suc low) n → holder low ≡ true → Made low (suc n)
      put low n inside t rest h =
          let x : Vote = record { site = low; tag = t.tag } in
          record {
            votes = x ∷ rest.votes;
            is = rw h (ap₂ (λ (y z : List ℕ). (word_bytes low ++ y) ++ z) t.tag_held rest.is);
            many = rw h (ap suc rest.many);
            fits = ((let z = few in omega arith), t.tag_short, rest.fits);
            pass = λ least place l.
                let a : rising (sites m.f m.t) least low ≡ true = and_from (leb least low) (ltb low (sites m.f m.t)) (le-leb least low l) (lt-ltb low (sites m.f m.t) inside) in
                let r = rest.pass (low + 1) (place + length (vote_bytes x)) (omega arith) in
                rw (a, t.tag_vouched, r);
          }

      pass_over : (low n : ℕ) → Made (suc low) n → holder low ≡ false → Made low (suc n)
      pass_over low n rest h =
          record {
            votes = rest.votes;
            is = rw h rest.is;
            many = rw h rest.many;
            fits = rest.fits;
            pass = λ least place l. rest.pass least place (omega arith);
          }

      made : (low n : ℕ) → low + n ≤ sites m.f m.t → Made low n
      made low zero l = record { votes = []; is = refl; many = refl; fits = tt; pass = λ least place k. refl }
      made low (suc n) l =
          let rest = made (suc low) n (omega arith) in
          elim (cases_Bool (holder low)) [
            | inl h ↦ put low n (omega arith) (all low h) rest h
            | inr h ↦ pass_over low n rest h
          ]

      -- of a recovery quorum it is a commit certificate
      good_from : size holder (sites m.f m.t) ≡ recovery_quorum m.f m.t
          → GoodCertificate v m round report (word_bytes (length (members holder 0 (sites m.f m.t))) ++ joined entry (members holder 0 (sites m.f m.t)))
      good_from h =
          let n = sites m.f m.t in
          let w = made 0 n (omega arith) in
          let many : length w.votes ≡ recovery_quorum m.f m.t = w.many ∙ size_members holder n ∙ h in
          record {
            votes = w.votes;
            is = ap₂ (λ (y : ℕ) (z : List ℕ). word_bytes y ++ z) (sym w.many) w.is;
            fits = (omega arith, w.fits);
            good = λ place.
                let r = w.pass 0 (place + 4) (omega arith) in
                rw (eq-eqb (length w.votes) (recovery_quorum m.f m.t) many, r);
          }

some_same : {A : Type 0} {x y : A} → ◌≡◌ {A = Option A} (Some x) (Some y) → x ≡ y
some_same e = cc

-- a site's row that holds the value
holder_is : (o : Option Value) (d : Value) → holds d o ≡ true → o ≡ Some d
holder_is None d h = absurd (false≢true h)
holder_is (Some e) d h = ap Some (sym (same_eq d e h))

-- ---- drafts of different kinds ----

silent_commit : {P : Type 0} (c : Claim) (b : List ℕ) → nothing ≡ draft (Commit c) b → P
silent_commit c b e = let z : ◌≡◌ {A = ℕ} 0 1 = cc in absurd (omega arith)

silent_change : {P : Type 0} (c : ViewChange) (b : List ℕ) → nothing ≡ draft (NewView c) b → P
silent_change c b e = let z : ◌≡◌ {A = ℕ} 0 1 = cc in absurd (omega arith)

prepare_not_commit : {P : Type 0} (a : Claim) (b : List ℕ) (c : Claim) (d : List ℕ) → draft (Prepare a) b ≡ draft (Commit c) d → P
prepare_not_commit a b c d e = let z : ◌≡◌ {A = ℕ} 0 1 = cc in absurd (omega arith)

prepare_not_change : {P : Type 0} (a : Claim) (b : List ℕ) (c : ViewChange) (d : List ℕ) → draft (Prepare a) b ≡ draft (NewView c) d → P
prepare_not_change a b c d e = let z : ◌≡◌ {A = ℕ} 0 1 = cc in absurd (omega arith)

propose_not_commit : {P : Type 0} (a : Claim) (b : List ℕ) (c : Claim) (d : List ℕ) → draft (Propose a) b ≡ draft (Commit c) d → P
propose_not_commit a b c d e = let z : ◌≡◌ {A = ℕ} 0 1 = cc in absurd (omega arith)

propose_not_change : {P : Type 0} (a : Claim) (b : List ℕ) (c : ViewChange) (d : List ℕ) → draft (Propose a) b ≡ draft (NewView c) d → P
propose_not_change a b c d e = let z : ◌≡◌ {A = ℕ} 0 1 = cc in absurd (omega arith)

change_not_commit : {P : Type 0} (a : ViewChange) (b : List ℕ) (c : Claim) (d : List ℕ) → draft (NewView a) b ≡ draft (Commit c) d → P
change_not_commit a b c d e = let z : ◌≡◌ {A = ℕ} 0 1 = cc in absurd (omega arith)

message_not_draft : {P : Type 0} (b : List ℕ) (s : Statement) (d : List ℕ) → message b ≡ draft s d → P
message_not_draft b s d e = let z : ◌≡◌ {A = ℕ} 0 1 = cc in absurd (omega arith)

pub same_change : (a c : ViewChange) (b d : List ℕ) → draft (NewView a) b ≡ draft (NewView c) d → (a ≡ c) × (b ≡ d)
same_change a c b d e = (cc, cc)

pub drafts_if : (x : Bool) (a c : Claim) (b d : List ℕ) → cond x (draft (Commit a) b) nothing ≡ draft (Commit c) d → (x ≡ true) × (a ≡ c) × (b ≡ d)
drafts_if true a c b d e = (refl, cc, cc)
drafts_if false a c b d e = silent_commit c d e

no_change_if : {P : Type 0} (x : Bool) (a : Claim) (c : ViewChange) (b d : List ℕ) → cond x (draft (Commit a) b) nothing ≡ draft (NewView c) d → P
no_change_if true a c b d e = let z : ◌≡◌ {A = ℕ} 0 1 = cc in absurd (omega arith)
no_change_if false a c b d e = silent_change c d e

-- ---- what always holds ----

-- of a round, whatever was called
pub record Inv (v : Vouched) (m : Membership) (round : ℕ) (k : Kept) (books : Books) : Type 0 where
  pub round_is : k.round ≡ round
  prepares : length k.rows.prepares ≡ 16
  commits : length k.rows.commits ≡ 16
  tags : length k.lengths.tags ≡ 16
  views : length k.lengths.views ≡ 16
  -- the tag of each prepare is held
  tagged : (j : ℕ) (d : Value) → row_of k.rows.prepares j ≡ Some d → Tagged v m k.round k.view d books.tags k.lengths.tags j
  -- and a good certificate of the last commit
  certificate : (r : Report) → k.committed ≡ Some r → GoodCertificate v m k.round r (held k.lengths.certificate (held (certificate_size m.f m.t m.limit) books.certificate))

empty : {A P : Type 0} (n j : ℕ) (d : A) → slice_index_or (replicate n None) j None ≡ Some d → P
empty zero j d h = let z : ◌≡◌ {A = ℕ} 0 1 = cc in absurd (omega arith)
empty (suc n) zero d h = let z : ◌≡◌ {A = ℕ} 0 1 = cc in absurd (omega arith)
empty (suc n) (suc j) d h = empty n j d h

held_laid : (size : ℕ) (book xs : List ℕ) → length xs ≤ size → held (length xs) (held size (laid book 0 xs)) ≡ xs
held_laid size book xs h = take-take (length xs) size (laid book 0 xs) h ∙ ap (take (length xs)) (laid_start book xs) ∙ take_at xs (drop (length xs) book) (length xs) refl

module _ (v : Vouched) (m : Membership) (round : ℕ) where
  -- a certificate that is made if a test says so
  certified_if : (b : Bool) (xs : List ℕ) (new : Report) (old : Option Report) (size n : ℕ) (book : List ℕ) → (b ≡ true → GoodCertificate v m round new xs × (length xs ≤ size))
      → ((r : Report) → old ≡ Some r → GoodCertificate v m round r (held n (held size book)))
      → (r : Report) → cond b (Some new) old ≡ Some r → GoodCertificate v m round r (held (cond b (length xs) n) (held size (cond b (laid book 0 xs) book)))
  certified_if true xs new old size n book good before r e =
      let g = good refl in
      let same : new ≡ r = cc in
      subst (λ (z : Report). GoodCertificate v m round z (held (length xs) (held size (laid book 0 xs)))) same (subst (λ (z : List ℕ). GoodCertificate v m round new z) (sym (held_laid size book xs g.1)) g.0)
  certified_if false xs new old size n book good before r e = before r e

  report_good : (o : Option Report) (n : ℕ) (book : List ℕ) → ((r : Report) → o ≡ Some r → GoodCertificate v m round r (held n (held (certificate_size m.f m.t m.limit) book)))
      → GoodReport v m round o (last_certificate m o n book)
  report_good None n book h = record { certified = None; reports = refl; is = refl; fits = tt; good = λ place. refl }
  report_good (Some r) n book h =
      let g = h r refl in
      record { certified = Some (record { report = r; votes = g.votes }); reports = refl; is = g.is; fits = g.fits; good = g.good }

module _ (v : Vouched) (m : Membership) (round : ℕ) (k : Kept) (books : Books) (fleet : legal_fleet m.f m.t ≡ true) (limit : legal_limit m.limit ≡ true) (inv : Inv v m round k books) where
  abbrev Good : Effect → Type 0
  Good x = Inv v m round x.kept x.books

  pub sound : Sound m k
  sound = record { fleet = fleet; limit = limit; prepares = inv.prepares; commits = inv.commits; tags = inv.tags; views = inv.views }

  -- ---- a prepare that is heard ----

  module _ (c : Claim) (tag : List ℕ) (heard : PrepareHeard m k books c tag (counting_prepare m k books c.head.site c.value tag)) (round_is : c.head.round ≡ k.round) (view_is : c.head.view ≡ k.view)
      (vouched : granted v (record { site = c.head.site; said = Prepare c; tag = tag }) ≡ true) (short : length tag ≤ m.limit) where
    abbrev left : Effect
    left = counting_prepare m k books c.head.site c.value tag

    abbrev now_held : Value → ℕ → Type 0
    now_held d j = Tagged v m k.round k.view d left.books.tags left.kept.lengths.tags j

    own_tag : now_held c.value c.head.site
    own_tag =
        record {
          tag = tag;
          tag_short = short;
          tag_held = heard.tag_held;
          tag_vouched = ap₂ (λ (r w : ℕ). granted v (record { site = c.head.site; said = Prepare (record { head = record { round = r; view = w; site = c.head.site }; value = c.value }); tag = tag })) (sym round_is) (sym view_is) ∙ vouched;
        }

    still_tagged : (j : ℕ) (d : Value) → row_of left.kept.rows.prepares j ≡ Some d → now_held d j
    still_tagged j d e = elim (cases_eq j c.head.site) [
      | inl s ↦
          let own : row_of left.kept.rows.prepares c.head.site ≡ Some d = subst (λ (z : ℕ). row_of left.kept.rows.prepares z ≡ Some d) s e in
          let same : c.value ≡ d = some_same (sym heard.filled ∙ own) in
          subst (λ (z : ℕ). now_held d z) (sym s) (subst (λ (z : Value). now_held z c.head.site) same own_tag)
      | inr n ↦
          let old = inv.tagged j d (sym (heard.other_rows j n) ∙ e) in
          record {
            tag = old.tag;
            tag_short = old.tag_short;
            tag_held = ap₂ (λ (l : ℕ) (row : List ℕ). take l row) (heard.other_lengths j n) (heard.other_tags j n) ∙ old.tag_held;
            tag_vouched = old.tag_vouched;
          }
    ]

    abbrev certificate : List ℕ
    certificate = certificate_from m left.kept.rows.prepares left.books.tags left.kept.lengths.tags c.value

    abbrev certifies : Bool
    certifies = holding m left.kept.rows.prepares c.value == recovery_quorum m.f m.t

    certificate_good : certifies ≡ true → GoodCertificate v m k.round (record { view = k.view; value = c.value }) certificate × (length certificate ≤ certificate_size m.f m.t m.limit)
    certificate_good e =
        let many : holding m left.kept.rows.prepares c.value ≡ recovery_quorum m.f m.t = eqb-true (holding m left.kept.rows.prepares c.value) (recovery_quorum m.f m.t) e in (
          good_from v m k.round k.view c.value left.books.tags left.kept.lengths.tags left.kept.rows.prepares (few_sites m.f m.t fleet)
              (λ j h. still_tagged j c.value (holder_is (row_of left.kept.rows.prepares j) c.value h)) many,
          certificate_long m left.kept.rows.prepares left.books.tags left.kept.lengths.tags c.value many,
        )

    prepare_keeps : Good left
    prepare_keeps =
        record {
          round_is = inv.round_is;
          prepares = length-set k.rows.prepares c.head.site (Some c.value) ∙ inv.prepares;
          commits = inv.commits;
          tags = length-set k.lengths.tags c.head.site (length (tag_bytes tag)) ∙ inv.tags;
          views = inv.views;
          tagged = still_tagged;
          certificate =
              certified_if v m k.round certifies certificate (record { view = k.view; value = c.value }) k.committed (certificate_size m.f m.t m.limit) k.lengths.certificate books.certificate certificate_good inv.certificate;
        }

  -- ---- every call ----

  hear_keeps : (out : ℕ) (packet : List ℕ) (c : Content) (x : Effect) → message_of m.limit packet ≡ Ok c → performed v m k books out (to_hear packet) ≡ Ok x → Good x
  hear_keeps out packet (propose c tag ms) x read h =
      let p = hear_as v m k books out packet (propose c tag ms) x read h in
      subst Good (sym p.2) (record { round_is = inv.round_is; prepares = inv.prepares; commits = inv.commits; tags = inv.tags; views = inv.views; tagged = inv.tagged; certificate = inv.certificate })
  hear_keeps out packet (prepare c tag) x read h =
      let p = hear_as v m k books out packet (prepare c tag) x read h in
      let f = hear_fills_prepare v m k books out packet c tag x sound read h in
      let g = heard_is_vouched v m k books out packet (prepare c tag) x read h in
      subst Good (sym p.2) (prepare_keeps c tag (subst (PrepareHeard m k books c tag) p.2 f) g.0 g.1 g.2 (tag_short m.limit packet (prepare c tag) read))
  hear_keeps out packet (commit c tag votes) x read h =
      let p = hear_as v m k books out packet (commit c tag votes) x read h in
      subst Good (sym p.2) (record { round_is = inv.round_is; prepares = inv.prepares; commits = length-set k.rows.commits c.head.site (Some c.value) ∙ inv.commits; tags = inv.tags; views = inv.views; tagged = inv.tagged; certificate = inv.certificate })
  hear_keeps out packet (new_view t) x read h =
      let p = hear_as v m k books out packet (new_view t) x read h in
      subst Good (sym p.2) (record { round_is = inv.round_is; prepares = inv.prepares; commits = inv.commits; tags = inv.tags; views = length-set k.lengths.views t.head.site (length packet) ∙ inv.views; tagged = inv.tagged; certificate = inv.certificate })

  call_keeps : (out : ℕ) (r : Request) (x : Effect) → performed v m k books out r ≡ Ok x → Good x
  call_keeps out (to_propose d) x h =
      let p = propose_done v m k books out d x h in
      subst Good (sym p.is) (record { round_is = inv.round_is; prepares = inv.prepares; commits = inv.commits; tags = inv.tags; views = inv.views; tagged = inv.tagged; certificate = inv.certificate })
  call_keeps out (to_hear packet) x h = let p = hear_done v m k books out packet x h in hear_keeps out packet p.content x p.read h
  call_keeps out (to_leave view) x h =
      let p = leave_done v m k books out view x h in
      subst Good (sym p.is) (record { round_is = inv.round_is; prepares = refl; commits = refl; tags = refl; views = refl; tagged = λ j d e. empty 16 j d e; certificate = inv.certificate })
  call_keeps out (to_seal written tag) x h = let p = seal_done v m k books out written tag x h in subst Good (sym p.is) inv
  call_keeps out (to_judge view bytes) x h = let p = done_ok v (judging_call m k books view bytes) x h in subst Good (sym p.1) inv
  call_keeps out to_read x h = let p = done_ok v (read_call m k books) x h in subst Good (sym p.1) inv

  result_keeps : (r : Result Effect Refused) → ((x : Effect) → r ≡ Ok x → Good x) → Inv v m round (kept_after k r) (books_after books r)
  result_keeps (Ok x) h = h x refl
  result_keeps (Err e) h = inv

  -- ---- what is drafted ----

  abbrev Drafts : Effect → Type 0
  Drafts x =
      ((c : Claim) (attached : List ℕ) → x.output ≡ draft (Commit c) attached → GoodCertificate v m k.round (record { view = c.head.view; value = c.value }) attached)
      × ((c : ViewChange) (attached : List ℕ) → x.output ≡ draft (NewView c) attached → GoodReport v m k.round c.committed attached)

  silent : (x : Effect) → x.output ≡ nothing → Drafts x
  silent x q = (λ c attached e. silent_commit c attached (sym q ∙ e), λ c attached e. silent_change c attached (sym q ∙ e))

  prepare_drafts : (c : Claim) (tag : List ℕ) (heard : PrepareHeard m k books c tag (counting_prepare m k books c.head.site c.value tag)) → c.head.round ≡ k.round → c.head.view ≡ k.view
      → granted v (record { site = c.head.site; said = Prepare c; tag = tag }) ≡ true → length tag ≤ m.limit → Drafts (counting_prepare m k books c.head.site c.value tag)
  prepare_drafts c tag heard round_is view_is vouched short = (
    λ d attached e.
        let s = drafts_if (certifies c tag heard round_is view_is vouched short) (own_claim m k c.value) d (certificate c tag heard round_is view_is vouched short) attached e in
        let g = certificate_good c tag heard round_is view_is vouched short s.0 in
        subst₂ (λ (z : Claim) (b : List ℕ). GoodCertificate v m k.round (record { view = z.head.view; value = z.value }) b) s.1 s.2 g.0,
    λ d attached e. no_change_if (certifies c tag heard round_is view_is vouched short) (own_claim m k c.value) d (certificate c tag heard round_is view_is vouched short) attached e,
  )

  hear_drafts : (out : ℕ) (packet : List ℕ) (c : Content) (x : Effect) → message_of m.limit packet ≡ Ok c → performed v m k books out (to_hear packet) ≡ Ok x → Drafts x
  hear_drafts out packet (propose c tag ms) x read h =
      let p = hear_as v m k books out packet (propose c tag ms) x read h in
      subst Drafts (sym p.2) (λ d attached e. prepare_not_commit (own_claim m k c.value) [] d attached e, λ d attached e. prepare_not_change (own_claim m k c.value) [] d attached e)
  hear_drafts out packet (prepare c tag) x read h =
      let p = hear_as v m k books out packet (prepare c tag) x read h in
      let f = hear_fills_prepare v m k books out packet c tag x sound read h in
      let g = heard_is_vouched v m k books out packet (prepare c tag) x read h in
      subst Drafts (sym p.2) (prepare_drafts c tag (subst (PrepareHeard m k books c tag) p.2 f) g.0 g.1 g.2 (tag_short m.limit packet (prepare c tag) read))
  hear_drafts out packet (commit c tag votes) x read h = let p = hear_as v m k books out packet (commit c tag votes) x read h in silent x (ap (λ (y : Effect). y.output) p.2)
  hear_drafts out packet (new_view t) x read h = let p = hear_as v m k books out packet (new_view t) x read h in silent x (ap (λ (y : Effect). y.output) p.2)

  call_drafts : (out : ℕ) (r : Request) (x : Effect) → performed v m k books out r ≡ Ok x → Drafts x
  call_drafts out (to_propose d) x h =
      let p = propose_done v m k books out d x h in
      subst Drafts (sym p.is) (λ c attached e. propose_not_commit (own_claim m k _) (own_progress m k books.views) c attached e, λ c attached e. propose_not_change (own_claim m k _) (own_progress m k books.views) c attached e)
  call_drafts out (to_hear packet) x h = let p = hear_done v m k books out packet x h in hear_drafts out packet p.content x p.read h
  call_drafts out (to_leave view) x h =
      let p = leave_done v m k books out view x h in
      let own : ViewChange = record { head = own_head m (moved_to m view k); prepared = k.prepared; committed = k.committed } in
      let book = last_certificate m k.committed k.lengths.certificate books.certificate in
      let g = report_good v m k.round k.committed k.lengths.certificate books.certificate inv.certificate in
      subst Drafts (sym p.is) (
        λ c attached e. change_not_commit own book c attached e,
        λ c attached e. let s = same_change own c book attached e in subst₂ (λ (z : ViewChange) (b : List ℕ). GoodReport v m k.round z.committed b) s.0 s.1 g,
      )
  call_drafts out (to_seal written tag) x h =
      let p = seal_done v m k books out written tag x h in
      subst Drafts (sym p.is) (λ c attached e. message_not_draft _ (Commit c) attached e, λ c attached e. message_not_draft _ (NewView c) attached e)
  call_drafts out (to_judge view bytes) x h = let p = done_ok v (judging_call m k books view bytes) x h in silent x (ap (λ (y : Effect). y.output) p.1)
  call_drafts out to_read x h = let p = done_ok v (read_call m k books) x h in silent x (ap (λ (y : Effect). y.output) p.1)

-- ---- runs ----

module _ (v w : Vouched) where
  kept_answer : {F : Type 0} (q : Question) (e : F) (xs : List (Step F)) (a b : Bool) → (a ≡ true → b ≡ true) → KeepsTo w v (cond a (asked v xs) []) → cond a (passed v xs) (Err e) ≡ Ok (tt {0})
      → (KeepsTo w v (asked v xs) → passed v xs ≡ Ok (tt {0}) → passed w xs ≡ Ok (tt {0})) → cond b (passed w xs) (Err e) ≡ Ok (tt {0})
  kept_answer q e xs true b k h p ih = rw (k refl) (ih h p)
  kept_answer q e xs false b k h p ih = let z : ◌≡◌ {A = ℕ} 0 1 = cc in absurd (omega arith)

  -- steps that are passed by one check are passed by every check that keeps to its answers
  pub kept_passed : {F : Type 0} (xs : List (Step F)) → KeepsTo w v (asked v xs) → passed v xs ≡ Ok (tt {0}) → passed w xs ≡ Ok (tt {0})
  kept_passed [] h p = refl
  kept_passed (test true e ∷ xs) h p = kept_passed xs h p
  kept_passed (test false e ∷ xs) h p = let z : ◌≡◌ {A = ℕ} 0 1 = cc in absurd (omega arith)
  kept_passed (ask q e ∷ xs) h p = kept_answer q e xs (granted v q) (granted w q) h.0 h.1 p (λ k r. kept_passed xs k r)

-- and what a call does by one, it does by the other
pub kept_performed : (v w : Vouched) (m : Membership) (k : Kept) (books : Books) (out : ℕ) (r : Request) (x : Effect) → KeepsTo w v (asks v m k books out r) → performed v m k books out r ≡ Ok x → performed w m k books out r ≡ Ok x
kept_performed v w m k books out r x keeps h =
    let a = call m k books out r in
    let p = done_ok v a x h in
    let q = kept_passed v w a.steps keeps p.0 in
    ap (λ (r : Result (Unit {0}) Refused). answering r a.answer) q ∙ ap Ok (sym p.1)

kept_done : (w : Vouched) (m : Membership) (s : Standing) (c : Called) (x : Effect) → KeepsToCall w m s c → doing m s c ≡ Ok x → performed w m s.kept s.books c.out c.request ≡ Ok x
kept_done w m s c x keeps h = kept_performed c.check w m s.kept s.books c.out c.request x keeps h

none_asked : (v w : Vouched) (a b : Bool) → KeepsTo w v (cond a (cond b [] []) [])
none_asked v w true true = tt
none_asked v w true false = tt
none_asked v w false b = tt

-- leaving asks nothing
pub leaving_asks_nothing : (v w : Vouched) (m : Membership) (s : Standing) (out view : ℕ) → KeepsToCall w m s (record { check = v; out = out; request = to_leave view })
unfolding leave_call
leaving_asks_nothing v w m s out view = none_asked v w (covers (lent_sizes s.books out) (sizes_of m.f m.t m.limit)) (nat_lt s.kept.view view)

module _ (w : Vouched) (m : Membership) (round : ℕ) (fleet : legal_fleet m.f m.t ≡ true) (limit : legal_limit m.limit ≡ true) where
  abbrev Holds : Standing → Type 0
  Holds s = Inv w m round s.kept s.books

  pub one_call : (s : Standing) (c : Called) → KeepsToCall w m s c → Inv w m round s.kept s.books → Inv w m round (after_call m s c).kept (after_call m s c).books
  one_call s c keeps inv = result_keeps w m round s.kept s.books fleet limit inv (doing m s c) (λ x h. call_keeps w m round s.kept s.books fleet limit inv c.out c.request x (kept_done w m s c x keeps h))

  many_calls : (s : Standing) (cs : List Called) → KeepsToCalls w m s cs → Holds s → Holds (after_calls m s cs)
  many_calls s [] keeps inv = inv
  many_calls s (c ∷ cs) keeps inv = many_calls (after_call m s c) cs keeps.1 (one_call s c keeps.0 inv)

  pub at_first : (books : Books) → Inv w m round (fresh round) books
  at_first books = record { round_is = refl; prepares = refl; commits = refl; tags = refl; views = refl; tagged = λ j d e. empty 16 j d e; certificate = λ r e. let z : ◌≡◌ {A = ℕ} 0 1 = cc in absurd (omega arith) }

  pub always : (books : Books) (cs : List Called) → KeepsToCalls w m (opened round books) cs → Holds (standing m round books cs)
  always books cs keeps = many_calls (opened round books) cs keeps (at_first books)

pub kept_certificate_is_good : KeptCertificateIsGood
kept_certificate_is_good w m round books cs r fleet limit keeps e =
    let s = standing m round books cs in
    let inv = always w m round fleet limit books cs keeps in
    subst (λ (n : ℕ). GoodCertificate w m n r (held s.kept.lengths.certificate (held (certificate_size m.f m.t m.limit) s.books.certificate))) inv.round_is (inv.certificate r e)

pub drafted_certificates_are_good : DraftedCertificatesAreGood
drafted_certificates_are_good =
    record {
      commits = λ w m round books cs last x c attached fleet limit keeps now h e.
          let s = standing m round books cs in
          let inv = always w m round fleet limit books cs keeps in
          let g = call_drafts w m round s.kept s.books fleet limit inv last.out last.request x (kept_done w m s last x now h) in
          subst (λ (n : ℕ). GoodCertificate w m n (record { view = c.head.view; value = c.value }) attached) inv.round_is (g.0 c attached e);
      new_views = λ w m round books cs last x c attached fleet limit keeps now h e.
          let s = standing m round books cs in
          let inv = always w m round fleet limit books cs keeps in
          let g = call_drafts w m round s.kept s.books fleet limit inv last.out last.request x (kept_done w m s last x now h) in
          subst (λ (n : ℕ). GoodReport w m n c.committed attached) inv.round_is (g.1 c attached e);
    }
