-- What is tested and asked of certificates. Places are those of the bytes that they were read from.
use Rattle.std.specs.Prelude.{ℕ, ◌+◌, Bool, cond, ◌&&◌, List, [], ◌∷◌, ◌++◌, length, Some, None, Option, ◌==◌, nat_le, nat_lt}
use Rattle.values.specs.declared.fix.Report.{Report}
use Rattle.values.specs.Fleets.{sites, recovery_quorum, progress_quorum}
use Rattle.values.specs.Fixes.{legal_value}
use Rattle.values.specs.Refusals.{Refused}
use Rattle.wire.specs.declared.statement.Claim.{Claim}
use Rattle.wire.specs.declared.statement.ViewChange.{ViewChange}
use Rattle.wire.specs.declared.statement.Statement.{Statement}
use Rattle.wire.specs.declared.statement.Statement.TheVariants.{Prepare, NewView}
use Rattle.wire.specs.Contents.{report_bytes, statement_bytes, tag_bytes, Vote, vote_bytes, Certified, Turn, change_of, turn_bytes}
use Rattle.certificates.specs.Steps.{Step, test, ask, blamed}
use Rattle.certificates.specs.Faults.{Faulted, bad_count, other_round, other_view, other_site, illegal_fix, bad_tag, at_depth}

-- a site of the fleet, not below low
abbrev pub rising : ℕ → ℕ → ℕ → Bool
rising n low site = nat_le low site && nat_lt site n

-- the steps of things that stand one behind the other from a place on, with ascending sites: each is told which site it may
-- have at least, and its place
abbrev pub ascending : {A F : Type 0} → (A → ℕ) → (A → List ℕ) → (ℕ → ℕ → A → List (Step F)) → ℕ → ℕ → List A → List (Step F)
ascending site bytes own low place [] = []
ascending site bytes own low place (x ∷ xs) = own low place x ++ ascending site bytes own (site x + 1) (place + length (bytes x)) xs

-- ---- commit certificates ----

-- the prepare that an entry vouches for
abbrev pub prepare_of : ℕ → Report → ℕ → Statement
prepare_of round r site = Prepare (record { head = record { round = round; view = r.view; site = site }; value = r.value })

module _ (f t round : ℕ) where
  -- an entry at a place
  abbrev pub vote_steps : Report → ℕ → ℕ → Vote → List (Step Faulted)
  vote_steps r low place x =
      test (rising (sites f t) low x.site) (other_site place)
      ∷ ask (record { site = x.site; said = prepare_of round r x.site; tag = x.tag }) (bad_tag (place + 4))
      ∷ []

  abbrev pub votes_steps : Report → ℕ → ℕ → List Vote → List (Step Faulted)
  votes_steps r low place xs = ascending (λ (x : Vote). x.site) vote_bytes (vote_steps r) low place xs

  -- a commit certificate at a place: n - f - t entries, their sites ascending, each vouching for that site's prepare of the report
  abbrev pub certificate_steps : Report → ℕ → List Vote → List (Step Faulted)
  certificate_steps r place xs = test (length xs == recovery_quorum f t) (bad_count place) ∷ votes_steps r 0 (place + 4) xs

  -- that of a reported commit
  abbrev pub certified_steps : ℕ → Option Certified → List (Step Faulted)
  certified_steps place None = []
  certified_steps place (Some c) = certificate_steps c.report place c.votes

-- ---- claims ----

-- a claim that begins a packet, with its tag, in a round and a view; said is the statement that it makes, and known says
-- whether its site may be who it is
abbrev pub claim_steps : ℕ → ℕ → Bool → Claim → Statement → List ℕ → List (Step Faulted)
claim_steps round view known c said tag =
    test (c.head.round == round) (other_round 4)
    ∷ test (c.head.view == view) (other_view 8)
    ∷ test known (other_site 12)
    ∷ test (legal_value c.value) (illegal_fix 16)
    ∷ ask (record { site = c.head.site; said = said; tag = tag }) (bad_tag 28)
    ∷ []

-- ---- new-views ----

-- the view of a report at a place: at least 1, and below the view that the new-view is for
abbrev pub report_view : ℕ → ℕ → Option Report → List (Step Faulted)
report_view view place None = []
report_view view place (Some r) = test (nat_le 1 r.view && nat_lt r.view view) (other_view (place + 4)) ∷ []

abbrev pub report_fix : ℕ → Option Report → List (Step Faulted)
report_fix place None = []
report_fix place (Some r) = test (legal_value r.value) (illegal_fix (place + 8)) ∷ []

-- a new-view's statement and tag at a place, in a round, for a view; known says whether its site may be who it is
abbrev pub change_steps : ℕ → ℕ → Bool → ℕ → ViewChange → List ℕ → List (Step Faulted)
change_steps round view known place c tag =
    let second = place + 16 + length (report_bytes c.prepared) in
    test (c.head.round == round) (other_round (place + 4))
    ∷ test (c.head.view == view) (other_view (place + 8))
    ∷ (report_view view (place + 16) c.prepared ++ (report_view view second c.committed
    ++ (test known (other_site (place + 12))
    ∷ (report_fix (place + 16) c.prepared ++ (report_fix second c.committed
    ++ (ask (record { site = c.head.site; said = NewView c; tag = tag }) (bad_tag (place + length (statement_bytes (NewView c)))) ∷ []))))))

-- ---- progress certificates ----

-- the place behind the tag of a new-view at a place
abbrev pub behind_tag : ℕ → Turn → ℕ
behind_tag place m = place + length (statement_bytes (NewView (change_of m))) + length (tag_bytes m.tag)

-- so many entries: none in view 1
abbrev pub entries_needed : ℕ → ℕ → ℕ → ℕ
entries_needed f t view = cond (view == 1) 0 (progress_quorum f t)

module _ (f t round view : ℕ) where
  -- an entry at a place: its own commit certificate follows its tag
  abbrev pub entry_steps : ℕ → ℕ → Turn → List (Step Refused)
  entry_steps low place m =
      blamed (at_depth 1) (change_steps round view (rising (sites f t) low m.head.site) place (change_of m) m.tag)
      ++ blamed (at_depth 2) (certified_steps f t round (behind_tag place m) m.committed)

  abbrev pub entries_steps : ℕ → ℕ → List Turn → List (Step Refused)
  entries_steps low place ms = ascending (λ (m : Turn). m.head.site) turn_bytes entry_steps low place ms

  -- a progress certificate at a place
  abbrev pub progress_steps : ℕ → List Turn → List (Step Refused)
  progress_steps place ms = test (length ms == entries_needed f t view) (at_depth 1 (bad_count place)) ∷ entries_steps 0 (place + 4) ms
