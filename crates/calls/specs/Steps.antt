-- What the calls of a site test and ask, kind by kind, in the order of the refusals' numbers.
use Rattle.std.specs.Prelude.{ℕ, ◌+◌, Bool, true, false, not, ◌&&◌, ◌||◌, List, [], ◌∷◌, ◌++◌, length, Some, None, Option, ◌==◌, nat_le, nat_lt}
use Rattle.values.specs.declared.fix.Value.{Value}
use Rattle.values.specs.declared.fix.Report.{Report}
use Rattle.values.specs.Fleets.{sites, progress_quorum, leader_of}
use Rattle.values.specs.Fixes.{legal_value}
use Rattle.values.specs.Refusals.{Refused, short, layout, illegal, repeated, equivocation, gathered_already, may_not_propose, not_forced, not_higher}
use Rattle.verdicts.specs.Rule.{Finding, free, forced, conflict, same, finding}
use Rattle.wire.specs.declared.statement.Claim.{Claim}
use Rattle.wire.specs.declared.statement.ViewChange.{ViewChange}
use Rattle.wire.specs.declared.statement.Statement.{Statement}
use Rattle.wire.specs.declared.statement.Statement.TheVariants.{Propose, Prepare, Commit}
use Rattle.wire.specs.Contents.{tag_bytes, Vote, Turn, change_of}
use Rattle.certificates.specs.Steps.{Step, test, blamed}
use Rattle.certificates.specs.Faults.{at_depth, in_message}
use Rattle.certificates.specs.Examining.{claim_steps, certificate_steps, certified_steps, change_steps, behind_tag}
use Rattle.certificates.specs.Judging.{reports_of, verdict_call}
use Rattle.records.specs.declared.sizes.Sizes.{Sizes}
use Rattle.records.specs.Sizes.{sizes_of, covers}
use Rattle.records.specs.Rows.{row_of}
use Rattle.records.specs.Kept.{Membership, Kept}
use Rattle.calls.specs.Gathering.{is_gathered, gathered}

-- what a verdict lets be proposed
abbrev pub permits : Finding → Value → Bool
permits free d = true
permits (forced r c) d = same r.value d
permits conflict d = false

-- a row that is to be filled with d is empty: it holds neither the same nor another
abbrev pub row_steps : Option Value → Value → List (Step Refused)
row_steps None d = []
row_steps (Some e) d = test (not (same e d)) repeated ∷ test false equivocation ∷ []

-- a prepare of this view
abbrev pub is_of : ℕ → Option Report → Bool
is_of view None = false
is_of view (Some r) = r.view == view

-- the numbers 4 to 8 of a claim that is heard, and of a new-view
unfoldable pub claim_heard : Kept → Bool → Claim → Statement → List ℕ → List (Step Refused)
claim_heard k known c said tag = blamed in_message (claim_steps k.round k.view known c said tag)

unfoldable pub change_heard : Kept → Bool → ViewChange → List ℕ → List (Step Refused)
change_heard k known c tag = blamed in_message (change_steps k.round k.view known 0 c tag)

module _ (m : Membership) where
  -- what is lent is long enough: all calls but seal, judge and read begin with this
  abbrev pub room_steps : Sizes → List (Step Refused)
  room_steps lent = test (covers lent (sizes_of m.f m.t m.limit)) short ∷ []

  module _ (k : Kept) where
    -- the site leads its view
    abbrev pub leads : Bool
    leads = m.own == leader_of (sites m.f m.t) k.view

    -- ---- propose ----

    -- enough new-views are gathered: in view 1 none are needed
    abbrev pub due : Bool
    due = k.view == 1 || nat_le (progress_quorum m.f m.t) (length (gathered m k))

    -- of the value that is handed in, before the gathered new-views are looked at
    unfoldable pub propose_steps : Value → List (Step Refused)
    propose_steps d = test (legal_value d) (illegal 0) ∷ test (leads && not k.proposed && due) may_not_propose ∷ []

    -- ---- hear ----

    -- a proposal: from the leader, none prepared in this view, its progress certificate good, the value one that it permits
    unfoldable pub hear_propose_steps : Claim → List ℕ → List Turn → List (Step Refused)
    hear_propose_steps c tag ms =
        claim_heard k (c.head.site == leader_of (sites m.f m.t) k.view) c (Propose c) tag
        ++ (test (not (is_of k.view k.prepared)) repeated
        ∷ ((verdict_call m.f m.t k.round k.view (28 + length (tag_bytes tag)) ms).steps
        ++ (test (permits (finding m.f m.t (reports_of ms)) c.value) not_forced ∷ [])))

    -- a prepare: the sender's row is empty
    unfoldable pub hear_prepare_steps : Claim → List ℕ → List (Step Refused)
    hear_prepare_steps c tag =
        claim_heard k (nat_lt c.head.site (sites m.f m.t)) c (Prepare c) tag
        ++ row_steps (row_of k.rows.prepares c.head.site) c.value

    -- a commit: the sender's row is empty, and the commit certificate is good
    unfoldable pub hear_commit_steps : Claim → List ℕ → List Vote → List (Step Refused)
    hear_commit_steps c tag votes =
        claim_heard k (nat_lt c.head.site (sites m.f m.t)) c (Commit c) tag
        ++ (row_steps (row_of k.rows.commits c.head.site) c.value
        ++ blamed (at_depth 1) (certificate_steps m.f m.t k.round (record { view = k.view; value = c.value }) (28 + length (tag_bytes tag)) votes))

    -- who may send a new-view here: any site of the fleet, to the leader of a view above 1
    abbrev pub expected : ℕ → Bool
    expected site = nat_lt site (sites m.f m.t) && leads && not (k.view == 1)

    -- a new-view: the sender's row is empty, too few are gathered, and the certificate of the reported commit is good
    unfoldable pub hear_new_view_steps : Turn → List (Step Refused)
    hear_new_view_steps x =
        change_heard k (expected x.head.site) (change_of x) x.tag
        ++ (test (not (is_gathered m k x.head.site)) repeated
        ∷ test (nat_lt (length (gathered m k)) (progress_quorum m.f m.t)) gathered_already
        ∷ blamed (at_depth 1) (certified_steps m.f m.t k.round (behind_tag 0 x) x.committed))

    -- ---- leave ----

    abbrev pub leave_steps : ℕ → List (Step Refused)
    leave_steps view = test (nat_lt k.view view) not_higher ∷ []

  -- ---- seal ----

  -- before the draft is read: the tag is not above the limit, and out has room for the longest
  abbrev pub seal_steps : List ℕ → List ℕ → ℕ → List (Step Refused)
  seal_steps draft tag out = test (nat_le (length tag) m.limit) (layout 0) ∷ test (nat_le (length draft + (m.limit + 4)) out) short ∷ []
