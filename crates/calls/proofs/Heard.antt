-- What is tested of a message that is heard, part by part.
use Rattle.std.proofs.Common.{◌≡◌, ℕ, ◌+◌, Bool, not, cond, List, [], ◌∷◌, ◌++◌, length, Some, None, Ok, Err, Option, Result, sym, refl, ap, ◌∙◌, arith}
use Rattle.std.specs.Prelude.{nat_lt, ◌==◌}
use Rattle.values.specs.declared.fix.Report.{Report}
use Rattle.values.specs.Fleets.{sites, progress_quorum, leader_of}
use Rattle.values.specs.Refusals.{Refused, repeated, gathered_already, not_forced}
use Rattle.values.specs.declared.fix.Value.{Value}
use Rattle.verdicts.specs.declared.rule.Forcing.{Forcing}
use Rattle.verdicts.specs.declared.rule.Forcing.TheVariants.{Fast, Commit}
use Rattle.verdicts.specs.Rule.{same, By, by_fast, by_commit, Finding, free, forced, conflict, finding}
use Rattle.verdicts.specs.Told.{Told, by_number, finding_told, forcing_number, forced_told}
use Rattle.wire.specs.declared.statement.Claim.{Claim}
use Rattle.wire.specs.declared.statement.ViewChange.{ViewChange}
use Rattle.wire.specs.declared.statement.Statement.{Statement}
use Rattle.wire.specs.declared.statement.Statement.TheVariants as statement
use Rattle.wire.specs.declared.words.Packet.{Packet}
use Rattle.wire.specs.Contents.{statement_bytes, tag_bytes, Vote, reported, Turn, change_of}
use Rattle.wire.specs.Layout.{certified_at}
use Rattle.checks.specs.Vouching.{Vouched}
use Rattle.certificates.specs.Steps.{Step, test, passed, blamed}
use Rattle.certificates.specs.Faults.{at_depth, in_message, failing}
use Rattle.certificates.specs.Examining.{claim_steps, change_steps, certificate_steps, certified_steps, behind_tag}
use Rattle.certificates.specs.Reading.{CertifiedStands, certified_in}
use Rattle.certificates.specs.Judging.{outcome, reports_of, verdict_call}
use Rattle.certificates.proofs.Passing.{next, passed_append, passed_blamed, answered_ok}
use Rattle.certificates.proofs.Verdicts.{forcing_small}
use Rattle.certificates.proofs.Turns.{ok_of, certified_ends}
use Rattle.records.specs.Rows.{row_of}
use Rattle.records.specs.Kept.{Membership, Kept}
use Rattle.calls.specs.Gathering.{is_gathered, gathered}
use Rattle.calls.specs.Hearing.{turn_with, permitted}
use Rattle.calls.specs.Steps.{permits, row_steps, is_of, claim_heard, change_heard, hear_propose_steps, hear_prepare_steps, hear_commit_steps, expected, hear_new_view_steps}

pub claim_by : (v : Vouched) (k : Kept) (known : Bool) (c : Claim) (said : Statement) (tag : List ℕ)
    → passed v (claim_heard k known c said tag) ≡ failing in_message (passed v (claim_steps k.round k.view known c said tag))
unfolding claim_heard
claim_by v k known c said tag = passed_blamed in_message v (claim_steps k.round k.view known c said tag)

pub change_by : (v : Vouched) (k : Kept) (known : Bool) (c : ViewChange) (tag : List ℕ)
    → passed v (change_heard k known c tag) ≡ failing in_message (passed v (change_steps k.round k.view known 0 c tag))
unfolding change_heard
change_by v k known c tag = passed_blamed in_message v (change_steps k.round k.view known 0 c tag)

module _ (v : Vouched) (m : Membership) (k : Kept) (c : Claim) (tag : List ℕ) where
  pub prepare_by : passed v (hear_prepare_steps m k c tag)
      ≡ next (passed v (claim_heard k (nat_lt c.head.site (sites m.f m.t)) c (statement.Prepare c) tag)) (passed v (row_steps (row_of k.rows.prepares c.head.site) c.value))
  unfolding hear_prepare_steps
  prepare_by = passed_append v (claim_heard k (nat_lt c.head.site (sites m.f m.t)) c (statement.Prepare c) tag) (row_steps (row_of k.rows.prepares c.head.site) c.value)

  pub commit_by : (votes : List Vote) → passed v (hear_commit_steps m k c tag votes)
      ≡ next (passed v (claim_heard k (nat_lt c.head.site (sites m.f m.t)) c (statement.Commit c) tag))
      (next (passed v (row_steps (row_of k.rows.commits c.head.site) c.value))
      (passed v (blamed (at_depth 1) (certificate_steps m.f m.t k.round (record { view = k.view; value = c.value }) (28 + length (tag_bytes tag)) votes))))
  unfolding hear_commit_steps
  commit_by votes =
      let certificate = blamed (at_depth 1) (certificate_steps m.f m.t k.round (record { view = k.view; value = c.value }) (28 + length (tag_bytes tag)) votes) in
      let row = row_steps (row_of k.rows.commits c.head.site) c.value in
      passed_append v (claim_heard k (nat_lt c.head.site (sites m.f m.t)) c (statement.Commit c) tag) (row ++ certificate)
      ∙ ap (λ r. next (passed v (claim_heard k (nat_lt c.head.site (sites m.f m.t)) c (statement.Commit c) tag)) r) (passed_append v row certificate)

  -- with the place of the certificate as the code has it
  pub propose_by : (at : ℕ) (ms : List Turn) → at ≡ 28 + length (tag_bytes tag) → passed v (hear_propose_steps m k c tag ms)
      ≡ next (passed v (claim_heard k (c.head.site == leader_of (sites m.f m.t) k.view) c (statement.Propose c) tag))
      (cond (not (is_of k.view k.prepared))
      (next (passed v (verdict_call m.f m.t k.round k.view at ms).steps)
      (cond (permits (finding m.f m.t (reports_of ms)) c.value) (Ok tt) (Err not_forced)))
      (Err repeated))
  unfolding hear_propose_steps
  propose_by at ms e =
      let judge = (verdict_call m.f m.t k.round k.view (28 + length (tag_bytes tag)) ms).steps in
      let forced : List (Step Refused) = test (permits (finding m.f m.t (reports_of ms)) c.value) not_forced ∷ [] in
      let said = claim_heard k (c.head.site == leader_of (sites m.f m.t) k.view) c (statement.Propose c) tag in
      rw e
      (passed_append v said (test (not (is_of k.view k.prepared)) repeated ∷ (judge ++ forced))
      ∙ ap (λ r. next (passed v said) (cond (not (is_of k.view k.prepared)) r (Err repeated))) (passed_append v judge forced))

-- ---- the verdict ----

pub not_zero : (x : Forcing) → forcing_number x ≡ 0 → ⊥
not_zero Fast h = omega arith
not_zero Commit h = omega arith

pub by_not_zero : (b : By) → 0 ≡ by_number b → ⊥
by_not_zero by_fast h = omega arith
by_not_zero by_commit h = omega arith

-- values with the same words
pub same_words : (a b : Value) (u w : ℕ) → b.first ∷ b.second ∷ b.third ∷ w ∷ [] ≡ a.first ∷ a.second ∷ a.third ∷ u ∷ [] → a ≡ b
same_words a b u w h =
    let first : b.first ≡ a.first = cc in
    let second : b.second ≡ a.second = cc in
    let third : b.third ≡ a.third = cc in
    rw (sym first, sym second, sym third)

same_told : (a b d : Value) (u w : ℕ) → b.first ∷ b.second ∷ b.third ∷ w ∷ [] ≡ a.first ∷ a.second ∷ a.third ∷ u ∷ [] → same a d ≡ same b d
same_told a b d u w h = ap (λ (x : Value). same x d) (same_words a b u w h)

permits_told : (x : Finding) (o : Option (Value × ℕ × Forcing)) (d : Value) → forced_told o ≡ finding_told x → permits x d ≡ permitted o d
permits_told free None d h = refl
permits_told free (Some y) d h = absurd (let z : forcing_number y.2 ≡ 0 = ap (λ (t : Told). t.number) h in not_zero y.2 z)
permits_told (forced r b) None d h = absurd (let z : 0 ≡ by_number b = ap (λ (t : Told). t.number) h in by_not_zero b z)
permits_told (forced r b) (Some y) d h = same_told r.value y.0 d r.view y.1 (ap (λ (t : Told). t.values) h)
permits_told conflict None d h = absurd (let z : ◌≡◌ {A = ℕ} 0 14 = ap (λ (t : Told). t.number) h in omega arith)
permits_told conflict (Some y) d h = absurd (let z : forcing_number y.2 ≡ 14 = ap (λ (t : Told). t.number) h in forcing_small y.2 z)

-- what is left to test of a proposal, once its certificate is judged
pub propose_judged : (v : Vouched) (m : Membership) (k : Kept) (view at : ℕ) (ms : List Turn) (d : Value) (o : Option (Value × ℕ × Forcing)) → view ≡ k.view
    → ◌≡◌ {A = Result Told Refused} (Ok (forced_told o)) (outcome v (verdict_call m.f m.t k.round view at ms))
    → ◌≡◌ {A = Result (Unit {0}) Refused}
    (next (passed v (verdict_call m.f m.t k.round k.view at ms).steps) (cond (permits (finding m.f m.t (reports_of ms)) d) (Ok tt) (Err not_forced)))
    (cond (permitted o d) (Ok tt) (Err not_forced))
propose_judged v m k view at ms d o w h =
    let call = verdict_call m.f m.t k.round k.view at ms in
    let e = answered_ok (passed v call.steps) call.answer (forced_told o) (h ∙ ap (λ (z : ℕ). outcome v (verdict_call m.f m.t k.round z at ms)) w) in
    rw (e.0, permits_told (finding m.f m.t (reports_of ms)) o d e.1)

-- ---- new-views ----

pub new_view_by : (v : Vouched) (m : Membership) (k : Kept) (x : Turn) → passed v (hear_new_view_steps m k x)
    ≡ next (passed v (change_heard k (expected m k x.head.site) (change_of x) x.tag))
    (cond (not (is_gathered m k x.head.site))
    (cond (nat_lt (length (gathered m k)) (progress_quorum m.f m.t))
    (passed v (blamed (at_depth 1) (certified_steps m.f m.t k.round (behind_tag 0 x) x.committed)))
    (Err gathered_already))
    (Err repeated))
unfolding hear_new_view_steps
new_view_by v m k x =
    passed_append v (change_heard k (expected m k x.head.site) (change_of x) x.tag)
    (test (not (is_gathered m k x.head.site)) repeated
    ∷ test (nat_lt (length (gathered m k)) (progress_quorum m.f m.t)) gathered_already
    ∷ blamed (at_depth 1) (certified_steps m.f m.t k.round (behind_tag 0 x) x.committed))

-- a new-view by what was read of it
module _ (p : Packet) (c : ViewChange) (at : ℕ) (h : CertifiedStands p c.committed at) where
  certified_reported : reported (certified_in p c.committed at) ≡ c.committed
  certified_reported =
      let k = ok_of (certified_at p.limit.bytes p.bytes.now c.committed at) h in
      rw k.1 (certified_ends p.limit.bytes p.bytes.now c.committed at k.0 k.1).1

  pub new_view_read : (v : Vouched) (m : Membership) (k : Kept) (tag : List ℕ) → at ≡ length (statement_bytes (statement.NewView c)) + length (tag_bytes tag)
      → passed v (hear_new_view_steps m k (turn_with c tag (certified_in p c.committed at)))
      ≡ next (passed v (change_heard k (expected m k c.head.site) c tag))
      (cond (not (is_gathered m k c.head.site))
      (cond (nat_lt (length (gathered m k)) (progress_quorum m.f m.t))
      (passed v (blamed (at_depth 1) (certified_steps m.f m.t k.round at (certified_in p c.committed at))))
      (Err gathered_already))
      (Err repeated))
  new_view_read v m k tag e =
      let x = turn_with c tag (certified_in p c.committed at) in
      let said : change_of x ≡ c = ap (λ (o : Option Report). record { head = c.head; prepared = c.prepared; committed = o }) certified_reported in
      let behind : behind_tag 0 x ≡ at = omega (arith, e, ap (λ (y : ViewChange). length (statement_bytes (statement.NewView y))) said) in
      new_view_by v m k x ∙ rw (said, behind)
