-- What is chosen to be proposed.
use Rattle.std.proofs.Common.{◌≡◌, ℕ, true, false, not, ◌&&◌, List, length, Ok, sym, refl, ap, ◌∙◌, arith}
use Rattle.std.specs.Prelude.{◌==◌}
use Rattle.std.proofs.lemmas.Bool.{true≢false, and_from, and_parts, eq-eqb, eqb-true}
use Rattle.values.specs.declared.fix.Value.{Value}
use Rattle.values.specs.Fleets.{sites, leader_of}
use Rattle.values.specs.Refusals.{illegal, may_not_propose, conflicting}
use Rattle.values.specs.Fixes.{fix_of, legal}
use Rattle.verdicts.specs.Rule.{Finding, free, forced, conflict, same, finding}
use Rattle.wire.specs.Contents.{Turn}
use Rattle.checks.specs.Vouching.{Vouched}
use Rattle.certificates.specs.Steps.{passed}
use Rattle.certificates.specs.Examining.{entries_needed, progress_steps}
use Rattle.certificates.specs.Faults.{at_depth, bad_count}
use Rattle.certificates.specs.Judging.{reports_of, conflicts, verdict_call}
use Rattle.certificates.proofs.Passing.{test_ok, append_ok}
use Rattle.records.specs.Kept.{Membership, Kept}
use Rattle.calls.specs.Gathering.{gathered}
use Rattle.calls.specs.Steps.{permits, leads, due, propose_steps, hear_propose_steps, hear_prepare_steps, hear_commit_steps, hear_new_view_steps, claim_heard, change_heard}
use Rattle.calls.specs.Effects.{drafted, Effect, choice}
use Rattle.calls.specs.Laws.{ProposesInTurn, ProposesWhatIsPermitted}
use Rattle.calls.proofs.Reports.{LegalValue, entries_legal, chosen_of}
use Rattle.calls.proofs.Room.{turns_many}
use Rattle.calls.proofs.Done.{propose_done}
use Rattle.calls.proofs.Filling.{not_true}

same_refl : (d : Value) → same d d ≡ true
same_refl d = and_from (d.first == d.first && d.second == d.second) (d.third == d.third)
    (and_from (d.first == d.first) (d.second == d.second) (eq-eqb d.first d.first refl) (eq-eqb d.second d.second refl)) (eq-eqb d.third d.third refl)

chosen : (g : Finding) (d : Value) → conflicts g ≡ false → (permits g (choice g d) ≡ true) × (g ≡ free → choice g d ≡ d)
chosen free d h = (refl, λ e. refl)
chosen (forced r c) d h = (same_refl r.value, λ e. absurd (let z : ◌≡◌ {A = ℕ} 0 1 = cc in omega arith))
chosen conflict d h = absurd (true≢false h)

-- what is chosen once the verdict's steps are passed
pub verdict_chosen : (v : Vouched) (m : Membership) (k : Kept) (d : Value) (xs : List Turn) → passed v (verdict_call m.f m.t k.round k.view 0 xs).steps ≡ Ok (tt {0})
    → (permits (finding m.f m.t (reports_of xs)) (choice (finding m.f m.t (reports_of xs)) d) ≡ true) × (finding m.f m.t (reports_of xs) ≡ free → choice (finding m.f m.t (reports_of xs)) d ≡ d)
verdict_chosen v m k d xs h =
    let g = finding m.f m.t (reports_of xs) in
    let a = append_ok v (progress_steps m.f m.t k.round k.view 0 xs) _ h in
    let b = test_ok (not (conflicts g)) _ conflicting a.1 in
    chosen g d (not_true (conflicts g) b.0)

-- a legal fix, if the value that was handed in is one
pub chosen_legal : (v : Vouched) (m : Membership) (k : Kept) (d : Value) (xs : List Turn) → passed v (verdict_call m.f m.t k.round k.view 0 xs).steps ≡ Ok (tt {0})
    → legal (fix_of d) ≡ true → legal (fix_of (choice (finding m.f m.t (reports_of xs)) d)) ≡ true
chosen_legal v m k d xs h l =
    let a = append_ok v (progress_steps m.f m.t k.round k.view 0 xs) _ h in
    let b = test_ok (length xs == entries_needed m.f m.t k.view) _ (at_depth 1 (bad_count 0)) a.0 in
    chosen_of LegalValue m.f m.t (reports_of xs) d (entries_legal v m.f m.t k.round k.view 0 4 xs b.1) l

due_needed : (m : Membership) (k : Kept) (xs : List Turn) (n : ℕ) → (length xs == entries_needed m.f m.t k.view) ≡ true → length xs ≡ n → n ≡ entries_needed m.f m.t k.view
due_needed m k xs n h e = sym e ∙ eqb-true (length xs) (entries_needed m.f m.t k.view) h

pub proposes_in_turn : ProposesInTurn
unfolding propose_steps hear_propose_steps hear_prepare_steps hear_commit_steps hear_new_view_steps claim_heard change_heard
proposes_in_turn v m k books out d x h =
    let p = propose_done v m k books out d x h in
    let g = gathered m k in
    let a = test_ok (legal (fix_of d)) _ (illegal 0) p.tested in
    let b = test_ok (leads m k && not k.proposed && due m k) _ may_not_propose a.1 in
    let c = and_parts (leads m k && not k.proposed) (due m k) b.0 in
    let e = and_parts (leads m k) (not k.proposed) c.0 in
    let q = append_ok v (progress_steps m.f m.t k.round k.view 0 p.xs) _ p.judged in
    let r = test_ok (length p.xs == entries_needed m.f m.t k.view) _ (at_depth 1 (bad_count 0)) q.0 in
    (eqb-true m.own (leader_of (sites m.f m.t) k.view) e.0, not_true k.proposed e.1, due_needed m k p.xs (length g) r.0 (turns_many m k books 4 g p.xs p.read), a.0)

pub proposes_what_is_permitted : ProposesWhatIsPermitted
proposes_what_is_permitted v m k books out d x h =
    let p = propose_done v m k books out d x h in
    let c = verdict_chosen v m k d p.xs p.judged in
    let l = chosen_legal v m k d p.xs p.judged (proposes_in_turn v m k books out d x h).3 in
    (p.xs, choice (finding m.f m.t (reports_of p.xs)) d, p.read, ap (λ (y : Effect). drafted y.output) p.is, c.0, c.1, l)
