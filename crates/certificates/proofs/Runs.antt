-- What judging keeps in every run of abstract sites.
use Rattle.std.proofs.Common.{◌≡◌, ℕ, ◌≤◌, List, [], ◌∷◌, length, map, inl, inr, sym, refl, ap, ◌∙◌, arith}
use Rattle.std.proofs.lemmas.Bool.{cases_eq}
use Rattle.values.specs.declared.fix.Value.{Value}
use Rattle.verdicts.specs.declared.rule.Reported.{Reported}
use Rattle.verdicts.specs.Rule.{By, Finding, free, forced, conflict, finding}
use Rattle.verdicts.specs.Told.{told_forced, by_number, finding_told}
use Rattle.wire.specs.Contents.{Turn}
use Rattle.wire.specs.Layout.{progress_of}
use Rattle.agreement.specs.Statements.{report_of, judged, Forces}
use Rattle.agreement.specs.Statements as abstract
use Rattle.agreement.specs.Moves.{start, world_at, after, Moved, Run}
use Rattle.agreement.specs.Sites.{SiteSet, size, all_but}
use Rattle.values.specs.Fleets.{sites}
use Rattle.checks.specs.Vouching.{Vouched}
use Rattle.certificates.specs.Examining.{entries_needed}
use Rattle.agreement.proofs.Rules.{PreparedIn, CommittedIn, SpokeIn}
use Rattle.agreement.proofs.Agree.{decision_view, decision_backs}
use Rattle.agreement.proofs.Keep.{found, rules_of, later_forced, never_conflict}
use Rattle.certificates.specs.Judging.{reports_of, judge_call}
use Rattle.certificates.specs.Runs.{entry_of, JudgingKeepsDecisions, JudgingNeverConflicts}
use Rattle.certificates.proofs.Meaning.{report_same, EntriesMeant, formed, judged_ok, judged_conflict}

-- the entries' reports, by their bytes and as the rules see them
pub reports_same : (ms : List Turn) → reports_of ms ≡ map abstract.reported (map entry_of ms)
reports_same [] = refl
reports_same (m ∷ ms) = rw (report_same m.committed, reports_same ms)

forces_told : (x : Finding) (d : Value) → Forces x d → (c : By) × (w : ℕ) × (finding_told x ≡ told_forced (by_number c) d w)
forces_told free d h = absurd h
forces_told (forced r c) d h = (c, r.view, ap (λ (e : Value). told_forced (by_number c) e r.view) h)
forces_told conflict d h = absurd h

pub judging_keeps_decisions : JudgingKeepsDecisions
unfolding judge_call
judging_keeps_decisions f t good few ms run a b i r v limit round view bytes x g dec l meant h =
    let log = (after f t start ms).log in
    let one : 1 ≤ r.view =
    decision_view f t good (PreparedIn log) (CommittedIn log) (SpokeIn log) (rules_of f t good few ms run) r.view r.value
    (decision_backs f t good (PreparedIn log) (CommittedIn log) (SpokeIn log) (rules_of f t good few ms run) r.view r.value (found f t good few ms run a i r g dec)) in
    let j = judged_ok v good (world_at f t ms b).log f t round view (progress_of limit bytes) x h meant in
    let forces = later_forced f t good few ms run a b i r view (map entry_of j.turns) g dec l
    (formed v good (world_at f t ms b).log f t round view j.turns (omega arith) j.count j.entries, j.entries.drafted) in
    let told = forces_told (judged f t (map entry_of j.turns)) r.value forces in
    (told.0, told.1, j.told ∙ ap (λ (es : List Reported). finding_told (finding f t es)) (reports_same j.turns) ∙ told.2)

-- without entries there is no conflict
nothing_conflicts : (f t : ℕ) (ms : List Turn) → length ms ≡ 0 → finding f t (reports_of ms) ≡ conflict → ⊥
unfolding finding
nothing_conflicts f t [] h k = let z : ◌≡◌ {A = ℕ} 0 1 = cc in omega arith
nothing_conflicts f t (m ∷ ms) h k = omega arith

-- and in no run does a progress certificate that passes, and is as meant, come to one
pub no_conflict : (f t : ℕ) (good : SiteSet) → size (all_but good) (sites f t) ≤ f → (ms : List Moved) → Run f t good start ms
    → (b : ℕ) (v : Vouched) (round view : ℕ) (turns : List Turn) → 1 ≤ view → length turns ≡ entries_needed f t view
    → EntriesMeant v good (world_at f t ms b).log f t round view 0 (map entry_of turns) → finding f t (reports_of turns) ≡ conflict → ⊥
no_conflict f t good few ms run b v round view turns low count entries found = elim (cases_eq view 1) [
  | inl e ↦ nothing_conflicts f t turns (count ∙ rw e) found
  | inr ne ↦ never_conflict f t good few ms run b view (map entry_of turns)
      (formed v good (world_at f t ms b).log f t round view turns (omega arith) count entries, entries.drafted)
      (ap (λ (es : List Reported). finding f t es) (sym (reports_same turns)) ∙ found)
]

pub judging_never_conflicts : JudgingNeverConflicts
unfolding judge_call
judging_never_conflicts f t good few ms run b v limit round view bytes meant h =
    let c = judged_conflict v good (world_at f t ms b).log f t round view (progress_of limit bytes) h meant in
    no_conflict f t good few ms run b v round view c.turns c.view_low c.count c.entries c.found
