-- The rule is met by one finding only, which is the one that is found.
use Rattle.std.proofs.Common.{◌≡◌, ℕ, ◌<◌, ◌≤◌, List, length, sym, refl, ap, ◌∙◌, inl, inr, arith}
use Rattle.std.proofs.lemmas.Bool.{cases_lt}
use Rattle.values.specs.declared.fix.Report.{Report}
use Rattle.values.specs.Fleets.{progress_quorum}
use Rattle.verdicts.specs.declared.rule.Reported.{Reported}
use Rattle.verdicts.specs.Rule.{reporters, fast_support, Finding, free, forced, conflict, by_fast, by_commit}
use Rattle.verdicts.specs.Rule.{finding}
use Rattle.agreement.specs.Laws.{Highest, NoneAbove, FastForces, CommitForces, CommitsConflict, Found, FindingIsTheRule}
use Rattle.verdicts.proofs.Counts.{reporters_low}
use Rattle.agreement.proofs.Laws.{one_fast_value}
use Rattle.agreement.proofs.Verdict.{finding_found}

module _ (f t : ℕ) (es : List Reported) (few : length es ≤ progress_quorum f t) where
  abbrev q : ℕ
  q = fast_support f t

  clash : (w : ℕ) (r : Report) → NoneAbove q es w → Highest q es r → w < r.view → ⊥
  clash w r n h l = absurd (omega (arith, n.fast r.value r.view l, h.reached))

  from_one : (r : Report) → Highest q es r → q ≤ reporters r.value 1 es
  from_one r h = omega (arith, h.reached, reporters_low r.value 1 r.view es h.low)

  same_report : (r s : Report) → r.view ≡ s.view → r.value ≡ s.value → r ≡ s
  same_report r s e k = λ i. record { view = e i; value = k i }

  at_most : (r s : Report) → Highest q es r → Highest q es s → r.value ≡ s.value → s.view ≤ r.view
  at_most r s h k e = elim (cases_lt r.view s.view) [
    | inl l ↦ let z : q ≤ reporters r.value s.view es = rw e k.reached in absurd (omega (arith, h.no_higher s.view l))
    | inr l ↦ l
  ]

  fasts : (r s : Report) → Highest q es r → Highest q es s → r ≡ s
  fasts r s h k =
      let e = one_fast_value f t es r.value s.value few (from_one r h) (from_one s k) in
      same_report r s (omega (arith, at_most r s h k e, at_most s r k h (sym e))) e

  commits : (r s : Report) → CommitForces q es r → CommitForces q es s → r ≡ s
  commits r s h k =
      let e : r.view ≡ s.view = omega (arith, h.none_above.commits s k.reported, k.none_above.commits r h.reported) in
      same_report r s e (k.no_other r h.reported e)

  two : (r : Report) → CommitForces q es r → CommitsConflict q es → ⊥
  two r h k =
      let e : k.one.view ≡ r.view = omega (arith, h.none_above.commits k.one k.one_reported, k.none_above.commits r h.reported) in
      k.two_values (h.no_other k.one k.one_reported e ∙ sym (h.no_other k.other k.other_reported (k.same_view ∙ e)))

  quick_slow : (r s : Report) → FastForces q es r → CommitForces q es s → ⊥
  quick_slow r s h k = clash s.view r k.none_above h.fast (h.above s k.reported)

  quick_two : (r : Report) → FastForces q es r → CommitsConflict q es → ⊥
  quick_two r h k = clash k.one.view r k.none_above h.fast (h.above k.one k.one_reported)

  free_quick : (r : Report) → NoneAbove q es 0 → FastForces q es r → ⊥
  free_quick r n h = clash 0 r n h.fast (omega (arith, h.fast.low))

  free_slow : (r : Report) → NoneAbove q es 0 → CommitForces q es r → ⊥
  free_slow r n h = absurd (omega (arith, n.commits r h.reported, h.low))

  free_two : NoneAbove q es 0 → CommitsConflict q es → ⊥
  free_two n h = absurd (omega (arith, n.commits h.one h.one_reported, h.low))

  only_one : (x y : Finding) → Found q es x → Found q es y → x ≡ y
  only_one free free h k = refl
  only_one free (forced s by_fast) h k = absurd (free_quick s h k)
  only_one free (forced s by_commit) h k = absurd (free_slow s h k)
  only_one free conflict h k = absurd (free_two h k)
  only_one (forced r by_fast) free h k = absurd (free_quick r k h)
  only_one (forced r by_fast) (forced s by_fast) h k = ap (λ (x : Report). forced x by_fast) (fasts r s h.fast k.fast)
  only_one (forced r by_fast) (forced s by_commit) h k = absurd (quick_slow r s h k)
  only_one (forced r by_fast) conflict h k = absurd (quick_two r h k)
  only_one (forced r by_commit) free h k = absurd (free_slow r k h)
  only_one (forced r by_commit) (forced s by_fast) h k = absurd (quick_slow s r k h)
  only_one (forced r by_commit) (forced s by_commit) h k = ap (λ (x : Report). forced x by_commit) (commits r s h k)
  only_one (forced r by_commit) conflict h k = absurd (two r h k)
  only_one conflict free h k = absurd (free_two k h)
  only_one conflict (forced s by_fast) h k = absurd (quick_two s k h)
  only_one conflict (forced s by_commit) h k = absurd (two s k h)
  only_one conflict conflict h k = refl

pub finding_is_the_rule : FindingIsTheRule
finding_is_the_rule f t es few = (finding_found f t es few, λ x h. only_one f t es few x (finding f t es) h (finding_found f t es few))
