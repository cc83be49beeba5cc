-- Decisions agree, later certificates force them, and no call meets a conflict: in every run.
use Rattle.std.proofs.Common.{◌≡◌, ℕ, ◌<◌, ◌≤◌, true, List, ◌∷◌, ◌++◌, length, take, Some, Ok, Err, Option, Result, refl, sym, ap, ◌∙◌, subst, ◌⊎◌, inl, inr, arith}
use Rattle.values.specs.declared.fix.Value.{Value}
use Rattle.values.specs.Refusals.{Refused}
use Rattle.verdicts.specs.Rule.{By}
use Rattle.verdicts.specs.Told.{Told, told_forced, by_number}
use Rattle.agreement.specs.Sites.{SiteSet}
use Rattle.agreement.specs.Statements.{In}
use Rattle.agreement.specs.Moves.{start}
use Rattle.agreement.specs.Moves as moves
use Rattle.agreement.proofs.Keep as rules
use Rattle.certificates.specs.Steps.{Question, granted}
use Rattle.certificates.specs.Judging.{judging}
use Rattle.certificates.specs.Runs.{said_of, Meant}
use Rattle.certificates.proofs.Meaning.{progress_meant}
use Rattle.certificates.proofs.Runs.{no_conflict, judging_keeps_decisions}
use Rattle.records.specs.Kept.{Membership, Decided}
use Rattle.calls.specs.Effects.{Answer, judged, found, Effect}
use Rattle.calls.specs.Calls.{Request, to_judge, to_read, performed, asks, answer_of}
use Rattle.calls.specs.Laws.{judging_answer}
use Rattle.calls.proofs.Laws.{judges_and_reads}
use Rattle.runs.specs.Runs.{Behaviour, by_the_rules, Site, World, Event, result, after, Comes, Run}
use Rattle.runs.specs.Laws.{AsksInForm}
use Rattle.runs.specs.Promises.{Reads, DecisionsAgree, LaterCertificatesForce, NeverConflict}
use Rattle.runs.proofs.Abstract.{decided_report}
use Rattle.runs.proofs.Standing.{member, Stands, result_as, questions_as}
use Rattle.runs.proofs.Lists.{take_front, each_of}
use Rattle.runs.proofs.Followed.{Follows, in_form, meant, as_moves}
use Rattle.runs.proofs.Refused.{refused_14, judge_refused}

same_found : {a b : Option Decided} → ◌≡◌ {A = Result Answer Refused} (Ok (found a)) (Ok (found b)) → a ≡ b
same_found e = cc

-- read gives what the record holds
read_decision : (w : World) (i : ℕ) (x : Decided) → (w i).behaviour ≡ by_the_rules → Reads w i x → (w i).kept.decision ≡ Some x
read_decision w i x behaves h =
    let e = h.0 in
    let s = w e.site in
    let read : answer_of (performed e.check s.member s.kept s.books (length e.out) to_read) ≡ Ok (found (Some x)) =
    subst (λ (r : Request). answer_of (performed e.check s.member s.kept s.books (length e.out) r) ≡ Ok (found (Some x))) h.2
    (subst (λ (b : Behaviour). answer_of (b.performs e.check s.member s.kept s.books (length e.out) e.request) ≡ Ok (found (Some x)))
    (ap (λ (n : ℕ). (w n).behaviour) h.1 ∙ behaves) h.3) in
    subst (λ (n : ℕ). (w n).kept.decision ≡ Some x) h.1 (same_found (sym (judges_and_reads.reads e.check s.member s.kept s.books (length e.out)) ∙ read))

module _ (f t limit round : ℕ) (good : SiteSet) (w : World) (es : List Event) (run : Run f t limit round good w es) where
  -- the moves that the calls are
  abbrev pub made : List moves.Moved
  made = (as_moves f t limit round good w es run).made

  pub is_run : moves.Run f t good start made
  is_run = (as_moves f t limit round good w es run).is_run

  -- what is decided there
  pub decision_there : (a i : ℕ) (x : Decided) → good i ≡ true → Reads (after w (take a es)) i x → ((moves.world_at f t made a).at i).decision ≡ Some x.report
  decision_there a i x g h =
      let follows = (as_moves f t limit round good w es run).follows a in
      ap (λ (s : moves.Site). s.decision) (follows.alike i g) ∙ ap decided_report (read_decision (after w (take a es)) i x (follows.stands i g).behaves h)

  -- the sites behind calls that the run begins with
  pub behind : (past rest : List Event) → es ≡ past ++ rest → Follows f t limit round good w es run past (moves.world_at f t made (length past))
  behind past rest h =
      let p : take (length past) es ≡ past = ap (take (length past)) h ∙ take_front past rest in
      subst (λ (z : List Event). Follows f t limit round good w es run z (moves.world_at f t made (length past))) p ((as_moves f t limit round good w es run).follows (length past))

  -- a call of the run, and what it was told
  module _ (past : List Event) (e : Event) (c : Comes es past e) where
    there : Follows f t limit round good w es run past (moves.world_at f t made (length past))
    there = behind past (e ∷ c.0) c.1

    pub standing : Stands f t limit round e.site (after w past e.site)
    standing = there.stands e.site (each_of (λ (x : Event). good x.site ≡ true) es past e c run.theirs)

    pub result_is : result (after w past) e ≡ performed e.check (member f t limit round e.site) (after w past e.site).kept (after w past e.site).books (length e.out) e.request
    result_is = result_as f t limit round (after w past) e standing

    pub told : Meant good (moves.world_at f t made (length past)).log e.check (asks e.check (member f t limit round e.site) (after w past e.site).kept (after w past e.site).books (length e.out) e.request)
    told =
        subst (Meant good (moves.world_at f t made (length past)).log e.check) (questions_as f t limit round (after w past) e standing)
        (meant f t limit round good w es run past e c (moves.world_at f t made (length past)) there)

    never : (r : Refused) → result (after w past) e ≡ Err r → r.number ≡ 14 → ⊥
    never r h n =
        let s = after w past e.site in
        let m = member f t limit round e.site in
        let log = (moves.world_at f t made (length past)).log in
        let Backed : Question → Type 0 = λ q. granted e.check q ≡ true → good q.site ≡ true → In (said_of q.said) log in
        let x = refused_14 e.check m s.kept s.books (length e.out) e.request Backed r (sym result_is ∙ h) n told in
        let low : 1 ≤ x.view = elim x.view_is [
          | inl q ↦ (let l = standing.reports.first in omega arith)
          | inr q ↦ q.2
        ] in
        let p = progress_meant e.check good log f t s.kept.round x.view x.place x.turns x.passes x.asked_of_it in
        no_conflict f t good run.few made is_run (length past) e.check s.kept.round x.view x.turns low p.0 p.1 x.found

pub decisions_agree : DecisionsAgree
decisions_agree f t limit round good w es run a b i j x y gi gj p q =
    rules.decisions_agree f t good run.few (made f t limit round good w es run) (is_run f t limit round good w es run) a b i j x.report y.report gi gj
    (decision_there f t limit round good w es run a i x gi p) (decision_there f t limit round good w es run b j y gj q)

pub asks_in_form : AsksInForm
asks_in_form f t limit round good w es run past e c =
    in_form f t limit round good w es run past e c (moves.world_at f t (made f t limit round good w es run) (length past)) (there f t limit round good w es run past e c)

pub never_conflict : NeverConflict
never_conflict f t limit round good w es run past e r c h n = never f t limit round good w es run past e c r h n

-- ---- judging after a decision ----

judged_told : (r : Result Told Refused) (a : Answer) → ◌≡◌ {A = Result Answer Refused} (Ok a) (judging_answer r) → (x : Told) × (r ≡ Ok x) × (a ≡ judged x)
judged_told (Ok x) a h = (x, refl, cc)
judged_told (Err e) a h = absurd (let z : ◌≡◌ {A = ℕ} 0 1 = cc in omega arith)

told_alike : (a : Answer) (x : Told) (d : Value) → a ≡ judged x → (by : By) × (v : ℕ) × (x ≡ told_forced (by_number by) d v) → (by : By) × (v : ℕ) × (a ≡ judged (told_forced (by_number by) d v))
told_alike a x d e k = (k.0, k.1, e ∙ ap judged k.2)

module _ (f t limit round : ℕ) (good : SiteSet) (w : World) (es : List Event) (run : Run f t limit round good w es) (a i : ℕ) (x : Decided) (g : good i ≡ true) (reads : Reads (after w (take a es)) i x)
    (past : List Event) (e : Event) (view : ℕ) (certificate : List ℕ) (c : Comes es past e) (is : e.request ≡ to_judge view certificate) (above : x.report.view < view) where
  abbrev s : Site
  s = after w past e.site

  abbrev m : Membership
  m = member f t limit round e.site

  same_call : result (after w past) e ≡ performed e.check m s.kept s.books (length e.out) (to_judge view certificate)
  same_call =
      result_is f t limit round good w es run past e c
      ∙ ap (λ (r : Request). performed e.check m s.kept s.books (length e.out) r) is

  asked : Meant good (moves.world_at f t (made f t limit round good w es run) (length past)).log e.check (asks e.check m s.kept s.books (length e.out) (to_judge view certificate))
  asked =
      let AsMeant : List Question → Type 0 = Meant good (moves.world_at f t (made f t limit round good w es run) (length past)).log e.check in
      subst (λ (r : Request). AsMeant (asks e.check m s.kept s.books (length e.out) r)) is (told f t limit round good w es run past e c)

  same_answer : answer_of (result (after w past) e) ≡ judging_answer (judging e.check f t limit s.kept.round view certificate)
  same_answer = ap answer_of same_call ∙ judges_and_reads.judges e.check m s.kept s.books (length e.out) view certificate

  -- an answer is that the fix decided is forced
  forces_it : (y : Effect) → result (after w past) e ≡ Ok y → (by : By) × (v : ℕ) × (y.answer ≡ judged (told_forced (by_number by) x.report.value v))
  forces_it y h =
      let j = judged_told (judging e.check f t limit s.kept.round view certificate) y.answer (ap answer_of (sym h) ∙ same_answer) in
      told_alike y.answer j.0 x.report.value j.2
      (judging_keeps_decisions f t good run.few (made f t limit round good w es run) (is_run f t limit round good w es run) a (length past) i x.report e.check limit s.kept.round view certificate j.0 g
      (decision_there f t limit round good w es run a i x g reads) above asked j.1)

  -- and a refusal is for the layout, or for a bad certificate
  refuses_it : (r : Refused) → result (after w past) e ≡ Err r → (r.number ≡ 3) ⊎ (r.number ≡ 12)
  refuses_it r h = elim (judge_refused e.check m s.kept s.books (length e.out) view certificate r (sym same_call ∙ h) (omega arith)) [
    | inl q ↦ inl q
    | inr (inl q) ↦ inr q
    | inr (inr q) ↦ absurd (never f t limit round good w es run past e c r h q)
  ]

  by_result : (r : Result Effect Refused) → result (after w past) e ≡ r
      → ((by : By) × (v : ℕ) × (answer_of r ≡ Ok (judged (told_forced (by_number by) x.report.value v))))
      ⊎ ((q : Refused) × (r ≡ Err q) × ((q.number ≡ 3) ⊎ (q.number ≡ 12)))
  by_result (Ok y) h = let k = forces_it y h in inl (k.0, k.1, ap Ok k.2)
  by_result (Err q) h = inr (q, refl, refuses_it q h)

pub later_certificates_force : LaterCertificatesForce
later_certificates_force f t limit round good w es run a i x g reads past e view certificate c is above =
    by_result f t limit round good w es run a i x g reads past e view certificate c is above (result (after w past) e) refl
