-- A script in which sites that behave otherwise meet, and one of them is left without a decision.
use Rattle.std.proofs.Common.{◌≡◌, ℕ, ◌-◌, Bool, true, false, List, [], ◌∷◌, length, take, drop, Some, None, Ok, Option, Result, refl, sym, ap, ◌∙◌, subst, arith}
use Rattle.std.specs.Prelude.{◌==◌, nat_lt, nat_le}
use Rattle.std.proofs.lemmas.Bool.{eqb-true, leb-true, ltb-true, eq-eqb}
use Rattle.values.specs.Refusals.{Refused}
use Rattle.values.specs.Fleets.{sites, progress_quorum}
use Rattle.checks.specs.Vouching.{Vouched}
use Rattle.agreement.specs.Sites.{SiteSet, size, all_but}
use Rattle.records.specs.Books.{Books}
use Rattle.records.specs.Kept.{Membership, Kept, Decided}
use Rattle.calls.specs.Effects.{Answer, found}
use Rattle.calls.specs.Calls.{Request, to_read, performed, answer_of}
use Rattle.calls.proofs.Laws.{judges_and_reads}
use Rattle.runs.specs.Runs.{Behaviour, World, after}
use Rattle.runs.specs.Promises.{Reads}
use Rattle.runs.specs.Happens.{opened_by}
use Rattle.liveness.specs.Recovery.{ChosenRecoverBy}
use Rattle.liveness.specs.Scripts.{calls}
use Rattle.wrong_sites.specs.Behaving.{Instead, doing}
use Rattle.wrong_sites.specs.UndecidedRuns.{Case}
use Rattle.liveness.proofs.Lines.{first_passes, first_is, undecided_there, behaviour_kept}
use Rattle.liveness.proofs.LineTests.{all_true, each_true}
use Rattle.liveness.proofs.ScriptMeets.{Computed, all_commits_heard, they_meet, they_hear_commits}

same_found : {a b : Option Decided} → ◌≡◌ {A = Result Answer Refused} (Ok (found a)) (Ok (found b)) → a ≡ b
same_found e = cc

none_some : {P : Type 0} (x : Decided) → ◌≡◌ {A = Option Decided} None (Some x) → P
none_some x e = absurd (let z : ◌≡◌ {A = ℕ} 0 1 = cc in omega arith)

-- of its reads comes what the rules say
abbrev ReadsByTheRules : Instead → Type 0
ReadsByTheRules other = (v : Vouched) (m : Membership) (k : Kept) (books : Books) (out : ℕ) → other m k books to_read (performed v m k books out to_read) ≡ performed v m k books out to_read

-- so read gives what is decided
read_is : (other : Instead) → ReadsByTheRules other → (w : World) (i : ℕ) (x : Decided) → (w i).behaviour ≡ doing other → Reads w i x → (w i).kept.decision ≡ Some x
read_is other reads w i x behaves h =
    let e = h.0 in
    let s = w e.site in
    let is : answer_of (s.behaviour.performs e.check s.member s.kept s.books (length e.out) to_read) ≡ Ok (found (Some x)) =
    subst (λ (r : Request). answer_of (s.behaviour.performs e.check s.member s.kept s.books (length e.out) r) ≡ Ok (found (Some x))) h.2 h.3 in
    let as_rules : answer_of (performed e.check s.member s.kept s.books (length e.out) to_read) ≡ Ok (found (Some x)) =
    ap answer_of (sym (reads e.check s.member s.kept s.books (length e.out)))
    ∙ subst (λ (b : Behaviour). answer_of (b.performs e.check s.member s.kept s.books (length e.out) to_read) ≡ Ok (found (Some x))) (ap (λ (n : ℕ). (w n).behaviour) h.1 ∙ behaves) is in
    subst (λ (n : ℕ). (w n).kept.decision ≡ Some x) h.1 (same_found (sym (judges_and_reads.reads e.check s.member s.kept s.books (length e.out)) ∙ as_rules))

-- what is computed of a case
module _ (other : Instead) (c : Case) where
  abbrev last : ℕ
  last = length c.script.lines - 1

  abbrev its_site : SiteSet
  its_site i = i == c.site

  abbrev tests : List Bool
  tests =
      all_commits_heard (doing other) c.script c.good c.view c.times c.times.commits_heard true last its_site
      ∷ nat_le (size (all_but c.good) 4) 1
      ∷ nat_le (progress_quorum 1 0) (size c.good (sites 1 0))
      ∷ c.good c.site
      ∷ (c.times.commits_heard c.site == last)
      ∷ first_passes false (drop last c.script.lines) (λ l. true)
      ∷ []

  pub record CaseComputed : Type 0 where
    pub met : Computed (doing other) c.script c.good c.view c.times c.times.commits_heard true last its_site
    pub passed : all_true tests ≡ true

  -- the sites keep all that is asked for, and this one has not decided when it has heard all commits
  pub lost : ReadsByTheRules other → ((i : ℕ) → c.good i ≡ true → nat_lt i 4 ≡ true) → CaseComputed → ChosenRecoverBy (doing other) → ⊥
  lost reads inside h promise =
      let b = doing other in
      let t = each_true tests h.passed in
      let chosen = t.1.1.1.0 in
      let done = eqb-true (c.times.commits_heard c.site) last t.1.1.1.1.0 in
      let line = first_is (drop last c.script.lines) (λ l. true) t.1.1.1.1.1.0 in
      let m = they_meet b c.script c.good c.view c.times c.times.commits_heard true last its_site inside h.met (leb-true (size (all_but c.good) 4) 1 t.1.0) in
      let heard = they_hear_commits b c.script c.good c.view c.times c.times.commits_heard true last its_site inside h.met t.0 in
      let enough = leb-true (progress_quorum 1 0) (size c.good (sites 1 0)) t.1.1.0 in
      let told = promise 1 0 4 9 c.good (opened_by b) (calls c.script) m.played.run m.played.accord c.good c.view c.times enough m.meeting heard in
      let x = told.2 c.site chosen in
      let w = after (opened_by b) (take last (calls c.script)) in
      let there = subst (λ (n : ℕ). Reads (after (opened_by b) (take n (calls c.script))) c.site x.0) done x.1 in
      let decided = read_is other reads w c.site x.0 (behaviour_kept (opened_by b) (take last (calls c.script)) c.site) there in
      let low = ltb-true c.site 4 (inside c.site chosen) in
      none_some x.0 (sym (undecided_there c.script b c.good last its_site h.met.goes line.0 line.1 line.2 c.site low (eq-eqb c.site c.site refl)) ∙ decided)
