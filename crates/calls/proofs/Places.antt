-- The tests of a certificate are the same wherever it stands: only the places of their faults differ.
use Rattle.std.proofs.Common.{◌≡◌, ℕ, ◌+◌, Bool, List, [], ◌∷◌, ◌++◌, length, Some, None, Ok, Option, sym, refl, ap, ap₂, ◌∙◌, subst}
use Rattle.std.specs.Prelude.{not, ◌==◌}
use Rattle.values.specs.declared.fix.Report.{Report}
use Rattle.values.specs.Fleets.{sites, recovery_quorum}
use Rattle.values.specs.Refusals.{Refused, conflicting}
use Rattle.verdicts.specs.Rule.{finding}
use Rattle.wire.specs.declared.statement.Head.{Head}
use Rattle.wire.specs.Contents.{Vote, vote_bytes, Certified, Turn, turn_bytes, change_of}
use Rattle.checks.specs.Vouching.{Vouched}
use Rattle.certificates.specs.Steps.{Step, test, ask, passed, blamed}
use Rattle.certificates.specs.Faults.{at_depth, failing}
use Rattle.certificates.specs.Examining.{rising, prepare_of, votes_steps, certified_steps, change_steps, behind_tag, entries_needed, entry_steps, entries_steps, progress_steps}
use Rattle.certificates.specs.Judging.{reports_of, conflicts, verdict_call}
use Rattle.certificates.proofs.Passing.{passed_blamed, blamed_ok}

-- the steps without what they blame
abbrev plain : {F : Type 0} → List (Step F) → List (Step (Unit {0}))
plain {F} xs = blamed {E = F} {F = Unit {0}} (λ e. tt) xs

plain_append : {F : Type 0} (xs ys : List (Step F)) → plain (xs ++ ys) ≡ plain xs ++ plain ys
plain_append [] ys = refl
plain_append (test b e ∷ xs) ys = ap (λ (zs : List (Step (Unit {0}))). test b tt ∷ zs) (plain_append xs ys)
plain_append (ask q e ∷ xs) ys = ap (λ (zs : List (Step (Unit {0}))). ask q tt ∷ zs) (plain_append xs ys)

plain_blamed : {E F : Type 0} (g : E → F) (xs : List (Step E)) → plain (blamed g xs) ≡ plain xs
plain_blamed g [] = refl
plain_blamed g (test b e ∷ xs) = ap (λ (zs : List (Step (Unit {0}))). test b tt ∷ zs) (plain_blamed g xs)
plain_blamed g (ask q e ∷ xs) = ap (λ (zs : List (Step (Unit {0}))). ask q tt ∷ zs) (plain_blamed g xs)

-- steps that differ in their faults alone are passed alike
passed_alike : {F : Type 0} (v : Vouched) (xs ys : List (Step F)) → plain xs ≡ plain ys → passed v xs ≡ Ok (tt {0}) → passed v ys ≡ Ok (tt {0})
passed_alike {F} v xs ys e h =
    let p : passed v (plain xs) ≡ Ok (tt {0}) = passed_blamed {E = F} {F = Unit {0}} (λ e. tt) v xs ∙ ap (failing {E = F} {F = Unit {0}} (λ e. tt)) h in
    blamed_ok {E = F} {F = Unit {0}} (λ e. tt) v ys (subst (λ (zs : List (Step (Unit {0}))). passed v zs ≡ Ok (tt {0})) e p)

-- ---- the parts of a progress certificate ----

change_parts : (round view : ℕ) (known : Bool) (p q : ℕ) (h : Head) (a b : Option Report) (tag : List ℕ)
    → plain (change_steps round view known p (record { head = h; prepared = a; committed = b }) tag) ≡ plain (change_steps round view known q (record { head = h; prepared = a; committed = b }) tag)
change_parts round view known p q h None None tag = refl
change_parts round view known p q h None (Some s) tag = refl
change_parts round view known p q h (Some r) None tag = refl
change_parts round view known p q h (Some r) (Some s) tag = refl

module _ (f t round : ℕ) where
  votes_place : (r : Report) (low p q : ℕ) (xs : List Vote) → plain (votes_steps f t round r low p xs) ≡ plain (votes_steps f t round r low q xs)
  votes_place r low p q [] = refl
  votes_place r low p q (x ∷ xs) =
      ap (λ (zs : List (Step (Unit {0}))). test (rising (sites f t) low x.site) tt ∷ ask (record { site = x.site; said = prepare_of round r x.site; tag = x.tag }) tt ∷ zs)
      (votes_place r (x.site + 1) (p + length (vote_bytes x)) (q + length (vote_bytes x)) xs)

  certified_place : (p q : ℕ) (o : Option Certified) → plain (certified_steps f t round p o) ≡ plain (certified_steps f t round q o)
  certified_place p q None = refl
  certified_place p q (Some c) = ap (λ (zs : List (Step (Unit {0}))). test (length c.votes == recovery_quorum f t) tt ∷ zs) (votes_place c.report 0 (p + 4) (q + 4) c.votes)

  -- the certificate of a reported commit that passes at a place passes at any
  pub certified_anywhere : (v : Vouched) (p q : ℕ) (o : Option Certified) → passed v (certified_steps f t round p o) ≡ Ok (tt {0}) → passed v (certified_steps f t round q o) ≡ Ok (tt {0})
  certified_anywhere v p q o h = passed_alike v (certified_steps f t round p o) (certified_steps f t round q o) (certified_place p q o) h

  module _ (view : ℕ) where
    entry_place : (low p q : ℕ) (x : Turn) → plain (entry_steps f t round view low p x) ≡ plain (entry_steps f t round view low q x)
    entry_place low p q x = split p ∙ ap₂ ◌++◌ (change_parts round view (rising (sites f t) low x.head.site) p q x.head x.prepared (change_of x).committed x.tag) (certified_place (behind_tag p x) (behind_tag q x) x.committed) ∙ sym (split q)
      where
        split : (at : ℕ) → plain (entry_steps f t round view low at x)
            ≡ plain (change_steps round view (rising (sites f t) low x.head.site) at (change_of x) x.tag) ++ plain (certified_steps f t round (behind_tag at x) x.committed)
        split at =
            let change = change_steps round view (rising (sites f t) low x.head.site) at (change_of x) x.tag in
            let certified = certified_steps f t round (behind_tag at x) x.committed in
            plain_append (blamed (at_depth 1) change) (blamed (at_depth 2) certified) ∙ ap₂ ◌++◌ (plain_blamed (at_depth 1) change) (plain_blamed (at_depth 2) certified)

    entries_place : (low p q : ℕ) (xs : List Turn) → plain (entries_steps f t round view low p xs) ≡ plain (entries_steps f t round view low q xs)
    entries_place low p q [] = refl
    entries_place low p q (x ∷ xs) =
        let n = length (turn_bytes x) in
        plain_append (entry_steps f t round view low p x) (entries_steps f t round view (x.head.site + 1) (p + n) xs)
        ∙ ap₂ ◌++◌ (entry_place low p q x) (entries_place (x.head.site + 1) (p + n) (q + n) xs)
        ∙ sym (plain_append (entry_steps f t round view low q x) (entries_steps f t round view (x.head.site + 1) (q + n) xs))

    progress_place : (p q : ℕ) (xs : List Turn) → plain (progress_steps f t round view p xs) ≡ plain (progress_steps f t round view q xs)
    progress_place p q xs = ap (λ (zs : List (Step (Unit {0}))). test (length xs == entries_needed f t view) tt ∷ zs) (entries_place 0 (p + 4) (q + 4) xs)

    -- a progress certificate that passes at a place passes at any
    pub verdict_anywhere : (v : Vouched) (p q : ℕ) (xs : List Turn) → passed v (verdict_call f t round view p xs).steps ≡ Ok (tt {0}) → passed v (verdict_call f t round view q xs).steps ≡ Ok (tt {0})
    verdict_anywhere v p q xs h =
        let last : List (Step Refused) = test (not (conflicts (finding f t (reports_of xs)))) conflicting ∷ [] in
        passed_alike v (progress_steps f t round view p xs ++ last) (progress_steps f t round view q xs ++ last)
        (plain_append (progress_steps f t round view p xs) last ∙ ap (λ (zs : List (Step (Unit {0}))). zs ++ plain last) (progress_place p q xs) ∙ sym (plain_append (progress_steps f t round view q xs) last))
        h
