-- Steps from another place on: the same, with their places moved. And the places of an entry's faults are not past its bytes.
use Rattle.std.proofs.Common.{◌≡◌, ℕ, ◌+◌, ◌≤◌, Bool, true, false, cond, List, [], ◌∷◌, ◌++◌, length, Some, None, Err, Option, Result, sym, refl, ap, ap₂, ◌∙◌, arith, length-append}
use Rattle.std.specs.Option.{IfSome}
use Rattle.values.specs.declared.fix.Report.{Report}
use Rattle.values.specs.Fleets.{sites}
use Rattle.values.specs.Refusals.{Refused, first_of, moved}
use Rattle.wire.specs.declared.statement.ViewChange.{ViewChange}
use Rattle.wire.specs.declared.statement.Statement.TheVariants.{NewView}
use Rattle.wire.specs.Contents.{report_bytes, statement_bytes, tag_bytes, Vote, vote_bytes, votes_bytes, Certified, certified_bytes, Turn, change_of, turn_bytes}
use Rattle.checks.specs.Vouching.{Vouched}
use Rattle.certificates.specs.Steps.{granted, Step, test, ask, passed, blamed}
use Rattle.certificates.specs.Faults.{Faulted, at_depth}
use Rattle.certificates.specs.Examining.{rising, ascending, vote_steps, votes_steps, certificate_steps, certified_steps, report_view, report_fix, change_steps, behind_tag, entry_steps}

-- ---- blamed, of lists and twice ----

pub blamed_append : {E F : Type 0} (g : E → F) (xs ys : List (Step E)) → blamed g (xs ++ ys) ≡ blamed g xs ++ blamed g ys
blamed_append g [] ys = refl
blamed_append g (test b e ∷ xs) ys = rw (blamed_append g xs ys)
blamed_append g (ask q e ∷ xs) ys = rw (blamed_append g xs ys)

pub blamed_twice : {D E F : Type 0} (h : E → F) (g : D → E) (xs : List (Step D)) → blamed h (blamed g xs) ≡ blamed (λ (e : D). h (g e)) xs
blamed_twice h g [] = refl
blamed_twice h g (test b e ∷ xs) = rw (blamed_twice h g xs)
blamed_twice h g (ask q e ∷ xs) = rw (blamed_twice h g xs)

-- ---- places moved ----

-- a place counted from so many bytes earlier
abbrev pub further : ℕ → Faulted → Faulted
further by e = record { cause = e.cause; place = by + e.place }

further_on : (by at k : ℕ) → by + at + k ≡ by + (at + k)
further_on by at k = omega arith

moved_depth : (by depth : ℕ) (xs : List (Step Faulted)) → blamed (at_depth depth) (blamed (further by) xs) ≡ blamed (moved by) (blamed (at_depth depth) xs)
moved_depth by depth xs = blamed_twice (at_depth depth) (further by) xs ∙ sym (blamed_twice (moved by) (at_depth depth) xs)

-- things one behind the other, each of which moves
pub ascending_moves : {A F : Type 0} (site : A → ℕ) (bytes : A → List ℕ) (own : ℕ → ℕ → A → List (Step F)) (by : ℕ) (g : F → F)
    → ((low at : ℕ) (x : A) → own low (by + at) x ≡ blamed g (own low at x))
    → (low at : ℕ) (xs : List A) → ascending site bytes own low (by + at) xs ≡ blamed g (ascending site bytes own low at xs)
ascending_moves site bytes own by g each low at [] = refl
ascending_moves site bytes own by g each low at (x ∷ xs) =
    let rest = ascending_moves site bytes own by g each (site x + 1) (at + length (bytes x)) xs in
    rw (each low at x, further_on by at (length (bytes x)), rest) (sym (blamed_append g (own low at x) (ascending site bytes own (site x + 1) (at + length (bytes x)) xs)))

module _ (f t round : ℕ) (r : Report) (by : ℕ) where
  vote_moves : (low at : ℕ) (x : Vote) → vote_steps f t round r low (by + at) x ≡ blamed (further by) (vote_steps f t round r low at x)
  vote_moves low at x = rw (further_on by at 4)

  pub votes_move : (low at : ℕ) (xs : List Vote) → votes_steps f t round r low (by + at) xs ≡ blamed (further by) (votes_steps f t round r low at xs)
  votes_move low at xs = ascending_moves (λ (x : Vote). x.site) vote_bytes (vote_steps f t round r) by (further by) vote_moves low at xs

  pub certificate_moves : (at : ℕ) (xs : List Vote) → certificate_steps f t round r (by + at) xs ≡ blamed (further by) (certificate_steps f t round r at xs)
  certificate_moves at xs = rw (further_on by at 4, votes_move 0 (at + 4) xs)

pub certified_moves : (f t round by at : ℕ) (o : Option Certified) → certified_steps f t round (by + at) o ≡ blamed (further by) (certified_steps f t round at o)
certified_moves f t round by at None = refl
certified_moves f t round by at (Some c) = certificate_moves f t round c.report by at c.votes

view_moves : (view by at : ℕ) (o : Option Report) → report_view view (by + at) o ≡ blamed (further by) (report_view view at o)
view_moves view by at None = refl
view_moves view by at (Some r) = rw (further_on by at 4)

fix_moves : (by at : ℕ) (o : Option Report) → report_fix (by + at) o ≡ blamed (further by) (report_fix at o)
fix_moves by at None = refl
fix_moves by at (Some r) = rw (further_on by at 8)

pub change_moves : (round view : ℕ) (known : Bool) (by at : ℕ) (c : ViewChange) (tag : List ℕ)
    → change_steps round view known (by + at) c tag ≡ blamed (further by) (change_steps round view known at c tag)
change_moves round view known by at c tag = simp (further_on, view_moves, fix_moves, blamed_append {E = Faulted} {F = Faulted})

behind_moves : (by at : ℕ) (m : Turn) → behind_tag (by + at) m ≡ by + behind_tag at m
behind_moves by at m = omega arith

-- an entry from so many bytes further on
pub entry_moves : (f t round view by low at : ℕ) (m : Turn) → entry_steps f t round view low (by + at) m ≡ blamed (moved by) (entry_steps f t round view low at m)
entry_moves f t round view by low at m =
    let own = change_steps round view (rising (sites f t) low m.head.site) at (change_of m) m.tag in
    let inner = certified_steps f t round (behind_tag at m) m.committed in
    let known = rising (sites f t) low m.head.site in
    let own_moves : blamed (at_depth 1) (change_steps round view known (by + at) (change_of m) m.tag) ≡ blamed (moved by) (blamed (at_depth 1) own) =
    ap (blamed (at_depth 1)) (change_moves round view known by at (change_of m) m.tag) ∙ moved_depth by 1 own in
    let inner_moves : blamed (at_depth 2) (certified_steps f t round (behind_tag (by + at) m) m.committed) ≡ blamed (moved by) (blamed (at_depth 2) inner) =
    ap (λ (k : ℕ). blamed (at_depth 2) (certified_steps f t round k m.committed)) (behind_moves by at m)
    ∙ ap (blamed (at_depth 2)) (certified_moves f t round by (behind_tag at m) m.committed)
    ∙ moved_depth by 2 inner in
    ap₂ ◌++◌ own_moves inner_moves
    ∙ sym (blamed_append (moved by) (blamed (at_depth 1) own) (blamed (at_depth 2) inner))

-- ---- no place past the bytes ----

-- all faults that steps may name
abbrev pub Blames : {F : Type 0} → (F → Type 0) → List (Step F) → Type 0
Blames P [] = Unit {0}
Blames P (test b e ∷ xs) = P e × Blames P xs
Blames P (ask q e ∷ xs) = P e × Blames P xs

pub blames_append : {F : Type 0} (P : F → Type 0) (xs ys : List (Step F)) → Blames P xs → Blames P ys → Blames P (xs ++ ys)
blames_append P [] ys h k = k
blames_append P (test b e ∷ xs) ys h k = (h.0, blames_append P xs ys h.1 k)
blames_append P (ask q e ∷ xs) ys h k = (h.0, blames_append P xs ys h.1 k)

pub blames_blamed : {E F : Type 0} (P : F → Type 0) (g : E → F) (xs : List (Step E)) → Blames (λ (e : E). P (g e)) xs → Blames P (blamed g xs)
blames_blamed P g [] h = tt
blames_blamed P g (test b e ∷ xs) h = (h.0, blames_blamed P g xs h.1)
blames_blamed P g (ask q e ∷ xs) h = (h.0, blames_blamed P g xs h.1)

blamed_cond : {F : Type 0} (P : F → Type 0) (b : Bool) (r : Result (Unit {0}) F) (e x : F) → P e → (r ≡ Err x → P x) → cond b r (Err e) ≡ Err x → P x
blamed_cond P true r e x h k q = k q
blamed_cond P false r e x h k q = let z : e ≡ x = cc in rw (← z) h

-- what is answered is one of them
pub blames_passed : {F : Type 0} (P : F → Type 0) (v : Vouched) (xs : List (Step F)) (x : F) → Blames P xs → passed v xs ≡ Err x → P x
blames_passed P v [] x h q = absurd (let z : ◌≡◌ {A = ℕ} 0 1 = cc in omega arith)
blames_passed P v (test b e ∷ xs) x h q = blamed_cond P b (passed v xs) e x h.0 (λ k. blames_passed P v xs x h.1 k) q
blames_passed P v (ask y e ∷ xs) x h q = blamed_cond P (granted v y) (passed v xs) e x h.0 (λ k. blames_passed P v xs x h.1 k) q

module _ (end : ℕ) where
  -- a place that is not past the end
  abbrev pub Within : Faulted → Type 0
  Within e = e.place ≤ end

  -- a refusal's place, if it has one, is not past the end
  abbrev pub Ends : Refused → Type 0
  Ends e = IfSome (first_of e.values) (λ x. x ≤ end)

  view_within : (view at : ℕ) (o : Option Report) → at + length (report_bytes o) ≤ end → Blames Within (report_view view at o)
  view_within view at None h = tt
  view_within view at (Some r) h = (omega arith, tt)

  fix_within : (at : ℕ) (o : Option Report) → at + length (report_bytes o) ≤ end → Blames Within (report_fix at o)
  fix_within at None h = tt
  fix_within at (Some r) h = (omega arith, tt)

  votes_within : (f t round : ℕ) (r : Report) (low at : ℕ) (xs : List Vote) → at + length (votes_bytes xs) ≤ end → Blames Within (votes_steps f t round r low at xs)
  votes_within f t round r low at [] h = tt
  votes_within f t round r low at (x ∷ xs) h =
      let size = length-append (vote_bytes x) (votes_bytes xs) in
      (omega arith, (omega arith, votes_within f t round r (x.site + 1) (at + length (vote_bytes x)) xs (omega arith)))

  certified_within : (f t round at : ℕ) (o : Option Certified) → at + length (certified_bytes o) ≤ end → Blames Within (certified_steps f t round at o)
  certified_within f t round at None h = tt
  certified_within f t round at (Some c) h = (omega arith, votes_within f t round c.report 0 (at + 4) c.votes (omega arith))

  change_within : (round view : ℕ) (known : Bool) (at : ℕ) (c : ViewChange) (tag : List ℕ) → at + length (statement_bytes (NewView c)) ≤ end → Blames Within (change_steps round view known at c tag)
  change_within round view known at c tag h =
      let second = at + 16 + length (report_bytes c.prepared) in
      let size = length-append (report_bytes c.prepared) (report_bytes c.committed) in
      let first_ends : at + 16 + length (report_bytes c.prepared) ≤ end = omega arith in
      let second_ends : second + length (report_bytes c.committed) ≤ end = omega arith in (
        omega arith,
        (
          omega arith,
          blames_append Within (report_view view (at + 16) c.prepared) _ (view_within view (at + 16) c.prepared first_ends)
              (blames_append Within (report_view view second c.committed) _ (view_within view second c.committed second_ends) (
                omega arith,
                blames_append Within (report_fix (at + 16) c.prepared) _ (fix_within (at + 16) c.prepared first_ends)
                    (blames_append Within (report_fix second c.committed) _ (fix_within second c.committed second_ends) (h, tt)),
              )),
        ),
      )

  entry_ends : (f t round view low at : ℕ) (m : Turn) → at + length (turn_bytes m) ≤ end → Blames Ends (entry_steps f t round view low at m)
  unfolding turn_bytes
  entry_ends f t round view low at m h =
      let own = change_steps round view (rising (sites f t) low m.head.site) at (change_of m) m.tag in
      let inner = certified_steps f t round (behind_tag at m) m.committed in
      let size = length-append (statement_bytes (NewView (change_of m))) (tag_bytes m.tag ++ certified_bytes m.committed) in
      let size' = length-append (tag_bytes m.tag) (certified_bytes m.committed) in
      blames_append Ends (blamed (at_depth 1) own) (blamed (at_depth 2) inner)
      (blames_blamed Ends (at_depth 1) own (change_within round view (rising (sites f t) low m.head.site) at (change_of m) m.tag (omega arith)))
      (blames_blamed Ends (at_depth 2) inner (certified_within f t round (behind_tag at m) m.committed (omega arith)))

-- the place of what is wrong in an entry, if there is one, is not past the entry's bytes
pub entry_place : (v : Vouched) (f t round view low at : ℕ) (m : Turn) (e : Refused) → passed v (entry_steps f t round view low at m) ≡ Err e
    → IfSome (first_of e.values) (λ x. x ≤ at + length (turn_bytes m))
entry_place v f t round view low at m e h =
    let end = at + length (turn_bytes m) in
    blames_passed (Ends end) v (entry_steps f t round view low at m) e (entry_ends end f t round view low at m (omega arith)) h
