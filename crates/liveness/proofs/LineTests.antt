-- Tests of lines, and what they tell.
use Rattle.std.proofs.Common.{◌≡◌, ℕ, zero, suc, ◌^◌, ◌<◌, Bool, true, false, not, ◌&&◌, ◌||◌, List, [], ◌∷◌, drop, Some, None, Option, bytes_eq, refl, sym, ap, subst, inl, inr, arith}
use Rattle.std.specs.Prelude.{◌==◌, nat_lt}
use Rattle.std.specs.List.{list_all}
use Rattle.std.proofs.lemmas.Bool.{and_parts, or_cases, eqb-true, eqb-false, ltb-true}
use Rattle.std.proofs.lemmas.Slice.Eq.{bytes_eq-Decides}
use Rattle.values.specs.declared.fix.Value.{Value}
use Rattle.values.specs.declared.fix.Report.{Report}
use Rattle.values.specs.Fixes.{legal_value}
use Rattle.wire.specs.declared.statement.Head.{Head}
use Rattle.wire.specs.declared.statement.Claim.{Claim}
use Rattle.wire.specs.declared.statement.Statement.{Statement}
use Rattle.wire.specs.declared.statement.Statement.TheVariants.{Propose, Prepare, Commit, NewView}
use Rattle.wire.specs.Contents.{Content, statement_of}
use Rattle.packets.specs.Fits.{ValueFits, HeadFits, ReportFits, ClaimFits, StatementFits}
use Rattle.agreement.specs.Sites.{SiteSet}
use Rattle.agreement.specs.Statements.{Each}
use Rattle.calls.specs.Calls.{Request, to_propose, to_hear, to_leave}
use Rattle.liveness.specs.Scripts.{Outcome, drafts, quiet, refuses, Line}

pub not_so : {P : Type 0} → false ≡ true → P
not_so h = absurd (let z : ◌≡◌ {A = ℕ} 0 1 = cc in omega arith)

-- ---- numbers that are words ----

abbrev word_fits : ℕ → Bool
word_fits n = nat_lt n (2 ^ 32)

abbrev value_fits : Value → Bool
value_fits v = word_fits v.first && (word_fits v.second && word_fits v.third)

abbrev head_fits : Head → Bool
head_fits h = word_fits h.round && (word_fits h.view && word_fits h.site)

abbrev report_fits : Option Report → Bool
report_fits None = true
report_fits (Some r) = word_fits r.view && value_fits r.value

abbrev claim_fits : Claim → Bool
claim_fits c = head_fits c.head && value_fits c.value

abbrev pub statement_fits : Statement → Bool
statement_fits (Propose c) = claim_fits c
statement_fits (Prepare c) = claim_fits c
statement_fits (Commit c) = claim_fits c
statement_fits (NewView c) = head_fits c.head && (report_fits c.prepared && report_fits c.committed)

-- tests, and what each tells
both_tell : {A B : Type 0} (a b : Bool) → (a ≡ true → A) → (b ≡ true → B) → (a && b) ≡ true → A × B
both_tell a b f g h = let p = and_parts a b h in (f p.0, g p.1)

three_tell : {A B C : Type 0} (a b c : Bool) → (a ≡ true → A) → (b ≡ true → B) → (c ≡ true → C) → (a && (b && c)) ≡ true → A × B × C
three_tell a b c f g k h = let p = and_parts a (b && c) h in let q = and_parts b c p.1 in (f p.0, g q.0, k q.1)

word_so : (n : ℕ) → word_fits n ≡ true → n < 2 ^ 32
word_so n h = ltb-true n (2 ^ 32) h

value_so : (v : Value) → value_fits v ≡ true → ValueFits v
value_so v h =
    let p = three_tell (word_fits v.first) (word_fits v.second) (word_fits v.third) (word_so v.first) (word_so v.second) (word_so v.third) h in
    record { first = p.0; second = p.1; third = p.2 }

head_so : (k : Head) → head_fits k ≡ true → HeadFits k
head_so k h =
    let p = three_tell (word_fits k.round) (word_fits k.view) (word_fits k.site) (word_so k.round) (word_so k.view) (word_so k.site) h in
    record { round = p.0; view = p.1; site = p.2 }

report_so : (o : Option Report) → report_fits o ≡ true → ReportFits o
report_so None h = tt
report_so (Some r) h = both_tell (word_fits r.view) (value_fits r.value) (word_so r.view) (value_so r.value) h

claim_so : (c : Claim) → claim_fits c ≡ true → ClaimFits c
claim_so c h = both_tell (head_fits c.head) (value_fits c.value) (head_so c.head) (value_so c.value) h

pub statement_so : (s : Statement) → statement_fits s ≡ true → StatementFits s
statement_so (Propose c) h = claim_so c h
statement_so (Prepare c) h = claim_so c h
statement_so (Commit c) h = claim_so c h
statement_so (NewView c) h =
    three_tell (head_fits c.head) (report_fits c.prepared) (report_fits c.committed) (head_so c.head) (report_so c.prepared) (report_so c.committed) h

-- ---- many tests ----

abbrev pub all_true : List Bool → Bool
all_true tests = list_all (λ b. b) tests

pub each_true : (tests : List Bool) → all_true tests ≡ true → Each (λ b. b ≡ true) tests
each_true [] h = tt
each_true (b ∷ bs) h = let p = and_parts b (all_true bs) h in (p.0, each_true bs p.1)

abbrev pub all_below : ℕ → (ℕ → Bool) → Bool
all_below zero test = true
all_below (suc n) test = test n && all_below n test

abbrev pub some_below : ℕ → (ℕ → Bool) → Bool
some_below zero test = false
some_below (suc n) test = test n || some_below n test

pub below : (n : ℕ) (test : ℕ → Bool) → all_below n test ≡ true → (p : ℕ) → p < n → test p ≡ true
below zero test h p less = absurd (omega (arith, less))
below (suc n) test h p less = let parts = and_parts (test n) (all_below n test) h in by_last (p == n) refl parts.0 (λ under. below n test parts.1 p under)
  where
    by_last : (b : Bool) → (p == n) ≡ b → test n ≡ true → (p < n → test p ≡ true) → test p ≡ true
    by_last true e last lower = subst (λ k. test k ≡ true) (sym (eqb-true p n e)) last
    by_last false e last lower = lower (let other = eqb-false p n e in omega (arith, less, other))

pub one_below : (n : ℕ) (test : ℕ → Bool) → some_below n test ≡ true → (p : ℕ) × (p < n) × (test p ≡ true)
one_below zero test h = absurd (let z : ◌≡◌ {A = ℕ} 0 1 = cc in omega arith)
one_below (suc n) test h = elim (or_cases (test n) (some_below n test) h) [
  | inl a ↦ (n, omega arith, a)
  | inr b ↦ let r = one_below n test b in (r.0, (let less = r.1 in omega (arith, less)), r.2)
]

pub passes_dropped : {A : Type 0} (test : A → Bool) (xs : List A) (p : ℕ) (x : A) (rest : List A) → list_all test xs ≡ true → drop p xs ≡ x ∷ rest → test x ≡ true
passes_dropped test [] zero x rest h e = not_so (let z : false ≡ true = cc in z)
passes_dropped test [] (suc p) x rest h e = not_so (let z : false ≡ true = cc in z)
passes_dropped test (y ∷ ys) zero x rest h e = subst (λ z. test z ≡ true) (let z : y ≡ x = cc in z) (and_parts (test y) (list_all test ys) h).0
passes_dropped test (y ∷ ys) (suc p) x rest h e = passes_dropped test ys p x rest (and_parts (test y) (list_all test ys) h).1 e

-- where the one test is passed, the other is
abbrev pub implies : Bool → Bool → Bool
implies a b = not a || b

pub implied : (a b : Bool) → implies a b ≡ true → a ≡ true → b ≡ true
implied a b h e = rw e at h

-- each of the four sites that is in the set passes
abbrev pub each_passes : SiteSet → (ℕ → Bool) → Bool
each_passes good test = all_below 4 (λ i. implies (good i) (test i))

pub passed_by : (good : SiteSet) → ((i : ℕ) → good i ≡ true → i < 4) → (test : ℕ → Bool) → each_passes good test ≡ true → (i : ℕ) → good i ≡ true → test i ≡ true
passed_by good inside test h i k = implied (good i) (test i) (below 4 (λ j. implies (good j) (test j)) h i (inside i k)) k

-- ---- tests of lines ----

abbrev pub of_draft : Bool → Outcome → (Content → Bool) → Bool
of_draft b (drafts m) test = test m
of_draft b quiet test = b
of_draft b (refuses r) test = b

-- what is drafted has words for numbers
abbrev pub line_fits : Line → Bool
line_fits l = of_draft true l.outcome (λ m. statement_fits (statement_of m))

-- a hear of this packet; a leave for this view, and for any; a propose that is handed a legal fix
abbrev pub is_hear : List ℕ → Request → Bool
is_hear b (to_hear packet) = bytes_eq packet b
is_hear b r = false

abbrev pub leaves_for : ℕ → Request → Bool
leaves_for v (to_leave view) = view == v
leaves_for v r = false

abbrev pub leaves_any : Request → Bool
leaves_any (to_leave view) = true
leaves_any r = false

abbrev pub proposes_legal : Request → Bool
proposes_legal (to_propose x) = legal_value x
proposes_legal r = false

pub is_hear_so : (b : List ℕ) (r : Request) → is_hear b r ≡ true → r ≡ to_hear b
is_hear_so b (to_hear packet) h = ap to_hear ((bytes_eq-Decides packet b).0 h)
is_hear_so b r h = not_so h

pub leaves_for_so : (v : ℕ) (r : Request) → leaves_for v r ≡ true → r ≡ to_leave v
leaves_for_so v (to_leave view) h = ap to_leave (eqb-true view v h)
leaves_for_so v r h = not_so h

pub proposes_legal_so : (r : Request) → proposes_legal r ≡ true → (x : Value) × (legal_value x ≡ true) × (r ≡ to_propose x)
proposes_legal_so (to_propose x) h = (x, h, refl)
proposes_legal_so r h = not_so h
