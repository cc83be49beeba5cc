-- Lines of a run: what is tested of each call as the run goes, and what that tells.
use Rattle.std.proofs.Common.{◌≡◌, ℕ, ◌<◌, ◌≤◌, Bool, true, false, ◌&&◌, List, [], ◌∷◌, length, map, take, drop, Some, None, Ok, Err, Option, Result, bytes_eq, refl, sym, ap, ◌∙◌, subst, subst₂, inl, inr, arith}
use Rattle.std.specs.Prelude.{◌==◌, is_none}
use Rattle.std.specs.List.{list_all}
use Rattle.std.proofs.lemmas.Bool.{and_parts, eqb-true, eq-eqb, ne_eqb, cases_eq}
use Rattle.std.proofs.lemmas.List.{drop-map}
use Rattle.std.proofs.lemmas.Slice.Eq.{bytes_eq-Decides}
use Rattle.values.specs.Refusals.{Refused}
use Rattle.wire.specs.Contents.{draft_bytes}
use Rattle.agreement.specs.Sites.{SiteSet, size, all_but}
use Rattle.certificates.specs.Steps.{granted}
use Rattle.checks.specs.Vouching.{Vouched}
use Rattle.records.specs.Sizes.{sizes_of, covers}
use Rattle.records.specs.Books.{lent_sizes}
use Rattle.records.specs.Kept.{opening}
use Rattle.calls.specs.Effects.{Effect}
use Rattle.runs.specs.Runs.{Behaviour, Site, World, Event, result, questions, left, next, after}
use Rattle.liveness.specs.Recovery.{At, Accord}
use Rattle.runs.specs.Happens.{opened_by}
use Rattle.liveness.specs.Scripts as scripts
use Rattle.liveness.specs.Scripts.{Outcome, drafts, quiet, refuses, Line, Script, call_of, calls, ComesTo, Played, Undecided}
use Rattle.runs.proofs.Watching.{Look, draft_by, looked_at, looked_unforged, looked_passes, in_words, sites_passed, requests_passed}
use Rattle.runs.proofs.Lists.{each_all}
use Rattle.runs.proofs.Happens.{zeros_so}
use Rattle.liveness.proofs.Moments.{at_comes, at_length}
use Rattle.liveness.proofs.LineTests.{not_so, each_passes, implies, implied, below}

-- ---- tests ----

-- the first of a list passes; b where there is none
abbrev pub first_passes : {A : Type 0} → Bool → List A → (A → Bool) → Bool
first_passes b [] test = b
first_passes b (x ∷ xs) test = test x

-- a call with this result comes to what its line says
abbrev comes_to : Outcome → Event → Result Effect Refused → Bool
comes_to (drafts m) x (Ok y) = bytes_eq (draft_by x (Ok y)) (draft_bytes m)
comes_to quiet x (Ok y) = bytes_eq (draft_by x (Ok y)) []
comes_to (refuses z) x (Err e) = e.number == z.number && bytes_eq e.values z.values
comes_to o x r = false

-- it is lent enough
abbrev room_enough : World → Event → Bool
room_enough w x = let m = (w x.site).member in covers (lent_sizes (w x.site).books (length x.out)) (sizes_of m.f m.t m.limit)

abbrev look_at : World → Event → Result Effect Refused → Line → Bool
look_at w x r l = comes_to l.outcome x r && room_enough w x

-- at call number p, none of these sites has decided
abbrev none_decided : World → ℕ → Bool
none_decided w i = is_none (w i).kept.decision

abbrev undecided : ℕ → SiteSet → ℕ → World → Bool
undecided p who n w = implies (n == p) (each_passes who (none_decided w))

abbrev look : List Line → ℕ → SiteSet → Look
look lines p who n w x r = first_passes false (drop n lines) (look_at w x r) && undecided p who n w

-- of the sites that follow the rules, all calls of these lines pass; and so does what is asked of decisions
abbrev pub Passed : Behaviour → SiteSet → Script → ℕ → SiteSet → Type 0
Passed rules good s p who = looked_at good (look s.lines p who) 0 (opened_by rules) [] (calls s) ≡ true

-- ---- what they tell ----

pub first_is : {A : Type 0} (xs : List A) (test : A → Bool) → first_passes false xs test ≡ true → (x : A) × (rest : List A) × (xs ≡ x ∷ rest) × (test x ≡ true)
first_is [] test h = not_so h
first_is (x ∷ xs) test h = (x, xs, refl, h)

same_refusal : (y z : Refused) → y.number ≡ z.number → y.values ≡ z.values → y ≡ z
same_refusal y z n v = subst₂ (λ a b. y ≡ record { number = a; values = b }) n v refl

comes_so : (w : World) (x : Event) (o : Outcome) (r : Result Effect Refused) → result w x ≡ r → comes_to o x r ≡ true → ComesTo w x o
comes_so w x (drafts m) (Ok y) e h = (y, e, subst (λ r. draft_by x r ≡ draft_bytes m) (sym e) ((bytes_eq-Decides (draft_by x (Ok y)) (draft_bytes m)).0 h))
comes_so w x quiet (Ok y) e h = (y, e, subst (λ r. draft_by x r ≡ []) (sym e) ((bytes_eq-Decides (draft_by x (Ok y)) []).0 h))
comes_so w x (refuses z) (Err y) e h =
    let a = and_parts (y.number == z.number) (bytes_eq y.values z.values) h in
    e ∙ ap Err (same_refusal y z (eqb-true y.number z.number a.0) ((bytes_eq-Decides y.values z.values).0 a.1))
comes_so w x o r e h = not_so h

none_is : {A : Type 0} (o : Option A) → is_none o ≡ true → o ≡ None
none_is None h = refl
none_is (Some x) h = not_so h

-- what each call keeps of its site, calls keep
calls_keep : {A : Type 0} (of : Site → A) → ((w : World) (e : Event) → of (left w e) ≡ of (w e.site)) → (w : World) (es : List Event) (i : ℕ) → of (after w es i) ≡ of (w i)
calls_keep of keeps w [] i = refl
calls_keep of keeps w (e ∷ es) i = calls_keep of keeps (next w e) es i ∙ by_site
  where
    by_site : of (next w e i) ≡ of (w i)
    by_site = elim (cases_eq i e.site) [
      | inl q ↦ rw (eq-eqb i e.site q) (keeps w e ∙ ap (λ (k : ℕ). of (w k)) (sym q))
      | inr ne ↦ rw (ne_eqb i e.site ne) refl
    ]

-- so they keep who a site is, and how it behaves
pub member_kept : (w : World) (es : List Event) (i : ℕ) → (after w es i).member ≡ (w i).member
member_kept = calls_keep (λ z. z.member) (λ w e. refl)

pub behaviour_kept : (w : World) (es : List Event) (i : ℕ) → (after w es i).behaviour ≡ (w i).behaviour
behaviour_kept = calls_keep (λ z. z.behaviour) (λ w e. refl)

-- ---- calls by their numbers ----

module _ (s : Script) where
  -- call number p is that of a line
  pub line_of : (p : ℕ) (x : Event) → At (calls s) p x → (l : Line) × (rest : List Line) × (drop p s.lines ≡ l ∷ rest) × (x ≡ call_of s l)
  line_of p x a = among (drop p s.lines) refl (sym (drop-map (call_of s) p s.lines) ∙ a.1)
    where
      among : (ls : List Line) → drop p s.lines ≡ ls → map (call_of s) ls ≡ x ∷ a.0 → (l : Line) × (rest : List Line) × (drop p s.lines ≡ l ∷ rest) × (x ≡ call_of s l)
      among [] e h = absurd (let z : ◌≡◌ {A = ℕ} 0 1 = cc in omega arith)
      among (l ∷ ls) e h = (l, ls, e, let z : call_of s l ≡ x = cc in sym z)

  pub call_at : (p : ℕ) (l : Line) (rest : List Line) → drop p s.lines ≡ l ∷ rest → At (calls s) p (call_of s l)
  call_at p l rest e = (map (call_of s) rest, drop-map (call_of s) p s.lines ∙ ap (map (call_of s)) e)

  -- one register checks all
  in_accord : (rules : Behaviour) → Accord (opened_by rules) (calls s)
  in_accord rules p q x later a b less =
      let c = line_of p x a in
      let d = line_of q later b in
      let same : later.check ≡ x.check = ap (λ (z : Event). z.check) d.3 ∙ sym (ap (λ (z : Event). z.check) c.3) in
      each_all (λ k. granted x.check k ≡ true → granted later.check k ≡ true) (λ k h. subst (λ (v : Vouched). granted v k ≡ true) (sym same) h)
      (questions (after (opened_by rules) (take p (calls s))) x)

  module _ (rules : Behaviour) (good : SiteSet) (when : ℕ) (who : SiteSet) (passed : Passed rules good s when who) where
    abbrev there : ℕ → World
    there p = scripts.before rules s p

    -- call number p passes, and is that of its line
    pub passes : (p : ℕ) (l : Line) (rest : List Line) → drop p s.lines ≡ l ∷ rest
        → ComesTo (there p) (call_of s l) l.outcome × (room_enough (there p) (call_of s l) ≡ true) × (undecided when who p (there p) ≡ true)
    passes p l rest e =
        let es = calls s in
        let x = call_of s l in
        let a = call_at p l rest e in
        let r = result (there p) x in
        let h = looked_passes good (look s.lines when who) (opened_by rules) es passed (take p es) x (at_comes es p x a) p (sym (at_length es p x a)) in
        let b = and_parts (first_passes false (drop p s.lines) (look_at (there p) x r)) (undecided when who p (there p)) h in
        let k : look_at (there p) x r l ≡ true = subst (λ ls. first_passes false ls (look_at (there p) x r) ≡ true) e b.0 in
        let c = and_parts (comes_to l.outcome x r) (room_enough (there p) x) k in
        (comes_so (there p) x l.outcome r refl c.0, c.1, b.1)

    -- then none of these sites has decided
    pub undecided_there : (l : Line) (rest : List Line) → drop when s.lines ≡ l ∷ rest → (i : ℕ) → i < 4 → who i ≡ true → (there when i).kept.decision ≡ None
    undecided_there l rest e i low h =
        let all = implied (when == when) (each_passes who (none_decided (there when))) (passes when l rest e).2 (eq-eqb when when refl) in
        let one = implied (who i) (none_decided (there when) i) (below 4 (λ j. implies (who j) (none_decided (there when) j)) all i low) h in
        none_is (there when i).kept.decision one

    pub played : size (all_but good) 4 ≤ 1 → ((i : ℕ) → good i ≡ true → opening 1 0 i 4 9 ≡ Ok ((opened_by rules i).member, (opened_by rules i).kept))
        → list_all (λ (x : Event). good x.site) (calls s) ≡ true → list_all (λ (x : Event). in_words x.request) (calls s) ≡ true → Played rules s good
    played few opened theirs words =
        record {
          run = record {
            few = few;
            round_is = omega arith;
            behave = λ i g. refl;
            opened = opened;
            books = λ i h. zeros_so;
            theirs = sites_passed good (calls s) theirs;
            of_words = requests_passed (calls s) words;
            unforged = looked_unforged good (look s.lines when who) (opened_by rules) (calls s) passed;
          };
          accord = in_accord rules;
          comes = λ p x rest e. (passes p x rest e).0;
        }
