-- A run is watched as it goes: a test of its calls that computes, and that tells that nothing in it is forged.
use Rattle.std.proofs.Common.{◌≡◌, ℕ, zero, suc, ◌+◌, ◌^◌, ◌⊎◌, Bool, true, false, not, ◌&&◌, ◌||◌, List, [], ◌∷◌, ◌++◌, length, take, drop, Ok, Err, Result, is_ok, bytes_eq, eqb-true, subst, refl, sym, ap, ◌∙◌, inl, inr, arith}
use Rattle.std.specs.Prelude.{cond, nat_lt, ◌==◌}
use Rattle.std.specs.List.{list_all}
use Rattle.std.proofs.lemmas.Bool.{and_parts, or_cases, ltb-true}
use Rattle.std.proofs.lemmas.List.{take-append-drop}
use Rattle.std.proofs.lemmas.Slice.Eq.{bytes_eq-Decides}
use Rattle.buffers.specs.Words.{Bytes}
use Rattle.values.specs.Refusals.{Refused}
use Rattle.wire.specs.Contents.{statement_bytes}
use Rattle.checks.specs.Vouching.{Vouched}
use Rattle.agreement.specs.Sites.{SiteSet}
use Rattle.agreement.specs.Statements.{Each}
use Rattle.agreement.proofs.Agree.{each_map}
use Rattle.certificates.specs.Steps.{Question, granted}
use Rattle.calls.specs.Effects.{Effect}
use Rattle.calls.specs.Calls.{Request, to_propose, to_hear, to_leave, to_seal, to_judge, to_read, kept_after, books_after, out_after, answer_of}
use Rattle.runs.specs.Runs.{Site, World, Event, draft_length, result, questions, draft_left, next, after, Comes, HasDrafted, NothingForged, OfWords}
use Rattle.runs.proofs.Lists.{comes_nowhere}

-- ---- tests ----

-- a draft that was made, and by whom
abbrev Made : Type 0
Made = ℕ × List ℕ

-- the draft begins with these bytes
abbrev pub begins : List ℕ → List ℕ → Bool
begins said draft = bytes_eq (take (length said) draft) said

-- among these drafts is one of this site that begins with these bytes
abbrev among : List Made → ℕ → List ℕ → Bool
among [] i said = false
among (x ∷ xs) i said = (x.0 == i && begins said x.1) || among xs i said

-- if this question is about a rule-following site and is answered yes, then the site has drafted what it is asked about
abbrev backed : SiteSet → Vouched → List Made → Question → Bool
backed good v made q = not (granted v q && good q.site) || among made q.site (statement_bytes q.said)

-- what a call leaves of its site, and the sites with that one, and its draft, by the call's result
abbrev site_left : Site → Result Effect Refused → Site
site_left s r = record { behaviour = s.behaviour; member = s.member; kept = kept_after s.kept r; books = books_after s.books r }

abbrev with_site : World → ℕ → Site → World
with_site w i s j = cond (j == i) s (w j)

abbrev pub draft_by : Event → Result Effect Refused → List ℕ
draft_by e r = take (draft_length e.request (answer_of r)) (out_after e.out r)

-- what a call is looked at for: by its number, the sites before it, and its result
abbrev pub Look : Type 0
Look = ℕ → World → Event → Result Effect Refused → Bool

-- a call that passes, and what is asked of the calls behind it
abbrev going_on : Look → ℕ → World → List Made → Event → Result Effect Refused → (World → List Made → Bool) → Bool
going_on look n w made e r rest = look n w e r && rest (with_site w e.site (site_left (w e.site) r)) ((e.site, draft_by e r) ∷ made)

-- the sites behind these calls, with what each call leaves worked out once: `after` works it out at each look at a site
abbrev pub worked_out : World → List Event → World
worked_out w [] = w
worked_out w (e ∷ es) = worked_out (with_site w e.site (site_left (w e.site) (result w e))) es

-- all of these calls pass, counted from n, and none is told yes about a statement of a rule-following site that this site has not
-- drafted
abbrev pub looked_at : SiteSet → Look → ℕ → World → List Made → List Event → Bool
looked_at good look n w made [] = true
looked_at good look n w made (e ∷ es) =
    list_all (backed good e.check made) (questions w e) && going_on look n w made e (result w e) (λ v more. looked_at good look (suc n) v more es)

-- none of them is refused
abbrev pub accepted : Look
accepted n w e r = is_ok r

abbrev pub watched : SiteSet → World → List Made → List Event → Bool
watched good w made es = looked_at good accepted 0 w made es

-- each is below 256
abbrev all_bytes : List ℕ → Bool
all_bytes b = list_all (λ x. nat_lt x 256) b

-- what is handed in is of words and bytes
abbrev pub in_words : Request → Bool
in_words (to_propose d) = nat_lt d.first (2 ^ 32) && (nat_lt d.second (2 ^ 32) && nat_lt d.third (2 ^ 32))
in_words (to_hear packet) = all_bytes packet
in_words (to_leave view) = nat_lt view (2 ^ 32)
in_words (to_seal written tag) = all_bytes written && all_bytes tag
in_words (to_judge view certificate) = nat_lt view (2 ^ 32) && all_bytes certificate
in_words to_read = true

-- ---- what they tell ----

-- where each element passes a test, each has what the test tells
each_passed : {A : Type 0} (p : A → Bool) (P : A → Type 0) → ((x : A) → p x ≡ true → P x) → (xs : List A) → list_all p xs ≡ true → Each P xs
each_passed p P tells [] h = tt
each_passed p P tells (x ∷ xs) h = let a = and_parts (p x) (list_all p xs) h in (tells x a.0, each_passed p P tells xs a.1)

pub bytes_passed : (b : List ℕ) → all_bytes b ≡ true → Bytes b
bytes_passed [] h i = omega arith
bytes_passed (x ∷ b) h zero = ltb-true x 256 (and_parts (nat_lt x 256) (all_bytes b) h).0
bytes_passed (x ∷ b) h (suc i) = bytes_passed b (and_parts (nat_lt x 256) (all_bytes b) h).1 i

words_passed : (r : Request) → in_words r ≡ true → OfWords r
words_passed (to_propose d) h =
    let a = and_parts (nat_lt d.first (2 ^ 32)) (nat_lt d.second (2 ^ 32) && nat_lt d.third (2 ^ 32)) h in
    let b = and_parts (nat_lt d.second (2 ^ 32)) (nat_lt d.third (2 ^ 32)) a.1 in
    record { first = ltb-true d.first (2 ^ 32) a.0; second = ltb-true d.second (2 ^ 32) b.0; third = ltb-true d.third (2 ^ 32) b.1 }
words_passed (to_hear packet) h = bytes_passed packet h
words_passed (to_leave view) h = ltb-true view (2 ^ 32) h
words_passed (to_seal written tag) h = let a = and_parts (all_bytes written) (all_bytes tag) h in (bytes_passed written a.0, bytes_passed tag a.1)
words_passed (to_judge view certificate) h = let a = and_parts (nat_lt view (2 ^ 32)) (all_bytes certificate) h in (ltb-true view (2 ^ 32) a.0, bytes_passed certificate a.1)
words_passed to_read h = tt

-- calls of rule-following sites, and what is handed in, by these tests
pub sites_passed : (good : SiteSet) (es : List Event) → list_all (λ (e : Event). good e.site) es ≡ true → Each (λ (e : Event). good e.site ≡ true) es
sites_passed good es h = each_passed (λ (e : Event). good e.site) (λ (e : Event). good e.site ≡ true) (λ e p. p) es h

pub requests_passed : (es : List Event) → list_all (λ (e : Event). in_words e.request) es ≡ true → Each (λ (e : Event). OfWords e.request) es
requests_passed es h = each_passed (λ (e : Event). in_words e.request) (λ (e : Event). OfWords e.request) (λ e p. words_passed e.request p) es h

-- the sites are the same
pub worked_out_after : (w : World) (es : List Event) → worked_out w es ≡ after w es
worked_out_after w [] = refl
worked_out_after w (e ∷ es) = worked_out_after (next w e) es

pub begins_with : (said draft : List ℕ) → begins said draft ≡ true → (attached : List ℕ) × (draft ≡ said ++ attached)
begins_with said draft h =
    let e : take (length said) draft ≡ said = (bytes_eq-Decides (take (length said) draft) said).0 h in
    (drop (length said) draft, sym (take-append-drop (length said) draft) ∙ ap (λ (z : List ℕ). z ++ drop (length said) draft) e)

-- a question that is answered yes is about what is among the drafts made
backed_among : (a g m : Bool) → (not (a && g) || m) ≡ true → a ≡ true → g ≡ true → m ≡ true
backed_among a g m h ha hg = rw (ha, hg) at h

-- ---- calls behind a first one ----

comes_first : (e x : Event) (es : List Event) → Comes (e ∷ es) [] x → e ≡ x
comes_first e x es c = let h = c.1 in cc

comes_later : (e p x : Event) (es past : List Event) → Comes (e ∷ es) (p ∷ past) x → (e ≡ p) × Comes es past x
comes_later e p x es past c = let h = c.1 in (cc, (c.0, cc))

-- ---- what is told in a call that is watched ----

-- the site has made such a draft, or drafts it in these calls
abbrev Backed : List Made → World → List Event → ℕ → List ℕ → Type 0
Backed made w past i said = (among made i said ≡ true) ⊎ HasDrafted w past i said

-- what a call drafts, it has drafted for the calls behind it
one_more : (w : World) (made : List Made) (p : Event) (past : List Event) (i : ℕ) (said : List ℕ) → Backed ((p.site, draft_left w p) ∷ made) (next w p) past i said → Backed made w (p ∷ past) i said
one_more w made p past i said (inr d) = inr (p ∷ d.0, d.1, (d.2.0, ap (λ (z : List Event). p ∷ z) d.2.1), d.3, d.4)
one_more w made p past i said (inl h) = elim (or_cases (p.site == i && begins said (draft_left w p)) (among made i said) h) [
  | inl a ↦ let b = and_parts (p.site == i) (begins said (draft_left w p)) a in inr ([], p, (past, refl), eqb-true p.site i b.0, begins_with said (draft_left w p) b.1)
  | inr b ↦ inl b
]

none_made : (w : World) (past : List Event) (i : ℕ) (said : List ℕ) → Backed [] w past i said → HasDrafted w past i said
none_made w past i said (inl h) = absurd (let z : ◌≡◌ {A = ℕ} 0 1 = cc in omega arith)
none_made w past i said (inr d) = d

ok_is : {A E : Type 0} (r : Result A E) → is_ok r ≡ true → (x : A) × (r ≡ Ok x)
ok_is (Ok x) h = (x, refl)
ok_is (Err e) h = absurd (let z : ◌≡◌ {A = ℕ} 0 1 = cc in omega arith)

-- whatever a call behind `past` is told yes about is backed
abbrev BackedThere : SiteSet → List Made → World → List Event → Event → Type 0
BackedThere good made w past x = Each (λ q. granted x.check q ≡ true → good q.site ≡ true → Backed made w past q.site (statement_bytes q.said)) (questions (after w past) x)

module _ (good : SiteSet) where
  first_told : (w : World) (made : List Made) (x : Event) → list_all (backed good x.check made) (questions w x) ≡ true → BackedThere good made w [] x
  first_told w made x h =
      each_passed (backed good x.check made) (λ q. granted x.check q ≡ true → good q.site ≡ true → Backed made w [] q.site (statement_bytes q.said))
      (λ q k a b. inl (backed_among (granted x.check q) (good q.site) (among made q.site (statement_bytes q.said)) k a b)) (questions w x) h

  later_told : (w : World) (made : List Made) (p : Event) (past : List Event) (x : Event) → BackedThere good ((p.site, draft_left w p) ∷ made) (next w p) past x → BackedThere good made w (p ∷ past) x
  later_told w made p past x t =
      each_map (λ q. granted x.check q ≡ true → good q.site ≡ true → Backed ((p.site, draft_left w p) ∷ made) (next w p) past q.site (statement_bytes q.said))
      (λ q. granted x.check q ≡ true → good q.site ≡ true → Backed made w (p ∷ past) q.site (statement_bytes q.said))
      (questions (after (next w p) past) x) (λ q k a b. one_more w made p past q.site (statement_bytes q.said) (k a b)) t

  module _ (look : Look) where
    -- what the test tells of a call, and of the calls behind it
    looked_parts : (n : ℕ) (w : World) (made : List Made) (e : Event) (es : List Event) → looked_at good look n w made (e ∷ es) ≡ true
        → (list_all (backed good e.check made) (questions w e) ≡ true) × (look n w e (result w e) ≡ true) × (looked_at good look (suc n) (next w e) ((e.site, draft_left w e) ∷ made) es ≡ true)
    looked_parts n w made e es h =
        let a = and_parts (list_all (backed good e.check made) (questions w e)) (look n w e (result w e) && looked_at good look (suc n) (next w e) ((e.site, draft_left w e) ∷ made) es) h in
        let b = and_parts (look n w e (result w e)) (looked_at good look (suc n) (next w e) ((e.site, draft_left w e) ∷ made) es) a.1 in
        (a.0, b.0, b.1)

    -- call number k passes
    abbrev Passes : ℕ → World → List Event → Event → Type 0
    Passes k w past x = look k (after w past) x (result (after w past) x) ≡ true

    tells : (n : ℕ) (w : World) (made : List Made) (es : List Event) → looked_at good look n w made es ≡ true → (past : List Event) (x : Event) → Comes es past x
        → (k : ℕ) → k ≡ n + length past → BackedThere good made w past x × Passes k w past x
    tells n w made [] h past x c k at = absurd (comes_nowhere past x c)
    tells n w made (e ∷ es) h [] x c k at =
        let p = looked_parts n w made e es h in
        let first : n ≡ k = omega (arith, at) in
        subst (λ y. BackedThere good made w [] y × Passes k w [] y) (comes_first e x es c) (first_told w made e p.0, subst (λ m. look m w e (result w e) ≡ true) first p.1)
    tells n w made (e ∷ es) h (p ∷ past) x c k at =
        let l = comes_later e p x es past c in
        let t = tells (suc n) (next w e) ((e.site, draft_left w e) ∷ made) es (looked_parts n w made e es h).2 past x l.1 k (omega (arith, at)) in
        subst (λ y. BackedThere good made w (y ∷ past) x × Passes k w (y ∷ past) x) l.0 (later_told w made e past x t.0, t.1)

    -- calls that pass the test are told of nothing forged
    pub looked_unforged : (w : World) (es : List Event) → looked_at good look 0 w [] es ≡ true → NothingForged good w es
    looked_unforged w es h past x c =
        each_map (λ q. granted x.check q ≡ true → good q.site ≡ true → Backed [] w past q.site (statement_bytes q.said))
        (λ q. granted x.check q ≡ true → good q.site ≡ true → HasDrafted w past q.site (statement_bytes q.said))
        (questions (after w past) x) (λ q k a b. none_made w past q.site (statement_bytes q.said) (k a b)) (tells 0 w [] es h past x c (length past) (omega arith)).0

    pub looked_passes : (w : World) (es : List Event) → looked_at good look 0 w [] es ≡ true → (past : List Event) (x : Event) → Comes es past x
        → (k : ℕ) → k ≡ length past → look k (after w past) x (result (after w past) x) ≡ true
    looked_passes w es h past x c k at = (tells 0 w [] es h past x c k (omega (arith, at))).1

  -- and here none is refused
  pub watched_unforged : (w : World) (es : List Event) → watched good w [] es ≡ true → NothingForged good w es
  watched_unforged w es h = looked_unforged accepted w es h

  pub watched_accepts : (w : World) (es : List Event) → watched good w [] es ≡ true → (past : List Event) (x : Event) → Comes es past x → (left : Effect) × (result (after w past) x ≡ Ok left)
  watched_accepts w es h past x c = ok_is (result (after w past) x) (looked_passes accepted w es h past x c (length past) refl)
