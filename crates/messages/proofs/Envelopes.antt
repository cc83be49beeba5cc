-- An envelope read with its attachment, beside one that keeps only the place behind it.
use Rattle.std.proofs.Common.{◌≡◌, ℕ, Bool, true, false, cond, eqb, List, length, Ok, Err, Result, refl, ap}
use Rattle.std.proofs.lemmas.Bool.{eqb-true}
use Rattle.wire.specs.declared.words.Malformed.{Malformed}
use Rattle.wire.specs.Words.{bind, fault, word_at}
use Rattle.wire.specs.Layout.{kind_at, envelope_at, wholly}
use Rattle.wire.specs.Places.{behind}
use Rattle.messages.specs.Parts.{ended, map_ok}

-- an envelope from its tag on, from its statement on, and from its kind on
module _ {S T A M : Type 0} (st : ℕ → Result (S × ℕ) Malformed) (tag : ℕ → Result (T × ℕ) Malformed) (att : S → ℕ → Result (A × ℕ) Malformed) (make : S × ℕ → T × ℕ → A × ℕ → M) where
  abbrev from-tag : S × ℕ → T × ℕ → Result (M × ℕ) Malformed
  from-tag s t = bind (att s.0 t.1) (λ a. Ok (make s t a, a.1))

  abbrev from-statement : S × ℕ → Result (M × ℕ) Malformed
  from-statement s = bind (tag s.1) (from-tag s)

  abbrev from-kind : ℕ → Result (M × ℕ) Malformed
  from-kind k = bind (st k) from-statement

-- what make puts together may be put on
module _ {S T A M N : Type 0} (b : List ℕ) (kind : ℕ) (st : ℕ → Result (S × ℕ) Malformed) (tag : ℕ → Result (T × ℕ) Malformed) (att : S → ℕ → Result (A × ℕ) Malformed)
    (make : S × ℕ → T × ℕ → A × ℕ → M) (f : M → N) where
  abbrev on : M × ℕ → Result (N × ℕ) Malformed
  on p = Ok (f p.0, p.1)

  abbrev make-on : S × ℕ → T × ℕ → A × ℕ → N
  make-on s t a = f (make s t a)

  on_tag : (s : S × ℕ) (t : T × ℕ) (r : Result (A × ℕ) Malformed) → bind (bind r (λ a. Ok (make s t a, a.1))) on ≡ bind r (λ a. Ok (make-on s t a, a.1))
  on_tag s t (Ok a) = refl
  on_tag s t (Err e) = refl

  on_statement : (s : S × ℕ) (r : Result (T × ℕ) Malformed) → bind (bind r (from-tag st tag att make s)) on ≡ bind r (from-tag st tag att make-on s)
  on_statement s (Ok t) = on_tag s t (att s.0 t.1)
  on_statement s (Err e) = refl

  on_kind : (r : Result (S × ℕ) Malformed) → bind (bind r (from-statement st tag att make)) on ≡ bind r (from-statement st tag att make-on)
  on_kind (Ok s) = on_statement s (tag s.1)
  on_kind (Err e) = refl

  on_all : (r : Result ℕ Malformed) → bind (bind r (from-kind st tag att make)) on ≡ bind r (from-kind st tag att make-on)
  on_all (Ok k) = on_kind (st k)
  on_all (Err e) = refl

  pub envelope_on : (at : ℕ) → bind (envelope_at kind st tag att make b at) on ≡ envelope_at kind st tag att make-on b at
  envelope_on at = on_all (kind_at kind b at)

-- the two end at the same place
module _ {S T A M N : Type 0} (b : List ℕ) (kind : ℕ) (st : ℕ → Result (S × ℕ) Malformed) (tag : ℕ → Result (T × ℕ) Malformed) (att : S → ℕ → Result (A × ℕ) Malformed)
    (make : S × ℕ → T × ℕ → A × ℕ → M) (make' : S × ℕ → T × ℕ → Unit {0} × ℕ → N) where
  abbrev end_of : S → ℕ → Result (Unit {0} × ℕ) Malformed
  end_of s k = ended (behind (att s k))

  ends_tag : (s : S × ℕ) (t : T × ℕ) (r : Result (A × ℕ) Malformed) → behind (bind (ended (behind r)) (λ a. Ok (make' s t a, a.1))) ≡ behind (bind r (λ a. Ok (make s t a, a.1)))
  ends_tag s t (Ok a) = refl
  ends_tag s t (Err e) = refl

  ends_statement : (s : S × ℕ) (r : Result (T × ℕ) Malformed) → behind (bind r (from-tag st tag end_of make' s)) ≡ behind (bind r (from-tag st tag att make s))
  ends_statement s (Ok t) = ends_tag s t (att s.0 t.1)
  ends_statement s (Err e) = refl

  ends_kind : (r : Result (S × ℕ) Malformed) → behind (bind r (from-statement st tag end_of make')) ≡ behind (bind r (from-statement st tag att make))
  ends_kind (Ok s) = ends_statement s (tag s.1)
  ends_kind (Err e) = refl

  ends_all : (r : Result ℕ Malformed) → behind (bind r (from-kind st tag end_of make')) ≡ behind (bind r (from-kind st tag att make))
  ends_all (Ok k) = ends_kind (st k)
  ends_all (Err e) = refl

  pub envelope_behind : (at : ℕ) → behind (envelope_at kind st tag end_of make' b at) ≡ behind (envelope_at kind st tag att make b at)
  envelope_behind at = ends_all (kind_at kind b at)

-- read whole, they hold the same, if f and g see the same in what was read
module _ {S T A M N P : Type 0} (b : List ℕ) (kind : ℕ) (st : ℕ → Result (S × ℕ) Malformed) (tag : ℕ → Result (T × ℕ) Malformed) (att : S → ℕ → Result (A × ℕ) Malformed)
    (make : S × ℕ → T × ℕ → A × ℕ → M) (make' : S × ℕ → T × ℕ → Unit {0} × ℕ → N) (f : M → P) (g : N → P)
    (same : (s : S × ℕ) (t : T × ℕ) (a : A × ℕ) → st 4 ≡ Ok s → tag s.1 ≡ Ok t → att s.0 t.1 ≡ Ok a → a.1 ≡ length b → f (make s t a) ≡ g (make' s t (tt, a.1))) where
  abbrev last_of : S → ℕ → Result (Unit {0} × ℕ) Malformed
  last_of s k = ended (behind (att s k))

  same_end : (s : S × ℕ) (t : T × ℕ) (a : A × ℕ) (x : Bool) → st 4 ≡ Ok s → tag s.1 ≡ Ok t → att s.0 t.1 ≡ Ok a → eqb a.1 (length b) ≡ x
      → map_ok f (cond x (Ok (make s t a)) (fault a.1)) ≡ map_ok g (cond x (Ok (make' s t (tt, a.1))) (fault a.1))
  same_end s t a true p q r e = ap Ok (same s t a p q r (eqb-true a.1 (length b) e))
  same_end s t a false p q r e = refl

  same_tag : (s : S × ℕ) (t : T × ℕ) (x : Result (A × ℕ) Malformed) → st 4 ≡ Ok s → tag s.1 ≡ Ok t → att s.0 t.1 ≡ x
      → map_ok f (wholly b (bind x (λ a. Ok (make s t a, a.1)))) ≡ map_ok g (wholly b (bind (ended (behind x)) (λ a. Ok (make' s t a, a.1))))
  same_tag s t (Ok a) p q r = same_end s t a (eqb a.1 (length b)) p q r refl
  same_tag s t (Err e) p q r = refl

  same_statement : (s : S × ℕ) (x : Result (T × ℕ) Malformed) → st 4 ≡ Ok s → tag s.1 ≡ x
      → map_ok f (wholly b (bind x (from-tag st tag att make s))) ≡ map_ok g (wholly b (bind x (from-tag st tag last_of make' s)))
  same_statement s (Ok t) p q = same_tag s t (att s.0 t.1) p q refl
  same_statement s (Err e) p q = refl

  same_kind : (x : Result (S × ℕ) Malformed) → st 4 ≡ x → map_ok f (wholly b (bind x (from-statement st tag att make))) ≡ map_ok g (wholly b (bind x (from-statement st tag last_of make')))
  same_kind (Ok s) p = same_statement s (tag s.1) p refl
  same_kind (Err e) p = refl

  same_test : (t : Bool) → map_ok f (wholly b (bind (cond t (Ok 4) (fault 0)) (from-kind st tag att make))) ≡ map_ok g (wholly b (bind (cond t (Ok 4) (fault 0)) (from-kind st tag last_of make')))
  same_test true = same_kind (st 4) refl
  same_test false = refl

  same_word : (x : Result ℕ Malformed) → map_ok f (wholly b (bind (bind x (λ n. cond (eqb n kind) (Ok 4) (fault 0))) (from-kind st tag att make))) ≡ map_ok g (wholly b (bind (bind x (λ n. cond (eqb n kind) (Ok 4) (fault 0))) (from-kind st tag last_of make')))
  same_word (Ok n) = same_test (eqb n kind)
  same_word (Err e) = refl

  pub envelope_same : map_ok f (wholly b (envelope_at kind st tag att make b 0)) ≡ map_ok g (wholly b (envelope_at kind st tag last_of make' b 0))
  envelope_same = same_word (word_at b 0)
