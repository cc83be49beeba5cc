-- The fault of reading a new-view lies within the bytes.
use Rattle.std.proofs.Common.{◌≡◌, ℕ, zero, suc, ◌+◌, ◌≤◌, ◌&&◌, Bool, true, false, cond, leb, List, length, Some, None, Ok, Err, Option, Result, refl, subst, arith}
use Rattle.std.proofs.lemmas.Bool.{leb-true, and_parts}
use Rattle.buffers.specs.Words.{word_from}
use Rattle.values.specs.declared.fix.Report.{Report}
use Rattle.wire.specs.declared.words.Malformed.{Malformed}
use Rattle.wire.specs.Words.{bind, fault, word_at}
use Rattle.wire.specs.Contents.{padded}
use Rattle.wire.specs.Layout.{three_at, report_by, report_at, change_at, tag_at, many_at, count_at, vote_at, votes_at, certified_at, kind_at, turn_at, ending, wholly}

-- what was read is as Q says, or the fault lies up to n
data Bounded {A : Type 0} (n : ℕ) (Q : A → Type 0) : Result A Malformed → Type 0 where
  answered : (x : A) → Q x → Bounded n Q (Ok x)
  failed : (e : Malformed) → e.place ≤ n → Bounded n Q (Err e)

-- a reading and the next one
after : {A B : Type 0} {n : ℕ} {P : A → Type 0} {Q : B → Type 0} {r : Result A Malformed} (k : A → Result B Malformed)
    → Bounded n P r → ((x : A) → P x → Bounded n Q (k x)) → Bounded n Q (bind r k)
after k (answered x h) g = g x h
after k (failed e h) g = failed e h

-- a test, whose fault is at its place
tested : {A : Type 0} {n : ℕ} {Q : A → Type 0} (t : Bool) (r : Result A Malformed) (at : ℕ)
    → at ≤ n → (t ≡ true → Bounded n Q r) → Bounded n Q (cond t r (fault at))
tested true r at h g = g refl
tested false r at h g = failed _ h

place_within : {A : Type 0} {n : ℕ} {Q : A → Type 0} {e : Malformed} → Bounded n Q (Err e) → e.place ≤ n
place_within (failed e h) = h

-- so many things, each of which is read within the bytes
module _ {A : Type 0} (n : ℕ) (one : ℕ → Result (A × ℕ) Malformed) (each : (at : ℕ) → at ≤ n → Bounded n (λ p. p.1 ≤ n) (one at)) where
  many_within : (m at : ℕ) → at ≤ n → Bounded n (λ p. p.1 ≤ n) (many_at one m at)
  many_within zero at h = answered _ h
  many_within (suc m) at h =
      after _ (each at h) (λ p k.
      after _ (many_within m p.1 k) (λ q l. answered _ l))

-- ---- readings at a place within the bytes ----

module _ (b : List ℕ) where
  word_within : (at : ℕ) → at ≤ length b → Bounded (length b) (λ w. at + 4 ≤ length b) (word_at b at)
  unfolding word_at
  word_within at h = tested (leb (at + 4) (length b)) (Ok (word_from b at)) at h (λ e. answered _ (leb-true (at + 4) (length b) e))

  three_within : {A : Type 0} (make : ℕ → ℕ → ℕ → A) (at : ℕ) → at ≤ length b → Bounded (length b) (λ x. at + 12 ≤ length b) (three_at make b at)
  three_within make at h =
      after _ (word_within at h) (λ x k.
      after _ (word_within (at + 4) k) (λ y l.
      after _ (word_within (at + 8) (omega arith)) (λ z m. answered _ (omega arith))))

  -- what is read at a place within the bytes ends within them
  abbrev Ends : {A : Type 0} → Result (A × ℕ) Malformed → Type 0
  Ends r = Bounded (length b) (λ p. p.1 ≤ length b) r

  report_within : (at : ℕ) → at ≤ length b → Ends (report_at b at)
  report_within at h = after _ (word_within at h) by
    where
      by : (n : ℕ) → at + 4 ≤ length b → Ends (report_by b at n)
      by zero k = answered _ k
      by (suc zero) k =
          after _ (word_within (at + 4) k) (λ v l.
          after _ (three_within _ (at + 8) (omega arith)) (λ d m. answered _ (omega arith)))
      by (suc (suc n)) k = failed _ h

  change_within : (at : ℕ) → at ≤ length b → Ends (change_at b at)
  change_within at h =
      after _ (three_within _ at h) (λ s k.
      after _ (report_within (at + 12) k) (λ p l.
      after _ (report_within p.1 l) (λ q m. answered _ m)))

  tag_within : (limit at : ℕ) → at ≤ length b → Ends (tag_at limit b at)
  tag_within limit at h = after _ (word_within at h) (λ n k. tested _ _ at h (λ e.
      let p = and_parts (leb n limit && leb (at + 4 + padded n) (length b)) _ e in
      let q = and_parts (leb n limit) (leb (at + 4 + padded n) (length b)) p.0 in
      answered _ (leb-true (at + 4 + padded n) (length b) q.1)))

  vote_within : (limit at : ℕ) → at ≤ length b → Ends (vote_at limit b at)
  vote_within limit at h =
      after _ (word_within at h) (λ s k.
      after _ (tag_within limit (at + 4) k) (λ t l. answered _ l))

  count_within : (at : ℕ) → at ≤ length b → Bounded (length b) (λ n. at + 4 ≤ length b) (count_at b at)
  count_within at h = after _ (word_within at h) (λ n k. tested _ _ at h (λ e. answered _ k))

  votes_within : (limit at : ℕ) → at ≤ length b → Ends (votes_at limit b at)
  unfolding votes_at
  votes_within limit at h = after _ (count_within at h) (λ n k. many_within (length b) (vote_at limit b) (vote_within limit) n (at + 4) k)

  certified_within : (limit : ℕ) (o : Option Report) (at : ℕ) → at ≤ length b → Ends (certified_at limit b o at)
  certified_within limit None at h = answered _ h
  certified_within limit (Some r) at h = after _ (votes_within limit at h) (λ p k. answered _ k)

  kind_within : (kind at : ℕ) → at ≤ length b → Bounded (length b) (λ next. next ≤ length b) (kind_at kind b at)
  kind_within kind at h = after _ (word_within at h) (λ n k. tested _ _ at h (λ e. answered _ k))

  turn_within : (limit at : ℕ) → at ≤ length b → Ends (turn_at limit b at)
  unfolding turn_at
  turn_within limit at h =
      after _ (kind_within 4 at h) (λ next k.
      after _ (change_within next k) (λ s l.
      after _ (tag_within limit s.1 l) (λ t m.
      after _ (certified_within limit s.0.committed t.1 m) (λ a q. answered _ q))))

-- the fault of reading bytes as one new-view message lies within the bytes
pub turn_fault_within : (limit : ℕ) (b : List ℕ) (e : Malformed) → wholly b (turn_at limit b 0) ≡ Err e → e.place ≤ length b
turn_fault_within limit b e h =
    let whole = after {Q = λ x. Unit {0}} (ending b) (turn_within b limit 0 (omega arith)) (λ p k. tested _ _ p.1 k (λ z. answered _ tt)) in
    place_within (subst (Bounded (length b) (λ x. Unit {0})) h whole)
