-- A whole packet as one progress certificate, by its reading and by that at its start.
use Rattle.std.proofs.Common.{◌≡◌, ℕ, Bool, true, false, cond, eqb, nat_le, List, ◌∷◌, length, Ok, Err, Result, refl, arith}
use Rattle.std.specs.Result.{IsOk}
use Rattle.values.specs.Refusals.{Refused, layout, wrong_view}
use Rattle.verdicts.specs.Told.{Told}
use Rattle.wire.specs.declared.words.Malformed.{Malformed}
use Rattle.wire.specs.Contents.{Turn}
use Rattle.wire.specs.Layout.{progress_at, progress_of, ending}
use Rattle.wire.proofs.Results.{bind_ok, cond_ok, ok_same}
use Rattle.messages.specs.Parts.{map_ok}
use Rattle.checks.specs.Vouching.{Vouched}
use Rattle.certificates.specs.Steps.{Step, test, passed, answering}
use Rattle.certificates.specs.Reading.{read_of}
use Rattle.certificates.specs.Judging.{outcome, verdict_call, judge_call, judging}

pub err_of : {A : Type 0} (r : Result A Malformed) (e : Malformed) → Err e ≡ map_ok (λ (x : A). tt {0}) r → r ≡ Err e
err_of (Ok x) e h = absurd (let z : ◌≡◌ {A = ℕ} 0 1 = cc in omega arith)
err_of (Err f) e h = cc

pub good_of : {A : Type 0} (r : Result A Malformed) → ◌≡◌ {A = Result (Unit {0}) Malformed} (Ok (tt {0})) (map_ok (λ (x : A). tt {0}) r) → (x : A) × (r ≡ Ok x)
good_of (Ok x) h = (x, refl)
good_of (Err f) h = absurd (let z : ◌≡◌ {A = ℕ} 0 1 = cc in omega arith)

-- what is read whole is read at the start
at_start : (limit : ℕ) (b : List ℕ) (ms : List Turn) → progress_of limit b ≡ Ok ms → IsOk (progress_at limit b 0) × (read_of (progress_at limit b 0) ≡ ms)
unfolding progress_of
at_start limit b ms h =
    let p = bind_ok (progress_at limit b 0) (ending b) ms h in
    let q = cond_ok (eqb p.0.1 (length b)) (Ok p.0.0) p.0.1 ms p.2 in
    (rw p.1, rw p.1 (ok_same q.1))

view_first : (v : Vouched) (x : Bool) (xs : List (Step Refused)) (a : Told) → answering (passed v (test x (wrong_view 0) ∷ xs)) a ≡ cond x (answering (passed v xs) a) (Err (wrong_view 0))
view_first v true xs a = refl
view_first v false xs a = refl

module _ (v : Vouched) (f t limit round view : ℕ) (b : List ℕ) where
  -- the layout is broken
  pub read_fails : (e : Malformed) → ◌≡◌ {A = Result (Unit {0}) Malformed} (Err e) (map_ok (λ (ms : List Turn). tt {0}) (progress_of limit b)) → judging v f t limit round view b ≡ Err (layout e.place)
  unfolding judge_call
  read_fails e h = rw (err_of (progress_of limit b) e h)

  pub read_good : ◌≡◌ {A = Result (Unit {0}) Malformed} (Ok (tt {0})) (map_ok (λ (ms : List Turn). tt {0}) (progress_of limit b)) → IsOk (progress_at limit b 0)
  read_good h = let k = good_of (progress_of limit b) h in (at_start limit b k.0 k.1).0

  -- it is good
  pub read_whole : ◌≡◌ {A = Result (Unit {0}) Malformed} (Ok (tt {0})) (map_ok (λ (ms : List Turn). tt {0}) (progress_of limit b))
      → judging v f t limit round view b ≡ cond (nat_le 1 view) (outcome v (verdict_call f t round view 0 (read_of (progress_at limit b 0)))) (Err (wrong_view 0))
  unfolding judge_call
  read_whole h =
      let k = good_of (progress_of limit b) h in
      let s = at_start limit b k.0 k.1 in
      rw (k.1, s.1) (view_first v (nat_le 1 view) (verdict_call f t round view 0 k.0).steps (verdict_call f t round view 0 k.0).answer)
