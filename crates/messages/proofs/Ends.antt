-- A reading of which only the place behind is kept, whole.
use Rattle.std.proofs.Common.{◌≡◌, ℕ, Bool, true, false, cond, eqb, List, length, Ok, Err, Result, refl}
use Rattle.wire.specs.declared.words.Malformed.{Malformed}
use Rattle.wire.specs.Words.{fault}
use Rattle.wire.specs.Layout.{wholly}
use Rattle.wire.specs.Places.{behind}
use Rattle.messages.specs.Parts.{ended, map_ok}

at_end : {A : Type 0} (t : Bool) (x : A) (at : ℕ) → ◌≡◌ {A = Result (Unit {0}) Malformed} (cond t (Ok (tt {0})) (fault at)) (map_ok (λ (y : A). tt {0}) (cond t (Ok x) (fault at)))
at_end true x at = refl
at_end false x at = refl

pub wholly_behind : {A : Type 0} (b : List ℕ) (r : Result (A × ℕ) Malformed) → ◌≡◌ {A = Result (Unit {0}) Malformed} (wholly b (ended (behind r))) (map_ok (λ (y : A). tt {0}) (wholly b r))
wholly_behind b (Ok p) = at_end (eqb p.1 (length b)) p.0 p.1
wholly_behind b (Err e) = refl
