-- What a call tests, and what it asks its check, in order: the first failure speaks, and nothing behind it is tested or asked.
use Rattle.std.specs.Prelude.{ℕ, Bool, cond, List, [], ◌∷◌, Ok, Err, Result}
use Rattle.wire.specs.declared.statement.Statement.{Statement}
use Rattle.wire.specs.Contents.{statement_bytes}
use Rattle.checks.specs.Vouching.{Vouched}

-- has this site made this statement, by this tag
pub record Question : Type 0 where
  pub site : ℕ
  pub said : Statement
  pub tag : List ℕ

-- what a check answers
abbrev pub granted : Vouched → Question → Bool
granted v q = v q.site (statement_bytes q.said) q.tag

-- a test, or a question to the check, and the fault if it fails
pub data Step (F : Type 0) : Type 0 where
  test : Bool → F → Step F
  ask : Question → F → Step F

-- the first fault, if there is one
abbrev pub passed : {F : Type 0} → Vouched → List (Step F) → Result (Unit {0}) F
passed v [] = Ok tt
passed v (test b e ∷ xs) = cond b (passed v xs) (Err e)
passed v (ask q e ∷ xs) = cond (granted v q) (passed v xs) (Err e)

-- the questions that are asked: up to the first fault, and with the one that is answered no
abbrev pub asked : {F : Type 0} → Vouched → List (Step F) → List Question
asked v [] = []
asked v (test b e ∷ xs) = cond b (asked v xs) []
asked v (ask q e ∷ xs) = q ∷ cond (granted v q) (asked v xs) []

-- the same steps, with their faults seen by g
abbrev pub blamed : {E F : Type 0} → (E → F) → List (Step E) → List (Step F)
blamed g [] = []
blamed g (test b e ∷ xs) = test b (g e) ∷ blamed g xs
blamed g (ask q e ∷ xs) = ask q (g e) ∷ blamed g xs

-- an answer that is given once all steps are passed
abbrev pub answering : {A F : Type 0} → Result (Unit {0}) F → A → Result A F
answering (Ok u) x = Ok x
answering (Err e) x = Err e
