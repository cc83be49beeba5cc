-- Scripts: runs of four sites on bytes, written down line by line.
use Rattle.std.specs.Prelude.{◌≡◌, ℕ, List, [], ◌∷◌, ◌++◌, map, take, drop, None, Ok, Err}
use Rattle.values.specs.Refusals.{Refused}
use Rattle.wire.specs.declared.statement.Statement.{Statement}
use Rattle.wire.specs.Contents.{Content, statement_of, draft_bytes, message_bytes}
use Rattle.checks.specs.Registers.{registered}
use Rattle.agreement.specs.Sites.{SiteSet}
use Rattle.calls.specs.Effects.{Effect, found}
use Rattle.calls.specs.Calls.{Request, to_hear, to_read, answer_of}
use Rattle.calls.specs.Examples.{rows_of}
use Rattle.runs.specs.Runs.{Behaviour, World, Event, result, draft_left, after, RunBy}
use Rattle.liveness.specs.Recovery.{Accord}
use Rattle.runs.specs.Happens.{opened_by, called_with}

-- what comes of a call
pub data Outcome : Type 0 where
  -- it drafts what this message seals
  drafts : Content → Outcome
  -- it drafts nothing
  quiet : Outcome
  -- it is refused
  refuses : Refused → Outcome

-- a call of a site, and what comes of it
pub record Line : Type 0 where
  pub site : ℕ
  pub request : Request
  pub outcome : Outcome

abbrev pub on : ℕ → Request → Outcome → Line
on i r o = record { site = i; request = r; outcome = o }

abbrev pub hears : ℕ → Content → Outcome → Line
hears i m o = on i (to_hear (message_bytes m)) o

-- calls, one for each line, and the register that all their checks look up: a tag is the number of a row
pub record Script : Type 0 where
  pub rows : List ℕ
  pub lines : List Line

-- the statements that lines draft
abbrev said_by : Outcome → List Statement
said_by (drafts m) = statement_of m ∷ []
said_by quiet = []
said_by (refuses r) = []

abbrev drafted : List Line → List Statement
drafted [] = []
drafted (x ∷ xs) = said_by x.outcome ++ drafted xs

-- a script with a row for each statement: first those of the liars, and then what the lines draft
abbrev pub script : List Content → List Line → Script
script lies lines = record { rows = rows_of (map statement_of lies ++ drafted lines); lines = lines }

-- a call comes to this
abbrev pub ComesTo : World → Event → Outcome → Type 0
ComesTo w x (drafts m) = (y : Effect) × (result w x ≡ Ok y) × (draft_left w x ≡ draft_bytes m)
ComesTo w x quiet = (y : Effect) × (result w x ≡ Ok y) × (draft_left w x ≡ [])
ComesTo w x (refuses r) = result w x ≡ Err r

abbrev pub call_of : Script → Line → Event
call_of s x = called_with (registered s.rows) x.site x.request

abbrev pub calls : Script → List Event
calls s = map (call_of s) s.lines

module _ (rules : Behaviour) (s : Script) where
  -- the sites when p calls are made
  abbrev pub before : ℕ → World
  before p = after (opened_by rules) (take p (calls s))

  -- The calls are a run of sites that behave so, their checks are in accord, and each comes to what its line says.
  pub record Played (good : SiteSet) : Type 0 where
    pub run : RunBy rules 1 0 4 9 good (opened_by rules) (calls s)
    pub accord : Accord (opened_by rules) (calls s)
    pub comes : (p : ℕ) (x : Line) (rest : List Line) → drop p s.lines ≡ x ∷ rest → ComesTo (before p) (call_of s x) x.outcome

  -- when p calls are made, read gives no decision at site i
  abbrev pub Undecided : ℕ → ℕ → Type 0
  Undecided p i = answer_of (result (before p) (called_with (registered s.rows) i to_read)) ≡ Ok (found None)
