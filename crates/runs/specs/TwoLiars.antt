-- The promises need the bound on liars. With one more than the fleet bears two decisions differ, although nothing is forged: on
-- bytes, two of four sites lie, and the two others decide two fixes.
use Rattle.std.specs.Prelude.{◌≡◌, ℕ, ◌^◌, ◌<◌, true, ◌||◌, List, [], ◌∷◌, ◌++◌, Ok, ◌==◌}
use Rattle.values.specs.declared.fix.Value.{Value}
use Rattle.values.specs.Fleets.{sites}
use Rattle.wire.specs.Contents.{Vote, Content, propose, commit, message_bytes}
use Rattle.agreement.specs.Examples.{d, e, viewed}
use Rattle.agreement.specs.Sites.{SiteSet, size, all_but}
use Rattle.agreement.specs.Statements.{Each}
use Rattle.records.specs.Kept.{Decided, recovery, opening}
use Rattle.calls.specs.Calls.{to_hear}
use Rattle.calls.specs.Examples.{claim, row, preparing, vote}
use Rattle.runs.specs.Runs.{Event, after, NothingForged, OfWords, BooksOfBytes, Run}
use Rattle.runs.specs.Promises.{Reads}
use Rattle.runs.specs.Happens.{all_but_0, opened_world, called_with}

-- of four sites, sites 1 and 2 follow the rules
abbrev pub one_and_two : SiteSet
one_and_two i = i == 1 || i == 2

-- site i hears this, and its check says yes to whatever it is asked: of sites 1 and 2, these calls ask it only about what they
-- drafted
abbrev pub hears : ℕ → Content → Event
hears i m = called_with (λ site said tag. true) i (to_hear (message_bytes m))

-- the prepares of the liars and of site i, as a commit certificate
abbrev pub votes : ℕ → List Vote
votes i = vote 0 0 ∷ vote i 0 ∷ vote 3 0 ∷ []

-- in view 1 site i hears from the liars and itself: a proposal of x, three prepares of it, and three commits
abbrev pub heard_by : ℕ → Value → List Event
heard_by i x =
    hears i (propose (claim 0 1 x) (row 0) [])
    ∷ hears i (preparing 0 1 x 0)
    ∷ hears i (preparing i 1 x 0)
    ∷ hears i (preparing 3 1 x 0)
    ∷ hears i (commit (claim 0 1 x) (row 0) (votes i))
    ∷ hears i (commit (claim i 1 x) (row 0) (votes i))
    ∷ hears i (commit (claim 3 1 x) (row 0) (votes i))
    ∷ []

-- site 1 hears all this of d, and site 2 of e
abbrev pub both_hear : List Event
both_hear = heard_by 1 d ++ heard_by 2 e

-- a fix that three commits decided in view 1
abbrev pub decision_of : Value → Decided
decision_of x = record { report = viewed 1 x; way = recovery }

pub record TwoLiars : Type 0 where
  -- one liar too many
  pub too_many : size (all_but one_and_two) (sites 1 0) ≡ 2
  -- all else is as in a run
  pub round_is : 9 < 2 ^ 32
  pub opened : (i : ℕ) → one_and_two i ≡ true → opening 1 0 i 4 9 ≡ Ok ((opened_world i).member, (opened_world i).kept)
  pub books : (i : ℕ) → one_and_two i ≡ true → BooksOfBytes (opened_world i).books
  pub theirs : Each (λ (x : Event). one_and_two x.site ≡ true) both_hear
  pub of_words : Each (λ (x : Event). OfWords x.request) both_hear
  pub unforged : NothingForged one_and_two opened_world both_hear
  -- and the decisions differ
  pub reads_d : Reads (after opened_world both_hear) 1 (decision_of d)
  pub reads_e : Reads (after opened_world both_hear) 2 (decision_of e)
  -- the same calls are no run of a fleet with one liar: counted among those that follow the rules, site 3 would be forged
  pub no_run : Run 1 0 4 9 all_but_0 opened_world both_hear → ⊥
