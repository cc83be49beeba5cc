-- The laws of runs.
use Rattle.std.proofs.Common.{◌≡◌, true, List, ◌∷◌, ◌++◌, ap, ◌∙◌, append_assoc}
use Rattle.agreement.proofs.Agree.{each_split}
use Rattle.runs.specs.Runs.{Event, OfWords}
use Rattle.runs.specs.Laws.{BeginningsAreRuns, RunLaws}
use Rattle.runs.proofs.Drafted.{draft_is_in_out, one_statement}
use Rattle.runs.proofs.Agreed.{asks_in_form}

beginnings_are_runs : BeginningsAreRuns
beginnings_are_runs f t limit round good w es rest run =
    record {
      few = run.few;
      round_is = run.round_is;
      behave = run.behave;
      opened = run.opened;
      books = run.books;
      theirs = (each_split (λ (e : Event). good e.site ≡ true) es rest run.theirs).0;
      of_words = (each_split (λ (e : Event). OfWords e.request) es rest run.of_words).0;
      unforged = λ past e c. run.unforged past e (c.0 ++ rest, ap (λ (z : List Event). z ++ rest) c.1 ∙ append_assoc past (e ∷ c.0) rest);
    }

pub run_laws : RunLaws
run_laws = record { drafts = draft_is_in_out; one = one_statement; asks = asks_in_form; beginnings = beginnings_are_runs }
