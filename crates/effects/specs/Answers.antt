-- What hear answers, as the code has it.
use Rattle.std.specs.Prelude.{ℕ}
use Rattle.calls.specs.Effects.{Answer, heard, noted, gathered_all, decided}
use Rattle.effects.specs.declared.answer.What.{What}
use Rattle.effects.specs.declared.answer.What.TheVariants.{Noted, Gathered, Decided}
use Rattle.effects.specs.declared.answer.Heard.{Heard}

abbrev pub what_number : What → ℕ
what_number Noted = noted
what_number Gathered = gathered_all
what_number Decided = decided

abbrev pub heard_told : Heard → Answer
heard_told h = heard (what_number h.what) h.bytes
