-- Bytes that judging answers, in a run with a liar in which a site decides.
use Rattle.std.proofs.Common.{◌≡◌, ℕ, List, [], ◌∷◌, length, Some, None, Ok, refl, arith}
use Rattle.std.specs.Prelude.{nat_le}
use Rattle.std.proofs.lemmas.Bool.{leb-true}
use Rattle.buffers.specs.Words.{word_from}
use Rattle.values.specs.Fixes.{legal}
use Rattle.verdicts.specs.Rule.{finding}
use Rattle.verdicts.specs.Told.{told_forced}
use Rattle.wire.specs.declared.statement.Head.{Head}
use Rattle.wire.specs.Words.{word_at}
use Rattle.wire.specs.Contents.{Vote, Turn, turn_bytes, progress_bytes}
use Rattle.wire.specs.Layout.{votes_at, turn_at, progress_at, progress_of}
use Rattle.checks.specs.Vouching.{Vouched, Short}
use Rattle.agreement.specs.Moves.{world_at}
use Rattle.agreement.specs.Examples.{d, e, viewed}
use Rattle.agreement.specs.Promises.{others}
use Rattle.agreement.proofs.Witness.{all_moves, all_moves_run, later_valid}
use Rattle.certificates.specs.Judging.{judging, judge_asks, judge_call}
use Rattle.certificates.specs.Runs.{Meant, JudgingAnswers}

-- a check that says yes to every statement of at most 64 bytes
abbrev yes : Vouched
yes site m tag = nat_le (length m) 64

yes_short : Short yes
yes_short site m tag h = leb-true (length m) 64 h

-- the certificate for view 3 of the run, as a packet of round 9 with empty tags
abbrev head : ℕ → Head
head site = record { round = 9; view = 3; site = site }

abbrev vote : ℕ → Vote
vote site = record { site = site; tag = [] }

-- site 0 reports a commit of view 1, with its certificate
abbrev liars : Turn
liars = record { head = head 0; prepared = Some (viewed 1 d); committed = Some (record { report = viewed 1 d; votes = vote 0 ∷ vote 1 ∷ vote 2 ∷ [] }); tag = [] }

abbrev honest : ℕ → Turn
honest site = record { head = head site; prepared = Some (viewed 2 e); committed = None; tag = [] }

abbrev packet : List ℕ
packet = progress_bytes (liars ∷ honest 2 ∷ honest 3 ∷ [])

answered : judging yes 1 0 4 9 3 packet ≡ Ok (told_forced 1 e 2)
unfolding judge_call progress_of progress_at turn_at votes_at word_at word_from turn_bytes legal finding
answered = refl

meant : Meant others (world_at 1 0 all_moves 16).log yes (judge_asks yes 1 0 4 9 3 packet)
unfolding judge_call progress_of progress_at turn_at votes_at word_at word_from turn_bytes legal finding
meant =
    let p = later_valid.1 in
    (λ h. p.0, (λ h. p.1.0, (λ h. p.1.1.0, (λ h. p.1.1.1.0, (λ h. p.1.1.1.1.0, (λ h. p.1.1.1.1.1.0, tt))))))

pub judging_answers : JudgingAnswers
judging_answers = (omega arith, (all_moves, 14, 16, yes, 4, 9, packet, all_moves_run, refl, yes_short, meant, answered))
