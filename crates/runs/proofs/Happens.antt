-- The run happens: each call is computed.
use Rattle.std.proofs.Common.{◌≡◌, ℕ, zero, suc, true, List, [], ◌∷◌, ◌++◌, take, drop, Ok, refl, subst, arith}
use Rattle.std.specs.Prelude.{nat_lt, Some, None}
use Rattle.std.specs.List.{list_all}
use Rattle.std.proofs.lemmas.Bool.{and_parts, ltb-true}
use Rattle.buffers.specs.Words.{word_from}
use Rattle.buffers.specs.Lays.{laid}
use Rattle.values.specs.Fixes.{legal}
use Rattle.verdicts.specs.Rule.{finding}
use Rattle.verdicts.specs.Told.{told_forced}
use Rattle.wire.specs.Words.{word_at}
use Rattle.wire.specs.declared.statement.Statement.TheVariants.{Propose}
use Rattle.wire.specs.Contents.{Content, new_view, statement_bytes, statement_of, turn_bytes, message_bytes, progress_bytes}
use Rattle.wire.specs.Layout.{votes_at, turn_at, progress_at, propose_of, prepare_of, commit_of, new_view_of, progress_of, message_of, draft_end}
use Rattle.agreement.specs.Examples.{d, e}
use Rattle.certificates.specs.Judging.{judge_call}
use Rattle.records.specs.Kept.{Decided, opening}
use Rattle.calls.specs.Effects.{Answer, judged, found, head_of}
use Rattle.calls.specs.Steps.{propose_steps, hear_propose_steps, hear_prepare_steps, hear_commit_steps, hear_new_view_steps, claim_heard, change_heard}
use Rattle.calls.specs.Calls.{to_propose, to_hear, to_read, to_judge, answer_of, propose_call, hear_call, leave_call, seal_call}
use Rattle.calls.specs.Examples.{claim, offer_d, offer_e, lie, preparing, late, third, zeros}
use Rattle.runs.specs.Runs.{World, Event, after, draft_left, HasDrafted, result, Run, BooksOfBytes}
use Rattle.runs.specs.Happens.{all_but_0, opened_world, called, rehearsed, before, behind, decision, Accepted, Happens}
use Rattle.runs.specs.Promises.{Reads}
use Rattle.runs.proofs.Watching.{watched, watched_unforged, watched_accepts, worked_out, worked_out_after, in_words, bytes_passed, sites_passed, requests_passed, begins, begins_with}

-- ---- what is computed ----

abbrev judge_asked : Event
judge_asked = called 2 (to_judge 3 (progress_bytes third))

-- behind these calls, another answers so
abbrev pub Answered : List Event → Event → Answer → Type 0
Answered es x a = answer_of (result (worked_out opened_world es) x) ≡ Ok a

-- site 2 is handed d, and what it drafts begins with its proposal of e in view 3
abbrev handed_d : Event
handed_d = called 2 (to_propose d)

abbrev its_proposal : List ℕ
its_proposal = statement_bytes (Propose (claim 2 3 e))

abbrev ReadBack : Content → Type 0
ReadBack m = message_of 4 (message_bytes m) ≡ Ok m

record Computed : Type 0 where
  goes : watched all_but_0 opened_world [] rehearsed ≡ true
  theirs : list_all (λ (x : Event). all_but_0 x.site) rehearsed ≡ true
  words : list_all (λ (x : Event). in_words x.request) rehearsed ≡ true
  decides : Answered rehearsed (called 1 to_read) (found (Some decision))
  without_it : Answered (before ++ behind) (called 1 to_read) (found None)
  decides_before : Answered (take 36 rehearsed) (called 1 to_read) (found (Some decision))
  judges : Answered (take 36 rehearsed) judge_asked (judged (told_forced 1 e 2))
  keeps : begins its_proposal (draft_left (worked_out opened_world (take 37 rehearsed)) handed_d) ≡ true
  offer_d_back : ReadBack offer_d
  offer_e_back : ReadBack offer_e
  lie_back : ReadBack (new_view lie)
  late_back : ReadBack (new_view late)
  prepare_back : ReadBack (preparing 0 2 e 10)

computed : Computed
unfolding word_from laid legal finding word_at turn_bytes votes_at turn_at progress_at propose_of prepare_of commit_of new_view_of progress_of message_of draft_end judge_call propose_call hear_call leave_call seal_call propose_steps hear_propose_steps hear_prepare_steps hear_commit_steps hear_new_view_steps claim_heard change_heard
computed =
    record {
      goes = refl;
      theirs = refl;
      words = refl;
      decides = refl;
      without_it = refl;
      decides_before = refl;
      judges = refl;
      keeps = refl;
      offer_d_back = refl;
      offer_e_back = refl;
      lie_back = refl;
      late_back = refl;
      prepare_back = refl;
    }

-- ---- the premises ----

-- the four sites are opened, also those that are not site 0
pub among_four : (i : ℕ) → nat_lt i 4 ≡ true → opening 1 0 i 4 9 ≡ Ok ((opened_world i).member, (opened_world i).kept)
among_four zero h = refl
among_four (suc zero) h = refl
among_four (suc (suc zero)) h = refl
among_four (suc (suc (suc zero))) h = refl
among_four (suc (suc (suc (suc i)))) h = absurd (let a = ltb-true (suc (suc (suc (suc i)))) 4 h in omega (arith, a))

pub not_0 : (i : ℕ) → all_but_0 i ≡ true → nat_lt i 4 ≡ true
not_0 i h = (and_parts (nat_lt 0 i) (nat_lt i 4) h).1

pub among_three : (i : ℕ) → all_but_0 i ≡ true → opening 1 0 i 4 9 ≡ Ok ((opened_world i).member, (opened_world i).kept)
among_three i h = among_four i (not_0 i h)

pub zeros_so : BooksOfBytes zeros
zeros_so = (bytes_passed zeros.tags refl, bytes_passed zeros.certificate refl, bytes_passed zeros.views refl)

run : Run 1 0 4 9 all_but_0 opened_world rehearsed
run =
    record {
      few = omega arith;
      round_is = omega arith;
      behave = λ i g. refl;
      opened = among_three;
      books = λ i h. zeros_so;
      theirs = sites_passed all_but_0 rehearsed computed.theirs;
      of_words = requests_passed rehearsed computed.words;
      unforged = watched_unforged all_but_0 opened_world rehearsed computed.goes;
    }

-- ---- what happens ----

accepted : (past rest : List Event) (i : ℕ) (m : Content) → rehearsed ≡ past ++ (called i (to_hear (message_bytes m)) ∷ rest) → message_of 4 (message_bytes m) ≡ Ok m → (head_of (statement_of m)).site ≡ 0 → Accepted i m
accepted past rest i m c read sender =
    let x : Event = called i (to_hear (message_bytes m)) in
    let a = watched_accepts all_but_0 opened_world rehearsed computed.goes past x (rest, c) in
    (past, x, a.0, (rest, c), refl, refl, read, sender, a.1)

-- what is answered at the sites as they are worked out is answered
answered : (w : World) (es : List Event) (x : Event) (a : Answer) → answer_of (result (worked_out w es) x) ≡ Ok a → answer_of (result (after w es) x) ≡ Ok a
answered w es x a h = subst (λ v. answer_of (result v x) ≡ Ok a) (worked_out_after w es) h

pub reads_so : (es : List Event) (i : ℕ) (x : Decided) → Answered es (called i to_read) (found (Some x)) → Reads (after opened_world es) i x
reads_so es i x h = (called i to_read, refl, refl, answered opened_world es (called i to_read) (found (Some x)) h)

-- it has drafted its proposal
proposed_later : HasDrafted opened_world rehearsed 2 its_proposal
proposed_later =
    let past : List Event = take 37 rehearsed in
    let h = subst (λ (w : World). begins its_proposal (draft_left w handed_d) ≡ true) (worked_out_after opened_world past) computed.keeps in
    (past, handed_d, (drop 38 rehearsed, refl), refl, begins_with its_proposal (draft_left (after opened_world past) handed_d) h)

pub happens : Happens
happens =
    record {
      run = run;
      liar = refl;
      proposes_d = accepted [] (drop 1 rehearsed) 1 offer_d refl computed.offer_d_back refl;
      proposes_e = accepted (take 4 rehearsed) (drop 5 rehearsed) 3 offer_e refl computed.offer_e_back refl;
      lies = accepted (take 11 rehearsed) (drop 12 rehearsed) 1 (new_view lie) refl computed.lie_back refl;
      prepares = accepted before behind 1 (preparing 0 2 e 10) refl computed.prepare_back refl;
      shows = accepted (take 33 rehearsed) (drop 34 rehearsed) 2 (new_view late) refl computed.late_back refl;
      decides = reads_so rehearsed 1 decision computed.decides;
      heard_there = refl;
      without_it = answered opened_world (before ++ behind) (called 1 to_read) (found None) computed.without_it;
      judges = (
        take 36 rehearsed,
        judge_asked,
        (drop 37 rehearsed, refl),
        reads_so (take 36 rehearsed) 1 decision computed.decides_before,
        refl,
        refl,
        answered opened_world (take 36 rehearsed) judge_asked (judged (told_forced 1 e 2)) computed.judges,
      );
      keeps = proposed_later;
    }
