-- What the wrong rules break: in the run of each, two sites decide two fixes. Each call is computed.
use Rattle.std.proofs.Common.{◌≡◌, ℕ, true, false, List, [], length, take, Some, None, Ok, Option, refl, sym, ap, ◌∙◌, subst, arith}
use Rattle.std.specs.Option.{option_map}
use Rattle.std.specs.List.{list_all}
use Rattle.buffers.specs.Words.{word_from}
use Rattle.buffers.specs.Lays.{laid}
use Rattle.values.specs.declared.fix.Value.{Value}
use Rattle.values.specs.Fixes.{legal}
use Rattle.verdicts.specs.Rule.{finding}
use Rattle.wire.specs.Words.{word_at}
use Rattle.wire.specs.Contents.{turn_bytes}
use Rattle.wire.specs.Layout.{votes_at, turn_at, progress_at, propose_of, prepare_of, commit_of, new_view_of, progress_of, message_of, draft_end}
use Rattle.checks.specs.Vouching.{Vouched}
use Rattle.agreement.specs.Examples.{d, e}
use Rattle.certificates.specs.Judging.{judge_call}
use Rattle.records.specs.Books.{Books}
use Rattle.records.specs.Kept.{Membership, Kept, Decided}
use Rattle.calls.specs.Effects.{found}
use Rattle.calls.specs.Steps.{propose_steps, hear_propose_steps, hear_prepare_steps, hear_commit_steps, hear_new_view_steps, claim_heard, change_heard}
use Rattle.calls.specs.Calls.{to_read, propose_call, hear_call, leave_call, seal_call, answer_of}
use Rattle.runs.specs.Runs.{Behaviour, World, Event}
use Rattle.runs.specs.Promises.{Reads, DecisionsAgreeBy}
use Rattle.runs.specs.Happens.{all_but_0, opened_by}
use Rattle.liveness.specs.Scripts.{calls, before}
use Rattle.wrong_sites.specs.Behaving.{doing}
use Rattle.wrong_sites.specs.Differing.{never_asks, first_prepare_decides, fewer_prepares_decide, fewer_commits_decide, forgets_prepare, WrongRulesDiffer}
use Rattle.wrong_sites.specs.DifferingRuns.{Case, forged, own_prepares, too_early, left_twice}
use Rattle.runs.proofs.Watching.{worked_out, worked_out_after, in_words}
use Rattle.runs.proofs.Happens.{among_three}
use Rattle.liveness.proofs.Lines.{Passed, played, behaviour_kept}

-- read gives what is decided
abbrev FindsTheDecision : Behaviour → Type 0
FindsTheDecision b = (v : Vouched) (m : Membership) (k : Kept) (books : Books) (out : ℕ) → answer_of (b.performs v m k books out to_read) ≡ Ok (found k.decision)

-- the fix decided
abbrev fix_of : Option Decided → Option Value
fix_of o = option_map (λ x. x.report.value) o

decided_of : (o : Option Decided) (v : Value) → fix_of o ≡ Some v → (x : Decided) × (o ≡ Some x) × (x.report.value ≡ v)
decided_of None v h = absurd (let z : ◌≡◌ {A = ℕ} 0 1 = cc in omega arith)
decided_of (Some x) v h = (x, refl, cc)

not_both : d ≡ e → ⊥
not_both same = let seconds : ◌≡◌ {A = ℕ} 600000 600001 = ap (λ (x : Value). x.second) same in omega (arith, seconds)

-- what is computed of a case: its calls go by the script, and both sites follow the rules and have decided
module _ (b : Behaviour) (c : Case) where
  abbrev end : ℕ
  end = length c.script.lines

  abbrev made : List Event
  made = take end (calls c.script)

  record CaseComputed : Type 0 where
    goes : Passed b all_but_0 c.script end (λ i. false)
    theirs : list_all (λ (x : Event). all_but_0 x.site) (calls c.script) ≡ true
    words : list_all (λ (x : Event). in_words x.request) (calls c.script) ≡ true
    d_follows : all_but_0 c.of_d ≡ true
    e_follows : all_but_0 c.of_e ≡ true
    decides_d : fix_of (worked_out (opened_by b) made c.of_d).kept.decision ≡ Some d
    decides_e : fix_of (worked_out (opened_by b) made c.of_e).kept.decision ≡ Some e

  module _ (finds : FindsTheDecision b) where
    -- the fix that is decided is read
    reads : (i : ℕ) (v : Value) → fix_of (worked_out (opened_by b) made i).kept.decision ≡ Some v → (x : Decided) × Reads (before b c.script end) i x × (x.report.value ≡ v)
    reads i v h =
        let w = before b c.script end in
        let x = decided_of (w i).kept.decision v (subst (λ (u : World). fix_of (u i).kept.decision ≡ Some v) (worked_out_after (opened_by b) made) h) in
        let at : Event = record { site = i; request = to_read; out = []; check = λ site said tag. true } in
        let z = w i in
        let told = ap (λ (k : Behaviour). answer_of (k.performs at.check z.member z.kept z.books 0 to_read)) (behaviour_kept (opened_by b) made i) ∙ finds at.check z.member z.kept z.books 0 in
        (x.0, (at, refl, refl, told ∙ ap (λ (o : Option Decided). Ok (found o)) x.1), x.2)

    -- so decisions do not agree
    differ : CaseComputed → DecisionsAgreeBy b → ⊥
    differ h agree =
        let run = (played c.script b all_but_0 end (λ i. false) h.goes (omega arith) among_three h.theirs h.words).run in
        let x = reads c.of_d d h.decides_d in
        let y = reads c.of_e e h.decides_e in
        not_both (sym x.2 ∙ agree 1 0 4 9 all_but_0 (opened_by b) (calls c.script) run end end c.of_d c.of_e x.0 y.0 h.d_follows h.e_follows x.1 y.1 ∙ y.2)

record AllComputed : Type 0 where
  never_asking : CaseComputed never_asks forged
  first_prepare : CaseComputed (doing first_prepare_decides) own_prepares
  fewer_prepares : CaseComputed (doing fewer_prepares_decide) too_early
  fewer_commits : CaseComputed (doing fewer_commits_decide) too_early
  forgetting : CaseComputed (doing forgets_prepare) left_twice

computed : AllComputed
unfolding word_from laid legal finding word_at turn_bytes votes_at turn_at progress_at propose_of prepare_of commit_of new_view_of progress_of message_of draft_end judge_call propose_call hear_call leave_call seal_call propose_steps hear_propose_steps hear_prepare_steps hear_commit_steps hear_new_view_steps claim_heard change_heard
computed =
    record {
      never_asking = record { goes = refl; theirs = refl; words = refl; d_follows = refl; e_follows = refl; decides_d = refl; decides_e = refl };
      first_prepare = record { goes = refl; theirs = refl; words = refl; d_follows = refl; e_follows = refl; decides_d = refl; decides_e = refl };
      fewer_prepares = record { goes = refl; theirs = refl; words = refl; d_follows = refl; e_follows = refl; decides_d = refl; decides_e = refl };
      fewer_commits = record { goes = refl; theirs = refl; words = refl; d_follows = refl; e_follows = refl; decides_d = refl; decides_e = refl };
      forgetting = record { goes = refl; theirs = refl; words = refl; d_follows = refl; e_follows = refl; decides_d = refl; decides_e = refl };
    }

pub wrong_rules_differ : WrongRulesDiffer
wrong_rules_differ =
    record {
      never_asking = differ never_asks forged (λ v m k books out. refl) computed.never_asking;
      first_prepare = differ (doing first_prepare_decides) own_prepares (λ v m k books out. refl) computed.first_prepare;
      fewer_prepares = differ (doing fewer_prepares_decide) too_early (λ v m k books out. refl) computed.fewer_prepares;
      fewer_commits = differ (doing fewer_commits_decide) too_early (λ v m k books out. refl) computed.fewer_commits;
      forgetting = differ (doing forgets_prepare) left_twice (λ v m k books out. refl) computed.forgetting;
    }
