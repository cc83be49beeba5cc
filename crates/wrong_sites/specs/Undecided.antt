-- Seven wrong sites: if those that should follow the rules behave like one of these, chosen sites may be left without a
-- decision.
use Rattle.std.specs.Prelude.{ℕ, ◌&&◌, Bool, false, cond, List, length, Ok, Err, Result, is_some, ◌==◌, nat_le}
use Rattle.values.specs.Fleets.{progress_quorum}
use Rattle.values.specs.Refusals.{Refused, gathered_already, may_not_propose}
use Rattle.wire.specs.declared.words.Malformed.{Malformed}
use Rattle.wire.specs.Contents.{kind_of, Content, propose, prepare, commit, new_view}
use Rattle.wire.specs.Layout.{message_of}
use Rattle.records.specs.Books.{Books}
use Rattle.records.specs.Kept.{Membership, Kept}
use Rattle.calls.specs.Gathering.{gathered}
use Rattle.calls.specs.Effects.{Output, nothing, draft, message, Answer, by_propose, by_hear, wrote, judged, found, proposed, heard, Effect, gathering}
use Rattle.calls.specs.Calls.{to_propose, to_hear, to_leave, to_seal, to_judge, to_read}
use Rattle.runs.specs.Runs.{drafting}
use Rattle.wrong_sites.specs.Behaving.{Instead, doing, of_hears, of_leaves, but}
use Rattle.liveness.specs.Recovery.{commits, ChosenRecoverBy}

-- nothing is drafted, and the answer says so
abbrev undrafted : Answer → Answer
undrafted (by_propose x) = proposed 0
undrafted (by_hear x) = heard x.what 0
undrafted (wrote n) = wrote 0
undrafted (judged x) = judged x
undrafted (found x) = found x

abbrev silent : Effect → Effect
silent x = record x { output = nothing; answer = undrafted x.answer }

abbrev drafts_commit : Output → Bool
drafts_commit nothing = false
drafts_commit (draft s attached) = kind_of s == commits
drafts_commit (message b) = false

-- ---- the wrong sites ----

-- it refuses to propose, and whatever it is to hear
abbrev pub refuses_all : Instead
refuses_all m k books (to_propose d) r = Err may_not_propose
refuses_all m k books (to_hear packet) r = Err gathered_already
refuses_all m k books (to_leave view) r = r
refuses_all m k books (to_seal written tag) r = r
refuses_all m k books (to_judge view certificate) r = r
refuses_all m k books to_read r = r

-- it drafts nothing
abbrev pub drafts_nothing : Instead
drafts_nothing m k books q r = but (λ x. cond (drafting q) (silent x) x) r

-- it refuses the new-view that would make a progress quorum, and so never holds one
abbrev refuses_quorum : Membership → Result Effect Refused → Result Effect Refused
refuses_quorum m (Ok x) = cond (nat_le (progress_quorum m.f m.t) (length (gathered m x.kept))) (Err gathered_already) (Ok x)
refuses_quorum m (Err e) = Err e

abbrev pub gathers_too_few : Instead
gathers_too_few = of_hears (λ m k books packet r. refuses_quorum m r)

-- it keeps the rows of its view when it leaves that, and the lengths of their tags
abbrev pub keeps_rows : Instead
keeps_rows = of_leaves (λ k r. but (λ x. record x { kept = record x.kept { rows = k.rows; lengths = record x.kept.lengths { tags = k.lengths.tags } } }) r)

-- it drafts a commit once, and never again
abbrev pub commits_once : Instead
commits_once = of_hears (λ m k books packet r. but (λ x. cond (is_some k.committed && drafts_commit x.output) (silent x) x) r)

-- once it has decided, it drafts no prepare and no commit
abbrev pub silent_once_decided : Instead
silent_once_decided = of_hears (λ m k books packet r. but (λ x. cond (is_some k.decision) (silent x) x) r)

-- it gathers a new-view whose commit certificate is bad
abbrev gathers_if_new_view : Membership → Kept → Books → List ℕ → Refused → Result Content Malformed → Result Effect Refused
gathers_if_new_view m k books packet e (Ok (new_view x)) = Ok (gathering m k books x.head.site packet)
gathers_if_new_view m k books packet e (Ok (propose c tag xs)) = Err e
gathers_if_new_view m k books packet e (Ok (prepare c tag)) = Err e
gathers_if_new_view m k books packet e (Ok (commit c tag votes)) = Err e
gathers_if_new_view m k books packet e (Err x) = Err e

abbrev gathers_bad : Membership → Kept → Books → List ℕ → Result Effect Refused → Result Effect Refused
gathers_bad m k books packet (Ok x) = Ok x
gathers_bad m k books packet (Err e) = cond (e.number == 12) (gathers_if_new_view m k books packet e (message_of m.limit packet)) (Err e)

abbrev pub gathers_unchecked : Instead
gathers_unchecked = of_hears gathers_bad

-- ---- what they lose ----

-- the promise is false of each; the proof is a run of such sites in which chosen sites meet, and one of them is found without a
-- decision
pub record WrongSitesLose : Type 0 where
  pub refusing_all : ChosenRecoverBy (doing refuses_all) → ⊥
  pub drafting_nothing : ChosenRecoverBy (doing drafts_nothing) → ⊥
  pub gathering_too_few : ChosenRecoverBy (doing gathers_too_few) → ⊥
  pub keeping_rows : ChosenRecoverBy (doing keeps_rows) → ⊥
  pub committing_once : ChosenRecoverBy (doing commits_once) → ⊥
  pub falling_silent : ChosenRecoverBy (doing silent_once_decided) → ⊥
  pub gathering_unchecked : ChosenRecoverBy (doing gathers_unchecked) → ⊥
