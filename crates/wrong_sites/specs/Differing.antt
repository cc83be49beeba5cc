-- Five wrong rules: if the sites that should follow the rules behave by one of these, two decisions can differ.
use Rattle.std.specs.Prelude.{◌+◌, Bool, true, false, [], None, Ok, Err, Result, nat_le}
use Rattle.values.specs.declared.fix.Value.{Value}
use Rattle.values.specs.Fleets.{fast_quorum, recovery_quorum}
use Rattle.wire.specs.declared.words.Malformed.{Malformed}
use Rattle.wire.specs.Contents.{Content, propose, prepare, commit, new_view}
use Rattle.wire.specs.Layout.{message_of}
use Rattle.records.specs.Kept.{Membership, Kept, fast, recovery}
use Rattle.calls.specs.Effects.{holding, settle, Effect}
use Rattle.calls.specs.Calls.{performed}
use Rattle.runs.specs.Runs.{Behaviour}
use Rattle.runs.specs.Promises.{DecisionsAgreeBy}
use Rattle.wrong_sites.specs.Behaving.{Instead, doing, of_hears, of_leaves, but}

-- ---- the wrong rules ----

-- it never asks its check, and takes all for vouched for; so that nothing is forged says nothing of it
abbrev pub never_asks : Behaviour
never_asks = record { performs = λ v m k books out r. performed (λ site said tag. true) m k books out r; asks = λ v m k books out r. [] }

-- What a hear that was not refused leaves, if it decides by another test on the rows: a test of prepares, and one of commits. What it
-- drafts and answers stays as by the rules.
module _ (by_prepares by_commits : Membership → Effect → Value → Bool) where
  abbrev decides_if : Membership → Kept → Result Content Malformed → Effect → Effect
  decides_if m k (Ok (prepare c tag)) x =
      record x { kept = record x.kept { decision = settle x.kept.decision (by_prepares m x c.value) (record { report = record { view = k.view; value = c.value }; way = fast }) } }
  decides_if m k (Ok (commit c tag votes)) x =
      record x { kept = record x.kept { decision = settle x.kept.decision (by_commits m x c.value) (record { report = record { view = k.view; value = c.value }; way = recovery }) } }
  decides_if m k (Ok (propose c tag xs)) x = x
  decides_if m k (Ok (new_view t)) x = x
  decides_if m k (Err e) x = x

  abbrev deciding : Instead
  deciding = of_hears (λ m k books packet r. but (decides_if m k (message_of m.limit packet)) r)

-- the first prepare that is heard decides
abbrev pub first_prepare_decides : Instead
first_prepare_decides = deciding (λ m x d. true) (λ m x d. false)

-- one prepare less than a fast quorum decides
abbrev pub fewer_prepares_decide : Instead
fewer_prepares_decide = deciding (λ m x d. nat_le (fast_quorum m.f m.t) (holding m x.kept.rows.prepares d + 1)) (λ m x d. false)

-- one commit less than a recovery quorum decides
abbrev pub fewer_commits_decide : Instead
fewer_commits_decide = deciding (λ m x d. false) (λ m x d. nat_le (recovery_quorum m.f m.t) (holding m x.kept.rows.commits d + 1))

-- it tells once what it last prepared, and forgets it when it leaves
abbrev pub forgets_prepare : Instead
forgets_prepare = of_leaves (λ k r. but (λ x. record x { kept = record x.kept { prepared = None } }) r)

-- ---- what they break ----

-- for each there is a run of such sites in which read gives two fixes
pub record WrongRulesDiffer : Type 0 where
  pub never_asking : DecisionsAgreeBy never_asks → ⊥
  pub first_prepare : DecisionsAgreeBy (doing first_prepare_decides) → ⊥
  pub fewer_prepares : DecisionsAgreeBy (doing fewer_prepares_decide) → ⊥
  pub fewer_commits : DecisionsAgreeBy (doing fewer_commits_decide) → ⊥
  pub forgetting : DecisionsAgreeBy (doing forgets_prepare) → ⊥
