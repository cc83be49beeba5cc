-- What a meeting asks of calls, tested on the lines of a script.
use Rattle.std.proofs.Common.{◌≡◌, ℕ, zero, suc, ◌≤◌, Bool, true, false, not, ◌&&◌, List, [], ◌∷◌, ◌++◌, length, take, drop, Ok, refl, sym, ap, ◌∙◌, subst, subst₂, inl, inr}
use Rattle.std.specs.Prelude.{◌==◌, nat_lt, nat_le}
use Rattle.std.specs.List.{list_all}
use Rattle.std.proofs.lemmas.Bool.{eqb-true, ltb-true, leb-true, eq-eqb, le-leb}
use Rattle.std.proofs.lemmas.List.{append_cancel_left}
use Rattle.values.specs.declared.fix.Value.{Value}
use Rattle.values.specs.Fixes.{legal_value}
use Rattle.wire.specs.declared.statement.Statement.{Statement}
use Rattle.wire.specs.Contents.{kind_of, statement_bytes, Content, statement_of, tag_of, attachment_bytes, message_bytes}
use Rattle.packets.specs.Fits.{StatementFits}
use Rattle.packets.proofs.Back.{fronts_apart}
use Rattle.checks.specs.Registers.{registered}
use Rattle.agreement.specs.Sites.{SiteSet}
use Rattle.records.specs.Kept.{Membership}
use Rattle.calls.specs.Effects.{Effect, head_of}
use Rattle.calls.specs.Calls.{to_propose, to_leave}
use Rattle.runs.specs.Runs.{Behaviour, World, Event, result, draft_left}
use Rattle.liveness.specs.Recovery.{CallOf, NotRefused, Roomy, Leaves, Enters, Stays, Drafting, Hears, HearsAll}
use Rattle.runs.specs.Happens.{opened_by}
use Rattle.liveness.specs.Scripts as scripts
use Rattle.liveness.specs.Scripts.{Outcome, drafts, quiet, refuses, Line, Script, call_of, calls, ComesTo}
use Rattle.runs.proofs.Moves.{empty_front}
use Rattle.runs.proofs.Watching.{draft_by}
use Rattle.liveness.proofs.Lines.{first_passes, first_is, member_kept, Passed, line_of, call_at, passes}
use Rattle.liveness.proofs.LineTests.{all_true, each_true, statement_fits, statement_so, not_so, all_below, some_below, below, one_below, implies, implied, of_draft, line_fits, is_hear, is_hear_so, leaves_for, leaves_for_so, leaves_any, proposes_legal, proposes_legal_so, passes_dropped}

-- ---- what a line drafts ----

-- the line of call number p is of site i, and says that it drafts this statement, and what that attaches
record Says (lines : List Line) (i p : ℕ) (s : Statement) (a : List ℕ) : Type 0 where
  line : Line
  rest : List Line
  is : drop p lines ≡ line ∷ rest
  by : line.site ≡ i
  message : Content
  outcome : line.outcome ≡ drafts message
  said : s ≡ statement_of message
  attached : a ≡ attachment_bytes message

-- a draft is what the line says
drafted_is : (w : World) (x : Event) (o : Outcome) (s : Statement) (a : List ℕ) → ComesTo w x o → of_draft true o (λ m. statement_fits (statement_of m)) ≡ true
    → StatementFits s → draft_left w x ≡ statement_bytes s ++ a → (m : Content) × (o ≡ drafts m) × (s ≡ statement_of m) × (a ≡ attachment_bytes m)
drafted_is w x (drafts m) s a c h fits e =
    let both = sym e ∙ c.2 in
    let same : s ≡ statement_of m = fronts_apart s (statement_of m) a (attachment_bytes m) fits (statement_so (statement_of m) h) both in
    let tails = subst (λ z. statement_bytes z ++ a ≡ statement_bytes (statement_of m) ++ attachment_bytes m) same both in
    (m, refl, same, append_cancel_left (statement_bytes (statement_of m)) a (attachment_bytes m) tails)
drafted_is w x quiet s a c h fits e = empty_front s a (sym c.2 ∙ e)
drafted_is w x (refuses r) s a c h fits e = empty_front s a (subst (λ z. draft_by x z ≡ statement_bytes s ++ a) c e)

abbrev accepts : Outcome → Bool
accepts (drafts m) = true
accepts quiet = true
accepts (refuses r) = false

not_refused : (w : World) (x : Event) (o : Outcome) → ComesTo w x o → accepts o ≡ true → (y : Effect) × (result w x ≡ Ok y)
not_refused w x (drafts m) c h = (c.0, c.1)
not_refused w x quiet c h = (c.0, c.1)
not_refused w x (refuses r) c h = not_so h

-- a draft of this kind in this view
abbrev says : ℕ → ℕ → Content → Bool
says kind view m = kind_of (statement_of m) == kind && (head_of (statement_of m)).view == view

module _ (s : Script) where
  -- site j hears this message as one of site i, its check vouches for the tag, and that is short enough
  abbrev hearing : ℕ → ℕ → Content → Line → List Bool
  hearing j i m l =
      (l.site == j) ∷ is_hear (message_bytes m) l.request ∷ nat_le (length (tag_of m)) 4 ∷ registered s.rows i (statement_bytes (statement_of m)) (tag_of m) ∷ []

  abbrev hears_it : ℕ → ℕ → Content → Line → Bool
  hears_it j i m l = all_true (hearing j i m l)

  abbrev hearing_at : ℕ → ℕ → ℕ → ℕ → Content → ℕ → List Bool
  hearing_at j i p low m q = nat_lt p q ∷ nat_le low q ∷ first_passes false (drop q s.lines) (hears_it j i m) ∷ []

  abbrev hears_at : ℕ → ℕ → ℕ → ℕ → Content → ℕ → Bool
  hears_at j i p low m q = all_true (hearing_at j i p low m q)

  -- if this line of site i drafts such a statement, then site j hears it after that, from the call number low on and before high
  abbrev heard_if_so : ℕ → ℕ → ℕ → ℕ → ℕ → ℕ → ℕ → Line → Bool
  heard_if_so kind view i j low high p l =
      implies (l.site == i) (of_draft true l.outcome (λ m. implies (says kind view m) (some_below high (hears_at j i p low m))))

  abbrev pub hears_all : ℕ → ℕ → ℕ → ℕ → ℕ → ℕ → ℕ → Bool
  hears_all kind view i n j low high = all_below n (λ p. first_passes true (drop p s.lines) (heard_if_so kind view i j low high p))

  abbrev pub stays : ℕ → ℕ → ℕ → Bool
  stays i low high = all_below high (λ p. implies (nat_le low p) (first_passes true (drop p s.lines) (λ l. not (l.site == i && leaves_any l.request))))

  abbrev leaving : ℕ → ℕ → Line → List Bool
  leaving i view l = (l.site == i) ∷ leaves_for view l.request ∷ accepts l.outcome ∷ []

  abbrev leaves_at : ℕ → ℕ → ℕ → Bool
  leaves_at p i view = first_passes false (drop p s.lines) (λ l. all_true (leaving i view l))

  abbrev proposing : ℕ → Line → List Bool
  proposing i l = (l.site == i) ∷ proposes_legal l.request ∷ []

  abbrev pub proposes_at : ℕ → ℕ → Bool
  proposes_at p i = first_passes false (drop p s.lines) (λ l. all_true (proposing i l))

  abbrev pub accepted_at : ℕ → Bool
  accepted_at p = first_passes false (drop p s.lines) (λ l. accepts l.outcome)

  -- with the last of so many calls the site leaves for the view, and is not refused; or this is the first view, and there are none
  abbrev pub enters : ℕ → ℕ → ℕ → Bool
  enters i view zero = view == 1
  enters i view (suc p) = leaves_at p i view

  module _ (rules : Behaviour) (good : SiteSet) (when : ℕ) (who : SiteSet) (passed : Passed rules good s when who) (fit : list_all line_fits s.lines ≡ true) where
    abbrev es : List Event
    es = calls s

    drafting_says : {kind view i p : ℕ} (d : Drafting (opened_by rules) es kind view i p) → Says s.lines i p d.said d.attached
    drafting_says {kind} {view} {i} {p} d =
        let l = line_of s p d.call d.at in
        let c = (passes s rules good when who passed p l.0 l.1 l.2).0 in
        let is = subst (λ x. draft_left (scripts.before rules s p) x ≡ statement_bytes d.said ++ d.attached) l.3 d.draft in
        let m = drafted_is (scripts.before rules s p) (call_of s l.0) l.0.outcome d.said d.attached c (passes_dropped line_fits s.lines p l.0 l.1 fit l.2) d.fits is in
        record { line = l.0; rest = l.1; is = l.2; by = sym (ap (λ (x : Event). x.site) l.3) ∙ d.by; message = m.0; outcome = m.1; said = m.2; attached = m.3 }

    hears_so : (j i q : ℕ) (m : Content) → first_passes false (drop q s.lines) (hears_it j i m) ≡ true → Hears (opened_by rules) es q j i (statement_of m) (attachment_bytes m)
    hears_so j i q m h =
        let l = first_is (drop q s.lines) (hears_it j i m) h in
        let a = each_true (hearing j i m l.0) l.3 in
        record {
          tag = tag_of m;
          short = subst (λ n. length (tag_of m) ≤ n) (sym (ap (λ (k : Membership). k.limit) (member_kept (opened_by rules) (take q es) j))) (leb-true (length (tag_of m)) 4 a.1.1.0);
          calls = record { call = call_of s l.0; at = call_at s q l.0 l.1 l.2; by = eqb-true l.0.site j a.0; request = is_hear_so (message_bytes m) l.0.request a.1.0 };
          roomy = (passes s rules good when who passed q l.0 l.1 l.2).1;
          vouched = a.1.1.1.0;
        }

    pub hears_all_so : (kind view i n j low high : ℕ) → hears_all kind view i n j low high ≡ true → HearsAll (opened_by rules) es kind view i n j low high
    hears_all_so kind view i n j low high h p early d =
        let x = drafting_says d in
        let m = x.message in
        let t = heard_if_so kind view i j low high p in
        let if_said = λ (m : Content). implies (says kind view m) (some_below high (hears_at j i p low m)) in
        let there = below n (λ p. first_passes true (drop p s.lines) (heard_if_so kind view i j low high p)) h p early in
        let k : t x.line ≡ true = subst (λ ls. first_passes true ls t ≡ true) x.is there in
        let told = implied (x.line.site == i) (of_draft true x.line.outcome if_said) k (eq-eqb x.line.site i x.by) in
        let so : if_said m ≡ true = subst (λ o. of_draft true o if_said ≡ true) x.outcome told in
        let kind_so : (kind_of (statement_of m) == kind) ≡ true = eq-eqb (kind_of (statement_of m)) kind (ap kind_of (sym x.said) ∙ d.kind_is) in
        let view_so : ((head_of (statement_of m)).view == view) ≡ true = eq-eqb (head_of (statement_of m)).view view (ap (λ (z : Statement). (head_of z).view) (sym x.said) ∙ d.view_is) in
        let both : says kind view m ≡ true = rw (kind_so, view_so) refl in
        let q = one_below high (hears_at j i p low m) (implied (says kind view m) (some_below high (hears_at j i p low m)) so both) in
        let a = each_true (hearing_at j i p low m q.0) q.2 in (
          q.0,
          ltb-true p q.0 a.0,
          leb-true low q.0 a.1.0,
          q.1,
          subst₂ (λ y a. Hears (opened_by rules) es q.0 j i y a) (sym x.said) (sym x.attached) (hears_so j i q.0 m a.1.1.0),
        )

    pub stays_so : (i low high : ℕ) → stays i low high ≡ true → Stays (opened_by rules) es i low high
    stays_so i low high h p view over under x =
        let l = line_of s p x.calls.call x.calls.at in
        let test = λ (l : Line). not (l.site == i && leaves_any l.request) in
        let k = below high (λ p. implies (nat_le low p) (first_passes true (drop p s.lines) test)) h p under in
        let there = implied (nat_le low p) (first_passes true (drop p s.lines) test) k (le-leb low p over) in
        let told : test l.0 ≡ true = subst (λ ls. first_passes true ls test ≡ true) l.2 there in
        let by : l.0.site ≡ i = sym (ap (λ (z : Event). z.site) l.3) ∙ x.calls.by in
        let request : l.0.request ≡ to_leave view = sym (ap (λ (z : Event). z.request) l.3) ∙ x.calls.request in
        not_so (rw (eq-eqb l.0.site i by, request) at told)

    leaves_so : (p i view : ℕ) → leaves_at p i view ≡ true → Leaves (opened_by rules) es p i view
    leaves_so p i view h =
        let l = first_is (drop p s.lines) (λ l. all_true (leaving i view l)) h in
        let a = each_true (leaving i view l.0) l.3 in
        record {
          calls = record { call = call_of s l.0; at = call_at s p l.0 l.1 l.2; by = eqb-true l.0.site i a.0; request = leaves_for_so view l.0.request a.1.0 };
          done = not_refused (scripts.before rules s p) (call_of s l.0) l.0.outcome (passes s rules good when who passed p l.0 l.1 l.2).0 a.1.1.0;
        }

    pub enters_so : (i view entered : ℕ) → enters i view entered ≡ true → Enters (opened_by rules) es i view entered
    enters_so i view zero h = inr (eqb-true view 1 h, refl)
    enters_so i view (suc p) h = inl (p, refl, leaves_so p i view h)

    -- a site is called to propose, with a legal fix, and is lent enough; maybe it is not refused
    pub record Proposing (p i : ℕ) : Type 0 where
      pub value : Value
      pub legal : legal_value value ≡ true
      pub calls : CallOf (opened_by rules) es p i (to_propose value)
      pub roomy : Roomy (opened_by rules) es p calls.call
      pub accepted : accepted_at p ≡ true → NotRefused (opened_by rules) es p calls.call

    pub proposes_so : (p i : ℕ) → proposes_at p i ≡ true → Proposing p i
    proposes_so p i h =
        let l = first_is (drop p s.lines) (λ l. all_true (proposing i l)) h in
        let a = each_true (proposing i l.0) l.3 in
        let x = proposes_legal_so l.0.request a.1.0 in
        let there = passes s rules good when who passed p l.0 l.1 l.2 in
        record {
          value = x.0;
          legal = x.1;
          calls = record { call = call_of s l.0; at = call_at s p l.0 l.1 l.2; by = eqb-true l.0.site i a.0; request = x.2 };
          roomy = there.1;
          accepted = λ k. not_refused (scripts.before rules s p) (call_of s l.0) l.0.outcome there.0 (subst (λ ls. first_passes false ls (λ (z : Line). accepts z.outcome) ≡ true) l.2 k);
        }
