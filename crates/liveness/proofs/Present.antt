-- What is known of the sites when so many calls of a run are made, and of the call that is made then.
use Rattle.std.proofs.Common.{◌≡◌, ℕ, suc, ◌^◌, ◌<◌, ◌≤◌, true, List, ◌++◌, length, take, drop, Some, None, Ok, Err, Option, Result, refl, sym, ap, ◌∙◌, subst, arith, take-take, take-append-drop}
use Rattle.std.proofs.lemmas.Bool.{eq-eqb}
use Rattle.std.proofs.lemmas.List.{append_cancel_left}
use Rattle.values.specs.Refusals.{Refused}
use Rattle.wire.specs.declared.statement.Statement.{Statement}
use Rattle.wire.specs.declared.statement.Statement.TheVariants.{Propose, Prepare, Commit, NewView}
use Rattle.wire.specs.Contents.{kind_of, statement_bytes}
use Rattle.packets.specs.Fits.{StatementFits}
use Rattle.packets.proofs.Back.{fronts_apart}
use Rattle.agreement.specs.Sites.{SiteSet}
use Rattle.agreement.specs.Statements.{Said, In, Each, who}
use Rattle.agreement.proofs.Agree.{each_split}
use Rattle.agreement.specs.Moves as moves
use Rattle.agreement.proofs.Grow.{kind, when}
use Rattle.agreement.proofs.Chosen.{GoodRun}
use Rattle.certificates.specs.Steps.{Question}
use Rattle.certificates.specs.Runs.{said_of}
use Rattle.records.specs.Kept.{Membership, fresh}
use Rattle.calls.specs.Effects.{Output, draft, drafted as drafted_of, Effect, head_of}
use Rattle.calls.proofs.Laws.{drafts_bear_the_own_number}
use Rattle.calls.specs.Calls.{Request, performed, asks}
use Rattle.calls.specs.Laws.{Standing, standing, opened, KeepsTo, KeepsToCalls, Room}
use Rattle.runs.specs.Runs.{Site, World, Event, result, questions, draft_left, after, Comes, OfWords, Run}
use Rattle.runs.specs.Laws.{draft_of}
use Rattle.liveness.specs.Recovery.{At, Accord, CallOf, Roomy, Drafting}
use Rattle.runs.proofs.Abstract.{abstract_of}
use Rattle.runs.proofs.Drafted.{draft_is_in_out}
use Rattle.runs.proofs.Moves.{moves_to, empty_front, DraftedAs}
use Rattle.runs.proofs.Standing.{member, Stands, result_as, questions_as, opens}
use Rattle.runs.proofs.Lists.{each_of}
use Rattle.runs.proofs.Followed.{Follows, as_moves}
use Rattle.liveness.proofs.Own.{own, site_of, own_standing, own_keeps}
use Rattle.liveness.proofs.Moments.{at_comes, comes_at, comes_take, at_take, at_in_take, next_moment}
use Rattle.runs.proofs.Agreed.{made, is_run, told}

same_statement : (r s : Statement) (a b : List ℕ) → draft r a ≡ draft s b → r ≡ s
same_statement r s a b e = cc

-- the only fitting statement that a draft begins with is its own
exactly : (o : Output) (y : Option Said) (s : Statement) (attached : List ℕ) → DraftedAs o y → StatementFits s → draft_of o ≡ statement_bytes s ++ attached → o ≡ draft s attached
exactly o None s attached d fits e = empty_front s attached (sym d ∙ e)
exactly o (Some y) s attached d fits e =
    let written : statement_bytes d.0 ++ d.1 ≡ statement_bytes s ++ attached = sym (ap draft_of d.2) ∙ e in
    let same : d.0 ≡ s = fronts_apart d.0 s d.1 attached d.3 fits written in
    let rest : d.1 ≡ attached = append_cancel_left (statement_bytes s) d.1 attached (ap (λ (z : Statement). statement_bytes z ++ d.1) (sym same) ∙ written) in
    d.2 ∙ ap (λ (z : Statement). draft z d.1) same ∙ ap (draft s) rest

fits_there : (o : Output) (y : Option Said) (s : Statement) (attached : List ℕ) → DraftedAs o y → o ≡ draft s attached → StatementFits s
fits_there o None s attached d e = empty_front s attached (sym d ∙ ap draft_of e)
fits_there o (Some y) s attached d e = subst StatementFits (same_statement d.0 s d.1 attached (sym d.2 ∙ e)) d.3

module _ {f t limit round : ℕ} {good : SiteSet} {w : World} {es : List Event} (run : Run f t limit round good w es) where
  -- a site when p calls are made, and the rules' sites then
  abbrev pub site : ℕ → ℕ → Site
  site p i = after w (take p es) i

  abbrev pub rules : ℕ → moves.World
  rules p = moves.world_at f t (made f t limit round good w es run) p

  pub there : (p : ℕ) → Follows f t limit round good w es run (take p es) (rules p)
  there p = (as_moves f t limit round good w es run).follows p

  pub stands : (p i : ℕ) → good i ≡ true → Stands f t limit round i (site p i)
  stands p i g = (there p).stands i g

  -- one of the rules' sites, and what is drafted
  abbrev pub rule : ℕ → ℕ → moves.Site
  rule p i = (rules p).at i

  abbrev pub log : ℕ → List Said
  log p = (rules p).log

  pub alike : (p i : ℕ) → good i ≡ true → rule p i ≡ abstract_of (site p i).kept
  alike p i g = (there p).alike i g

  pub good_run : GoodRun f t good (made f t limit round good w es run)
  good_run = record { few = run.few; is_run = is_run f t limit round good w es run }

  -- what call number p comes to
  abbrev outcome : ℕ → Event → Result Effect Refused
  outcome p e = result (after w (take p es)) e

  -- what it comes to, and asks, if it is one of site i with this request
  abbrev pub performs : ℕ → ℕ → Event → Request → Result Effect Refused
  performs p i e r = performed e.check (member f t limit round i) (site p i).kept (site p i).books (length e.out) r

  abbrev pub asks_then : ℕ → ℕ → Event → Request → List Question
  asks_then p i e r = asks e.check (member f t limit round i) (site p i).kept (site p i).books (length e.out) r

  -- what site i is after a call with this effect
  abbrev pub with_effect : ℕ → ℕ → Effect → Site
  with_effect p i x = record { behaviour = (site p i).behaviour; member = (site p i).member; kept = x.kept; books = x.books }

  -- e, call number p and one of site i, is not refused, and writes this
  pub record Drafted (p : ℕ) (e : Event) (i : ℕ) (s : Statement) (attached : List ℕ) : Type 0 where
    pub effect : Effect
    pub done : performs p i e e.request ≡ Ok effect
    pub output : effect.output ≡ draft s attached

  -- ---- one call ----

  module _ (p : ℕ) (e : Event) (at : At es p e) where
    comes : Comes es (take p es) e
    comes = at_comes es p e at

    pub good_there : good e.site ≡ true
    good_there = each_of (λ (x : Event). good x.site ≡ true) es (take p es) e comes run.theirs

    pub words_there : OfWords e.request
    words_there = each_of (λ (x : Event). OfWords x.request) es (take p es) e comes run.of_words

    -- what it comes to, by the site's membership
    pub comes_to : outcome p e ≡ performs p e.site e e.request
    comes_to = result_as f t limit round (after w (take p es)) e (stands p e.site good_there)

    asks_of : questions (after w (take p es)) e ≡ asks_then p e.site e e.request
    asks_of = questions_as f t limit round (after w (take p es)) e (stands p e.site good_there)

    -- what it leaves
    left_there : (x : Effect) → outcome p e ≡ Ok x → site (suc p) e.site ≡ with_effect p e.site x
    left_there x h = ap (λ (z : World). z e.site) (next_moment w es p e at) ∙ rw (eq-eqb e.site e.site refl, h) refl

    -- what it writes is what a move drafts
    as_move : (x : Effect) → outcome p e ≡ Ok x → (y : Option Said) × DraftedAs x.output y
    as_move x h =
        let z = site p e.site in
        let s = stands p e.site good_there in
        let low : z.kept.round < 2 ^ 32 = subst (λ (n : ℕ). n < 2 ^ 32) (sym s.round_is) run.round_is in
        let asked = told f t limit round good w es run (take p es) e comes in
        let g = moves_to e.check good (log (length (take p es))) (member f t limit round e.site) z.kept z.books s.sound.fleet s.inside low s.view_low s.sound s.reports
        (length e.out) e.request x s.views words_there (sym comes_to ∙ h) asked in
        (_, g.drafts)

    -- the statement that it writes fits its words
    writes_fit : (x : Effect) (s : Statement) (attached : List ℕ) → outcome p e ≡ Ok x → x.output ≡ draft s attached → StatementFits s
    writes_fit x s attached h o = let y = as_move x h in fits_there x.output y.0 s attached y.1 o

    -- the draft in its out is the one that it writes
    drafts_exactly : (x : Effect) (s : Statement) (attached : List ℕ) → outcome p e ≡ Ok x → StatementFits s → draft_left (after w (take p es)) e ≡ statement_bytes s ++ attached
        → x.output ≡ draft s attached
    drafts_exactly x s attached h fits d =
        let y = as_move x h in
        exactly x.output y.0 s attached y.1 fits (sym (draft_is_in_out (after w (take p es)) e x (stands p e.site good_there).behaves h) ∙ d)

    -- a call that leaves a draft in its out has written it
    pub drafted_there : (s : Statement) (attached : List ℕ) → StatementFits s → draft_left (after w (take p es)) e ≡ statement_bytes s ++ attached → Drafted p e e.site s attached
    drafted_there s attached fits d = by_result (outcome p e) refl
      where
        by_result : (r : Result Effect Refused) → outcome p e ≡ r → Drafted p e e.site s attached
        by_result (Err x) h = empty_front s attached (sym (rw h) ∙ d)
        by_result (Ok x) h = record { effect = x; done = sym comes_to ∙ h; output = drafts_exactly x s attached h fits d }

  -- ---- a call of a site ----

  module _ {p i : ℕ} {r : Request} (c : CallOf w es p i r) where
    -- what it comes to
    pub call_as : outcome p c.call ≡ performs p i c.call r
    call_as =
        let e = c.call in
        subst (λ (n : ℕ). outcome p e ≡ performs p n e r) c.by (subst (λ (a : Request). outcome p e ≡ performs p e.site e a) c.request (comes_to p e c.at))

    -- what it asks
    pub asks_as : questions (after w (take p es)) c.call ≡ asks_then p i c.call r
    asks_as =
        let e = c.call in
        let asked = questions (after w (take p es)) e in
        subst (λ (n : ℕ). asked ≡ asks_then p n e r) c.by (subst (λ (a : Request). asked ≡ asks_then p e.site e a) c.request (asks_of p e c.at))

    -- and what it leaves
    pub left_as : (x : Effect) → outcome p c.call ≡ Ok x → site (suc p) i ≡ with_effect p i x
    left_as x h = subst (λ (n : ℕ). site (suc p) n ≡ with_effect p n x) c.by (left_there p c.call c.at x h)

    -- what it is lent is long enough
    pub room_as : Roomy w es p c.call → Room (member f t limit round i) (site p i).books (length c.call.out)
    room_as h =
        let member_is = (stands p c.call.site (good_there p c.call c.at)).member_is in
        subst (λ (n : ℕ). Room (member f t limit round i) (site p n).books (length c.call.out)) c.by
        (subst (λ (m : Membership). Room m (site p c.call.site).books (length c.call.out)) (member_is ∙ ap (member f t limit round) c.by) h)

    -- a statement that it writes is drafted
    pub drafting_as : (x : Effect) (s : Statement) (attached : List ℕ) → outcome p c.call ≡ Ok x → x.output ≡ draft s attached → Drafting w es (kind_of s) (head_of s).view i p
    drafting_as x s attached h o =
        record {
          call = c.call;
          at = c.at;
          by = c.by;
          said = s;
          attached = attached;
          draft = draft_is_in_out (after w (take p es)) c.call x (stands p c.call.site (good_there p c.call c.at)).behaves h ∙ ap draft_of o;
          fits = writes_fit p c.call c.at x s attached h o;
          kind_is = refl;
          view_is = refl;
        }

  -- ---- drafts ----

  module _ {kind view i p : ℕ} (d : Drafting w es kind view i p) where
    -- its call writes it
    pub drafted : Drafted p d.call i d.said d.attached
    drafted = subst (λ (n : ℕ). Drafted p d.call n d.said d.attached) d.by (drafted_there p d.call d.at d.said d.attached d.fits d.draft)

    -- it bears the number of its site
    pub draft_site : (head_of d.said).site ≡ i
    draft_site =
        let e = d.call in
        (drafts_bear_the_own_number e.check (member f t limit round i) (site p i).kept (site p i).books (length e.out) e.request drafted.effect d.said drafted.done (ap drafted_of drafted.output)).0

    -- it is in the rules' log then
    pub logged : In (said_of d.said) (log (suc p))
    logged =
        let e = d.call in
        let within = at_comes (take (suc p) es) p e (at_in_take es (suc p) p e d.at (omega arith)) in
        let front : take p (take (suc p) es) ≡ take p es = take-take p (suc p) es (omega arith) in
        (there (suc p)).log e.site d.said d.fits (take p es, e, subst (λ (z : List Event). Comes (take (suc p) es) z e) front within, refl, (d.attached, d.draft))

  -- a statement in the rules' log has been drafted
  pub record Logged (x : Said) (p : ℕ) : Type 0 where
    pub at : ℕ
    pub early : at < p
    pub drafting : Drafting w es (kind x) (when x) (who x) at
    pub is : said_of drafting.said ≡ x

  kinds : (s : Statement) → kind_of s ≡ kind (said_of s)
  kinds (Propose c) = refl
  kinds (Prepare c) = refl
  kinds (Commit c) = refl
  kinds (NewView c) = refl

  views : (s : Statement) → (head_of s).view ≡ when (said_of s)
  views (Propose c) = refl
  views (Prepare c) = refl
  views (Commit c) = refl
  views (NewView c) = refl

  pub from_log : (p : ℕ) (x : Said) → In x (log p) → Logged x p
  from_log p x h =
      let o = (there p).drafted x h in
      let at = at_take es p (length o.before) o.call (comes_at (take p es) o.before o.call o.comes) in
      let low = at.1 in
      let front : o.before ≡ take (length o.before) es = sym (comes_take (take p es) o.before o.call o.comes) ∙ take-take (length o.before) p es (omega arith) in
      let done = subst (λ (z : List Event). result (after w z) o.call ≡ Ok o.effect) front o.done in
      record {
        at = length o.before;
        early = low;
        drafting =
            record {
              call = o.call;
              at = at.0;
              by = o.by;
              said = o.said;
              attached = o.attached;
              draft = draft_is_in_out (after w (take (length o.before) es)) o.call o.effect (stands (length o.before) o.call.site (good_there (length o.before) o.call at.0)).behaves done ∙ ap draft_of o.output;
              fits = o.fits;
              kind_is = kinds o.said ∙ ap kind o.is;
              view_is = views o.said ∙ ap when o.is;
            };
        is = o.is;
      }

  -- what the first calls hear is bytes
  pub words_past : (p : ℕ) → Each (λ (e : Event). OfWords e.request) (take p es)
  words_past p = (each_split (λ (e : Event). OfWords e.request) (take p es) (drop p es) (subst (Each (λ (e : Event). OfWords e.request)) (sym (take-append-drop p es)) run.of_words)).0

  -- ---- one site and its own calls ----

  module _ (i : ℕ) (g : good i ≡ true) where
    first : Stands f t limit round i (w i) × ((w i).kept ≡ fresh round)
    first = opens f t limit round i (w i) (run.behave i g) (run.opened i g) (run.books i g).2

    abbrev stood : ℕ → Standing
    stood p = standing (member f t limit round i) round (w i).books (own i (take p es))

    -- the site stands as its own calls leave it
    pub by_own_calls : (p : ℕ) → site p i ≡ site_of (member f t limit round i) (stood p)
    by_own_calls p =
        subst (λ (m : Membership). site p i ≡ site_of m (standing m round (w i).books (own i (take p es)))) first.0.member_is
        (own_standing w i round first.0.behaves first.1 (take p es))

    -- a later check says yes to whatever they were told yes
    pub keeps_to_own : Accord w es → (p q : ℕ) (later : Event) → p ≤ q → At es q later → KeepsToCalls later.check (member f t limit round i) (opened round (w i).books) (own i (take p es))
    keeps_to_own accord p q later l at =
        subst (λ (m : Membership). KeepsToCalls later.check m (opened round (w i).books) (own i (take p es))) first.0.member_is
        (own_keeps w i round first.0.behaves first.1 later.check (take p es) (λ past e c by. keeps past e c))
      where
        keeps : (past : List Event) (e : Event) → Comes (take p es) past e → KeepsTo later.check e.check (questions (after w past) e)
        keeps past e c =
            let there = at_take es p (length past) e (comes_at (take p es) past e c) in
            let low = there.1 in
            let front : take (length past) es ≡ past = sym (take-take (length past) p es (omega arith)) ∙ comes_take (take p es) past e c in
            subst (λ (z : List Event). KeepsTo later.check e.check (questions (after w z) e)) front
            (accord (length past) q e later there.0 at (omega arith))
