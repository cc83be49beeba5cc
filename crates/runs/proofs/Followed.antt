-- A run of calls is a run of moves: each call of a rule-following site is one move of the rules, a refused call one that changes
-- nothing.
use Rattle.std.proofs.Common.{◌≡◌, ℕ, zero, suc, ◌^◌, ◌<◌, true, List, [], ◌∷◌, ◌++◌, length, take, Some, None, Ok, Err, Option, Result, refl, sym, ap, ◌∙◌, subst, ◌⊎◌, inl, inr, arith, append_assoc, append-nil}
use Rattle.std.proofs.lemmas.Bool.{eq-eqb, ne_eqb, cases_eq}
use Rattle.values.specs.Fleets.{sites, legal_fleet}
use Rattle.values.specs.Refusals.{Refused}
use Rattle.wire.specs.declared.statement.Statement.{Statement}
use Rattle.wire.specs.Contents.{statement_bytes}
use Rattle.packets.specs.Fits.{StatementFits}
use Rattle.agreement.specs.Sites.{SiteSet}
use Rattle.agreement.specs.Statements.{Said, who, In, newest, Each, Of, Drafted}
use Rattle.agreement.specs.Moves.{Move, other, Moved, moves, start, Tests, vouched, step, more}
use Rattle.agreement.specs.Moves as moves
use Rattle.agreement.proofs.Agree.{each_map, each_both}
use Rattle.agreement.proofs.Grow.{split}
use Rattle.agreement.proofs.Keep.{nothing as no_log, draft_by, more_within}
use Rattle.certificates.specs.Steps.{Question, granted}
use Rattle.certificates.specs.Runs.{said_of, Meant}
use Rattle.records.specs.Kept.{Membership}
use Rattle.calls.specs.Effects.{draft, Effect}
use Rattle.calls.specs.Calls.{kept_after}
use Rattle.runs.specs.Runs.{Site, World, Event, result, questions, Drafts, left, next, after, Comes, HasDrafted, OfWords, Run}
use Rattle.runs.specs.Laws.{InForm}
use Rattle.runs.proofs.Drafted.{draft_is_in_out}
use Rattle.runs.proofs.Asked.{asked_in_form}
use Rattle.runs.proofs.Abstract.{abstract_of, abstract_fresh}
use Rattle.runs.proofs.Moves.{moves_to, empty_front, DraftedAs, begins_as}
use Rattle.runs.proofs.Standing.{member, Stands, result_as, questions_as, stands_next, opens}
use Rattle.runs.proofs.Lists.{after_append, each_of, comes_further, comes_nowhere, comes_more}

-- ---- where what is drafted comes from ----

module _ (w : World) where
  -- among these calls is one that drafts x, at the site whose number x bears
  pub record Origin (past : List Event) (x : Said) : Type 0 where
    pub before : List Event
    pub call : Event
    pub comes : Comes past before call
    pub by : call.site ≡ who x
    pub effect : Effect
    pub done : result (after w before) call ≡ Ok effect
    pub said : Statement
    pub attached : List ℕ
    pub output : effect.output ≡ draft said attached
    pub fits : StatementFits said
    pub is : said_of said ≡ x

  -- it is there among more calls
  origin_further : (past more : List Event) (x : Said) → Origin past x → Origin (past ++ more) x
  origin_further past more x o =
      record {
        before = o.before;
        call = o.call;
        comes = comes_further past o.before more o.call o.comes;
        by = o.by;
        effect = o.effect;
        done = o.done;
        said = o.said;
        attached = o.attached;
        output = o.output;
        fits = o.fits;
        is = o.is;
      }

  -- what the last call drafts
  last_origin : (past : List Event) (e : Event) (x : Effect) (o : Option Said) (y : Said) → result (after w past) e ≡ Ok x → DraftedAs x.output o → Of (λ z. who z ≡ e.site) o → o ≡ Some y
      → Origin (past ++ (e ∷ [])) y
  last_origin past e x o y h d own is = made (subst (DraftedAs x.output) is d) (subst (Of (λ (z : Said). who z ≡ e.site)) is own)
    where
      made : DraftedAs x.output (Some y) → who y ≡ e.site → Origin (past ++ (e ∷ [])) y
      made p q =
          record {
            before = past;
            call = e;
            comes = ([], refl);
            by = sym q;
            effect = x;
            done = h;
            said = p.0;
            attached = p.1;
            output = p.2;
            fits = p.3;
            is = p.4;
          }

in_more : (o : Option Said) (log : List Said) (x : Said) → In x (more o log) → (o ≡ Some x) ⊎ In x log
in_more None log x h = inr h
in_more (Some y) log x h = elim (split h) [ inl p ↦ inl (ap Some (sym p)) | inr q ↦ inr q ]

not_some : {P : Type 0} (x : Said) → ◌≡◌ {A = Option Said} None (Some x) → P
not_some x e = absurd (let z : ◌≡◌ {A = ℕ} 0 1 = cc in omega arith)

-- ---- one call ----

module _ (f t limit round : ℕ) (good : SiteSet) (w : World) (es : List Event) (run : Run f t limit round good w es) where
  -- the sites behind the calls past, and the rules' sites at that moment
  pub record Follows (past : List Event) (a : moves.World) : Type 0 where
    pub stands : (i : ℕ) → good i ≡ true → Stands f t limit round i (after w past i)
    pub alike : (i : ℕ) → good i ≡ true → a.at i ≡ abstract_of (after w past i).kept
    pub log : (i : ℕ) (s : Statement) → StatementFits s → HasDrafted w past i (statement_bytes s) → In (said_of s) a.log
    pub drafted : (x : Said) → In x a.log → Origin w past x

  good_at : (past : List Event) (e : Event) → Comes es past e → good e.site ≡ true
  good_at past e c = each_of (λ (x : Event). good x.site ≡ true) es past e c run.theirs

  words_at : (past : List Event) (e : Event) → Comes es past e → OfWords e.request
  words_at past e c = each_of (λ (x : Event). OfWords x.request) es past e c run.of_words

  module _ (past : List Event) (e : Event) (c : Comes es past e) (a : moves.World) (now : Follows past a) where
    abbrev i : ℕ
    i = e.site

    abbrev world : World
    world = after w past

    abbrev s : Site
    s = world i

    standing : Stands f t limit round i s
    standing = now.stands i (good_at past e c)

    -- what the call asks about
    pub in_form : Each (InForm (sites f t) round) (questions world e)
    in_form =
        let legal : legal_fleet s.member.f s.member.t ≡ true = subst (λ (m : Membership). legal_fleet m.f m.t ≡ true) (sym standing.member_is) standing.sound.fleet in
        let low : s.kept.round < 2 ^ 32 = subst (λ (n : ℕ). n < 2 ^ 32) (sym standing.round_is) run.round_is in
        subst (λ (n : ℕ). Each (InForm (sites f t) n) (questions world e)) standing.round_is
        (subst (λ (m : Membership). Each (InForm (sites m.f m.t) s.kept.round) (questions world e)) standing.member_is
        (asked_in_form world e standing.behaves legal low standing.view_low standing.views (words_at past e c)))

    -- what a yes of the call stood for
    pub meant : Meant good a.log e.check (questions world e)
    meant =
        let Form : Question → Type 0 = InForm (sites f t) round in
        let Unforged : Question → Type 0 = λ q. granted e.check q ≡ true → good q.site ≡ true → HasDrafted w past q.site (statement_bytes q.said) in
        each_map (λ (q : Question). Form q × Unforged q) (λ (q : Question). granted e.check q ≡ true → good q.site ≡ true → In (said_of q.said) a.log) (questions world e)
        (λ q p yes g. now.log q.site q.said p.0.fits (p.1 yes g))
        (each_both Form Unforged (questions world e) in_form (run.unforged past e c))

    -- the call is a move
    record OneMove (r : Result Effect Refused) : Type 0 where
      move : Move
      tests : Tests f t (a.at i) move
      vouched_for : Drafted good a.log (vouched f t (a.at i) move)
      steps : abstract_of (kept_after s.kept r) ≡ step f t (a.at i) move
      drafts : (x : Statement) → StatementFits x → Drafts world e (statement_bytes x) → moves.draft f t i (a.at i) move ≡ Some (said_of x)
      drafted : (x : Said) → moves.draft f t i (a.at i) move ≡ Some x → Origin w (past ++ (e ∷ [])) x

    one_move : OneMove (result world e)
    one_move = by_result (result world e) refl
      where
        alike : a.at i ≡ abstract_of s.kept
        alike = now.alike i (good_at past e c)

        by_result : (r : Result Effect Refused) → result world e ≡ r → OneMove r
        by_result (Err x) h =
            record {
              move = other;
              tests = tt;
              vouched_for = tt;
              steps = sym alike;
              drafts = λ y fits d. empty_front y d.0 (sym (rw h) ∙ d.1);
              drafted = λ y q. not_some y q;
            }
        by_result (Ok x) h =
            let m = member f t limit round i in
            let done = sym (result_as f t limit round world e standing) ∙ h in
            let asked = subst (Meant good a.log e.check) (questions_as f t limit round world e standing) meant in
            let low : s.kept.round < 2 ^ 32 = subst (λ (n : ℕ). n < 2 ^ 32) (sym standing.round_is) run.round_is in
            let g = moves_to e.check good a.log m s.kept s.books standing.sound.fleet standing.inside low standing.view_low standing.sound standing.reports (length e.out) e.request x standing.views (words_at past e c) done asked in
            record {
              move = g.move;
              tests = rw alike g.tests;
              vouched_for = rw alike g.vouched_for;
              steps = rw alike g.steps;
              drafts = λ y fits d. rw alike (begins_as x.output (moves.draft f t i (abstract_of s.kept) g.move) g.drafts y d.0 fits (sym (draft_is_in_out world e x standing.behaves h) ∙ d.1));
              drafted = λ y q. last_origin w past e x (moves.draft f t i (abstract_of s.kept) g.move) y h g.drafts
                  (draft_by f t good (λ (k : ℕ). k ≡ i) i (abstract_of s.kept) g.move refl) (ap (λ (z : moves.Site). moves.draft f t i z g.move) (sym alike) ∙ q);
            }

    -- the sites behind it
    behind : after w (past ++ (e ∷ [])) ≡ next world e
    behind = after_append w past (e ∷ [])

    own_next : (k : ℕ) → k ≡ i → after w (past ++ (e ∷ [])) k ≡ left world e
    own_next k q = ap (λ (z : World). z k) behind ∙ rw (eq-eqb k i q)

    other_next : (k : ℕ) → (k ≡ i → ⊥) → after w (past ++ (e ∷ [])) k ≡ world k
    other_next k ne = ap (λ (z : World). z k) behind ∙ rw (ne_eqb k i ne)

    follows_next : (m : OneMove (result world e)) → Follows (past ++ (e ∷ [])) (moves.next f t a i m.move)
    follows_next m =
        record {
          stands = λ k g. elim (cases_eq k i) [
            | inl q ↦ subst (Stands f t limit round k) (sym (own_next k q))
                (subst (λ (n : ℕ). Stands f t limit round n (left world e)) (sym q) (stands_next f t limit round world e (words_at past e c) standing))
            | inr ne ↦ subst (Stands f t limit round k) (sym (other_next k ne)) (now.stands k g)
          ];
          alike = λ k g. elim (cases_eq k i) [
            | inl q ↦ rw (eq-eqb k i q) (sym m.steps ∙ ap (λ (z : Site). abstract_of z.kept) (sym (own_next k q)))
            | inr ne ↦ rw (ne_eqb k i ne) (now.alike k g ∙ ap (λ (z : Site). abstract_of z.kept) (sym (other_next k ne)))
          ];
          log = λ k x fits h. elim (comes_more past h.0 h.1 e h.2) [
            | inl q ↦
                let here : Drafts world e (statement_bytes x) = subst (λ (z : Event). Drafts world z (statement_bytes x)) q.1 (subst (λ (z : List Event). Drafts (after w z) h.1 (statement_bytes x)) q.0 h.4) in
                subst (λ (o : Option Said). In (said_of x) (more o a.log)) (sym (m.drafts x fits here)) newest
            | inr old ↦ more_within f t good (moves.draft f t i (a.at i) m.move) a.log (said_of x) (now.log k x fits (h.0, h.1, old, h.3, h.4))
          ];
          drafted = λ x h. elim (in_more (moves.draft f t i (a.at i) m.move) a.log x h) [
            | inl q ↦ m.drafted x q
            | inr old ↦ origin_further w past (e ∷ []) x (now.drafted x old)
          ];
        }

  -- ---- all calls ----

  -- the moves of the calls that are left, and how they are followed
  pub record Followed (past rest : List Event) (a : moves.World) : Type 0 where
    pub made : List Moved
    pub is_run : moves.Run f t good a made
    pub follows : (n : ℕ) → Follows (past ++ take n rest) (moves.after f t a (take n made))

  none_left : (past : List Event) (a : moves.World) → Follows past a → (n : ℕ) → Follows (past ++ take n []) (moves.after f t a (take n []))
  none_left past a now zero = subst (λ (z : List Event). Follows z a) (sym (append-nil past)) now
  none_left past a now (suc n) = subst (λ (z : List Event). Follows z a) (sym (append-nil past)) now

  one_before : (past : List Event) (e : Event) (rest : List Event) (a : moves.World) (i : ℕ) (m : Move) (made : List Moved) → Follows past a
      → ((n : ℕ) → Follows ((past ++ (e ∷ [])) ++ take n rest) (moves.after f t (moves.next f t a i m) (take n made)))
      → (n : ℕ) → Follows (past ++ take n (e ∷ rest)) (moves.after f t a (take n (moves i m ∷ made)))
  one_before past e rest a i m made now later zero = subst (λ (z : List Event). Follows z a) (sym (append-nil past)) now
  one_before past e rest a i m made now later (suc n) =
      subst (λ (z : List Event). Follows z (moves.after f t (moves.next f t a i m) (take n made))) (append_assoc past (e ∷ []) (take n rest)) (later n)

  followed : (past rest : List Event) (a : moves.World) → es ≡ past ++ rest → Follows past a → Followed past rest a
  followed past [] a whole now = record { made = []; is_run = tt; follows = none_left past a now }
  followed past (e ∷ rest) a whole now =
      let c : Comes es past e = (rest, whole) in
      let m = one_move past e c a now in
      let on : past ++ (e ∷ rest) ≡ (past ++ (e ∷ [])) ++ rest = sym (append_assoc past (e ∷ []) rest) in
      let later = followed (past ++ (e ∷ [])) rest (moves.next f t a e.site m.move) (whole ∙ on) (follows_next past e c a now m) in
      record {
        made = moves e.site m.move ∷ later.made;
        is_run = (good_at past e c, m.tests, m.vouched_for, later.is_run);
        follows = one_before past e rest a e.site m.move later.made now later.follows;
      }

  -- at the start
  follows_start : Follows [] start
  follows_start =
      record {
        stands = λ i g. (opens f t limit round i (w i) (run.behave i g) (run.opened i g) (run.books i g).2).0;
        alike = λ i g. sym (ap abstract_of (opens f t limit round i (w i) (run.behave i g) (run.opened i g) (run.books i g).2).1 ∙ abstract_fresh round);
        log = λ i x fits h. absurd (comes_nowhere h.0 h.1 h.2);
        drafted = λ x h. absurd (no_log h);
      }

  pub as_moves : Followed [] es start
  as_moves = followed [] es start refl follows_start
