-- What hearing leaves of rows and books.
use Rattle.std.proofs.Common.{◌≡◌, ◌≢◌, ℕ, ◌+◌, ◌*◌, ◌%◌, ◌≤◌, ◌<◌, Bool, true, false, cond, not, ◌&&◌, leb, ltb, eqb, List, [], ◌∷◌, ◌++◌, length, Some, None, Ok, Err, Option, Result, slice_index, sym, refl, ap, ◌∙◌, subst, arith, length-append, suc-mul}
use Rattle.std.specs.Prelude.{◌==◌, nat_lt}
use Rattle.std.proofs.lemmas.List.{get_or-set_same, get_or-set_other}
use Rattle.std.proofs.lemmas.Bool.{true≢false, false≢true, and_parts, eq-eqb, lt-ltb, leb-true, ltb-true, eqb-true}
use Rattle.values.specs.declared.fix.Value.{Value}
use Rattle.values.specs.declared.fix.Report.{Report}
use Rattle.values.specs.Fleets.{sites, recovery_quorum, progress_quorum, legal_fleet, leader_of, legal_limit}
use Rattle.values.specs.Fixes.{fix_of, legal}
use Rattle.values.specs.Refusals.{Refused, short, repeated, equivocation, gathered_already, not_forced}
use Rattle.verdicts.specs.Rule.{same, finding}
use Rattle.wire.specs.declared.words.Malformed.{Malformed}
use Rattle.wire.specs.declared.statement.Claim.{Claim}
use Rattle.wire.specs.declared.statement.Statement.{Statement}
use Rattle.wire.specs.declared.statement.Statement.TheVariants.{Propose, Prepare, Commit, NewView}
use Rattle.wire.specs.Contents.{report_bytes, statement_bytes, tag_bytes, Vote, vote_bytes, votes_bytes, Certified, reported, certified_bytes, Turn, change_of, Content, propose, prepare, commit, new_view, statement_of, tag_of}
use Rattle.wire.specs.Layout.{claim_at, change_at, tag_at, certified_at, votes_at, progress_at, turn_at, nothing_at, envelope_at, wholly, propose_of, prepare_of, commit_of, new_view_of, message_by, message_of}
use Rattle.wire.specs.Words.{bind, fault, word_at}
use Rattle.wire.proofs.Results.{bind_ok, ok_same}
use Rattle.wire.proofs.Lengths.{length-tag, tag_read_lem}
use Rattle.packets.specs.Fits.{VotesFit, CertifiedFits}
use Rattle.packets.proofs.Only.{opened, wholly_ok}
use Rattle.packets.proofs.Sealed.{err_not_ok}
use Rattle.packets.proofs.Whole.{message_only}
use Rattle.checks.specs.Vouching.{Vouched}
use Rattle.certificates.specs.Steps.{granted, Step, test, passed, blamed}
use Rattle.certificates.specs.Faults.{at_depth, in_message, bad_count, other_round, other_view, other_site, illegal_fix, bad_tag}
use Rattle.certificates.specs.Examining.{certificate_steps, certified_steps, claim_steps, change_steps, behind_tag}
use Rattle.certificates.specs.Judging.{reports_of, verdict_call}
use Rattle.certificates.proofs.Passing.{test_ok, append_ok, blamed_ok}
use Rattle.records.specs.Sizes.{tag_row, certificate_size, view_row, out_size}
use Rattle.records.specs.Rows.{row_of}
use Rattle.records.specs.Books.{Books, lent_sizes}
use Rattle.records.specs.Kept.{Membership, Kept}
use Rattle.calls.specs.Gathering.{is_gathered, gathered}
use Rattle.calls.specs.Steps.{permits, row_steps, is_of, room_steps, leads, expected, hear_new_view_steps, propose_steps, hear_propose_steps, hear_prepare_steps, hear_commit_steps, claim_heard, change_heard}
use Rattle.calls.specs.Effects.{heard, noted, gathered_all, gathering, head_of}
use Rattle.calls.specs.Calls.{hear_content}
use Rattle.calls.specs.Laws.{LegalReport, LegalContent, PrepareHeard, HearFillsPrepare, CommitHeard, HearFillsCommit, NewViewHeard, HearGathers, ProposeHeard, HearPrepares, HeardIsVouched}
use Rattle.calls.proofs.Done.{hear_as}
use Rattle.calls.proofs.Reports.{change_ok}
use Rattle.calls.proofs.Members.{none_there, members_plus, members_now}
use Rattle.calls.proofs.Laid.{other_row, own_row, row_inside}

-- ---- what the tests say ----

no : {P : Type 0} → false ≡ true → P
no h = absurd (false≢true h)

pub few_sites : (f t : ℕ) → legal_fleet f t ≡ true → sites f t ≤ 16
few_sites f t h = leb-true (sites f t) 16 (and_parts (leb 1 f && leb f 5 && leb t f) (leb (sites f t) 16) h).1

pub not_true : (b : Bool) → not b ≡ true → b ≡ false
not_true true h = no h
not_true false h = refl

not_eq : (a b : ℕ) → eqb a b ≡ false → a ≢ b
not_eq a b h e = true≢false (sym (eq-eqb a b e) ∙ h)

module _ (v : Vouched) where
  -- what is lent is long enough
  pub record Roomy (m : Membership) (books : Books) (out : ℕ) : Type 0 where
    pub tags : sites m.f m.t * tag_row m.limit ≤ length books.tags
    pub certificate : certificate_size m.f m.t m.limit ≤ length books.certificate
    pub views : sites m.f m.t * view_row m.f m.t m.limit ≤ length books.views
    pub whole : out_size m.f m.t m.limit ≤ out

  pub room_ok : (m : Membership) (books : Books) (out : ℕ) → passed v (room_steps m (lent_sizes books out)) ≡ Ok (tt {0}) → Roomy m books out
  room_ok m books out h =
      let a = leb (sites m.f m.t * tag_row m.limit) (length books.tags) in
      let b = leb (certificate_size m.f m.t m.limit) (length books.certificate) in
      let c = leb (sites m.f m.t * view_row m.f m.t m.limit) (length books.views) in
      let d = leb (out_size m.f m.t m.limit) out in
      let p = test_ok (a && b && c && d) _ short h in
      let q = and_parts (a && b && c) d p.0 in
      let r = and_parts (a && b) c q.0 in
      let s = and_parts a b r.0 in
      record {
        tags = leb-true (sites m.f m.t * tag_row m.limit) (length books.tags) s.0;
        certificate = leb-true (certificate_size m.f m.t m.limit) (length books.certificate) s.1;
        views = leb-true (sites m.f m.t * view_row m.f m.t m.limit) (length books.views) r.1;
        whole = leb-true (out_size m.f m.t m.limit) out q.1;
      }

  pub record Claimed (round view : ℕ) (known : Bool) (c : Claim) (said : Statement) (tag : List ℕ) (rest : List (Step Refused)) : Type 0 where
    pub round_is : c.head.round ≡ round
    pub view_is : c.head.view ≡ view
    pub is_known : known ≡ true
    pub is_legal : legal (fix_of c.value) ≡ true
    pub is_vouched : granted v (record { site = c.head.site; said = said; tag = tag }) ≡ true
    pub rest_ok : passed v rest ≡ Ok (tt {0})

  pub claim_ok : (round view : ℕ) (known : Bool) (c : Claim) (said : Statement) (tag : List ℕ) (rest : List (Step Refused))
      → passed v (blamed in_message (claim_steps round view known c said tag) ++ rest) ≡ Ok (tt {0}) → Claimed round view known c said tag rest
  claim_ok round view known c said tag rest h =
      let steps = claim_steps round view known c said tag in
      let p = append_ok v (blamed in_message steps) rest h in
      let a = test_ok (c.head.round == round) _ (other_round 4) (blamed_ok in_message v steps p.0) in
      let b = test_ok (c.head.view == view) _ (other_view 8) a.1 in
      let d = test_ok known _ (other_site 12) b.1 in
      let e = test_ok (legal (fix_of c.value)) _ (illegal_fix 16) d.1 in
      let g = test_ok (granted v (record { site = c.head.site; said = said; tag = tag })) _ (bad_tag 28) e.1 in
      record { round_is = eqb-true c.head.round round a.0; view_is = eqb-true c.head.view view b.0; is_known = d.0; is_legal = e.0; is_vouched = g.0; rest_ok = p.1 }

  -- a row that is to be filled is empty
  pub row_ok : (o : Option Value) (d : Value) → passed v (row_steps o d) ≡ Ok (tt {0}) → o ≡ None
  row_ok None d h = refl
  row_ok (Some e) d h =
      let p = test_ok (not (same e d)) (Err equivocation) repeated h in
      absurd (err_not_ok p.1)

-- ---- how long things are ----

-- a tag that is not longer than the limit fits a row
pub tag_fits : (limit : ℕ) (tag : List ℕ) → legal_limit limit ≡ true → length tag ≤ limit → length (tag_bytes tag) ≤ tag_row limit
tag_fits limit tag h l =
    let p = and_parts (leb 4 limit && leb limit 2048) (eqb (limit % 4) 0) h in
    let q : limit % 4 ≡ 0 = eqb-true (limit % 4) 0 p.1 in
    omega (arith, length-tag tag)

pub report_short : (o : Option Report) → length (report_bytes o) ≤ 20
report_short None = omega arith
report_short (Some r) = omega arith

votes_short : (limit : ℕ) (vs : List Vote) → legal_limit limit ≡ true → VotesFit limit vs → length (votes_bytes vs) ≤ length vs * (limit + 8)
votes_short limit [] h f = omega arith
votes_short limit (x ∷ vs) h f =
    let own = tag_fits limit x.tag h f.1 in
    let rest = votes_short limit vs h f.2 in
    omega (arith, length-append (vote_bytes x) (votes_bytes vs), suc-mul (length vs) (limit + 8))

pub certified_short : (v : Vouched) (f t round limit place : ℕ) (o : Option Certified) → legal_limit limit ≡ true → CertifiedFits limit o → passed v (certified_steps f t round place o) ≡ Ok (tt {0})
    → length (certified_bytes o) ≤ certificate_size f t limit
certified_short v f t round limit place None h e p = omega arith
certified_short v f t round limit place (Some c) h e p =
    let q = test_ok (length c.votes == recovery_quorum f t) _ (bad_count place) p in
    let k : length c.votes ≡ recovery_quorum f t = eqb-true (length c.votes) (recovery_quorum f t) q.0 in
    let s = votes_short limit c.votes h e.1 in
    let z : length c.votes * (limit + 8) ≡ recovery_quorum f t * (limit + 8) = ap (λ (n : ℕ). n * (limit + 8)) k in
    omega arith

-- a new-view that passes its tests fits a row
pub turn_short : (v : Vouched) (f t round limit place : ℕ) (x : Turn) → legal_limit limit ≡ true → length x.tag ≤ limit → CertifiedFits limit x.committed → passed v (certified_steps f t round place x.committed) ≡ Ok (tt {0})
    → length (statement_bytes (NewView (change_of x)) ++ (tag_bytes x.tag ++ certified_bytes x.committed)) ≤ view_row f t limit
turn_short v f t round limit place x h l e p =
    let c = certified_short v f t round limit place x.committed h e p in
    let g = tag_fits limit x.tag h l in
    let r = report_bytes x.prepared in
    let s = report_bytes (reported x.committed) in
    omega (arith, length-append (statement_bytes (NewView (change_of x))) (tag_bytes x.tag ++ certified_bytes x.committed), length-append (tag_bytes x.tag) (certified_bytes x.committed), length-append r s, report_short x.prepared, report_short (reported x.committed))

-- the tag of a message that was read is not longer than the limit
module _ (limit : ℕ) (b : List ℕ) where
  abbrev Short : Content → Type 0
  Short m = length (tag_of m) ≤ limit

  claim_tag : {A : Type 0} (k : ℕ) (att : Claim → ℕ → Result (A × ℕ) Malformed) (make : Claim → List ℕ → A → Content) (tagged : (c : Claim) (t : List ℕ) (a : A) → tag_of (make c t a) ≡ t) (m : Content)
      → wholly b (envelope_at k (claim_at b) (tag_at limit b) att (λ s t a. make s.0 t.0 a.0) b 0) ≡ Ok m → Short m
  claim_tag k att make tagged m h =
      let w = wholly_ok b (envelope_at k (claim_at b) (tag_at limit b) att (λ s t a. make s.0 t.0 a.0) b 0) m h in
      let o = opened b 0 k (claim_at b) (tag_at limit b) att (λ s t a. make s.0 t.0 a.0) w.0 w.1 in
      let is : make o.said.0 o.tagged.0 o.attached.0 ≡ m = ap (λ (z : Content × ℕ). z.0) o.is ∙ w.3 in
      let short = (tag_read_lem limit b o.said.1 o.tagged o.tagged_is).short in
      let e : length (tag_of m) ≡ length o.tagged.0 = ap length (ap tag_of (sym is) ∙ tagged o.said.0 o.tagged.0 o.attached.0) in
      omega arith

  turn_tag : (p : Turn × ℕ) → turn_at limit b 0 ≡ Ok p → length p.0.tag ≤ limit
  unfolding turn_at
  turn_tag p h =
      let o = opened b 0 4 (change_at b) (tag_at limit b) (λ c. certified_at limit b c.committed) (λ s t a. record { head = s.0.head; prepared = s.0.prepared; committed = a.0; tag = t.0 }) p h in
      let short = (tag_read_lem limit b o.said.1 o.tagged o.tagged_is).short in
      let e : length o.tagged.0 ≡ length p.0.tag = ap (λ (z : Turn × ℕ). length z.0.tag) o.is in
      omega arith

  propose_tag : (m : Content) → propose_of limit b ≡ Ok m → Short m
  unfolding propose_of
  propose_tag m h = claim_tag 1 (λ c. progress_at limit b) propose (λ c t a. refl) m h

  prepare_tag : (m : Content) → prepare_of limit b ≡ Ok m → Short m
  unfolding prepare_of
  prepare_tag m h = claim_tag {A = Unit {0}} 2 (λ c. nothing_at) (λ c t u. prepare c t) (λ c t a. refl) m h

  commit_tag : (m : Content) → commit_of limit b ≡ Ok m → Short m
  unfolding commit_of
  commit_tag m h = claim_tag 3 (λ c. votes_at limit b) commit (λ c t a. refl) m h

  new_view_tag : (m : Content) → new_view_of limit b ≡ Ok m → Short m
  unfolding new_view_of
  new_view_tag m h =
      let w = wholly_ok b (bind (turn_at limit b 0) (λ p. Ok (new_view p.0, p.1))) m h in
      let q = bind_ok (turn_at limit b 0) (λ p. Ok (new_view p.0, p.1)) w.0 w.1 in
      let is : new_view q.0.0 ≡ m = ap (λ (z : Content × ℕ). z.0) (ok_same q.2) ∙ w.3 in
      subst Short is (turn_tag q.0 q.1)

  by_kind : (m : Content) (k1 k2 k3 k4 : Bool) → cond k1 (propose_of limit b) (cond k2 (prepare_of limit b) (cond k3 (commit_of limit b) (cond k4 (new_view_of limit b) (fault 0)))) ≡ Ok m → Short m
  by_kind m true k2 k3 k4 h = propose_tag m h
  by_kind m false true k3 k4 h = prepare_tag m h
  by_kind m false false true k4 h = commit_tag m h
  by_kind m false false false true h = new_view_tag m h
  by_kind m false false false false h = absurd (let z : ◌≡◌ {A = ℕ} 0 1 = cc in omega arith)

  pub tag_short : (m : Content) → message_of limit b ≡ Ok m → Short m
  unfolding message_of
  tag_short m h =
      let w = bind_ok (word_at b 0) (message_by limit b) m h in
      by_kind m (eqb w.0 1) (eqb w.0 2) (eqb w.0 3) (eqb w.0 4) w.2

-- ---- what each kind leaves ----

-- the tests behind those of the claim
module _ (m : Membership) (k : Kept) (c : Claim) (tag : List ℕ) where
  abbrev certificate_rest : List Vote → List (Step Refused)
  certificate_rest votes = blamed (at_depth 1) (certificate_steps m.f m.t k.round (record { view = k.view; value = c.value }) (28 + length (tag_bytes tag)) votes)

  abbrev commit_rest : List Vote → List (Step Refused)
  commit_rest votes = row_steps (row_of k.rows.commits c.head.site) c.value ++ certificate_rest votes

  abbrev permit_rest : List Turn → List (Step Refused)
  permit_rest ms = test (permits (finding m.f m.t (reports_of ms)) c.value) not_forced ∷ []

  abbrev propose_rest : List Turn → List (Step Refused)
  propose_rest ms = test (not (is_of k.view k.prepared)) repeated ∷ ((verdict_call m.f m.t k.round k.view (28 + length (tag_bytes tag)) ms).steps ++ permit_rest ms)

pub hear_fills_prepare : HearFillsPrepare
unfolding propose_steps hear_propose_steps hear_prepare_steps hear_commit_steps hear_new_view_steps claim_heard change_heard
hear_fills_prepare v m k books out packet c tag x sound read h =
    let p = hear_as v m k books out packet (prepare c tag) x read h in
    let i = c.head.site in
    let n = sites m.f m.t in
    let q = claim_ok v k.round k.view (nat_lt i n) c (Prepare c) tag (row_steps (row_of k.rows.prepares i) c.value) p.1 in
    let lt : i < n = ltb-true i n q.is_known in
    let few = few_sites m.f m.t sound.fleet in
    let fits = tag_fits m.limit tag sound.limit (tag_short m.limit packet (prepare c tag) read) in
    let inside = row_inside i n (tag_row m.limit) (length (tag_bytes tag)) (length books.tags) lt (room_ok v m books out p.0).tags fits in
    let row : i < length k.rows.prepares = (let e = sound.prepares in omega arith) in
    let len : i < length k.lengths.tags = (let e = sound.tags in omega arith) in
    subst (PrepareHeard m k books c tag) (sym p.2) (record {
      was_empty = row_ok v (row_of k.rows.prepares i) c.value q.rest_ok;
      filled = get_or-set_same k.rows.prepares i (Some c.value) None row;
      tag_held = own_row books.tags (tag_row m.limit) i (tag_bytes tag) fits inside k.lengths.tags len;
      other_rows = λ j a. get_or-set_other k.rows.prepares i j (Some c.value) None a;
      other_lengths = λ j a. get_or-set_other k.lengths.tags i j (length (tag_bytes tag)) 0 a;
      other_tags = λ j a. other_row books.tags (tag_row m.limit) i (tag_bytes tag) fits inside j a;
      commits = refl;
      view_book = refl;
      view_lengths = refl;
      prepared = refl;
      view = refl;
      proposed = refl;
    })

pub hear_fills_commit : HearFillsCommit
unfolding propose_steps hear_propose_steps hear_prepare_steps hear_commit_steps hear_new_view_steps claim_heard change_heard
hear_fills_commit v m k books out packet c tag votes x sound read h =
    let p = hear_as v m k books out packet (commit c tag votes) x read h in
    let i = c.head.site in
    let n = sites m.f m.t in
    let q = claim_ok v k.round k.view (nat_lt i n) c (Commit c) tag (commit_rest m k c tag votes) p.1 in
    let r = append_ok v (row_steps (row_of k.rows.commits i) c.value) (certificate_rest m k c tag votes) q.rest_ok in
    let lt : i < n = ltb-true i n q.is_known in
    let few = few_sites m.f m.t sound.fleet in
    let row : i < length k.rows.commits = (let e = sound.commits in omega arith) in
    subst (CommitHeard v m k books c tag votes) (sym p.2) (record {
      was_empty = row_ok v (row_of k.rows.commits i) c.value r.0;
      filled = get_or-set_same k.rows.commits i (Some c.value) None row;
      other_rows = λ j a. get_or-set_other k.rows.commits i j (Some c.value) None a;
      prepares = refl;
      rest = refl;
      books_are = refl;
      certificate = blamed_ok (at_depth 1) v (certificate_steps m.f m.t k.round (record { view = k.view; value = c.value }) (28 + length (tag_bytes tag)) votes) r.1;
    })

pub hear_prepares : HearPrepares
unfolding propose_steps hear_propose_steps hear_prepare_steps hear_commit_steps hear_new_view_steps claim_heard change_heard
hear_prepares v m k books out packet c tag ms x read h =
    let p = hear_as v m k books out packet (propose c tag ms) x read h in
    let i = c.head.site in
    let q = claim_ok v k.round k.view (i == leader_of (sites m.f m.t) k.view) c (Propose c) tag (propose_rest m k c tag ms) p.1 in
    let r = test_ok (not (is_of k.view k.prepared)) _ repeated q.rest_ok in
    let s = append_ok v (verdict_call m.f m.t k.round k.view (28 + length (tag_bytes tag)) ms).steps (permit_rest m k c tag ms) r.1 in
    let t = test_ok (permits (finding m.f m.t (reports_of ms)) c.value) (Ok tt) not_forced s.1 in
    subst (ProposeHeard v m k books c tag ms) (sym p.2) (record {
      from_leader = eqb-true i (leader_of (sites m.f m.t) k.view) q.is_known;
      was_not = not_true (is_of k.view k.prepared) r.0;
      permitted = t.0;
      prepares = refl;
      books_are = refl;
      drafts = refl;
      certificate = s.0;
    })

-- the tests of a new-view
module _ (v : Vouched) (m : Membership) (k : Kept) (x : Turn) where
  pub record Turned : Type 0 where
    pub round_is : x.head.round ≡ k.round
    pub view_is : x.head.view ≡ k.view
    pub site_is : x.head.site < sites m.f m.t
    pub is_vouched : granted v (record { site = x.head.site; said = NewView (change_of x); tag = x.tag }) ≡ true
    pub was_empty : slice_index k.lengths.views x.head.site ≡ 0
    pub to_leader : m.own ≡ leader_of (sites m.f m.t) k.view
    pub later : k.view ≢ 1
    pub too_few : length (gathered m k) < progress_quorum m.f m.t
    pub certified : passed v (certified_steps m.f m.t k.round (behind_tag 0 x) x.committed) ≡ Ok (tt {0})
    pub prepared : LegalReport k.view x.prepared
    pub committed : LegalReport k.view (reported x.committed)

  pub turn_ok : passed v (hear_new_view_steps m k x) ≡ Ok (tt {0}) → Turned
  unfolding propose_steps hear_propose_steps hear_prepare_steps hear_commit_steps hear_new_view_steps claim_heard change_heard
  turn_ok h =
      let i = x.head.site in
      let known = expected m k i in
      let own = change_steps k.round k.view known 0 (change_of x) x.tag in
      let p = append_ok v (blamed in_message own) _ h in
      let good = blamed_ok in_message v own p.0 in
      let g = change_ok v k.round k.view known 0 (change_of x) x.tag good in
      let s = and_parts (ltb i (sites m.f m.t) && leads m k) (not (k.view == 1)) g.is_known in
      let e = test_ok (not (is_gathered m k i)) _ repeated p.1 in
      let f = test_ok (nat_lt (length (gathered m k)) (progress_quorum m.f m.t)) _ gathered_already e.1 in
      record {
        round_is = g.round_is;
        view_is = g.view_is;
        site_is = ltb-true i (sites m.f m.t) (and_parts (ltb i (sites m.f m.t)) (leads m k) s.0).0;
        is_vouched = g.is_vouched;
        was_empty = none_there (slice_index k.lengths.views i) e.0;
        to_leader = eqb-true m.own (leader_of (sites m.f m.t) k.view) (and_parts (ltb i (sites m.f m.t)) (leads m k) s.0).1;
        later = not_eq k.view 1 (not_true (k.view == 1) s.1);
        too_few = ltb-true (length (gathered m k)) (progress_quorum m.f m.t) f.0;
        certified = blamed_ok (at_depth 1) v (certified_steps m.f m.t k.round (behind_tag 0 x) x.committed) f.1;
        prepared = g.prepared;
        committed = g.committed;
      }

pub hear_gathers : HearGathers
hear_gathers v m k books out packet t x sound bytes read h =
    let p = hear_as v m k books out packet (new_view t) x read h in
    let i = t.head.site in
    let n = sites m.f m.t in
    let q = turn_ok v m k t p.1 in
    let few = few_sites m.f m.t sound.fleet in
    let w = message_only m.limit packet bytes (new_view t) read in
    let lt = q.site_is in
    let s = turn_short v m.f m.t k.round m.limit (behind_tag 0 t) t sound.limit w.1.tag w.1.votes q.certified in
    let same : length packet ≡ length (statement_bytes (NewView (change_of t)) ++ (tag_bytes t.tag ++ certified_bytes t.committed)) = ap length w.0 in
    let fits : length packet ≤ view_row m.f m.t m.limit = omega arith in
    let inside = row_inside i n (view_row m.f m.t m.limit) (length packet) (length books.views) q.site_is (room_ok v m books out p.0).views fits in
    let len : i < length k.lengths.views = (let e = sound.views in omega arith) in
    let k' = (gathering m k books i packet).kept in
    let here : is_gathered m k' i ≡ true = ap (nat_lt 0) (get_or-set_same k.lengths.views i (length packet) 0 len) ∙ lt-ltb 0 (length packet) (omega arith) in
    let there : (j : ℕ) → j ≢ i → is_gathered m k' j ≡ is_gathered m k j = λ j a. ap (nat_lt 0) (get_or-set_other k.lengths.views i j (length packet) 0 a) in
    let before : is_gathered m k i ≡ false = ap (nat_lt 0) q.was_empty in
    let more : length (gathered m k') ≡ length (gathered m k) + 1 = members_plus (is_gathered m k) (is_gathered m k') n i q.site_is before here there in
    subst (NewViewHeard v m k books t packet) (sym p.2) (record {
      was_empty = q.was_empty;
      packet_held = own_row books.views (view_row m.f m.t m.limit) i packet fits inside k.lengths.views len;
      other_lengths = λ j a. get_or-set_other k.lengths.views i j (length packet) 0 a;
      other_views = λ j a. other_row books.views (view_row m.f m.t m.limit) i packet fits inside j a;
      rest = refl;
      other_books = refl;
      to_leader = q.to_leader;
      later = q.later;
      too_few = q.too_few;
      certificate = q.certified;
      now_gathered = λ j l. members_now (is_gathered m k) (is_gathered m k') n i here there j l;
      one_more = more;
      answers = ap (λ (z : ℕ). heard (cond (z == progress_quorum m.f m.t) gathered_all noted) 0) (sym more);
    })

pub leader_inside : (m : Membership) (k : Kept) (i : ℕ) → i ≡ leader_of (sites m.f m.t) k.view → i < sites m.f m.t
leader_inside m k i h = omega arith

vouched_by : (v : Vouched) (m : Membership) (k : Kept) (books : Books) (packet : List ℕ) (c : Content) → passed v (hear_content m k books packet c).steps ≡ Ok (tt {0})
    → ((head_of (statement_of c)).round ≡ k.round)
    × ((head_of (statement_of c)).view ≡ k.view)
    × (granted v (record { site = (head_of (statement_of c)).site; said = statement_of c; tag = tag_of c }) ≡ true)
    × LegalContent k.view c
    × ((head_of (statement_of c)).site < sites m.f m.t)
unfolding propose_steps hear_propose_steps hear_prepare_steps hear_commit_steps hear_new_view_steps claim_heard change_heard
vouched_by v m k books packet (propose d tag ms) e =
    let q = claim_ok v k.round k.view (d.head.site == leader_of (sites m.f m.t) k.view) d (Propose d) tag (propose_rest m k d tag ms) e in
    (q.round_is, q.view_is, q.is_vouched, q.is_legal, leader_inside m k d.head.site (eqb-true d.head.site (leader_of (sites m.f m.t) k.view) q.is_known))
vouched_by v m k books packet (prepare d tag) e =
    let q = claim_ok v k.round k.view (nat_lt d.head.site (sites m.f m.t)) d (Prepare d) tag (row_steps (row_of k.rows.prepares d.head.site) d.value) e in
    (q.round_is, q.view_is, q.is_vouched, q.is_legal, ltb-true d.head.site (sites m.f m.t) q.is_known)
vouched_by v m k books packet (commit d tag votes) e =
    let q = claim_ok v k.round k.view (nat_lt d.head.site (sites m.f m.t)) d (Commit d) tag (commit_rest m k d tag votes) e in
    (q.round_is, q.view_is, q.is_vouched, q.is_legal, ltb-true d.head.site (sites m.f m.t) q.is_known)
vouched_by v m k books packet (new_view y) e =
    let q = turn_ok v m k y e in
    (q.round_is, q.view_is, q.is_vouched, (q.prepared, q.committed), q.site_is)

pub heard_is_vouched : HeardIsVouched
heard_is_vouched v m k books out packet c x read h = vouched_by v m k books packet c (hear_as v m k books out packet c x read h).1
