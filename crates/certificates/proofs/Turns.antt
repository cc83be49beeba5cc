-- A new-view as it is read, and the steps of an entry.
use Rattle.std.proofs.Common.{◌≡◌, ℕ, zero, suc, ◌+◌, ◌≤◌, List, ◌++◌, length, Some, None, Ok, Err, Option, Result, eqb, sym, refl, ap, ◌∙◌, subst₂, arith, length-append}
use Rattle.std.proofs.lemmas.Bool.{false≢true}
use Rattle.std.specs.Result.{IsOk}
use Rattle.values.specs.declared.fix.Report.{Report}
use Rattle.values.specs.Fleets.{sites}
use Rattle.wire.specs.declared.words.Malformed.{Malformed}
use Rattle.wire.specs.declared.statement.ViewChange.{ViewChange}
use Rattle.wire.specs.declared.statement.Statement.TheVariants.{NewView}
use Rattle.wire.specs.Words.{word_at}
use Rattle.wire.specs.Contents.{Vote, vote_bytes, votes_bytes, certificate_bytes, Certified, reported, certified_bytes, Turn, change_of, statement_bytes, tag_bytes, turn_bytes}
use Rattle.wire.specs.Layout.{change_at, tag_at, kind_at, many_at, count_at, vote_at, votes_at, certified_at, turn_at}
use Rattle.wire.specs.Places.{behind}
use Rattle.wire.proofs.Results.{bind_ok, cond_ok, ok_same}
use Rattle.wire.proofs.Lengths.{tag_read_lem, change_ends}
use Rattle.messages.specs.Parts.{Pieces, pieced, parts_at}
use Rattle.messages.proofs.Located.{turn_behind}
use Rattle.checks.specs.Vouching.{Vouched}
use Rattle.certificates.specs.Steps.{passed, blamed}
use Rattle.certificates.specs.Faults.{at_depth, failing}
use Rattle.certificates.specs.Examining.{rising, certified_steps, change_steps, behind_tag, entry_steps}
use Rattle.certificates.specs.Reading.{optional_of}
use Rattle.certificates.proofs.Passing.{next, passed_append, passed_blamed}
use Rattle.certificates.proofs.Votes.{vote_ends}

pub ok_of : {A : Type 0} (r : Result A Malformed) → IsOk r → (x : A) × (r ≡ Ok x)
ok_of (Ok x) h = (x, refl)
ok_of (Err e) h = absurd (false≢true h)

-- ---- the certificate of a reported commit ----

votes_end : (limit : ℕ) (b : List ℕ) (n at : ℕ) (p : List Vote × ℕ) → many_at (vote_at limit b) n at ≡ Ok p → p.1 ≡ at + length (votes_bytes p.0)
votes_end limit b zero at p h = rw (sym (ok_same h)) (omega arith)
votes_end limit b (suc n) at p h =
    let q = bind_ok (vote_at limit b at) _ p h in
    let r = bind_ok (many_at (vote_at limit b) n q.0.1) _ p q.2 in
    let e = vote_ends limit b at q.0 q.1 in
    let e' = votes_end limit b n q.0.1 r.0 r.1 in
    rw (sym (ok_same r.2)) (omega (arith, length-append (vote_bytes q.0.0) (votes_bytes r.0.0)))

certificate_ends : (limit : ℕ) (b : List ℕ) (at : ℕ) (p : List Vote × ℕ) → votes_at limit b at ≡ Ok p → p.1 ≡ at + length (certificate_bytes p.0)
unfolding votes_at
certificate_ends limit b at p h =
    let q = bind_ok (count_at b at) _ p h in
    omega (arith, votes_end limit b q.0 (at + 4) p q.2)

pub certified_ends : (limit : ℕ) (b : List ℕ) (o : Option Report) (at : ℕ) (p : Option Certified × ℕ) → certified_at limit b o at ≡ Ok p → (p.1 ≡ at + length (certified_bytes p.0)) × (reported p.0 ≡ o)
certified_ends limit b None at p h = rw (sym (ok_same h)) (omega arith, refl)
certified_ends limit b (Some r) at p h =
    let q = bind_ok (votes_at limit b at) _ p h in
    let e = certificate_ends limit b at q.0 q.1 in
    rw (sym (ok_same q.2)) (e, refl)

-- ---- a new-view ----

-- what was read as a whole, and its parts
pub record TurnParts (limit : ℕ) (b : List ℕ) (at : ℕ) (p : Turn × ℕ) (q : Pieces ViewChange × ℕ) : Type 0 where
  pub said : q.0.statement ≡ change_of p.0
  pub tag : q.0.tag.bytes ≡ p.0.tag
  pub tag_place : q.0.tag.place ≡ at + length (statement_bytes (NewView q.0.statement))
  pub behind : q.0.attachment.place ≡ behind_tag at p.0
  pub certified : certified_at limit b q.0.statement.committed q.0.attachment.place ≡ Ok (p.0.committed, p.1)
  pub end : q.1 ≡ p.1
  pub ends : p.1 ≡ at + length (turn_bytes p.0)
  pub room : q.0.tag.place ≤ length b

abbrev parts : ℕ → List ℕ → ℕ → Result (Pieces ViewChange × ℕ) Malformed
parts limit b at = parts_at 4 (change_at b) (λ c k. behind (certified_at limit b c.committed k)) limit b at

abbrev whole : ViewChange × ℕ → List ℕ × ℕ → Option Certified × ℕ → Turn × ℕ
whole s t a = (record { head = s.0.head; prepared = s.0.prepared; committed = a.0; tag = t.0 }, a.1)

module _ (limit : ℕ) (b : List ℕ) (at : ℕ) (s : ViewChange × ℕ) (t : List ℕ × ℕ) (a : Option Certified × ℕ)
    (e0 : kind_at 4 b at ≡ Ok (at + 4)) (e1 : change_at b (at + 4) ≡ Ok s) (e2 : tag_at limit b s.1 ≡ Ok t) (e3 : certified_at limit b s.0.committed t.1 ≡ Ok a) where
  abbrev cut : Pieces ViewChange × ℕ
  cut = (pieced b s t (tt {0}, a.1), a.1)

  parts_are : parts limit b at ≡ Ok cut
  parts_are = rw (e0, e1, e2, e3)

  said_is : s.0 ≡ change_of (whole s t a).0
  said_is = let e = (certified_ends limit b s.0.committed t.1 a e3).1 in rw e

  turn_from : TurnParts limit b at (whole s t a) cut
  unfolding turn_bytes
  turn_from =
      let l1 = change_ends b (at + 4) s e1 in
      let l2 = tag_read_lem limit b s.1 t e2 in
      let l3 = certified_ends limit b s.0.committed t.1 a e3 in
      let same : statement_bytes (NewView (change_of (whole s t a).0)) ≡ statement_bytes (NewView s.0) = ap (λ (c : ViewChange). statement_bytes (NewView c)) (sym said_is) in
      let size = length-append (statement_bytes (NewView (change_of (whole s t a).0))) (tag_bytes t.0 ++ certified_bytes a.0) in
      let size' = length-append (tag_bytes t.0) (certified_bytes a.0) in
      let place : s.1 ≡ at + length (statement_bytes (NewView s.0)) = omega (arith, l1) in
      record {
        said = said_is;
        tag = refl;
        tag_place = place;
        behind = omega (arith, ap length same, place, l2.ends);
        certified = e3;
        end = refl;
        ends = omega (arith, size, size', ap length same, place, l2.ends, l3.0);
        room = omega (arith, l2.ends, l2.within);
      }

pub turn_parts : (limit : ℕ) (b : List ℕ) (at : ℕ) (p : Turn × ℕ) (q : Pieces ViewChange × ℕ) → turn_at limit b at ≡ Ok p → parts limit b at ≡ Ok q → TurnParts limit b at p q
unfolding turn_at
turn_parts limit b at p q h k =
    let x = bind_ok (kind_at 4 b at) _ p h in
    let w = bind_ok (word_at b at) _ x.0 x.1 in
    let r = cond_ok (eqb w.0 4) (Ok (at + 4)) at x.0 w.2 in
    let here : at + 4 ≡ x.0 = ok_same r.1 in
    let y = bind_ok (change_at b x.0) _ p x.2 in
    let z = bind_ok (tag_at limit b y.0.1) _ p y.2 in
    let u = bind_ok (certified_at limit b y.0.0.committed z.0.1) _ p z.2 in
    let e0 : kind_at 4 b at ≡ Ok (at + 4) = x.1 ∙ ap Ok (sym here) in
    let e1 : change_at b (at + 4) ≡ Ok y.0 = ap (change_at b) here ∙ y.1 in
    let made : whole y.0 z.0 u.0 ≡ p = ok_same u.2 in
    let cuts : cut limit b at y.0 z.0 u.0 e0 e1 z.1 u.1 ≡ q = ok_same (sym (parts_are limit b at y.0 z.0 u.0 e0 e1 z.1 u.1) ∙ k) in
    subst₂ (TurnParts limit b at) made cuts (turn_from limit b at y.0 z.0 u.0 e0 e1 z.1 u.1)

-- where a whole new-view is read, its parts are
pub turn_reads : (limit : ℕ) (b : List ℕ) (at : ℕ) (p : Turn × ℕ) (e : Malformed) → turn_at limit b at ≡ Ok p → parts limit b at ≡ Err e → ⊥
turn_reads limit b at p e h k =
    let z : ◌≡◌ {A = Result ℕ Malformed} (Err e) (Ok p.1) = ap behind (sym k) ∙ turn_behind limit b at ∙ ap behind h in
    absurd (let y : ◌≡◌ {A = ℕ} 0 1 = cc in omega arith)

parts_by : (limit : ℕ) (b : List ℕ) (at : ℕ) (p : Turn × ℕ) (r : Result (Pieces ViewChange × ℕ) Malformed) → turn_at limit b at ≡ Ok p → parts limit b at ≡ r → (q : Pieces ViewChange × ℕ) × (r ≡ Ok q)
parts_by limit b at p (Ok q) h k = (q, refl)
parts_by limit b at p (Err e) h k = absurd (turn_reads limit b at p e h k)

pub read_parts : (limit : ℕ) (b : List ℕ) (at : ℕ) (p : Turn × ℕ) → turn_at limit b at ≡ Ok p → (q : Pieces ViewChange × ℕ) × (parts limit b at ≡ Ok q)
read_parts limit b at p h = parts_by limit b at p (parts limit b at) h refl

-- ---- the steps of an entry ----

pub entry_passes : (v : Vouched) (f t round view low at : ℕ) (m : Turn) → passed v (entry_steps f t round view low at m)
    ≡ next (failing (at_depth 1) (passed v (change_steps round view (rising (sites f t) low m.head.site) at (change_of m) m.tag))) (passed v (blamed (at_depth 2) (certified_steps f t round (behind_tag at m) m.committed)))
entry_passes v f t round view low at m =
    passed_append v (blamed (at_depth 1) (change_steps round view (rising (sites f t) low m.head.site) at (change_of m) m.tag)) (blamed (at_depth 2) (certified_steps f t round (behind_tag at m) m.committed))
    ∙ ap (λ r. next r (passed v (blamed (at_depth 2) (certified_steps f t round (behind_tag at m) m.committed)))) (passed_blamed (at_depth 1) v (change_steps round view (rising (sites f t) low m.head.site) at (change_of m) m.tag))

-- the same by the parts that were read
module _ (v : Vouched) (f t round view low : ℕ) (limit : ℕ) (b : List ℕ) (at : ℕ) (p : Turn × ℕ) (q : Pieces ViewChange × ℕ) (h : turn_at limit b at ≡ Ok p) (k : parts limit b at ≡ Ok q) where
  pub entry_by : passed v (entry_steps f t round view low at p.0)
      ≡ next (failing (at_depth 1) (passed v (change_steps round view (rising (sites f t) low q.0.statement.head.site) at q.0.statement q.0.tag.bytes)))
      (passed v (blamed (at_depth 2) (certified_steps f t round q.0.attachment.place (optional_of (certified_at limit b q.0.statement.committed q.0.attachment.place)))))
  entry_by =
      let r = turn_parts limit b at p q h k in
      entry_passes v f t round view low at p.0
      ∙ rw (r.certified, r.said, r.tag, r.behind)

  pub entry_answer : ◌≡◌ {A = ViewChange × ℕ} (q.0.statement, q.1) (change_of p.0, p.1)
  entry_answer = let r = turn_parts limit b at p q h k in rw (r.said, r.end)

pub turn_ends : (limit : ℕ) (b : List ℕ) (at : ℕ) (p : Turn × ℕ) → turn_at limit b at ≡ Ok p → p.1 ≡ at + length (turn_bytes p.0)
turn_ends limit b at p h = (turn_parts limit b at p (read_parts limit b at p h).0 h (read_parts limit b at p h).1).ends
