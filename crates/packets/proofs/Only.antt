-- What is read stands there as it is written, and in no other bytes.
use Rattle.std.proofs.Common.{◌≡◌, ℕ, zero, suc, ◌+◌, ◌-◌, ◌*◌, ◌^◌, ◌<◌, ◌≤◌, true, ◌&&◌, eqb, leb, List, [], ◌∷◌, ◌++◌, length, get_or, take, drop, replicate, Some, None, Ok, Option, Result, sym, refl, ap, ◌∙◌, append_assoc, append-nil, arith, length-drop}
use Rattle.std.proofs.lemmas.List.{drop_more, drop-drop, drop_all, take-append-drop, length-take-le}
use Rattle.std.proofs.lemmas.Nat.{be_bytes_4}
use Rattle.std.proofs.lemmas.Bool.{leb-true, eqb-true, and_parts}
use Rattle.values.specs.declared.fix.Value.{Value}
use Rattle.values.specs.declared.fix.Report.{Report}
use Rattle.wire.specs.declared.words.Malformed.{Malformed}
use Rattle.wire.specs.declared.statement.Head.{Head}
use Rattle.wire.specs.declared.statement.Claim.{Claim}
use Rattle.wire.specs.declared.statement.ViewChange.{ViewChange}
use Rattle.buffers.specs.Words.{Bytes, word_bytes, word_from}
use Rattle.wire.specs.Words.{word_at}
use Rattle.values.specs.Lines.{three_bytes, value_bytes}
use Rattle.wire.specs.Contents.{head_bytes, report_bytes, claim_bytes, change_bytes, padded, tag_bytes, Vote, vote_bytes, votes_bytes, certificate_bytes, Certified, reported, certified_bytes, Turn, turn_bytes, turns_bytes, progress_bytes}
use Rattle.wire.specs.Layout.{three_at, value_at, head_at, report_by, report_at, claim_at, change_at, zeros, tag_by, tag_at, count_at, many_at, vote_at, votes_at, certified_at, kind_at, envelope_at, turn_at, progress_at, ending, wholly}
use Rattle.wire.proofs.Results.{bind_ok, cond_ok, ok_same}
use Rattle.wire.proofs.Lengths.{tag_read_lem}
use Rattle.packets.specs.Fits.{ValueFits, HeadFits, ReportFits, ClaimFits, ChangeFits, VotesFit, CertificateFits, CertifiedFits, TurnFits, TurnsFit}

-- xs stands between two places
pub record Stands (b : List ℕ) (at : ℕ) (xs : List ℕ) (end : ℕ) : Type 0 where
  pub is : drop at b ≡ xs ++ drop end b
  pub within : end ≤ length b

pub joins : {b xs ys : List ℕ} {at mid end : ℕ} → Stands b at xs mid → Stands b mid ys end → Stands b at (xs ++ ys) end
joins {b} {xs} {ys} {at} {mid} {end} p q =
    record { is = p.is ∙ ap (λ l. xs ++ l) q.is ∙ sym (append_assoc xs ys (drop end b)); within = q.within }

pub empty : {b : List ℕ} {at : ℕ} → at ≤ length b → Stands b at [] at
empty l = record { is = refl; within = l }

-- what stands from the start to the end is all
pub all : {b xs : List ℕ} {end : ℕ} → Stands b 0 xs end → end ≡ length b → b ≡ xs
all {b} {xs} {end} s e = s.is ∙ ap (λ (z : List ℕ). xs ++ z) (drop_all end b (omega arith)) ∙ append-nil xs

-- ---- words ----

four_bytes : (x y z t : ℕ) → x < 256 → y < 256 → z < 256 → t < 256 → Bytes (x ∷ y ∷ z ∷ t ∷ [])
four_bytes x y z t a b c d zero = a
four_bytes x y z t a b c d (suc zero) = b
four_bytes x y z t a b c d (suc (suc zero)) = c
four_bytes x y z t a b c d (suc (suc (suc zero))) = d
four_bytes x y z t a b c d (suc (suc (suc (suc i)))) = omega arith

pub record WordStands (b : List ℕ) (at w : ℕ) : Type 0 where
  pub is : Stands b at (word_bytes w) (at + 4)
  pub small : w < 2 ^ 32

pub word_only : (b : List ℕ) (at w : ℕ) → Bytes b → word_at b at ≡ Ok w → WordStands b at w
unfolding word_at word_from
word_only b at w bytes e =
    let p = cond_ok (leb (at + 4) (length b)) (Ok (get_or b at 0 * 16777216 + get_or b (at + 1) 0 * 65536 + get_or b (at + 2) 0 * 256 + get_or b (at + 3) 0)) at w e in
    let long : at + 4 ≤ length b = leb-true (at + 4) (length b) p.0 in
    let is : get_or b at 0 * 16777216 + get_or b (at + 1) 0 * 65536 + get_or b (at + 2) 0 * 256 + get_or b (at + 3) 0 ≡ w = ok_same p.1 in
    let e1 : at + 1 + 1 ≡ at + 2 = omega arith in
    let e2 : at + 2 + 1 ≡ at + 3 = omega arith in
    let e3 : at + 3 + 1 ≡ at + 4 = omega arith in
    let d0 = drop_more b at 0 (omega arith) in
    let d1 = rw e1 at (drop_more b (at + 1) 0 (omega arith)) in
    let d2 = rw e2 at (drop_more b (at + 2) 0 (omega arith)) in
    let d3 = rw e3 at (drop_more b (at + 3) 0 (omega arith)) in
    let four = get_or b at 0 ∷ get_or b (at + 1) 0 ∷ get_or b (at + 2) 0 ∷ get_or b (at + 3) 0 ∷ [] in
    let small : Bytes four = four_bytes _ _ _ _ (bytes at) (bytes (at + 1)) (bytes (at + 2)) (bytes (at + 3)) in
    let written : word_bytes w ≡ four = be_bytes_4 four w refl small (sym is) in
    let front : drop at b ≡ four ++ drop (at + 4) b = rw (← d3, ← d2, ← d1, ← d0) in
    record { is = record { is = front ∙ ap (λ l. l ++ drop (at + 4) b) (sym written); within = long }; small = omega (arith, bytes at, bytes (at + 1), bytes (at + 2), bytes (at + 3)) }

-- three words that were read, and what make makes of them
record Three {A : Type 0} (make : ℕ → ℕ → ℕ → A) (b : List ℕ) (at : ℕ) (d : A) : Type 0 where
  x : ℕ
  y : ℕ
  z : ℕ
  is : make x y z ≡ d
  stands : Stands b at (three_bytes x y z) (at + 12)
  fits : (x < 2 ^ 32) × (y < 2 ^ 32) × (z < 2 ^ 32)

three_only : {A : Type 0} (make : ℕ → ℕ → ℕ → A) (b : List ℕ) (at : ℕ) (d : A) → Bytes b → three_at make b at ≡ Ok d → Three make b at d
three_only make b at d bytes h =
    let p = bind_ok (word_at b at) _ d h in
    let q = bind_ok (word_at b (at + 4)) _ d p.2 in
    let r = bind_ok (word_at b (at + 8)) _ d q.2 in
    let u = word_only b at p.0 bytes p.1 in
    let v = word_only b (at + 4) q.0 bytes q.1 in
    let w = word_only b (at + 8) r.0 bytes r.1 in
    let e : at + 4 + 4 ≡ at + 8 = omega arith in
    let e' : at + 8 + 4 ≡ at + 12 = omega arith in
    record {
      x = p.0;
      y = q.0;
      z = r.0;
      is = ok_same r.2;
      stands = joins u.is (joins (rw e at v.is) (rw e' at w.is));
      fits = (u.small, v.small, w.small);
    }

-- ---- statements ----

value_only : (b : List ℕ) (at : ℕ) (d : Value) → Bytes b → value_at b at ≡ Ok d → Stands b at (value_bytes d) (at + 12) × ValueFits d
value_only b at d bytes h =
    let t = three_only (λ x y z. record { first = x; second = y; third = z }) b at d bytes h in
    rw (sym t.is) (t.stands, record { first = t.fits.0; second = t.fits.1; third = t.fits.2 })

head_only : (b : List ℕ) (at : ℕ) (d : Head) → Bytes b → head_at b at ≡ Ok d → Stands b at (head_bytes d) (at + 12) × HeadFits d
head_only b at d bytes h =
    let t = three_only (λ x y z. record { round = x; view = y; site = z }) b at d bytes h in
    rw (sym t.is) (t.stands, record { round = t.fits.0; view = t.fits.1; site = t.fits.2 })

report_only : (b : List ℕ) (at : ℕ) (p : Option Report × ℕ) → Bytes b → report_at b at ≡ Ok p → Stands b at (report_bytes p.0) p.1 × ReportFits p.0
report_only b at p bytes h =
    let w = bind_ok (word_at b at) (report_by b at) p h in
    go w.0 w.1 w.2
  where
    go : (n : ℕ) → word_at b at ≡ Ok n → report_by b at n ≡ Ok p → Stands b at (report_bytes p.0) p.1 × ReportFits p.0
    go zero q e = rw (sym (ok_same e)) ((word_only b at 0 bytes q).is, tt)
    go (suc zero) q e =
        let v = bind_ok (word_at b (at + 4)) _ p e in
        let d = bind_ok (value_at b (at + 8)) _ p v.2 in
        let x = value_only b (at + 8) d.0 bytes d.1 in
        let e1 : at + 4 + 4 ≡ at + 8 = omega arith in
        let e2 : at + 8 + 12 ≡ at + 20 = omega arith in
        rw (sym (ok_same d.2)) (joins (word_only b at 1 bytes q).is (joins (rw e1 at (word_only b (at + 4) v.0 bytes v.1).is) (rw e2 at x.0)), ((word_only b (at + 4) v.0 bytes v.1).small, x.1))
    go (suc (suc n)) q e = absurd (let z : ◌≡◌ {A = ℕ} 0 1 = cc in omega arith)

pub claim_only : (b : List ℕ) (at : ℕ) (p : Claim × ℕ) → Bytes b → claim_at b at ≡ Ok p → Stands b at (claim_bytes p.0) p.1 × ClaimFits p.0
claim_only b at p bytes h =
    let x = bind_ok (head_at b at) _ p h in
    let y = bind_ok (value_at b (at + 12)) _ p x.2 in
    let u = head_only b at x.0 bytes x.1 in
    let v = value_only b (at + 12) y.0 bytes y.1 in
    let e : at + 12 + 12 ≡ at + 24 = omega arith in
    rw (sym (ok_same y.2)) (joins u.0 (rw e at v.0), (u.1, v.1))

pub change_only : (b : List ℕ) (at : ℕ) (p : ViewChange × ℕ) → Bytes b → change_at b at ≡ Ok p → Stands b at (change_bytes p.0) p.1 × ChangeFits p.0
change_only b at p bytes h =
    let x = bind_ok (head_at b at) _ p h in
    let y = bind_ok (report_at b (at + 12)) _ p x.2 in
    let z = bind_ok (report_at b y.0.1) _ p y.2 in
    let u = head_only b at x.0 bytes x.1 in
    let v = report_only b (at + 12) y.0 bytes y.1 in
    let w = report_only b y.0.1 z.0 bytes z.1 in
    rw (sym (ok_same z.2)) (joins u.0 (joins v.0 w.0), (u.1, v.1, w.1))

-- ---- tags and certificates ----

zeros_are : (xs : List ℕ) → zeros xs ≡ true → xs ≡ replicate (length xs) 0
zeros_are [] h = refl
zeros_are (x ∷ xs) h =
    let p = and_parts (eqb x 0) (zeros xs) h in
    let e : x ≡ 0 = eqb-true x 0 p.0 in
    rw e (ap (λ l. 0 ∷ l) (zeros_are xs p.1))

cut : (b : List ℕ) (at n : ℕ) → at + n ≤ length b → Stands b at (take n (drop at b)) (at + n)
cut b at n l = record { is = sym (take-append-drop n (drop at b)) ∙ ap (λ z. take n (drop at b) ++ z) (drop-drop n at b); within = l }

pub tag_only : (limit : ℕ) (b : List ℕ) (at : ℕ) (p : List ℕ × ℕ) → Bytes b → tag_at limit b at ≡ Ok p → Stands b at (tag_bytes p.0) p.1
tag_only limit b at p bytes h =
    let w = bind_ok (word_at b at) (tag_by limit b at) p h in
    let n = w.0 in
    let q = cond_ok (leb n limit && leb (at + 4 + padded n) (length b) && zeros (take (padded n - n) (drop (at + 4 + n) b))) (Ok (take n (drop (at + 4) b), at + 4 + padded n)) at p w.2 in
    let a = and_parts (leb n limit && leb (at + 4 + padded n) (length b)) (zeros (take (padded n - n) (drop (at + 4 + n) b))) q.0 in
    let long = leb-true (at + 4 + padded n) (length b) (and_parts (leb n limit) (leb (at + 4 + padded n) (length b)) a.0).1 in
    let m = padded n - n in
    let len : length (take n (drop (at + 4) b)) ≡ n = length-take-le n (drop (at + 4) b) (omega (arith, length-drop (at + 4) b)) in
    let fill : take m (drop (at + 4 + n) b) ≡ replicate m 0 =
    zeros_are (take m (drop (at + 4 + n) b)) a.1 ∙ ap (λ (z : ℕ). replicate z 0) (length-take-le m (drop (at + 4 + n) b) (omega (arith, length-drop (at + 4 + n) b))) in
    let e : at + 4 + n + m ≡ at + 4 + padded n = omega arith in
    let tail = rw (e, fill) at (cut b (at + 4 + n) m (omega arith)) in
    rw (sym (ok_same q.1), len) (joins (word_only b at n bytes w.1).is (joins (cut b (at + 4) n (omega arith)) tail))

vote_only : (limit : ℕ) (b : List ℕ) (at : ℕ) (p : Vote × ℕ) → Bytes b → vote_at limit b at ≡ Ok p → Stands b at (vote_bytes p.0) p.1 × (p.0.site < 2 ^ 32) × (length p.0.tag ≤ limit)
vote_only limit b at p bytes h =
    let q = bind_ok (word_at b at) _ p h in
    let r = bind_ok (tag_at limit b (at + 4)) _ p q.2 in
    let x = word_only b at q.0 bytes q.1 in
    rw (sym (ok_same r.2)) (joins x.is (tag_only limit b (at + 4) r.0 bytes r.1), x.small, (tag_read_lem limit b (at + 4) r.0 r.1).short)

votes_only : (limit : ℕ) (b : List ℕ) (n at : ℕ) (p : List Vote × ℕ) → Bytes b → at ≤ length b → many_at (vote_at limit b) n at ≡ Ok p
    → Stands b at (votes_bytes p.0) p.1 × VotesFit limit p.0 × (length p.0 ≡ n)
votes_only limit b zero at p bytes l h = rw (sym (ok_same h)) (empty l, tt, refl)
votes_only limit b (suc n) at p bytes l h =
    let q = bind_ok (vote_at limit b at) _ p h in
    let r = bind_ok (many_at (vote_at limit b) n q.0.1) _ p q.2 in
    let x = vote_only limit b at q.0 bytes q.1 in
    let y = votes_only limit b n q.0.1 r.0 bytes x.0.within r.1 in
    rw (sym (ok_same r.2)) (joins x.0 y.0, (x.1, x.2, y.1), ap suc y.2)

count_only : (b : List ℕ) (at n : ℕ) → Bytes b → count_at b at ≡ Ok n → Stands b at (word_bytes n) (at + 4) × (n ≤ 16)
count_only b at n bytes h =
    let q = bind_ok (word_at b at) _ n h in
    let r = cond_ok (leb q.0 16) (Ok q.0) at n q.2 in
    let e = ok_same r.1 in
    rw (sym e) ((word_only b at q.0 bytes q.1).is, leb-true q.0 16 r.0)

pub certificate_only : (limit : ℕ) (b : List ℕ) (at : ℕ) (p : List Vote × ℕ) → Bytes b → votes_at limit b at ≡ Ok p → Stands b at (certificate_bytes p.0) p.1 × CertificateFits limit p.0
unfolding votes_at
certificate_only limit b at p bytes h =
    let q = bind_ok (count_at b at) _ p h in
    let x = count_only b at q.0 bytes q.1 in
    let y = votes_only limit b q.0 (at + 4) p bytes x.0.within q.2 in
    let few = x.1 in
    (rw y.2 (joins x.0 y.0), ((let k = y.2 in omega arith), y.1))

pub certified_only : (limit : ℕ) (b : List ℕ) (o : Option Report) (at : ℕ) (p : Option Certified × ℕ) → Bytes b → at ≤ length b → certified_at limit b o at ≡ Ok p
    → Stands b at (certified_bytes p.0) p.1 × CertifiedFits limit p.0 × (reported p.0 ≡ o)
certified_only limit b None at p bytes l h = rw (sym (ok_same h)) (empty l, tt, refl)
certified_only limit b (Some r) at p bytes l h =
    let q = bind_ok (votes_at limit b at) _ p h in
    let x = certificate_only limit b at q.0 bytes q.1 in
    rw (sym (ok_same q.2)) (x.0, x.1, refl)

-- ---- messages ----

-- what an envelope that was read went through
pub record Opened {S T A M : Type 0} (b : List ℕ) (at k : ℕ) (st : ℕ → Result (S × ℕ) Malformed) (tg : ℕ → Result (T × ℕ) Malformed) (att : S → ℕ → Result (A × ℕ) Malformed) (make : S × ℕ → T × ℕ → A × ℕ → M) (p : M × ℕ) : Type 0 where
  pub kind : word_at b at ≡ Ok k
  pub said : S × ℕ
  pub said_is : st (at + 4) ≡ Ok said
  pub tagged : T × ℕ
  pub tagged_is : tg said.1 ≡ Ok tagged
  pub attached : A × ℕ
  pub attached_is : att said.0 tagged.1 ≡ Ok attached
  pub is : (make said tagged attached, attached.1) ≡ p

module _ {S T A M : Type 0} (b : List ℕ) (at k : ℕ) (st : ℕ → Result (S × ℕ) Malformed) (tg : ℕ → Result (T × ℕ) Malformed) (att : S → ℕ → Result (A × ℕ) Malformed) (make : S × ℕ → T × ℕ → A × ℕ → M) where
  pub opened : (p : M × ℕ) → envelope_at k st tg att make b at ≡ Ok p → Opened b at k st tg att make p
  opened p h =
      let x = bind_ok (kind_at k b at) _ p h in
      let w = bind_ok (word_at b at) _ x.0 x.1 in
      let r = cond_ok (eqb w.0 k) (Ok (at + 4)) at x.0 w.2 in
      let e : at + 4 ≡ x.0 = ok_same r.1 in
      let y = bind_ok (st x.0) _ p x.2 in
      let z = bind_ok (tg y.0.1) _ p y.2 in
      let u = bind_ok (att y.0.0 z.0.1) _ p z.2 in
      record {
        kind = w.1 ∙ ap Ok (eqb-true w.0 k r.0);
        said = y.0;
        said_is = ap st e ∙ y.1;
        tagged = z.0;
        tagged_is = z.1;
        attached = u.0;
        attached_is = u.1;
        is = ok_same u.2;
      }

pub turn_only : (limit : ℕ) (b : List ℕ) (at : ℕ) (p : Turn × ℕ) → Bytes b → turn_at limit b at ≡ Ok p → Stands b at (turn_bytes p.0) p.1 × TurnFits limit p.0
unfolding turn_at turn_bytes
turn_only limit b at p bytes h =
    let o = opened b at 4 (change_at b) (tag_at limit b) (λ c. certified_at limit b c.committed) (λ s t a. record { head = s.0.head; prepared = s.0.prepared; committed = a.0; tag = t.0 }) p h in
    let x0 = word_only b at 4 bytes o.kind in
    let x1 = change_only b (at + 4) o.said bytes o.said_is in
    let x2 = tag_only limit b o.said.1 o.tagged bytes o.tagged_is in
    let x3 = certified_only limit b o.said.0.committed o.tagged.1 o.attached bytes x2.within o.attached_is in
    let body : Stands b (at + 4) (change_bytes (record { head = o.said.0.head; prepared = o.said.0.prepared; committed = reported o.attached.0 })) o.said.1 = rw x3.2 x1.0 in
    let fits : ChangeFits (record { head = o.said.0.head; prepared = o.said.0.prepared; committed = reported o.attached.0 }) = rw x3.2 x1.1 in
    rw (sym o.is) (joins (joins x0.is body) (joins x2 x3.0), record { change = fits; tag = (tag_read_lem limit b o.said.1 o.tagged o.tagged_is).short; votes = x3.1 })

turns_only : (limit : ℕ) (b : List ℕ) (n at : ℕ) (p : List Turn × ℕ) → Bytes b → at ≤ length b → many_at (turn_at limit b) n at ≡ Ok p
    → Stands b at (turns_bytes p.0) p.1 × TurnsFit limit p.0 × (length p.0 ≡ n)
turns_only limit b zero at p bytes l h = rw (sym (ok_same h)) (empty l, tt, refl)
turns_only limit b (suc n) at p bytes l h =
    let q = bind_ok (turn_at limit b at) _ p h in
    let r = bind_ok (many_at (turn_at limit b) n q.0.1) _ p q.2 in
    let x = turn_only limit b at q.0 bytes q.1 in
    let y = turns_only limit b n q.0.1 r.0 bytes x.0.within r.1 in
    rw (sym (ok_same r.2)) (joins x.0 y.0, (x.1, y.1), ap suc y.2)

pub progress_only : (limit : ℕ) (b : List ℕ) (at : ℕ) (p : List Turn × ℕ) → Bytes b → progress_at limit b at ≡ Ok p → Stands b at (progress_bytes p.0) p.1 × (length p.0 ≤ 16) × TurnsFit limit p.0
unfolding progress_at
progress_only limit b at p bytes h =
    let q = bind_ok (count_at b at) _ p h in
    let x = count_only b at q.0 bytes q.1 in
    let y = turns_only limit b q.0 (at + 4) p bytes x.0.within q.2 in
    let few = x.1 in
    (rw y.2 (joins x.0 y.0), (let k = y.2 in omega arith), y.1)

pub wholly_ok : {A : Type 0} (b : List ℕ) (r : Result (A × ℕ) Malformed) (m : A) → wholly b r ≡ Ok m → (p : A × ℕ) × (r ≡ Ok p) × (p.1 ≡ length b) × (p.0 ≡ m)
wholly_ok b r m h =
    let q = bind_ok r (ending b) m h in
    let e = cond_ok (eqb q.0.1 (length b)) (Ok q.0.0) q.0.1 m q.2 in
    (q.0, q.1, eqb-true q.0.1 (length b) e.0, ok_same e.1)
