-- What was read stands between its place and the place behind it.
use Rattle.std.proofs.Common.{◌≡◌, ℕ, zero, suc, ◌+◌, ◌-◌, ◌≤◌, ◌&&◌, leb, List, length, take, drop, Ok, Option, sym, arith, length-append, length-drop}
use Rattle.std.proofs.lemmas.List.{length-take-le, length-replicate}
use Rattle.std.proofs.lemmas.Bool.{leb-true, and_parts}
use Rattle.values.specs.declared.fix.Report.{Report}
use Rattle.wire.specs.declared.statement.Claim.{Claim}
use Rattle.wire.specs.declared.statement.ViewChange.{ViewChange}
use Rattle.wire.specs.Words.{word_at}
use Rattle.wire.specs.Contents.{report_bytes, change_bytes, padded, tag_bytes}
use Rattle.wire.specs.Layout.{value_at, head_at, report_by, report_at, claim_at, change_at, zeros, tag_by, tag_at}
use Rattle.wire.proofs.Results.{bind_ok, cond_ok, ok_same}

pub length-tag : (t : List ℕ) → length (tag_bytes t) ≡ 4 + padded (length t)
length-tag t = simp (length-append, length-replicate) (omega arith)

pub record TagRead (limit : ℕ) (b : List ℕ) (at : ℕ) (p : List ℕ × ℕ) : Type 0 where
  pub ends : p.1 ≡ at + length (tag_bytes p.0)
  pub within : p.1 ≤ length b
  pub short : length p.0 ≤ limit

pub tag_read_lem : (limit : ℕ) (b : List ℕ) (at : ℕ) (p : List ℕ × ℕ) → tag_at limit b at ≡ Ok p → TagRead limit b at p
tag_read_lem limit b at p h =
    let w = bind_ok (word_at b at) (tag_by limit b at) p h in
    let n = w.0 in
    let q = cond_ok (leb n limit && leb (at + 4 + padded n) (length b) && zeros (take (padded n - n) (drop (at + 4 + n) b))) (Ok (take n (drop (at + 4) b), at + 4 + padded n)) at p w.2 in
    let a = and_parts (leb n limit && leb (at + 4 + padded n) (length b)) (zeros (take (padded n - n) (drop (at + 4 + n) b))) q.0 in
    let c = and_parts (leb n limit) (leb (at + 4 + padded n) (length b)) a.0 in
    let fits = leb-true n limit c.0 in
    let long = leb-true (at + 4 + padded n) (length b) c.1 in
    let len : length (take n (drop (at + 4) b)) ≡ n = length-take-le n (drop (at + 4) b) (omega (arith, length-drop (at + 4) b)) in
    rw (sym (ok_same q.1)) (record { ends = omega (arith, length-tag (take n (drop (at + 4) b))); within = long; short = simp len fits })

pub report_ends : (b : List ℕ) (at : ℕ) (p : Option Report × ℕ) → report_at b at ≡ Ok p → p.1 ≡ at + length (report_bytes p.0)
report_ends b at p h =
    let w = bind_ok (word_at b at) (report_by b at) p h in
    by w.0 w.2
  where
    by : (n : ℕ) → report_by b at n ≡ Ok p → p.1 ≡ at + length (report_bytes p.0)
    by zero e = rw (sym (ok_same e))
    by (suc zero) e =
        let v = bind_ok (word_at b (at + 4)) _ p e in
        let d = bind_ok (value_at b (at + 8)) _ p v.2 in
        rw (sym (ok_same d.2))
    by (suc (suc n)) e = absurd (let z : ◌≡◌ {A = ℕ} 0 1 = cc in omega arith)

pub claim_ends : (b : List ℕ) (at : ℕ) (p : Claim × ℕ) → claim_at b at ≡ Ok p → p.1 ≡ at + 24
claim_ends b at p h =
    let x = bind_ok (head_at b at) _ p h in
    let y = bind_ok (value_at b (at + 12)) _ p x.2 in
    rw (sym (ok_same y.2))

pub change_ends : (b : List ℕ) (at : ℕ) (p : ViewChange × ℕ) → change_at b at ≡ Ok p → p.1 ≡ at + length (change_bytes p.0)
change_ends b at p h =
    let x = bind_ok (head_at b at) _ p h in
    let y = bind_ok (report_at b (at + 12)) _ p x.2 in
    let z = bind_ok (report_at b y.0.1) _ p y.2 in
    let e1 = report_ends b (at + 12) y.0 y.1 in
    let e2 = report_ends b y.0.1 z.0 z.1 in
    rw (sym (ok_same z.2)) (omega (arith, length-append (report_bytes y.0.0) (report_bytes z.0.0)))
