-- The entries of a progress certificate, one by one.
use Rattle.std.proofs.Common.{◌≡◌, ℕ, zero, suc, ◌+◌, ◌<◌, List, [], ◌∷◌, ◌++◌, length, take, set, Ok, Err, Result, cond, eqb, refl, ap, ◌∙◌, arith}
use Rattle.std.specs.Result.{IsOk}
use Rattle.values.specs.Refusals.{Refused}
use Rattle.verdicts.specs.declared.rule.Reported.{Reported}
use Rattle.wire.specs.declared.words.Malformed.{Malformed}
use Rattle.wire.specs.declared.statement.ViewChange.{ViewChange}
use Rattle.wire.specs.Contents.{reported, Turn, change_of, turn_bytes}
use Rattle.wire.specs.Layout.{many_at, count_at, turn_at, progress_at}
use Rattle.checks.specs.Vouching.{Vouched}
use Rattle.certificates.specs.Steps.{passed, answering}
use Rattle.certificates.specs.Faults.{bad_count, at_depth}
use Rattle.certificates.specs.Examining.{entry_steps, entries_steps, entries_needed, progress_steps}
use Rattle.certificates.specs.Reading.{read_of}
use Rattle.certificates.specs.Judging.{reports_of}
use Rattle.certificates.proofs.Passing.{next, answered_ok, answered_err}
use Rattle.certificates.proofs.Reading.{counted_read, count_fails}
use Rattle.certificates.proofs.Ascending.{turned}
use Rattle.certificates.proofs.Turns.{turn_ends}

abbrev pub report_of : Turn → Reported
report_of m = record { prepared = m.prepared; committed = reported m.committed }

module _ (limit : ℕ) (b : List ℕ) (v : Vouched) (f t round view : ℕ) where
  -- the first of the entries that are left, once it has passed, by what was answered for it
  pub record EntryOn (n m low at : ℕ) (said : ViewChange) (end : ℕ) : Type 0 where
    pub others : IsOk (many_at (turn_at limit b) m end)
    pub steps : passed v (entries_steps f t round view low at (read_of (many_at (turn_at limit b) n at)))
        ≡ passed v (entries_steps f t round view (said.head.site + 1) end (read_of (many_at (turn_at limit b) m end)))
    pub reports : reports_of (read_of (many_at (turn_at limit b) n at)) ≡ record { prepared = said.prepared; committed = said.committed } ∷ reports_of (read_of (many_at (turn_at limit b) m end))

  pub entry_on : (n m low at : ℕ) (p : Turn × ℕ) (said : ViewChange) (end : ℕ) → n ≡ suc m → IsOk (many_at (turn_at limit b) n at) → turn_at limit b at ≡ Ok p
      → ◌≡◌ {A = Result (ViewChange × ℕ) Refused} (Ok (said, end)) (answering (passed v (entry_steps f t round view low at p.0)) (change_of p.0, p.1)) → EntryOn n m low at said end
  entry_on n m low at p said end e h k r =
      let u = turned (turn_at limit b) (λ (m : Turn). m.head.site) turn_bytes (entry_steps f t round view) (turn_ends limit b) v n m low at p e h k in
      let a = answered_ok (passed v (entry_steps f t round view low at p.0)) (change_of p.0, p.1) (said, end) r in
      let said_is : said ≡ change_of p.0 = ap (λ (z : ViewChange × ℕ). z.0) a.1 in
      let end_is : end ≡ p.1 = ap (λ (z : ViewChange × ℕ). z.1) a.1 in
      rw (said_is, end_is) (record {
        others = u.others;
        steps = u.steps ∙ ap (λ (z : Result (Unit {0}) Refused). next z (passed v (entries_steps f t round view (p.0.head.site + 1) p.1 (read_of (many_at (turn_at limit b) m p.1))))) a.0;
        reports = ap reports_of u.split;
      })

  -- an entry that fails, and what the whole comes to
  pub entry_fails : (n m low at : ℕ) (p : Turn × ℕ) (fault : Refused) → n ≡ suc m → IsOk (many_at (turn_at limit b) n at) → turn_at limit b at ≡ Ok p
      → ◌≡◌ {A = Result (ViewChange × ℕ) Refused} (Err fault) (answering (passed v (entry_steps f t round view low at p.0)) (change_of p.0, p.1))
      → passed v (entries_steps f t round view low at (read_of (many_at (turn_at limit b) n at))) ≡ Err fault
  entry_fails n m low at p fault e h k r =
      let u = turned (turn_at limit b) (λ (m : Turn). m.head.site) turn_bytes (entry_steps f t round view) (turn_ends limit b) v n m low at p e h k in
      let a = answered_err (passed v (entry_steps f t round view low at p.0)) (change_of p.0, p.1) fault r in
      u.steps ∙ ap (λ (z : Result (Unit {0}) Refused). next z (passed v (entries_steps f t round view (p.0.head.site + 1) p.1 (read_of (many_at (turn_at limit b) m p.1))))) a

  module _ (at n : ℕ) (e : count_at b at ≡ Ok n) (h : IsOk (progress_at limit b at)) where
    -- a certificate by its count, and its entries as they are read one by one
    pub progress_passes : passed v (progress_steps f t round view at (read_of (progress_at limit b at)))
        ≡ cond (eqb n (entries_needed f t view)) (passed v (entries_steps f t round view 0 (at + 4) (read_of (many_at (turn_at limit b) n (at + 4))))) (Err (at_depth 1 (bad_count at)))
    unfolding progress_at
    progress_passes =
        let k = counted_read (turn_at limit b) b at n e h in
        ap (λ (m : ℕ). cond (eqb m (entries_needed f t view)) (passed v (entries_steps f t round view 0 (at + 4) (read_of (progress_at limit b at)))) (Err (at_depth 1 (bad_count at)))) k.many
        ∙ ap (λ (xs : List Turn). cond (eqb n (entries_needed f t view)) (passed v (entries_steps f t round view 0 (at + 4) xs)) (Err (at_depth 1 (bad_count at)))) k.same

    pub progress_entries : IsOk (many_at (turn_at limit b) n (at + 4))
    unfolding progress_at
    progress_entries = (counted_read (turn_at limit b) b at n e h).all

    pub progress_reports : reports_of (read_of (progress_at limit b at)) ≡ reports_of (read_of (many_at (turn_at limit b) n (at + 4)))
    unfolding progress_at
    progress_reports = ap reports_of (counted_read (turn_at limit b) b at n e h).same

pub progress_counted : (limit : ℕ) (b : List ℕ) (at : ℕ) (e : Malformed) → count_at b at ≡ Err e → IsOk (progress_at limit b at) → ⊥
unfolding progress_at
progress_counted limit b at e k h = count_fails (turn_at limit b) b at e k h

-- one slot more is filled
pub filled_more : (xs : List Reported) (i : ℕ) (x : Reported) (rest : List Reported) → i < length xs → take (i + 1) (set xs i x) ++ rest ≡ take i xs ++ (x ∷ rest)
filled_more [] i x rest l = absurd (omega arith)
filled_more (y ∷ xs) zero x rest l = refl
filled_more (y ∷ xs) (suc i) x rest l =
    let e : suc i + 1 ≡ suc (i + 1) = omega arith in
    rw e (ap (λ (zs : List Reported). y ∷ zs) (filled_more xs i x rest (omega arith)))
