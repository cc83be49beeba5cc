-- The entries of a commit certificate, one by one.
use Rattle.std.proofs.Common.{◌≡◌, ℕ, ◌+◌, List, length, Ok, Err, cond, eqb, sym, ap, ◌∙◌, arith, length-append}
use Rattle.std.specs.Result.{IsOk}
use Rattle.values.specs.declared.fix.Report.{Report}
use Rattle.values.specs.Fleets.{recovery_quorum}
use Rattle.buffers.specs.Words.{word_bytes}
use Rattle.wire.specs.declared.words.Malformed.{Malformed}
use Rattle.wire.specs.Words.{word_at}
use Rattle.wire.specs.Contents.{Vote, vote_bytes, tag_bytes}
use Rattle.wire.specs.Layout.{tag_at, many_at, vote_at, count_at, votes_at}
use Rattle.wire.proofs.Results.{bind_ok, ok_same}
use Rattle.wire.proofs.Lengths.{tag_read_lem}
use Rattle.checks.specs.Vouching.{Vouched}
use Rattle.certificates.specs.Steps.{passed, blamed}
use Rattle.certificates.specs.Faults.{bad_count, at_depth, failing}
use Rattle.certificates.specs.Examining.{votes_steps, certificate_steps}
use Rattle.certificates.specs.Reading.{read_of}
use Rattle.certificates.proofs.Passing.{passed_blamed}
use Rattle.certificates.proofs.Reading.{counted_read, count_fails}

pub vote_ends : (limit : ℕ) (b : List ℕ) (at : ℕ) (p : Vote × ℕ) → vote_at limit b at ≡ Ok p → p.1 ≡ at + length (vote_bytes p.0)
vote_ends limit b at p h =
    let q = bind_ok (word_at b at) _ p h in
    let r = bind_ok (tag_at limit b (at + 4)) _ p q.2 in
    let e = (tag_read_lem limit b (at + 4) r.0 r.1).ends in
    rw (sym (ok_same r.2)) (omega (arith, length-append (word_bytes q.0) (tag_bytes r.0.0)))

module _ (limit : ℕ) (b : List ℕ) (v : Vouched) (f t round : ℕ) (r : Report) (at n : ℕ) where
  -- a certificate by its count, and its entries as they are read one by one
  pub certificate_passes : count_at b at ≡ Ok n → IsOk (votes_at limit b at) → (depth : ℕ)
      → passed v (blamed (at_depth depth) (certificate_steps f t round r at (read_of (votes_at limit b at))))
      ≡ failing (at_depth depth) (cond (eqb n (recovery_quorum f t)) (passed v (votes_steps f t round r 0 (at + 4) (read_of (many_at (vote_at limit b) n (at + 4))))) (Err (bad_count at)))
  unfolding votes_at
  certificate_passes e h depth =
      let k = counted_read (vote_at limit b) b at n e h in
      passed_blamed (at_depth depth) v (certificate_steps f t round r at (read_of (votes_at limit b at)))
      ∙ ap (λ (m : ℕ). failing (at_depth depth) (cond (eqb m (recovery_quorum f t)) (passed v (votes_steps f t round r 0 (at + 4) (read_of (votes_at limit b at)))) (Err (bad_count at)))) k.many
      ∙ ap (λ (xs : List Vote). failing (at_depth depth) (cond (eqb n (recovery_quorum f t)) (passed v (votes_steps f t round r 0 (at + 4) xs)) (Err (bad_count at)))) k.same

  pub certificate_entries : count_at b at ≡ Ok n → IsOk (votes_at limit b at) → IsOk (many_at (vote_at limit b) n (at + 4))
  unfolding votes_at
  certificate_entries e h = (counted_read (vote_at limit b) b at n e h).all

pub certificate_counted : (limit : ℕ) (b : List ℕ) (at : ℕ) (e : Malformed) → count_at b at ≡ Err e → IsOk (votes_at limit b at) → ⊥
unfolding votes_at
certificate_counted limit b at e k h = count_fails (vote_at limit b) b at e k h
