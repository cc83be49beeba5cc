-- The laws of quorums and of fast certificates.
use Rattle.std.proofs.Common.{◌≡◌, ℕ, true, List, sym, ◌∙◌, inl, inr, arith}
use Rattle.std.proofs.lemmas.Bool.{cases_lt}
use Rattle.values.specs.Fleets.{sites, recovery_quorum}
use Rattle.verdicts.specs.declared.rule.Reported.{Reported}
use Rattle.verdicts.specs.Rule.{reaches, reporters}
use Rattle.agreement.specs.Sites.{size, listed}
use Rattle.agreement.specs.Statements.{Quorum}
use Rattle.agreement.specs.Laws.{OneFastValue, CertificatesShare, FastIsHighest}
use Rattle.agreement.proofs.Count.{count_all, count_size, overlap, shared_size}
use Rattle.verdicts.proofs.Counts.{reaches_some, support_is, reporters_low}
use Rattle.agreement.proofs.Judged.{none_some, fast_reported, fast_highest, fast_low, fast_found}

pub one_fast_value : OneFastValue
one_fast_value f t es d e few h k =
    let o = overlap (λ (x : Reported). reaches d 1 x.prepared) (λ x. reaches e 1 x.prepared) es (omega (arith, support_is d 1 es, support_is e 1 es)) in
    let a = reaches_some d 1 o.0.prepared o.1 in
    let b = reaches_some e 1 o.0.prepared o.2 in
    let same : a.0 ≡ b.0 = cc (a.1, b.1) in
    cc (a.2, b.2, same)

quorum_size : (f t : ℕ) (xs : List ℕ) → Quorum f t xs → size (listed xs) (sites f t) ≡ recovery_quorum f t
quorum_size f t xs q = sym (count_size (λ x. x) (λ x. true) xs 0 (sites f t) q.rising) ∙ count_all xs ∙ q.enough

pub certificates_share : CertificatesShare
certificates_share f t xs ys p q =
    omega (arith, quorum_size f t xs p, quorum_size f t ys q, shared_size (listed xs) (listed ys) (sites f t))

pub fast_is_highest : FastIsHighest
fast_is_highest q es one = (
  λ r h. record {
    low = fast_low q es one r h;
    reached = fast_reported q es one r h;
    no_higher = λ v l. elim (cases_lt (reporters r.value v es) q) [
      | inl k ↦ k
      | inr k ↦ absurd (omega (arith, fast_highest q es one r v h k))
    ];
  },
  λ h d v l. elim (cases_lt (reporters d v es) q) [
    | inl k ↦ k
    | inr k ↦
        let x = fast_found q es one d (omega (arith, reporters_low d 1 v es l)) in
        absurd (none_some x.0 (sym h ∙ x.1))
  ],
)
