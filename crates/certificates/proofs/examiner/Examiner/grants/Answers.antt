use Rattle.std.proofs.Common.{◌≡◌, ℕ, List, take, ap, ◌∙◌, arith}
use Rattle.buffers.proofs.Laying.{fronted}
use Rattle.certificates.proofs.examiner.Examiner.grants.Goals as goal

pub returns : goal.returns
returns g c =
    let end : c.length-len.result ≡ c.put.result = omega (arith, c.length-len.ensures.value, c.put.ensures.next) in
    c.vouches.ensures
    ∙ ap (λ (l : List ℕ). g.C.Check.vouched c.args.self.now.check.now c.args.site l c.args.tag.now)
    (ap (λ (n : ℕ). take n c.put.new.out) end ∙ fronted c.put.ensures.after)
