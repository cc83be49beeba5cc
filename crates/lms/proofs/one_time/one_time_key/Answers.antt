use Rattle.std.proofs.Common.{◌++◌, ap, ◌∙◌}
use Rattle.lms.specs.Lms.{D-PBLC, hashed, ends, Kc}
use Rattle.lms.proofs.one_time.one_time_key.Goals as goal

pub returns : goal.returns
unfolding Kc
returns c =
    let y = c.args.signed.now.strings.now in
    c.hash_ends.ensures
    ∙ ap (λ s. hashed 32 (c.array-start.result ++ (D-PBLC ++ ends 32 c.array-start.result s y 34))) c.first_steps-steps.ensures
    ∙ ap (λ s. Kc 32 34 s c.args.signed.now.randomizer.now y c.args.message.now) c.array-start.ensures
