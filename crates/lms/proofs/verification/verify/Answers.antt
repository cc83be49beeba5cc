use Rattle.std.proofs.Common.{ap, ◌∙◌}
use Rattle.std.specs.Str.{bytes_eq}
use Rattle.lms.specs.Lms.{Tc, m32_h5, valid_for, valid_by, valid}
use Rattle.lms.proofs.Signing.{signed_is_valid}
use Rattle.lms.proofs.verification.verify.Goals as goal

pub returns-in_default : goal.returns-in_default
unfolding valid
returns-in_default c =
    record {
      value = ap (λ k. valid_by k c.args.message.now c.args.signature.now) c.in_default.ensures;
      signed = signed_is_valid;
    }

pub returns-in_default-read : goal.returns-in_default-read
unfolding valid
returns-in_default-read c =
    record {
      value =
          ap (valid_for (record { form = m32_h5; I = c.in-Some.known.id.now; root = c.in-Some.known.root.now }) c.args.message.now) c.in_default-read.ensures
          ∙ ap (λ k. valid_by k c.args.message.now c.args.signature.now) c.in-Some.ensures;
      signed = signed_is_valid;
    }

pub returns : goal.returns
unfolding valid
returns c =
    let known = c.in-Some.known in
    let path = c.in-Some-read.signed.path.now in
    record {
      value =
          c.same_root.ensures
          ∙ ap (λ t. bytes_eq t known.root.now) (c.root.ensures ∙ ap (Tc 32 5 known.id.now c.in-Some-read.signed.leaf path) c.one_time_key-once.ensures)
          ∙ ap (valid_for (record { form = m32_h5; I = known.id.now; root = known.root.now }) c.args.message.now) c.in-Some-read.ensures
          ∙ ap (λ k. valid_by k c.args.message.now c.args.signature.now) c.in-Some.ensures;
      signed = signed_is_valid;
    }
