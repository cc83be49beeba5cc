use Rattle.std.proofs.Common.{sym, ◌∙◌, arith, rules}
use Rattle.std.specs.Option.{option_map}
use Rattle.hexadecimal.proofs.Steps.{on_space, on_other, on_digit_lem, ends_half, ends_full, spelled_by_its_text}
use Rattle.hexadecimal.proofs.decode.Goals as goal

pub loop-at-preserved-then-is_space : goal.loop-at-preserved-then-is_space
loop-at-preserved-then-is_space c =
    on_space c.args.text.now c.loop-at.at (option_map (λ d. d.value) c.loop-at.so_far.high) c.loop-at.so_far.bytes.items c.loop-at-test.true (sym c.is_space.ensures ∙ c.if-is_space.true) ∙ c.loop-at.invariant

pub returns-in_err-digit : goal.returns-in_err-digit
returns-in_err-digit c =
    let e = on_other c.args.text.now c.loop-at.at (option_map (λ d. d.value) c.loop-at.so_far.high) c.loop-at.so_far.bytes.items c.loop-at-test.true (sym c.is_space.ensures ∙ c.if-is_space.false) (search rules) in
    record { value = search rules; every = spelled_by_its_text }

pub loop-at-preserved : goal.loop-at-preserved
loop-at-preserved c =
    on_digit_lem c.args.text.now c.loop-at.at (option_map (λ d. d.value) c.loop-at.so_far.high) c.loop-at.so_far.bytes.items c.in_ok-digit.digit.value _ c.loop-at-test.true (sym c.is_space.ensures ∙ c.if-is_space.false) (search rules) c.in_ok-take.ensures.after
    ∙ c.loop-at.invariant

pub returns-in_err-take : goal.returns-in_err-take
returns-in_err-take c = record { value = search rules; every = spelled_by_its_text }

pub returns-then-is_some : goal.returns-then-is_some
returns-then-is_some c =
    record {
      value = sym c.loop-at.invariant
          ∙ ends_half c.args.text.now c.loop-at.at (option_map (λ d. d.value) c.loop-at.so_far.high) c.loop-at.so_far.bytes.items (omega arith) (search rules);
      every = spelled_by_its_text;
    }

pub returns : goal.returns
returns c =
    record {
      value = sym c.loop-at.invariant
          ∙ ends_full c.args.text.now c.loop-at.at (option_map (λ d. d.value) c.loop-at.so_far.high) c.loop-at.so_far.bytes.items (omega arith) (search rules);
      every = spelled_by_its_text;
    }
