use Rattle.std.proofs.Common.{◌≡◌, ◌+◌, ◌<◌, length, take, arith, sym, ◌∙◌}
use Rattle.std.proofs.lemmas.Bool.Decides.{nat_tests}
use Rattle.std.proofs.lemmas.List.{take_all}
use Rattle.sexp.proofs.Digits.{not_all_digits, digits_go_on, value_goes_on, value_grows}
use Rattle.sexp.proofs.decimals.number.Goals as goal

pub returns-then-not-is_ascii_digit : goal.returns-then-not-is_ascii_digit
returns-then-not-is_ascii_digit c = λ h.
    not_all_digits c.args.text.now c.loop-byte.byte-index (omega arith)
    (sym c.is_ascii_digit.ensures.value ∙ c.if-not-is_ascii_digit.true) h.0.1

pub returns-in_err-checked_mul : goal.returns-in_err-checked_mul
returns-in_err-checked_mul c =
    let text = c.args.text.now in
    let i = c.loop-byte.byte-index in
    rw c.from_residual.ensures (λ h. c.in_err-checked_mul.ensures
    (omega (
      arith,
      h.1,
      value_grows text (i + 1),
      value_goes_on text i (omega arith) (sym c.is_ascii_digit.ensures.value ∙ c.if-not-is_ascii_digit.false),
    )))

pub returns-in_err-value : goal.returns-in_err-value
returns-in_err-value c =
    let text = c.args.text.now in
    let i = c.loop-byte.byte-index in
    rw c.from_residual-in_err-value.ensures
    (λ h. c.in_err-value.ensures (omega (
      arith,
      h.1,
      value_grows text (i + 1),
      value_goes_on text i (omega arith) (sym c.is_ascii_digit.ensures.value ∙ c.if-not-is_ascii_digit.false),
    )))

pub loop-byte-preserved : goal.loop-byte-preserved
loop-byte-preserved c =
    let text = c.args.text.now in
    let i = c.loop-byte.byte-index in
    let digit = sym c.is_ascii_digit.ensures.value ∙ c.if-not-is_ascii_digit.false in
    record {
      digits = digits_go_on text i (omega arith) digit c.loop-byte.invariant.digits;
      value_is = omega (arith, value_goes_on text i (omega arith) digit, c.in_ok-value.ensures);
      in_range = omega (arith, c.in_ok-value.ensures);
    }

pub returns : goal.returns
returns c =
    let whole : take c.loop-byte.byte-index c.args.text.now ≡ c.args.text.now = take_all c.loop-byte.byte-index c.args.text.now
    (omega arith) in
    let at_end = rw whole at c.loop-byte.invariant in
    let some_digit : 0 < length c.args.text.now = grind (arith, nat_tests, c.if-is_empty.ensures) in
    (((some_digit, at_end.digits), omega (arith, at_end.value_is)), at_end.value_is)
