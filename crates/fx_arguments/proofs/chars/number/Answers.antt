use Rattle.std.proofs.Common.{rules, arith, ◌<◌, ◌∙◌}
use Rattle.fx_arguments.proofs.Numerals.{below_power, below_top, number_after_step}
use Rattle.fx_arguments.proofs.chars.number.Goals as goal

pub overflow_mul-number : goal.overflow_mul-number
overflow_mul-number c =
    let top : c.digits.number < 16777216 =
    below_top c.digits.digit-index c.digits.number (omega arith) c.digits.invariant.bound in
    omega arith

pub overflow_add-number : goal.overflow_add-number
overflow_add-number c =
    let top : c.digits.number < 16777216 =
    below_top c.digits.digit-index c.digits.number (omega arith) c.digits.invariant.bound in
    omega (arith, c.in_ok-digit_value.ensures.bound)

pub digits-preserved : goal.digits-preserved
digits-preserved c = record {
  so_far = c.digits.invariant.so_far ∙ number_after_step c.digits.number c.digits.digit-index c.from.result
      c.as_bytes-digits.result.now (omega arith) (search rules);
  bound = below_power c.digits.digit-index c.digits.number c.from.result (omega arith) c.digits.invariant.bound
      (omega (arith, c.in_ok-digit_value.ensures.bound));
}
