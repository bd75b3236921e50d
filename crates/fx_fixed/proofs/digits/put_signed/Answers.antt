use Rattle.std.proofs.Common.{arith, ◌∙◌, ◌++◌, ap, drop, List, ℕ}
use Rattle.fx_fixed.proofs.Decimals.{signed_above, signed_below}
use Rattle.fx_fixed.proofs.Linear.{signed}
use Rattle.fx_fixed.proofs.digits.put_signed.Goals as goal

pub returns-then-number-ge0-clause-digits : goal.returns-then-number-ge0-clause-digits
returns-then-number-ge0-clause-digits c =
    c.put_decimal-at.ensures.digits
    ∙ ap (λ (d : List ℕ). d ++ drop c.args.end c.args.buffer.now)
    (signed_above _ _ (omega (arith, signed)) c.ranges.number (c.from.ensures ∙ c.unsigned_abs.ensures.value))

pub returns-clause-digits : goal.returns-clause-digits
returns-clause-digits c =
    signed_below _ _ c.put_decimal-at.result c.put_decimal-at.new.buffer _ (omega (arith, signed)) c.ranges.number
    (c.from.ensures ∙ c.unsigned_abs.ensures.value)
    (omega (arith, c.put_decimal-at.ensures.before (omega (arith, signed)))) (omega arith) c.put_decimal-at.ensures.digits
