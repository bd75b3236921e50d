use Rattle.std.proofs.Common.{◌≡◌, ◌+◌, ◌-◌, ◌%◌, suc, ◌∙◌, arith, refl}
use Rattle.std.proofs.lemmas.List.{length-set}
use Rattle.fx_fixed.proofs.Decimals.{fits_first, fits_left, fits_more, digit_more, digit_first, fits_before}
use Rattle.fx_fixed.proofs.digits.put_decimal.Goals as goal

pub digits-init : goal.digits-init
digits-init c = record {
  within = omega arith;
  some = omega arith;
  long = refl;
  digits = refl;
  fits = fits_first 10 20 c.args.number c.args.end (omega arith);
}

pub digits-preserved : goal.digits-preserved
digits-preserved c =
    let i = c.digits.invariant in
    let e : c.digits.at + 20 - c.args.end ≡ suc (c.digits.at - 1 + 20 - c.args.end) = omega arith in
    record {
      within = omega arith;
      some = omega (arith, fits_more 10 _ _ _ e c.digits-test.true i.fits);
      long = length-set c.digits.buffer (c.digits.at - 1) (48 + c.digits.left % 10) ∙ i.long;
      digits = digit_more _ c.digits.left c.digits.at c.digits.buffer (omega arith) (omega arith) c.digits-test.true (omega arith)
          i.digits;
      fits = fits_left 10 _ _ _ (omega arith) e i.fits;
    }

pub returns-clause-long : goal.returns-clause-long
returns-clause-long c = length-set c.digits.buffer (c.digits.at - 1) (48 + c.digits.left) ∙ c.digits.invariant.long

pub returns-clause-digits : goal.returns-clause-digits
returns-clause-digits c =
    let i = c.digits.invariant in
    digit_first _ c.digits.left c.digits.at c.digits.buffer (omega arith) (omega arith) c.digits-test.false i.digits

pub returns-clause-before : goal.returns-clause-before
returns-clause-before c few =
    let i = c.digits.invariant in
    fits_before c.args.number (c.digits.at - 1) c.args.end _ c.args.buffer.now
    (length-set c.digits.buffer (c.digits.at - 1) (48 + c.digits.left) ∙ i.long) (omega arith) (omega arith)
    (digit_first _ c.digits.left c.digits.at c.digits.buffer (omega arith) (omega arith) c.digits-test.false i.digits) few
    (omega arith)
