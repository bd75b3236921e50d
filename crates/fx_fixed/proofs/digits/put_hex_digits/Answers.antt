use Rattle.std.proofs.Common.{◌≡◌, ◌+◌, ◌-◌, suc, ◌∙◌, arith, refl, drop}
use Rattle.std.proofs.lemmas.List.{length-set}
use Rattle.fx_fixed.proofs.Decimals.{fits_first, fits_left, fits_more}
use Rattle.fx_fixed.proofs.Hexadecimals.{hex_none, hex_more, hex_first}
use Rattle.fx_fixed.proofs.digits.put_hex_digits.Goals as goal

pub digits-init : goal.digits-init
digits-init c = record {
  within = omega arith;
  some = omega arith;
  long = refl;
  digits = hex_none c.args.number c.args.end (drop c.args.end c.args.buffer.now);
  fits = fits_first 16 16 c.args.number c.args.end (omega arith);
}

pub digits-preserved : goal.digits-preserved
digits-preserved c =
    let i = c.digits.invariant in
    let e : c.digits.at + 16 - c.args.end ≡ suc (c.digits.at - 1 + 16 - c.args.end) = omega arith in
    record {
      within = omega arith;
      some = omega (arith, fits_more 16 _ _ _ e c.digits-test.true i.fits);
      long = length-set c.digits.buffer (c.digits.at - 1) _ ∙ i.long;
      digits = hex_more _ c.digits.left c.digits.at c.args.end _ c.digits.buffer (omega arith) (omega arith) i.within
          (omega arith) c.digits-test.true c.hex_digit.ensures i.digits;
      fits = fits_left 16 _ _ _ (omega arith) e i.fits;
    }

pub returns-clause-long : goal.returns-clause-long
returns-clause-long c = length-set c.digits.buffer (c.digits.at - 1) _ ∙ c.digits.invariant.long

pub returns-clause-digits : goal.returns-clause-digits
returns-clause-digits c =
    let i = c.digits.invariant in hex_first _ c.digits.left c.digits.at c.args.end _ c.digits.buffer (omega arith)
    (omega arith) (omega arith) c.digits-test.false c.hex_digit-2.ensures i.digits
