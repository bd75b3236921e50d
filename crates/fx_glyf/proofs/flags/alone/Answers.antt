use Rattle.std.proofs.Common.{arith, sym, refl, ◌∙◌}
use Rattle.fx_glyf.proofs.Sizes.{one_measured}
use Rattle.fx_glyf.proofs.flags.alone.Goals as goal

pub flags-preserved : goal.flags-preserved
flags-preserved c =
    let few = c.sizes_of-size.ensures.few in
    let few_x = few.0 in
    let few_y = few.1 in
    let ix = c.flags.invariant.few_xs in
    let iy = c.flags.invariant.few_ys in
    record {
      measured = one_measured c.args.bytes.now c.args.most c.flags.at _ c.flags.xs c.flags.ys _ _ (omega arith) (omega arith) refl
          (sym c.has.ensures ∙ c.if-has.false) c.sizes_of-size.ensures.value c.flags.invariant.measured;
      few_xs = omega (arith, few_x, ix);
      few_ys = omega (arith, few_y, iy);
    }
