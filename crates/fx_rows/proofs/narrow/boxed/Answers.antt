use Rattle.std.proofs.Common.{refl, arith}
use Rattle.fx_fixed.proofs.Linear.{signed_linear}
use Rattle.fx_rows.proofs.Narrows.{sided_boxed}
use Rattle.fx_rows.proofs.narrow.boxed.Goals as goal

pub returns : goal.returns
returns c = λ s h t.
    sided_boxed s c.args.strip c.args.sided _ c.args.across.first c.args.across.end c.columns_before-first.result
    c.columns_before-end.result h
    (λ k i. let l = c.columns_before-first.ensures.below k i in omega (arith, signed_linear, l))
    (λ k i l. let r = c.columns_before-end.ensures.rest k i l in omega (arith, signed_linear, r))
    c.max.ensures c.min.ensures refl t
