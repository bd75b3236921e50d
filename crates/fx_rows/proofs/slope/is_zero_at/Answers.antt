use Rattle.std.proofs.Common.{w64}
use Rattle.fx_winding.proofs.Places.{along, zero_test}
use Rattle.fx_rows.proofs.Values.{value_kept}
use Rattle.fx_rows.proofs.slope.is_zero_at.Goals as goal

pub overflow_mul-result : goal.overflow_mul-result
overflow_mul-result c =
    let k = value_kept c.args.slope.start c.args.slope.step c.from.result c.args.k c.from.ensures c.requires c.args.slope.near
    c.args.slope.near_step in
    k.product_fits

pub overflow_add-result : goal.overflow_add-result
overflow_add-result c =
    let k = value_kept c.args.slope.start c.args.slope.step c.from.result c.args.k c.from.ensures c.requires c.args.slope.near
    c.args.slope.near_step in
    k.sum_fits

pub returns : goal.returns
returns c =
    let k = value_kept c.args.slope.start c.args.slope.step c.from.result c.args.k c.from.ensures c.requires c.args.slope.near
    c.args.slope.near_step in
    along _ _ _ k.value (zero_test w64 _ k.sum_fits)
