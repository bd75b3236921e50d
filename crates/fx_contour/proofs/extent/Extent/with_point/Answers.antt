use Rattle.std.proofs.Common.{arith, pos, ◌*ℤ◌}
use Rattle.std.proofs.lemmas.Int.{ints, clamps}
use Rattle.fx_contour.specs.Curve.{doubled_of}
use Rattle.fx_contour.proofs.Growing.{doubled_least, doubled_greatest, point_grows}
use Rattle.fx_contour.proofs.extent.Extent.with_point.Goals as goal

pub invariant_of-result : goal.invariant_of-result
invariant_of-result c = grind (arith, ints, clamps)

pub returns : goal.returns
returns c =
    let e = c.args.self in
    let p = c.args.p in
    point_grows (pos 2 *ℤ e.left) (pos 2 *ℤ e.right) (pos 2 *ℤ e.bottom) (pos 2 *ℤ e.top) _ _ _ _ (doubled_of p)
    (doubled_least c.least.result e.left p.x c.least.ensures) (doubled_greatest c.greatest.result e.right p.x c.greatest.ensures)
    (doubled_least c.least-2.result e.bottom p.y c.least-2.ensures)
    (doubled_greatest c.greatest-2.result e.top p.y c.greatest-2.ensures)
