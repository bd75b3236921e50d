use Rattle.std.proofs.Common.{arith}
use Rattle.std.proofs.lemmas.Int.{ints, clamps}
use Rattle.fx_winding.specs.Winding.{place_of}
use Rattle.fx_contour.proofs.Growing.{point_grows}
use Rattle.fx_contour.proofs.bounds.PieceBounds.with_point.Goals as goal

pub invariant_of-result : goal.invariant_of-result
invariant_of-result c = record {
  near_left = (omega (arith, ints, clamps), omega (arith, ints, clamps));
  near_right = (omega (arith, ints, clamps), omega (arith, ints, clamps));
  near_bottom = (omega (arith, ints, clamps), omega (arith, ints, clamps));
  near_top = (omega (arith, ints, clamps), omega (arith, ints, clamps));
}

pub returns : goal.returns
returns c =
    let b = c.args.self in
    point_grows b.left b.right b.bottom b.top _ _ _ _ (place_of c.args.p) (omega (arith, ints, clamps))
    (omega (arith, ints, clamps)) (omega (arith, ints, clamps)) (omega (arith, ints, clamps))
