use Rattle.std.proofs.Common.{pos, ◌+ℤ◌, arith}
use Rattle.fx_winding.specs.Winding.{centre}
use Rattle.fx_rows.specs.inner.Sides.{place_at}
use Rattle.fx_rows.specs.inner.Walks.{right_of}
use Rattle.fx_rows.proofs.Walks.{after_step, small_after, near_column, near_above, spot_within}
use Rattle.fx_rows.proofs.walk.above.Goals as goal

pub after-requires : goal.after-requires
after-requires c =
    let k = c.args.spot.k in
    let top = centre (c.args.strip.base +ℤ pos 0) (c.args.strip.row +ℤ pos 1) in
    small_after c.args.piece.now (right_of (place_at c.args.strip 0) k) (right_of top k) c.args.spot.areas c.args.step
    c.requires.at.areas c.requires.step (near_column c.args.strip k
    (spot_within c.args.piece.now c.args.strip c.args.spot c.requires.at)) (near_above c.args.strip)

pub returns : goal.returns
returns c = grind (arith, c.requires.at, c.requires.step, c.after.ensures, after_step)
