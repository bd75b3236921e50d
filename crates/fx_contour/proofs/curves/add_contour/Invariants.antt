use Rattle.std.proofs.Common.{◌≡◌, vec_capacity}
use Rattle.fx_winding.specs.Winding.{place_of}
use Rattle.fx_contour.specs.Curve.{joint_of}
use Rattle.fx_contour.proofs.Walk.{Walked}
use Rattle.fx_contour.proofs.curves.add_contour.Given as goal

abbrev pub invariant-points : goal.invariant-points
invariant-points l = record {
  walked : Walked l.made.items l.initial.made.items l.points l.i l.before l.here l.first;
  room : vec_capacity l.made ≡ vec_capacity l.initial.made;
  from : place_of l.from ≡ joint_of l.before l.here;
}
