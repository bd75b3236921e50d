use Rattle.std.proofs.Common.{◌*◌, take, Ok}
use Rattle.fx_views.specs.Outlines.{point_lines}
use Rattle.fx_views.specs.inner.Lengths.{AddsFew}
use Rattle.fx_views.proofs.outline_text.add_points.Given as goal

-- the lines of the points before i were added
abbrev pub invariant-points : goal.invariant-points
invariant-points g l = AddsFew (88 * l.i) l.fn.text l.text (point_lines l.ends 0 (take l.i l.points)) (Ok tt)
