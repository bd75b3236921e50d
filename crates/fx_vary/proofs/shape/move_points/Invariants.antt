use Rattle.std.proofs.Common.{◌≡◌, ◌++◌, length}
use Rattle.std.specs.Prelude.{option_map}
use Rattle.fx_vary.specs.Shape.{point_moved, all_moved}
use Rattle.fx_vary.proofs.shape.move_points.Given as goal

-- the points that are left, moved, are the rest of the whole list
abbrev pub invariant-points : goal.invariant-points
invariant-points l =
    option_map (λ qs. l.list.items ++ qs) (all_moved point_moved l.xs l.ys (length l.list.items) l.point-iterator)
    ≡ all_moved point_moved l.xs l.ys 0 l.simple.points
