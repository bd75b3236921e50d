use Rattle.std.proofs.Common.{◌≡◌, ◌++◌, map}
use Rattle.fx_vary.specs.Shape.{point_at, along}
use Rattle.fx_vary.proofs.lists.push_points.Given as goal

-- with the points that are left, the list is the whole one
abbrev pub invariant-points : goal.invariant-points
invariant-points l =
    l.list.items ++ map (λ p. point_at (along l.second p)) l.point-iterator
    ≡ l.initial.list.items ++ map (λ p. point_at (along l.second p)) l.simple.points
