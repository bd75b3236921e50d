-- With coordinates exchanged an area changes its sign (`area_turned`), and an arc's weights stay as they are (`weight`).
-- Serves pieces whose columns are rows, here and in `fx_dropout`.
use Rattle.std.proofs.Common.{◌≡◌, ◌*ℤ◌, neg_ℤ, [], ◌∷◌}
use Rattle.fx_fixed.specs.Polynomial.{var, minus}
use Rattle.fx_fixed.proofs.Ring.{ring}
use Rattle.fx_winding.specs.Area.{Place, area}
use Rattle.fx_winding.specs.Turned.{turned_place}
use Rattle.fx_winding.specs.Winding.{sign}
use Rattle.fx_winding.proofs.Reflected.{Reflects, weight_reflected}
use Rattle.fx_winding.proofs.Triangle.{area_expr, at, coordinates, area_at}

pub area_turned : (p q r : Place) → area (turned_place p) (turned_place q) (turned_place r) ≡ neg_ℤ (area p q r)
area_turned p q r = ring (coordinates (p ∷ q ∷ r ∷ []) []) (area_expr (var 1) (var 0) (var 3) (var 2) (var 5) (var 4))
    (minus (area_at (at 0) (at 1) (at 2))) tt

pub turning : Reflects turned_place
turning = record { area_is = area_turned }

-- the weights are the same
pub weight : (a b c p q r : Place)
    → sign (area (turned_place a) (turned_place b) (turned_place c)) *ℤ area (turned_place p) (turned_place q) (turned_place r)
    ≡ sign (area a b c) *ℤ area p q r
weight a b c p q r = weight_reflected turned_place turning a b c p q r
