-- Changes of points keep how many there are, and the contours: `changed_shape`, `each_shape`, `interpolated_shape`.
-- It serves the shape of a zone after each call, here and for instructions.
use Rattle.std.proofs.Common.{◌≡◌, refl, ap, ◌∙◌, ℕ, suc, Bool, List, [], ◌∷◌, length, Option, Some, None}
use Rattle.std.proofs.lemmas.List.{length-set}
use Rattle.std.specs.Prelude.{slice_get, option_map}
use Rattle.fx_fixed.specs.declared.places.Axis.{Axis}
use Rattle.fx_zone.specs.declared.point.ZonePoint.{ZonePoint}
use Rattle.fx_zone.specs.Figures.{Figure, HasShape, changed, written, each_changed}
use Rattle.fx_zone.specs.Interpolation.{figure_interpolated}
use Rattle.fx_zone.proofs.Interpolating.{figure_long}

pub shape_same : (f : Figure) → HasShape f f
shape_same f = record { points = refl; ends = refl }

pub shape_then : (f g h : Figure) → HasShape f g → HasShape g h → HasShape f h
shape_then f g h a b = record { points = b.points ∙ a.points; ends = b.ends ∙ a.ends }

written_long : (n : ℕ) (p : Option ZonePoint) (points : List ZonePoint) → length (written n p points) ≡ length points
written_long n None points = refl
written_long n (Some p) points = length-set points n p

pub changed_shape : (change : ZonePoint → ZonePoint) (n : ℕ) (f : Figure) → HasShape f (changed change n f)
changed_shape change n f = record { points = written_long n (option_map change (slice_get f.points n)) f.points; ends = refl }

each_changed_long : (chooses : ℕ → Bool) (change : ZonePoint → ZonePoint) (n : ℕ) (points : List ZonePoint)
    → length (each_changed chooses change n points) ≡ length points
unfolding each_changed
each_changed_long chooses change n [] = refl
each_changed_long chooses change n (p ∷ ps) = ap suc (each_changed_long chooses change (suc n) ps)

pub each_shape : (chooses : ℕ → Bool) (change : ZonePoint → ZonePoint) (f : Figure)
    → HasShape f (record f { points = each_changed chooses change 0 f.points })
each_shape chooses change f = record { points = each_changed_long chooses change 0 f.points; ends = refl }

interpolated_ends : (axis : Axis) (f : Figure) → (figure_interpolated axis f).ends ≡ f.ends
unfolding figure_interpolated
interpolated_ends axis f = refl

pub interpolated_shape : (axis : Axis) (f : Figure) → HasShape f (figure_interpolated axis f)
interpolated_shape axis f = record { points = figure_long axis f; ends = interpolated_ends axis f }
