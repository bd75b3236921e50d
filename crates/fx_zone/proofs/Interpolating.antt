-- The two orders of the points around a run, and the number of points that are interpolated: `between_lower`, `figure_long`.
-- It serves the interpolation of untouched points.
use Rattle.std.proofs.Common.{◌≡◌, sym, ap, ◌∙◌, true, false, if◌then◌else◌, List, length, map}
use Rattle.std.specs.Prelude.{int_lt}
use Rattle.fx_between.proofs.Contouring.{contours_long}
use Rattle.fx_zone.specs.declared.point.ZonePoint.{ZonePoint}
use Rattle.fx_fixed.specs.declared.places.Axis.{Axis}
use Rattle.fx_zone.specs.Interpolation.{org, is_touched, placed, between, figure_interpolated}
use Rattle.fx_zone.specs.Figures.{Figure}

pub between_lower : (axis : Axis) (before after : ZonePoint) (xs ys : List ZonePoint) → ys ≡ map (placed axis after before) xs
    → int_lt (org axis after) (org axis before) ≡ true → ys ≡ map (between axis before after) xs
unfolding between
between_lower axis before after xs ys e t =
    e ∙ sym (ap (λ c. map (λ p. if c then placed axis after before p else placed axis before after p) xs) t)

pub between_higher : (axis : Axis) (before after : ZonePoint) (xs ys : List ZonePoint) → ys ≡ map (placed axis before after) xs
    → int_lt (org axis after) (org axis before) ≡ false → ys ≡ map (between axis before after) xs
unfolding between
between_higher axis before after xs ys e t =
    e ∙ sym (ap (λ c. map (λ p. if c then placed axis after before p else placed axis before after p) xs) t)

pub figure_long : (axis : Axis) (f : Figure) → length (figure_interpolated axis f).points ≡ length f.points
unfolding figure_interpolated
figure_long axis f = contours_long (is_touched axis) (between axis) f.ends (length f.ends) f.points
