-- The bounding box of points, and the pixels of a row or a column.
use Rattle.std.specs.Prelude.{◌≡◌, ◌⊎◌, ℤ, pos, ◌*ℤ◌, ◌≤ℤ◌, ℕ, ◌+◌, ◌<◌, List, [], ◌∷◌, Option, Some, None, ◌↔◌}
use Rattle.fx_winding.specs.Area.{Place}
use Rattle.fx_winding.specs.Winding.{Span}
use Rattle.fx_winding.specs.declared.frame.Frame.{Frame}
use Rattle.fx_winding.specs.Frames.{IsFrom}
use Rattle.fx_contour.specs.declared.bounds.PieceBounds.{PieceBounds}
use Rattle.fx_contour.specs.declared.extent.Extent.{Extent}
use Rattle.fx_contour.specs.declared.pixels.Pixels.{Pixels}
use Rattle.fx_outline.specs.declared.points.OutlinePoint.{OutlinePoint}
use Rattle.fx_contour.specs.Curve.{doubled_of}
use Rattle.fx_contour.specs.Contours.{IsRangeNear}
use Rattle.fx_contour.specs.Frames.{HaveAny, IsCentreIn}
use Rattle.fx_contour.specs.DropoutFrames.{IsKeptIn, farthest_with_margin}
use Rattle.fx_fixed.specs.Ranges.{IsWithin}

-- the four sides of a box
pub data Side : Type 0 where
  left_side : Side
  right_side : Side
  bottom_side : Side
  top_side : Side

-- q lies at t or farther to this side
abbrev pub IsOut : Side → ℤ → Place → Type 0
IsOut left_side t q = q.x ≤ℤ t
IsOut right_side t q = t ≤ℤ q.x
IsOut bottom_side t q = q.y ≤ℤ t
IsOut top_side t q = t ≤ℤ q.y

-- a box with these sides reaches t on this side
abbrev pub ReachOf : ℤ → ℤ → ℤ → ℤ → Side → ℤ → Type 0
ReachOf left right bottom top left_side t = left ≤ℤ t
ReachOf left right bottom top right_side t = t ≤ℤ right
ReachOf left right bottom top bottom_side t = bottom ≤ℤ t
ReachOf left right bottom top top_side t = t ≤ℤ top

-- the box b reaches t on this side
abbrev pub Reaches : PieceBounds → Side → ℤ → Type 0
Reaches b = ReachOf b.left b.right b.bottom b.top

-- a box that reaches as `new` tells is the least one around the box of `old` and the points of which R tells that one has P
pub record Grows (old new : Side → ℤ → Type 0) (R : (Place → Type 0) → Type 0) : Type 0 where
  pub sides : (side : Side) (t : ℤ) → new side t ↔ (old side t ⊎ R (IsOut side t))

-- a box that reaches as `reach` tells is the least one around the points of which R tells that one has P
pub record IsLeast (reach : Side → ℤ → Type 0) (R : (Place → Type 0) → Type 0) : Type 0 where
  pub sides : (side : Side) (t : ℤ) → R (IsOut side t) ↔ reach side t

-- the box, if there is one, reaches t on this side; `reach` tells how far boxes reach
abbrev pub DoesReach : {B : Type 0} → (B → Side → ℤ → Type 0) → Option B → Side → ℤ → Type 0
DoesReach reach None = λ side t. ⊥
DoesReach reach (Some b) = reach b

-- b is the least box around the points of the spans
abbrev pub AreBounds : PieceBounds → List Span → Type 0
AreBounds b ss = IsLeast (Reaches b) (λ P. HaveAny P ss)

-- the same, or there is no box, if they have no point
abbrev pub AreBoundsOf : Option PieceBounds → List Span → Type 0
AreBoundsOf b ss = IsLeast (DoesReach Reaches b) (λ P. HaveAny P ss)

-- one of the points, in 1/128 pixel, has P
abbrev pub HavePoint : (Place → Type 0) → List OutlinePoint → Type 0
HavePoint P [] = ⊥
HavePoint P (p ∷ ps) = P (doubled_of p) ⊎ HavePoint P ps

-- the extent reaches t, in 1/128 pixel, on this side
abbrev pub Extends : Extent → Side → ℤ → Type 0
Extends e = ReachOf (pos 2 *ℤ e.left) (pos 2 *ℤ e.right) (pos 2 *ℤ e.bottom) (pos 2 *ℤ e.top)

-- no side of the extent lies too far out
abbrev pub KeepsLimit : Extent → Type 0
KeepsLimit e = IsRangeNear e.left e.right × IsRangeNear e.bottom e.top

-- each of the contours with these last points has two points or more; the first of them begins at the point `start`
abbrev pub HaveTwo : ℕ → List ℕ → Type 0
HaveTwo start [] = Unit {0}
HaveTwo start (e ∷ es) = (start < e) × HaveTwo (e + 1) es

-- the pixels are those whose centres lie from low to high
abbrev pub ArePixels : Pixels → ℤ → ℤ → Type 0
ArePixels s low high = (n : ℤ) → IsFrom s.first s.count n ↔ IsCentreIn low high n

-- the pixels are those that drop-out control keeps from low to high
abbrev pub AreKept : Pixels → ℤ → ℤ → Type 0
AreKept s low high = (n : ℤ) → IsFrom s.first s.count n ↔ IsKeptIn low high n

-- each side of the box leaves the margin that drop-out control needs
abbrev pub BoundsLeaveMargin : PieceBounds → Type 0
BoundsLeaveMargin b =
    (IsWithin farthest_with_margin b.left × IsWithin farthest_with_margin b.right) ×
    (IsWithin farthest_with_margin b.bottom × IsWithin farthest_with_margin b.top)

-- f is the box of these columns and rows
pub record IsBoxOf (f : Frame) (columns rows : Pixels) : Type 0 where
  pub left : f.left ≡ columns.first
  pub width : f.width ≡ columns.count
  pub bottom : f.bottom ≡ rows.first
  pub height : f.height ≡ rows.count
