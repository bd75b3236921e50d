-- The frame: the box of pixels whose centres lie in the closed bounding box of the points of the spans.
use Rattle.std.specs.Prelude.{IsTrue, ◌⊎◌, ◌<◌, ℕ, ℤ, pos, ◌+ℤ◌, ◌*ℤ◌, ◌≤ℤ◌, int_le, Bool, false, ◌&&◌, ◌||◌, Result, List, [], ◌∷◌}
use Rattle.std.specs.Prelude.{Option, Some, None, IsSomeAnd, ◌↔◌}
use Rattle.std.specs.Int.{int_div_euclid}
use Rattle.std.specs.Option.{option_map_or}
use Rattle.fx_fixed.specs.Chain.{◌>>=◌, refuse}
use Rattle.fx_winding.specs.Area.{Place}
use Rattle.fx_winding.specs.Winding.{Span, centre, IsCovered}
use Rattle.fx_winding.specs.declared.frame.Frame.{Frame}
use Rattle.fx_winding.specs.Frames.{IsInFrame}
use Rattle.fx_winding.specs.Limits.{greatest_side}
use Rattle.fx_winding.specs.Outside.{AreOfOutline}
use Rattle.fx_outline.specs.declared.points.OutlinePoint.{OutlinePoint}
use Rattle.fx_contour.specs.Contours.{drawn_of}
use Rattle.fx_contour.specs.declared.fault.ContourFault.{ContourFault}
use Rattle.fx_contour.specs.declared.fault.ContourFault.TheVariants.{TooLarge}

-- one of the span's points has P
abbrev pub HasAny : (Place → Type 0) → Span → Type 0
HasAny P s = P s.a ⊎ (IsSomeAnd s.b P ⊎ P s.c)

-- one of the points of the spans has P
abbrev pub HaveAny : (Place → Type 0) → List Span → Type 0
HaveAny P [] = ⊥
HaveAny P (s ∷ ss) = HasAny P s ⊎ HaveAny P ss

-- p lies in the closed bounding box of the points of the spans
pub record IsInBoundingBox (p : Place) (ss : List Span) : Type 0 where
  pub left : HaveAny (λ q. q.x ≤ℤ p.x) ss
  pub right : HaveAny (λ q. p.x ≤ℤ q.x) ss
  pub bottom : HaveAny (λ q. q.y ≤ℤ p.y) ss
  pub top : HaveAny (λ q. p.y ≤ℤ q.y) ss

-- f has a pixel, and holds exactly the pixels whose centres lie in the bounding box
pub record IsFrameOf (f : Frame) (ss : List Span) : Type 0 where
  pub columns : 0 < f.width
  pub rows : 0 < f.height
  pub pixels : (i j : ℤ) → IsInFrame f i j ↔ IsInBoundingBox (centre i j) ss

-- the centre of pixel n lies from low to high
abbrev pub IsCentreIn : ℤ → ℤ → ℤ → Type 0
IsCentreIn low high n = (low ≤ℤ (pos 128 *ℤ n +ℤ pos 64)) × ((pos 128 *ℤ n +ℤ pos 64) ≤ℤ high)

-- no pixel's centre lies from low to high
abbrev pub AreNoPixels : ℤ → ℤ → Type 0
AreNoPixels low high = (n : ℤ) → ¬ (IsCentreIn low high n)

-- no pixel's centre lies in the bounding box
abbrev pub HaveNoPixel : List Span → Type 0
HaveNoPixel ss = (col row : ℤ) → ¬ (IsInBoundingBox (centre col row) ss)

-- the frame of the spans, or none if they have no pixel
abbrev pub IsFrameFor : Option Frame → List Span → Type 0
IsFrameFor None ss = HaveNoPixel ss
IsFrameFor (Some f) ss = IsFrameOf f ss

-- two pixels of one row, or of one column, as far apart as the greatest side have their centres in the bounding box
abbrev pub AreTooLarge : List Span → Type 0
AreTooLarge ss =
    (col : ℤ) × (row : ℤ) × IsInBoundingBox (centre col row) ss
    × (IsInBoundingBox (centre (col +ℤ pos greatest_side) row) ss ⊎ IsInBoundingBox (centre col (row +ℤ pos greatest_side)) ss)

-- a pixel lies in the frame, if there is one
abbrev pub IsInside : Option Frame → ℤ → ℤ → Type 0
IsInside None col row = ⊥
IsInside (Some f) col row = IsInFrame f col row

-- a pixel outside the frame is not covered, if the spans are those of closed contours
abbrev pub NothingOutsideFrame : Option Frame → List Span → Type 0
NothingOutsideFrame f ss = AreOfOutline ss → (col row : ℤ) → ¬ (IsInside f col row) → ¬ (IsCovered (centre col row) ss)

-- ---- too large, as a test

-- one of the span's points passes
abbrev pub has_any : (Place → Bool) → Span → Bool
has_any test s = test s.a || (option_map_or test s.b false || test s.c)

-- one of the points of the spans passes
abbrev pub have_any : (Place → Bool) → List Span → Bool
have_any test [] = false
have_any test (s ∷ ss) = has_any test s || have_any test ss

-- p lies in the closed bounding box
abbrev pub is_in_bounding_box : Place → List Span → Bool
is_in_bounding_box p ss =
    have_any (λ q. int_le q.x p.x) ss && (have_any (λ q. int_le p.x q.x) ss &&
    (have_any (λ q. int_le q.y p.y) ss && have_any (λ q. int_le p.y q.y) ss))

-- the first pixel of a row or a column whose centre lies at z or beyond
abbrev pub first_from : ℤ → ℤ
first_from z = int_div_euclid (z +ℤ pos 63) (pos 128)

-- the pixel in this column and row is in the box, and one as far from it as the greatest side
abbrev pub is_large_from : List Span → ℤ → ℤ → Bool
is_large_from ss col row =
    is_in_bounding_box (centre col row) ss &&
    (is_in_bounding_box (centre (col +ℤ pos greatest_side) row) ss || is_in_bounding_box
    (centre col (row +ℤ pos greatest_side)) ss)

-- the box is too large from the first column right of one of the points and the first row above one of them
unfoldable pub is_too_large : List Span → Bool
is_too_large ss = have_any (λ q. have_any (λ r. is_large_from ss (first_from q.x) (first_from r.y)) ss) ss

-- the law: the test decides whether the box is too large
abbrev pub LargeIsTested : Type 0
LargeIsTested = (ss : List Span) → IsTrue (is_too_large ss) ↔ AreTooLarge ss

-- whether the frame keeps its limit
unfoldable pub framed_of : List Span → Result (Unit {0}) ContourFault
framed_of ss = refuse (is_too_large ss) TooLarge

-- whether no point of an outline lies too far out and its frame keeps its limit; the first fault
abbrev pub outline_framed_of : List ℕ → List OutlinePoint → Result (Unit {0}) ContourFault
outline_framed_of ends points = drawn_of ends points >>= framed_of
