-- The frame with drop-out control: each direction by itself keeps the pixels whose centres lie from the least to the greatest
-- coordinate of the points of the spans; or, if there is no such pixel, the one in which the middle of the two lies. So a pixel is
-- kept wherever there is a span, and of each gap a pixel is kept.
use Rattle.std.specs.Prelude.{◌⊎◌, ◌↔◌, IsTrue, ℕ, ◌^◌, ◌-◌, ◌<◌, ℤ, pos, ◌+ℤ◌, ◌*ℤ◌, ◌≤ℤ◌, ◌<ℤ◌, neg_ℤ, int_le, Bool, false, not}
use Rattle.std.specs.Prelude.{◌&&◌, ◌||◌, Result, List, [], ◌∷◌, map, length, Option, Some, None, Any}
use Rattle.std.specs.Int.{int_min}
use Rattle.std.specs.Option.{option_map_or}
use Rattle.fx_fixed.specs.Chain.{◌>>=◌, refuse}
use Rattle.fx_fixed.specs.Ranges.{IsWithin}
use Rattle.fx_winding.specs.Area.{Place}
use Rattle.fx_winding.specs.Winding.{Span, centre, IsCovered}
use Rattle.fx_winding.specs.Meets.{IsMet}
use Rattle.fx_winding.specs.Turned.{turned_span}
use Rattle.fx_winding.specs.declared.frame.Frame.{Frame}
use Rattle.fx_winding.specs.Frames.{HasMargin}
use Rattle.fx_winding.specs.Limits.{greatest_side}
use Rattle.fx_winding.specs.Outside.{AreOfOutline}
use Rattle.fx_outline.specs.declared.points.OutlinePoint.{OutlinePoint}
use Rattle.fx_contour.specs.Contours.{is_within, drawn_of}
use Rattle.fx_contour.specs.Frames.{HaveAny, IsInBoundingBox, IsCentreIn, AreNoPixels, IsInside, have_any, first_from}
use Rattle.fx_contour.specs.declared.fault.ContourFault.{ContourFault}
use Rattle.fx_contour.specs.declared.fault.ContourFault.TheVariants.{TooFar, TooLarge}

-- the two coordinates of a place
abbrev pub x_of : Place → ℤ
x_of p = p.x

abbrev pub y_of : Place → ℤ
y_of p = p.y

-- the least of a coordinate of a span's points, the control point too
abbrev pub least_of : (Place → ℤ) → Span → ℤ
least_of coord s = int_min (coord s.a) (option_map_or (λ b. int_min (coord b) (coord s.c)) s.b (coord s.c))

-- the least of a coordinate of the points of a span and of those after it
abbrev pub least : (Place → ℤ) → Span → List Span → ℤ
least coord s [] = least_of coord s
least coord s (t ∷ ss) = int_min (least_of coord s) (least coord t ss)

-- the greatest of one: the least with the signs changed
abbrev pub greatest : (Place → ℤ) → Span → List Span → ℤ
greatest coord s ss = neg_ℤ (least (λ q. neg_ℤ (coord q)) s ss)

-- the middle of low and high lies in pixel n, which goes from 128n to before 128(n+1)
abbrev pub IsMiddleOf : ℤ → ℤ → ℤ → Type 0
IsMiddleOf low high n = ((pos 256 *ℤ n) ≤ℤ (low +ℤ high)) × ((low +ℤ high) <ℤ (pos 256 *ℤ (n +ℤ pos 1)))

-- the centre of pixel n lies from low to high; or no pixel's centre does, and the middle lies in n
abbrev pub IsKeptIn : ℤ → ℤ → ℤ → Type 0
IsKeptIn low high n = IsCentreIn low high n ⊎ (AreNoPixels low high × IsMiddleOf low high n)

-- column n, or row n, is kept
abbrev pub IsKept : (Place → ℤ) → List Span → ℤ → Type 0
IsKept coord [] n = ⊥
IsKept coord (s ∷ ss) n = IsKeptIn (least coord s ss) (greatest coord s ss) n

-- the pixel in column i and row j lies in the frame with drop-out control
abbrev pub IsInDropoutFrame : List Span → ℤ → ℤ → Type 0
IsInDropoutFrame ss i j = IsKept x_of ss i × IsKept y_of ss j

-- f is the frame with drop-out control; none has no pixel
abbrev pub IsDropoutFrameFor : Option Frame → List Span → Type 0
IsDropoutFrameFor f ss = (i j : ℤ) → IsInside f i j ↔ IsInDropoutFrame ss i j

-- the columns and rows beside the frame, if there is one, have numbers too
abbrev pub HaveMargin : Option Frame → Type 0
HaveMargin None = Unit {0}
HaveMargin (Some f) = HasMargin f

-- ---- too far and too large, as tests

-- the greatest distance from either axis of a point of the spans, in 1/128 pixel: two pixels less than without drop-out control, so
-- that the columns and rows beside the frame have numbers too (a limit of this project)
abbrev pub farthest_with_margin : ℕ
farthest_with_margin = 2 ^ 22 - 256

-- a place within that distance
abbrev pub LeavesMargin : Place → Type 0
LeavesMargin p = IsWithin farthest_with_margin p.x × IsWithin farthest_with_margin p.y

abbrev pub leaves_margin : Place → Bool
leaves_margin p = is_within farthest_with_margin p.x && is_within farthest_with_margin p.y

-- two columns, or rows, that are as far apart as the greatest side are kept
abbrev pub KeepsTooMany : (Place → ℤ) → List Span → Type 0
KeepsTooMany coord ss = (n : ℤ) × IsKept coord ss n × IsKept coord ss (n +ℤ pos greatest_side)

-- the greatest lies at or beyond the centre that is as far as the greatest side from the first one at the least or beyond
unfoldable pub keeps_too_many : (Place → ℤ) → List Span → Bool
keeps_too_many coord [] = false
keeps_too_many coord (s ∷ ss) =
    int_le (pos 128 *ℤ (first_from (least coord s ss) +ℤ pos greatest_side) +ℤ pos 64) (greatest coord s ss)

-- whether each point leaves the margin and the frame keeps its limit; the first fault
unfoldable pub dropout_framed_of : List Span → Result (Unit {0}) ContourFault
dropout_framed_of ss = do
  _ ← refuse (have_any (λ q. not (leaves_margin q)) ss) TooFar
  refuse (keeps_too_many x_of ss || keeps_too_many y_of ss) TooLarge

-- the same of an outline, none of whose points may lie too far out
abbrev pub outline_dropout_framed_of : List ℕ → List OutlinePoint → Result (Unit {0}) ContourFault
outline_dropout_framed_of ends points = drawn_of ends points >>= dropout_framed_of

-- ---- laws

-- the law: the tests decide whether a point lies too far out and whether too many columns, or rows, are kept
abbrev pub MarginIsTested : Type 0
MarginIsTested = (ss : List Span) → IsTrue (have_any (λ q. not (leaves_margin q)) ss) ↔ HaveAny (λ q. ¬ (LeavesMargin q)) ss

abbrev pub ManyIsTested : Type 0
ManyIsTested = (ss : List Span) → (IsTrue (keeps_too_many x_of ss) ↔ KeepsTooMany x_of ss)
    × (IsTrue (keeps_too_many y_of ss) ↔ KeepsTooMany y_of ss)

-- the law: a pixel is kept wherever there is a span
abbrev pub SomePixelIsKept : Type 0
SomePixelIsKept = (ss : List Span) → 0 < length ss → (i : ℤ) × (j : ℤ) × IsInDropoutFrame ss i j

-- the law: the frame with drop-out control has the pixels of the frame without
abbrev pub BoxIsKept : Type 0
BoxIsKept = (ss : List Span) (i j : ℤ) → IsInBoundingBox (centre i j) ss → IsInDropoutFrame ss i j

-- the law: each pixel that closed contours cover lies in it
abbrev pub CoveredIsKept : Type 0
CoveredIsKept = (ss : List Span) → AreOfOutline ss → (i j : ℤ) → IsCovered (centre i j) ss → IsInDropoutFrame ss i j

-- the law: of two neighbours in a row with a piece between their centres one lies in it
abbrev pub MetRowsAreKept : Type 0
MetRowsAreKept = (ss : List Span) (i j : ℤ) → Any (IsMet (centre i j) (centre (i +ℤ pos 1) j)) ss
    → IsInDropoutFrame ss i j ⊎ IsInDropoutFrame ss (i +ℤ pos 1) j

-- the law: and of two in a column
abbrev pub MetColumnsAreKept : Type 0
MetColumnsAreKept = (ss : List Span) (i j : ℤ) → Any (IsMet (centre j i) (centre (j +ℤ pos 1) i)) (map turned_span ss)
    → IsInDropoutFrame ss i j ⊎ IsInDropoutFrame ss i (j +ℤ pos 1)
