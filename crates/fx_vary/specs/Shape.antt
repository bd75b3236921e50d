-- A glyph of a font at a place: its points or its components, its origin and its advance.
-- OpenType, "gvar", "Point numbers and processing for 'gvar'", "Phantom points".
use Rattle.std.specs.Prelude.{ℕ, suc, ◌+◌, ℤ, pos, ◌-ℤ◌, List, [], ◌∷◌, ◌++◌, length, map, slice_index_or, Option, Some, option_map}
use Rattle.std.specs.Prelude.{option_and_then, Result, Ok, Bool, true, false, if◌then◌else◌}
use Rattle.fx_fixed.specs.Chain.{◌>>=◌, wanted, map_fault}
use Rattle.fx_sfnt.specs.declared.records.Metrics.{Metrics}
use Rattle.fx_sfnt.specs.Tables.{Face}
use Rattle.fx_sfnt.specs.Glyphs.{metrics_of, glyph_bytes_of}
use Rattle.fx_glyf.specs.declared.point.GlyphPoint.{GlyphPoint}
use Rattle.fx_glyf.specs.declared.component.Component.{Component}
use Rattle.fx_glyf.specs.declared.glyph.Glyph.{Glyph}
use Rattle.fx_glyf.specs.declared.glyph.Glyph.TheVariants.{Empty, Simple, Composite}
use Rattle.fx_glyf.specs.Components.{has_offsets}
use Rattle.fx_glyf.specs.Glyphs.{glyph_of}
use Rattle.fx_axes.specs.Places.{axes_of, place_of}
use Rattle.fx_axes.specs.declared.records.AxisValue.{AxisValue}
use Rattle.fx_vary.specs.declared.fault.ShapeFault.{ShapeFault}
use Rattle.fx_vary.specs.declared.fault.ShapeFault.TheVariants.{Axes, Gvar, Font, Glyph as OfGlyph, BadVariations}
use Rattle.fx_moves.specs.declared.point.GivenPoint.{GivenPoint}
use Rattle.fx_vary.specs.declared.metrics.Bearings.{Bearings}
use Rattle.fx_vary.specs.Instance.{InstanceView, instance_of, points_added}
use Rattle.fx_vary.specs.Settling.{settled}
use Rattle.fx_vary.specs.Metrics.{bearings_of}

-- ---- before any tuple

-- a point at a coordinate
abbrev pub point_at : ℤ → GivenPoint
point_at at = record { at = at; named = false; delta = pos 0; moved = pos 0; sum = pos 0 }

-- a point whose coordinate is no matter: no delta is inferred from it
abbrev pub blank : GivenPoint
blank = point_at (pos 0)

-- the four phantom points
abbrev pub phantoms : List GivenPoint
phantoms = blank ∷ blank ∷ blank ∷ blank ∷ []

-- x, or y as the second coordinate
abbrev pub along : Bool → GlyphPoint → ℤ
along second p = if second then p.y else p.x

-- the points of a glyph's contours, or one for each component
unfoldable pub own_points : Bool → Glyph → List GivenPoint
own_points second Empty = []
own_points second (Simple s) = map (λ p. point_at (along second p)) s.points
own_points second (Composite c) = map (λ _. blank) c.components

-- these, and then the phantom points
abbrev pub points_before : Bool → Glyph → List GivenPoint
points_before second glyph = own_points second glyph ++ phantoms

-- the last point of each contour
unfoldable pub ends_of : Glyph → List ℕ
ends_of Empty = []
ends_of (Simple s) = s.ends
ends_of (Composite c) = []

-- the xMin of its header
unfoldable pub x_min_of : Glyph → ℤ
x_min_of Empty = pos 0
x_min_of (Simple s) = s.x_min
x_min_of (Composite c) = c.x_min

-- ---- after all tuples

-- what its tuples add to a coordinate of a glyph's points
unfoldable pub summed : InstanceView → ℕ → Bool → Glyph → Result (List GivenPoint) ShapeFault
summed i g second glyph =
    map_fault (λ _. BadVariations g) (points_added i g (ends_of glyph) second (points_before second glyph))

-- the sum of a point, by its number
abbrev pub sum_at : List GivenPoint → ℕ → ℤ
sum_at points k = (slice_index_or points k blank).sum

-- both coordinates, by their sums
abbrev pub both_settled : ℤ × ℤ → ℤ → ℤ → Option (ℤ × ℤ)
both_settled at x y = option_and_then (λ a. option_map (λ b. (a, b)) (settled at.1 y)) (settled at.0 x)

-- a point of a contour
unfoldable pub point_moved : ℤ → ℤ → GlyphPoint → Option GlyphPoint
point_moved x y p = option_map (λ at. record p { x = at.0; y = at.1 }) (both_settled (p.x, p.y) x y)

-- a component; one that is placed by the numbers of points stays
unfoldable pub component_moved : ℤ → ℤ → Component → Option Component
component_moved x y c =
    if has_offsets c then option_map (λ at. record c { args = at }) (both_settled c.args x y) else Some c

-- each of a list in turn, the first of which has the number k
unfoldable pub all_moved : {A : Type 0} → (ℤ → ℤ → A → Option A) → List GivenPoint → List GivenPoint → ℕ → List A → Option (List A)
all_moved move xs ys k [] = Some []
all_moved move xs ys k (p ∷ ps) =
    option_and_then (λ q. option_map (λ qs. q ∷ qs) (all_moved move xs ys (suc k) ps)) (move (sum_at xs k) (sum_at ys k) p)

-- the glyph with its points or components moved
unfoldable pub glyph_moved : List GivenPoint → List GivenPoint → Glyph → Option Glyph
glyph_moved xs ys Empty = Some Empty
glyph_moved xs ys (Simple s) = option_map (λ ps. Simple (record s { points = ps })) (all_moved point_moved xs ys 0 s.points)
glyph_moved xs ys (Composite c) =
    option_map (λ cs. Composite (record c { components = cs })) (all_moved component_moved xs ys 0 c.components)

-- a glyph with other points or components
unfoldable pub with_lists : Glyph → List GlyphPoint → List Component → Glyph
with_lists Empty ps cs = Empty
with_lists (Simple s) ps cs = Simple (record s { points = ps })
with_lists (Composite c) ps cs = Composite (record c { components = cs })

-- the sum of a phantom point, counted from 0
abbrev pub phantom_sum : Glyph → List GivenPoint → ℕ → ℤ
phantom_sum glyph points k = sum_at points (length (own_points false glyph) + k)

-- a glyph at a place
pub record ShapeView : Type 0 where
  pub glyph : Glyph
  pub bearings : Bearings

-- the origin and the advance of a glyph as the font has it: its left side lies at its bearing
abbrev pub own_bearings : Metrics → Glyph → Bearings
own_bearings m glyph = record { origin = x_min_of glyph -ℤ m.lsb; advance = m.advance_width }

-- a glyph as the font has it, by its metrics and its reading
abbrev pub own_shape : Metrics → Glyph → ShapeView
own_shape m glyph = record { glyph = glyph; bearings = own_bearings m glyph }

-- a glyph of an instance, by its number, its metrics and its reading; or the first fault
unfoldable pub shape_in : InstanceView → ℕ → Metrics → Glyph → Result ShapeView ShapeFault
shape_in i g m glyph = do
  xs ← summed i g false glyph
  ys ← summed i g true glyph
  moved ← wanted (glyph_moved xs ys glyph) (BadVariations g)
  bearings ← wanted (bearings_of m (x_min_of glyph) (phantom_sum glyph xs 0) (phantom_sum glyph xs 1)) (BadVariations g)
  Ok (record { glyph = moved; bearings = bearings })

-- a glyph of a font at values along its axes, or the first fault: from the values to a place, from the place to the instance
unfoldable pub shape_of : Face → List AxisValue → ℕ → Result ShapeView ShapeFault
shape_of face values g = do
  axes ← map_fault Axes (axes_of face)
  place ← map_fault Axes (place_of axes values)
  instance ← map_fault Gvar (instance_of face place)
  metrics ← map_fault Font (metrics_of face g)
  bytes ← map_fault Font (glyph_bytes_of face g)
  glyph ← map_fault OfGlyph (glyph_of bytes g)
  shape_in instance g metrics glyph
