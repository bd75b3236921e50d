-- Reading a glyph, with the first fault.
use Rattle.std.specs.Prelude.{ℕ, ◌*◌, ℤ, List, [], ◌∷◌, length, drop, Option, Some, Result, Ok, Bool, true, false, ◌==◌, nat_lt}
use Rattle.std.specs.Prelude.{if◌then◌else◌}
use Rattle.fx_fixed.specs.Chain.{◌>>=◌, refuse, wanted, map_ok}
use Rattle.fx_sfnt.specs.Fields.{field, signed_field}
use Rattle.fx_glyf.specs.Words.{words, count_from, program_of}
use Rattle.fx_glyf.specs.Points.{glyph_points_of}
use Rattle.fx_glyf.specs.Components.{components_in, has_program}
use Rattle.fx_glyf.specs.Shapes.{SimpleView, CompositeView}
use Rattle.fx_glyf.specs.declared.fault.GlyphFault.{GlyphFault}
use Rattle.fx_glyf.specs.declared.fault.GlyphFault.TheVariants.{GlyphShort, BadContours}
use Rattle.fx_glyf.specs.declared.glyph.Glyph.{Glyph}
use Rattle.fx_glyf.specs.declared.glyph.Glyph.TheVariants.{Empty, Simple, Composite}

-- the xMin of a header
abbrev pub x_min_of : List ℕ → ℤ
x_min_of bytes = signed_field bytes 2

-- a simple glyph of `contours` contours; g is the glyph's number
unfoldable pub simple_of : ℕ → List ℕ → ℕ → Result SimpleView GlyphFault
simple_of contours bytes g = do
  _ ← refuse (nat_lt (length (drop 10 bytes)) (2 * contours)) (GlyphShort g)
  count ← wanted (count_from 0 (words contours (drop 10 bytes))) (BadContours g)
  program ← wanted (program_of (drop (2 * contours) (drop 10 bytes))) (GlyphShort g)
  points ← wanted (glyph_points_of count program.1) (GlyphShort g)
  Ok (record { ends = words contours (drop 10 bytes); points = points; x_min = x_min_of bytes; code = program.0 })

-- the program after components, if one is announced
abbrev pub announced_of : Bool → List ℕ → Option (List ℕ × List ℕ)
announced_of true bytes = program_of bytes
announced_of false bytes = Some ([], bytes)

-- a composite glyph
unfoldable pub composite_of : List ℕ → ℕ → Result CompositeView GlyphFault
composite_of bytes g = do
  components ← wanted (components_in true (drop 10 bytes)) (GlyphShort g)
  program ← wanted (announced_of (has_program components.0) components.1) (GlyphShort g)
  Ok (record { components = components.0; x_min = x_min_of bytes; code = program.0 })

-- the glyph after a header with this number of contours
abbrev pub body_of : ℕ → List ℕ → ℕ → Result Glyph GlyphFault
body_of contours bytes g =
    if contours == 0 then Ok Empty
    else (if nat_lt contours 32768 then map_ok Simple (simple_of contours bytes g)
    else map_ok Composite (composite_of bytes g))

-- the glyph of bytes, with its number, or the first fault
unfoldable pub glyph_of : List ℕ → ℕ → Result Glyph GlyphFault
glyph_of [] g = Ok Empty
glyph_of (b ∷ bytes) g = do
  _ ← refuse (nat_lt (length (b ∷ bytes)) 10) (GlyphShort g)
  body_of (field 2 (b ∷ bytes) 0) (b ∷ bytes) g
