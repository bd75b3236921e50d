-- What each glyph of a font is, by its number: its points or its components, its origin and its advance; or the first fault.
use Rattle.std.specs.Prelude.{ℕ, Result, Ok}
use Rattle.fx_fixed.specs.Chain.{◌>>=◌, map_fault}
use Rattle.fx_sfnt.specs.Tables.{Face}
use Rattle.fx_sfnt.specs.Glyphs.{metrics_of, glyph_bytes_of}
use Rattle.fx_glyf.specs.Glyphs.{glyph_of}
use Rattle.fx_vary.specs.Shape.{ShapeView, own_shape}
use Rattle.fx_hint.specs.declared.fault.HintFault.{HintFault}
use Rattle.fx_hint.specs.declared.fault.HintFault.TheVariants.{Font, Glyph}

abbrev pub Shapes : Type 0
Shapes = ℕ → Result ShapeView HintFault

-- as the font has them: a number and its bytes, their reading
unfoldable pub shapes_of : Face → Shapes
shapes_of face g = do
  m ← map_fault Font (metrics_of face g)
  bytes ← map_fault Font (glyph_bytes_of face g)
  glyph ← map_fault Glyph (glyph_of bytes g)
  Ok (own_shape m glyph)
