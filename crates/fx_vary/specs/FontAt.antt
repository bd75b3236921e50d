-- A font as it is, or at a place.
use Rattle.std.specs.Prelude.{◌≡◌, ℕ, List, length, Option, Some, None, Result, Ok}
use Rattle.fx_sfnt.specs.declared.records.Metrics.{Metrics}
use Rattle.fx_sfnt.specs.Tables.{Face}
use Rattle.fx_glyf.specs.declared.point.GlyphPoint.{GlyphPoint}
use Rattle.fx_glyf.specs.declared.component.Component.{Component}
use Rattle.fx_glyf.specs.declared.glyph.Glyph.{Glyph}
use Rattle.fx_glyf.specs.declared.glyph.Glyph.TheVariants.{Empty, Simple, Composite}
use Rattle.fx_vary.specs.declared.fault.ShapeFault.{ShapeFault}
use Rattle.fx_vary.specs.Gvar.{glyph_count}
use Rattle.fx_vary.specs.Instance.{InstanceView}
use Rattle.fx_vary.specs.Shape.{ShapeView, own_shape, shape_in}

-- a font, and its instance if it is at a place
pub record FontAtView : Type 0 where
  pub face : Face
  pub instance : Option InstanceView

-- an instance has as many glyphs as its font
abbrev pub IsInstanceOf : Face → Option InstanceView → Type 0
IsInstanceOf face None = Unit {0}
IsInstanceOf face (Some i) = glyph_count i.gvar ≡ face.maxp.num_glyphs

-- a glyph, by its number, its metrics and its reading: as the font has it, or at the place; or the first fault
unfoldable pub shape_by : Option InstanceView → ℕ → Metrics → Glyph → Result ShapeView ShapeFault
shape_by None g m glyph = Ok (own_shape m glyph)
shape_by (Some i) g m glyph = shape_in i g m glyph

-- a list as the font has it, or as it is at a place
abbrev pub list_by : {A : Type 0} → Option InstanceView → List A → List A → List A
list_by None own moved = own
list_by (Some i) own moved = moved

-- a glyph as the font has it, or with its points or components at a place
unfoldable pub glyph_by : Option InstanceView → Glyph → List GlyphPoint → List Component → Glyph
glyph_by i Empty ps cs = Empty
glyph_by i (Simple s) ps cs = Simple (record s { points = list_by i s.points ps })
glyph_by i (Composite c) ps cs = Composite (record c { components = list_by i c.components cs })

-- the points that a simple glyph has at a place are as many as in the font
abbrev pub HasAllPoints : Option InstanceView → Glyph → List GlyphPoint → Type 0
HasAllPoints (Some i) (Simple s) ps = length ps ≡ length s.points
HasAllPoints _ _ ps = Unit {0}
