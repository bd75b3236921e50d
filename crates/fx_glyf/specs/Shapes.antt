-- What glyphs are points_seen as.
use Rattle.std.specs.Prelude.{ℕ, ℤ, List}
use Rattle.fx_glyf.specs.declared.point.GlyphPoint.{GlyphPoint}
use Rattle.fx_glyf.specs.declared.component.Component.{Component}

-- a simple glyph: its contours' end points, its points, the xMin of its header, its program
pub record SimpleView : Type 0 where
  pub ends : List ℕ
  pub points : List GlyphPoint
  pub x_min : ℤ
  pub code : List ℕ

-- a composite glyph: its components, the xMin of its header, its program
pub record CompositeView : Type 0 where
  pub components : List Component
  pub x_min : ℤ
  pub code : List ℕ
