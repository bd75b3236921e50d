-- Characters of a strike before their bits.
use Rattle.std.specs.Prelude.{ℕ, ℤ}
use Rattle.fx_machine.specs.declared.usage.Usage.{Usage}
use Rattle.fx_raster.specs.Rules.{ShapeView}

-- its code point, its advance in 1/1000 of an em and in pixels, its outline's shape, and what its glyph's programs used up
pub record Sketch : Type 0 where
  pub code : ℕ
  pub swidth : ℤ
  pub dwidth : ℤ
  pub shape : ShapeView
  pub usage : Usage
