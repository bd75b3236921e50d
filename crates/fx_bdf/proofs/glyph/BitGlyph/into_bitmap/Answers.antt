use Rattle.std.proofs.Common.{◌∙◌, refl, ap, sym}
use Rattle.fx_winding.specs.Bitmaps.{bit_of}
use Rattle.fx_bdf.specs.Glyphs.{Glyph, glyph_bit}
use Rattle.fx_bdf.proofs.Trimmed.{shows_bits}
use Rattle.fx_bdf.proofs.glyph.BitGlyph.into_bitmap.Goals as goal

pub returns : goal.returns
returns c = λ col row.
    sym (shows_bits (bit_of c.self.inside.bitmap) _ refl c.self.invariant.tight col row)
    ∙ ap (λ (g : Glyph). glyph_bit g col row) c.self.view_is
