-- The outline by a machine as it was made is that of the font, the size and the glyph: `by_machine`.
-- For `outline`.
use Rattle.std.proofs.Common.{◌≡◌, ℕ, Result, Ok}
use Rattle.fx_fixed.specs.Chain.{GivesUnless}
use Rattle.fx_sfnt.specs.Tables.{Face}
use Rattle.fx_machine.specs.Known.{Known, machine_of}
use Rattle.fx_hint.specs.declared.glyph_outline.GlyphOutline.{GlyphOutline}
use Rattle.fx_hint.specs.declared.fault.HintFault.{HintFault}
use Rattle.fx_hint.specs.Faults.{Fails}
use Rattle.fx_hint.specs.Programmed.{hinting_of}
use Rattle.fx_hint.specs.Outlines.{view_of_glyph_outline, outline_with, hinted_outline_of}

pub by_machine : (face : Face) (ppem g : ℕ) (known : Known) (r : Result GlyphOutline HintFault) → machine_of face ppem ≡ Ok known
    → GivesUnless Fails view_of_glyph_outline r (outline_with (hinting_of known) face ppem g)
    → GivesUnless Fails view_of_glyph_outline r (hinted_outline_of face ppem g)
unfolding hinted_outline_of
by_machine face ppem g known r e v = rw e v
