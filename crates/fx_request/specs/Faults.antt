-- The faults of the crates below as refusals.
use Rattle.fx_sfnt.specs.declared.fault.FontFault.{FontFault}
use Rattle.fx_sfnt.specs.declared.fault.FontFault.TheVariants as font
use Rattle.fx_cmap.specs.declared.fault.CharMapFault.{CharMapFault}
use Rattle.fx_cmap.specs.declared.fault.CharMapFault.TheVariants as char_map
use Rattle.fx_glyf.specs.declared.fault.GlyphFault.{GlyphFault}
use Rattle.fx_glyf.specs.declared.fault.GlyphFault.TheVariants as glyph
use Rattle.fx_machine.specs.declared.halt.MachineFault.{MachineFault}
use Rattle.fx_machine.specs.declared.halt.MachineFault.TheVariants as machine
use Rattle.fx_request.specs.declared.refusal.Refusal.{Refusal}
use Rattle.fx_request.specs.declared.refusal.Refusal.TheVariants.{NotTrueType, TableMissing, TableShort, BadHead, BadMaxp}
use Rattle.fx_request.specs.declared.refusal.Refusal.TheVariants.{NoFace, BadLoca, BadGlyphNumber, NoCharMap, BadCharMap}
use Rattle.fx_request.specs.declared.refusal.Refusal.TheVariants.{GlyphShort, BadContours, Halted, OutOfMemory}

-- a font's fault
abbrev pub of_font : FontFault → Refusal
of_font font.NotTrueType = NotTrueType
of_font font.NoFace = NoFace
of_font (font.TableMissing tag) = TableMissing tag
of_font (font.TableShort tag) = TableShort tag
of_font font.BadHead = BadHead
of_font font.BadMaxp = BadMaxp
of_font (font.BadLoca g) = BadLoca g
of_font (font.BadGlyphNumber g) = BadGlyphNumber g

-- a character map's fault
abbrev pub of_char_map : CharMapFault → Refusal
of_char_map char_map.NoCharMap = NoCharMap
of_char_map char_map.BadCharMap = BadCharMap

-- a fault of a glyph's bytes
abbrev pub of_glyph : GlyphFault → Refusal
of_glyph (glyph.GlyphShort g) = GlyphShort g
of_glyph (glyph.BadContours g) = BadContours g

-- a fault of the machine that runs a font's programs
abbrev pub of_machine : MachineFault → Refusal
of_machine (machine.Halted halt) = Halted halt
of_machine machine.OutOfMemory = OutOfMemory
