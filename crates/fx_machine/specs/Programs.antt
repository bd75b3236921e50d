-- The bytes of programs.
use Rattle.std.specs.Prelude.{ℕ, List}
use Rattle.fx_machine.specs.declared.program.Program.{Program}
use Rattle.fx_machine.specs.declared.program.Program.TheVariants.{Font, Prep, Glyph}
use Rattle.fx_machine.specs.declared.program.FontProgram.{FontProgram}
use Rattle.fx_machine.specs.declared.program.FontProgram.TheVariants.{Fpgm, Prep as PrepProgram, Glyph as GlyphProgram}
use Rattle.fx_machine.specs.declared.program.Programs.{Programs}

abbrev pub texts : Programs → Program → List ℕ
texts programs Font = programs.font
texts programs Prep = programs.prep
texts programs Glyph = programs.glyph

-- the name of a program, that of a glyph by the glyph's number
abbrev pub named : ℕ → Program → FontProgram
named g Font = Fpgm
named g Prep = PrepProgram
named g Glyph = GlyphProgram g
