use Rattle.std.proofs.Common.{take}
use Rattle.std.specs.List.{flat_map}
use Rattle.std.specs.Prelude.{Ok}
use Rattle.fx_fixed.specs.Texts.{Adds, Fails}
use Rattle.fx_cli.specs.Pictures.{row_line}
use Rattle.fx_cli.proofs.picture.add_rows.Given as goal

-- the rows so far were added
abbrev pub invariant-rows : goal.invariant-rows
invariant-rows g l = Adds Fails l.fn.text l.text (flat_map row_line (take l.i l.glyph.rows)) (Ok tt)
