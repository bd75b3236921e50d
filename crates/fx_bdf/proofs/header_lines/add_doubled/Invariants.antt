use Rattle.std.proofs.Common.{take}
use Rattle.std.specs.List.{flat_map}
use Rattle.std.specs.Prelude.{Ok}
use Rattle.fx_fixed.specs.Texts.{Adds, Fails}
use Rattle.fx_bdf.specs.Properties.{doubled}
use Rattle.fx_bdf.proofs.header_lines.add_doubled.Given as goal

-- the characters so far were added
abbrev pub invariant-characters : goal.invariant-characters
invariant-characters g l = Adds Fails l.fn.text l.text (flat_map doubled (take l.byte-index l.string)) (Ok tt)
