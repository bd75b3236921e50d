use Rattle.std.proofs.Common.{arith}
use Rattle.fx_bdf.proofs.HeldRows.{length-rows_held, held_at, held_fits}
use Rattle.fx_bdf.proofs.box_rows.BoxRows.row.Goals as goal

pub overflow_sub-start-2 : goal.overflow_sub-start-2
overflow_sub-start-2 c = grind (arith, c.self.invariant.high, c.requires, length-rows_held)

pub part-requires : goal.part-requires
part-requires c = grind (arith, c.self.invariant, c.requires, held_fits, length-rows_held)

pub new-requires : goal.new-requires
new-requires c = grind (arith, c.requires, c.part.ensures, c.self.invariant.held, length-rows_held)

pub returns : goal.returns
returns c = grind (arith, c.requires, c.new.ensures, c.part.ensures, length-rows_held, held_at)
