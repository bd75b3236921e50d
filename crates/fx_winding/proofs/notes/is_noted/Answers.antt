use Rattle.std.proofs.Common.{arith}
use Rattle.fx_winding.proofs.Numbered.{left_column, right_column, row_number}
use Rattle.fx_winding.proofs.notes.is_noted.Goals as goal

pub returns : goal.returns
returns c =
    let a = c.centre_of.ensures in let b = c.centre_of-2.ensures in let d = c.as_slice.ensures.value in
    let e = c.any_meets.ensures in grind (arith, right_column, left_column, row_number)
