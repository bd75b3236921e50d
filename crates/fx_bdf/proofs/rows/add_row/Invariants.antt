use Rattle.std.proofs.Common.{◌*◌, min}
use Rattle.std.specs.Prelude.{Ok}
use Rattle.fx_fixed.specs.Texts.{Adds, Fails}
use Rattle.fx_bdf.specs.inner.Lines.{digits_from}
use Rattle.fx_bdf.proofs.rows.add_row.Given as goal

-- the digits of the words so far were added
abbrev pub invariant-words : goal.invariant-words
invariant-words g l = Adds Fails l.fn.text l.text (digits_from l.row 0 (min (8 * l.k) l.count)) (Ok tt)
