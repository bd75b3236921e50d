use Rattle.std.proofs.Common.{◌≡◌, ℕ, ◌<◌, false}
use Rattle.fx_bdf.specs.declared.lines.LineKind.TheVariants.{Columns}
use Rattle.fx_bdf.specs.Lines.{line_bit}
use Rattle.fx_bdf.proofs.trim.has_column.Given as goal

abbrev pub invariant-rows : goal.invariant-rows
invariant-rows l = (k : ℕ) → k < l.i → line_bit Columns l.bitmap l.j k ≡ false
