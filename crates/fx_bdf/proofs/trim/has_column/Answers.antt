use Rattle.std.proofs.Common.{◌≡◌, ◌∙◌, ℕ, arith, false, sym, below_more}
use Rattle.std.proofs.lemmas.Grind.{common_steps}
use Rattle.fx_bdf.specs.declared.lines.LineKind.TheVariants.{Columns}
use Rattle.fx_bdf.specs.Lines.{line_bit}
use Rattle.fx_bdf.proofs.Packing.{set_bit_of_column}
use Rattle.fx_bdf.proofs.trim.has_column.Goals as goal

pub rows-preserved : goal.rows-preserved
rows-preserved c =
    below_more (λ (k : ℕ). line_bit Columns c.args.bitmap.now c.args.j k ≡ false) c.rows.i c.rows.invariant
    (sym (set_bit_of_column c.args.bitmap.now c.line.result.now c.rows.i c.args.j c.is_set.result (c.line.ensures.bits c.args.j)
    c.is_set.ensures) ∙ c.if-is_set.false)

pub returns-then-is_set : goal.returns-then-is_set
returns-then-is_set c = grind (arith, common_steps)
