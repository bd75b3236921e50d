use Rattle.std.proofs.Common.{rules, Some, sym, ap, ◌∙◌}
use Rattle.fx_glyf.proofs.Outlines.{outline_count}
use Rattle.fx_glyf.proofs.simple.Simple.read.Goals as goal

pub invariant_of-result : goal.invariant_of-result
invariant_of-result c =
    (c.if-ends-size.false, sym c.in-Some.ensures ∙ ap Some (sym (outline_count _ _ _ (sym c.in-Some-read.ensures))), search rules)
