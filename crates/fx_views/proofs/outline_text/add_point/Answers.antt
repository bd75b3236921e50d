use Rattle.std.proofs.Common.{arith}
use Rattle.fx_views.proofs.OutlineLines.{line_short}
use Rattle.fx_views.proofs.outline_text.add_point.Goals as goal

pub returns-clause-short : goal.returns-clause-short
returns-clause-short g c =
    grind (
      arith,
      c.text.ensures.value,
      c.unsigned-contour.ensures,
      c.text-2.ensures.value,
      c.unsigned-number.ensures,
      c.curve_word-word.ensures.value,
      c.text-3.ensures.value,
      c.signed-x.ensures,
      c.text-4.ensures.value,
      c.signed-y.ensures,
      c.text.ensures.short,
      c.text-2.ensures.short,
      c.curve_word-word.ensures.short,
      line_short,
    )
