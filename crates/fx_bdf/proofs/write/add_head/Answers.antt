use Rattle.std.proofs.Common.{arith}
use Rattle.fx_bdf.proofs.RowDigits.{glyph_short, rows_short}
use Rattle.fx_bdf.proofs.write.add_head.Goals as goal

pub returns-clause-short : goal.returns-clause-short
returns-clause-short g c =
    grind (
      arith,
      c.text.ensures.value,
      c.put_head.ensures.text,
      c.text.ensures.short,
      c.put_head.ensures.formed,
      glyph_short,
      rows_short,
    )
