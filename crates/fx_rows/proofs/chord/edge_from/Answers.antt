use Rattle.std.proofs.Common.{arith}
use Rattle.fx_rows.proofs.chord.edge_from.Goals as goal

pub returns : goal.returns
returns c = record {
  slanted = c.requires.slanted;
  edge = grind (arith, c.slope_of-slope.ensures, c.below_zero-at.ensures);
  met = grind (arith, c.slope_of-slope.ensures, c.is_zero_at.ensures.0, c.is_zero_at.ensures.1);
}
