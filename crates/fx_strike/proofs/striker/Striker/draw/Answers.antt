use Rattle.std.proofs.Common.{arith}
use Rattle.fx_strike.proofs.Exits.{came}
use Rattle.fx_strike.proofs.Sketching.{drawn_whole}
use Rattle.fx_strike.proofs.striker.Striker.draw.Goals as goal

pub returns-in_err-sketch-clause-sketch : goal.returns-in_err-sketch-clause-sketch
returns-in_err-sketch-clause-sketch g c =
    rw (came c.from_residual.result c.from_residual.ensures.1) (c.in_err-sketch.ensures).sketch

pub returns-clause-sketch : goal.returns-clause-sketch
returns-clause-sketch g c = grind (arith, c.in_ok-sketch.ensures, c.glyph_of.ensures.glyph, c.glyph_of.ensures.fault, drawn_whole)
