use Rattle.std.proofs.Common.{arith}
use Rattle.fx_bdf.proofs.Trimmed.{formed_of}
use Rattle.fx_bdf.proofs.glyph.BitGlyph.bounds.Goals as goal

pub returns-clause-formed : goal.returns-clause-formed
returns-clause-formed c = grind (arith, c.self.invariant, formed_of)
