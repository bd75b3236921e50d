use Rattle.std.proofs.Common.{arith}
use Rattle.std.proofs.lemmas.Int.{to_z-of_z}
use Rattle.fx_rows.proofs.cuts.LineCutsCuts.end.Goals as goal

pub line_cut-requires-clause-start : goal.line_cut-requires-clause-start
line_cut-requires-clause-start c = grind (arith, to_z-of_z, c.requires.at.1)
