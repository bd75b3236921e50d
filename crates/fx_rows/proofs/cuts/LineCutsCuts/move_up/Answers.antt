use Rattle.std.proofs.Common.{arith}
use Rattle.std.proofs.lemmas.Int.{to_z-of_z}
use Rattle.fx_rows.proofs.cuts.LineCutsCuts.move_up.Goals as goal

pub side_above-self-requires : goal.side_above-self-requires
side_above-self-requires c = record { start = grind (arith, to_z-of_z, c.requires.at.1) }

pub returns : goal.returns
returns c = (c.requires.at.0, grind (arith, to_z-of_z, c.side_above-self.ensures.value))
