use Rattle.std.proofs.lemmas.Int.{to_z-of_z}
use Rattle.std.proofs.Common.{arith}
use Rattle.fx_contour.proofs.Kept.{middle_is, middle_size}
use Rattle.fx_contour.proofs.pixels.middle_pixel.Goals as goal

pub returns-clause-middle : goal.returns-clause-middle
returns-clause-middle c = grind (arith, c.requires, c.div_euclid.ensures, middle_is, middle_size, to_z-of_z)

pub returns-clause-size : goal.returns-clause-size
returns-clause-size c = grind (arith, c.requires, c.div_euclid.ensures, middle_is, middle_size, to_z-of_z)
