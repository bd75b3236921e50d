use Rattle.fx_cli.proofs.Pictures.{picture_short}
use Rattle.fx_cli.proofs.picture.add_glyph.Goals as goal

pub returns-clause-short : goal.returns-clause-short
returns-clause-short g c = rw c.in-Some.is (picture_short c.in-Some.glyph c.bounds.ensures.formed)
