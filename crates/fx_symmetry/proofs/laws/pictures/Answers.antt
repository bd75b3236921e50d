use Rattle.fx_symmetry.proofs.Shapes.{moves_picture, moves_near_picture}
use Rattle.fx_symmetry.proofs.laws.pictures.Goals as goal

pub returns-clause-centres : goal.returns-clause-centres
returns-clause-centres c = moves_picture

pub returns-clause-nearer : goal.returns-clause-nearer
returns-clause-nearer c = moves_near_picture
