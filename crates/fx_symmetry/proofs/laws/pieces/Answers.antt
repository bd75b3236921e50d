use Rattle.fx_symmetry.proofs.Covering.{adds_up, moves_cover, moves_bits}
use Rattle.fx_symmetry.proofs.laws.pieces.Goals as goal

pub returns-clause-pieces : goal.returns-clause-pieces
returns-clause-pieces c = adds_up

pub returns-clause-cover : goal.returns-clause-cover
returns-clause-cover c = moves_cover

pub returns-clause-bits : goal.returns-clause-bits
returns-clause-bits c = moves_bits
