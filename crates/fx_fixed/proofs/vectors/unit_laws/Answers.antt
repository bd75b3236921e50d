use Rattle.std.proofs.Common.{nat_eq, refl}
use Rattle.fx_fixed.specs.Unit.{square_length}
use Rattle.fx_fixed.proofs.Units.{unit_one, unit_of_is_unit}
use Rattle.fx_fixed.proofs.vectors.unit_laws.Goals as goal

pub returns-clause-one : goal.returns-clause-one
returns-clause-one c = λ x y u v u' v' g h. unit_one x y u v u' v' (nat_eq (square_length x y) 0) refl g h

pub returns-clause-function : goal.returns-clause-function
returns-clause-function c = unit_of_is_unit
