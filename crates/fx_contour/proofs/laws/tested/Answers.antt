use Rattle.fx_contour.proofs.Decided.{reach_is_tested, large_is_tested}
use Rattle.fx_contour.proofs.laws.tested.Goals as goal

pub returns-clause-near : goal.returns-clause-near
returns-clause-near c = reach_is_tested

pub returns-clause-large : goal.returns-clause-large
returns-clause-large c = large_is_tested
