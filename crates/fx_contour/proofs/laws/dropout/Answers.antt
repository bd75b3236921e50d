use Rattle.fx_contour.proofs.Bridged.{met_rows_are_kept, met_columns_are_kept}
use Rattle.fx_contour.proofs.Kept.{margin_is_tested, many_is_tested, some_pixel_is_kept, box_is_kept, covered_is_kept}
use Rattle.fx_contour.proofs.laws.dropout.Goals as goal

pub returns-clause-margin : goal.returns-clause-margin
returns-clause-margin c = margin_is_tested

pub returns-clause-many : goal.returns-clause-many
returns-clause-many c = many_is_tested

pub returns-clause-some : goal.returns-clause-some
returns-clause-some c = some_pixel_is_kept

pub returns-clause-holds : goal.returns-clause-holds
returns-clause-holds c = box_is_kept

pub returns-clause-covered : goal.returns-clause-covered
returns-clause-covered c = covered_is_kept

pub returns-clause-rows : goal.returns-clause-rows
returns-clause-rows c = met_rows_are_kept

pub returns-clause-columns : goal.returns-clause-columns
returns-clause-columns c = met_columns_are_kept
