use Rattle.fx_raster.proofs.Existing.{picture_exists, picture_is_one}
use Rattle.fx_raster.proofs.laws.picture.Goals as goal

pub returns : goal.returns
returns c = record { exists = picture_exists; one = picture_is_one }
