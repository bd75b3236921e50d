use Rattle.std.proofs.lemmas.List.Filters.{dedup_is}
use lib.Dec.{eqb}
use Rattle.fx_request.proofs.characters.each_once.Goals as goal

pub returns : goal.returns
returns c = dedup_is eqb _ _ c.dedup.ensures.filtered
