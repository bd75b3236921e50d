use Rattle.std.proofs.Common.{pos, false}
use Rattle.std.proofs.lemmas.List.{get_or-replicate}
use Rattle.fx_dropout.proofs.places.Places.new.Goals as goal

pub returns : goal.returns
returns c = λ n l. (get_or-replicate 128 n (pos 0) (pos 0) l, get_or-replicate 128 n false false l)
