use Rattle.fx_moves.proofs.AddingNothing.{adds_nothing}
use Rattle.fx_moves.proofs.laws.law_add_nothing.Goals as goal

pub returns : goal.returns
returns c s ends second numbers n d ps qs h e = adds_nothing s ends second numbers n d ps qs h e
