use Rattle.fx_words.proofs.Apart.{names_are_apart}
use Rattle.fx_words.proofs.laws.names.Goals as goal

pub returns : goal.returns
returns c = names_are_apart
