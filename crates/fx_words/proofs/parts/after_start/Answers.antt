use Rattle.fx_words.proofs.Stripped.{stripped_start}
use Rattle.fx_words.proofs.parts.after_start.Goals as goal

pub returns : goal.returns
returns c = stripped_start _ _ _ c.strip_prefix.ensures.cases
