use Rattle.std.proofs.Common.{◌∙◌, codes}
use Rattle.std.proofs.lemmas.Result.{IfOk-weaker}
use Rattle.fx_words.proofs.Joined.{joined_texts}
use Rattle.fx_words.proofs.sets.joined.Goals as goal

pub returns : goal.returns
returns c = IfOk-weaker c.join.result _ _ (λ list e. e ∙ joined_texts (codes ",") c.args.parts.now) c.join.ensures.ok
