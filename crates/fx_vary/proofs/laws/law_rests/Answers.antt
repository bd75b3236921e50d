use Rattle.fx_vary.proofs.NoneCounting.{rests_if_none}
use Rattle.fx_vary.proofs.laws.law_rests.Goals as goal

pub returns : goal.returns
returns c i g m glyph shape h b w n e = rests_if_none i g m glyph shape h b w n e
