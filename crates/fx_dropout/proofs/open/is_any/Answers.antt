use Rattle.std.proofs.Common.{arith}
use Rattle.std.proofs.lemmas.Nat.{le_or_l, le_or_r}
use Rattle.fx_fixed.proofs.Order.{below_or_not}
use Rattle.fx_dropout.proofs.Opens.{none_set}
use Rattle.fx_dropout.proofs.open.is_any.Goals as goal

pub words-preserved : goal.words-preserved
words-preserved c = λ e k l. grind (arith, e, l, c.words.invariant, le_or_l, le_or_r, below_or_not k c.words.w)

pub returns : goal.returns
returns c = none_set c.args.words.now c.words.bits (λ e k l. c.words.invariant e k (omega (arith, l, c.words-test.false)))
