use Rattle.fx_dropout.specs.inner.Closing.{AreLeftIn}
use Rattle.fx_dropout.proofs.open.leave_open_between.Given as goal

abbrev pub invariant-words : goal.invariant-words
invariant-words l = AreLeftIn l.words l.fn.noted l.noted l.at l.lower l.upper l.w
