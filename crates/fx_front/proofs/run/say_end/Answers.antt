use Rattle.std.proofs.Common.{inl, sym}
use Rattle.fx_front.proofs.Saying.{unchanged}
use Rattle.fx_front.proofs.run.say_end.Goals as goal

pub returns-in-Some : goal.returns-in-Some
returns-in-Some g c = rw (sym c.why_unwritten.ensures, c.in-Some.is) (
  c.say_unwritten.new.err,
  c.say_unwritten.ensures.line,
  inl (unchanged _ _),
  rw c.output_name.ensures at c.say_unwritten.ensures.told,
  inl (unchanged _ _),
)

pub returns-in-None : goal.returns-in-None
returns-in-None g c = rw (sym c.why_unwritten.ensures, c.in-None.is) c.say_after.ensures
