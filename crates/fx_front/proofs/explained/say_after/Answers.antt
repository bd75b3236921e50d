use Rattle.fx_front.proofs.Saying.{told}
use Rattle.fx_front.proofs.explained.say_after.Goals as goal

pub returns : goal.returns
returns g c = (
  c.tell.new.err,
  c.tell.ensures.line,
  c.tell-2.ensures.line,
  told _ _ _ (rw (c.new-file.ensures, c.facts.ensures) at c.add_first_line.ensures) c.tell.ensures.told,
  told _ _ _ (rw c.new-run.ensures at c.add_run.ensures) c.tell-2.ensures.told,
)
