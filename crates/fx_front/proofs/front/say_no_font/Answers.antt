use Rattle.fx_front.proofs.front.say_no_font.Goals as goal

pub returns : goal.returns
returns g c = (
  c.say.new.err,
  rw c.or_empty-name.ensures at c.say.ensures.told,
  rw (c.advised_package.ensures, c.or_empty-name.ensures) at c.say_how.ensures.told,
  c.say.ensures.line,
  c.say_how.ensures.line,
)
