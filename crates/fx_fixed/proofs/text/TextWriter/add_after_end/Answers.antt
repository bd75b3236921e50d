use Rattle.fx_fixed.proofs.Texts.{adds_then}
use Rattle.fx_fixed.proofs.text.TextWriter.add_after_end.Goals as goal

pub returns-then-piece-gt-CAPACITY : goal.returns-then-piece-gt-CAPACITY
returns-then-piece-gt-CAPACITY g c = adds_then c.in_ok-end.ensures.adds c.put.ensures
