use Rattle.std.proofs.Common.{◌∙◌}
use Rattle.fx_strike.specs.Strike.{sketch_alone}
use Rattle.fx_strike.proofs.Weighing.{restored}
use Rattle.fx_strike.proofs.striker.Striker.draw_alone.Goals as goal

pub returns-clause-kept : goal.returns-clause-kept
returns-clause-kept g c =
    restored c.args.self.now _ _ _ _ (c.self.view_is ∙ c.draw-drawn.ensures.kept ∙ (c.in_ok-before.ensures).bounds.0)
    (c.in_ok-before.ensures).bounds.1

pub returns-clause-sketch : goal.returns-clause-sketch
unfolding sketch_alone
returns-clause-sketch g c = rw (c.in_ok-before.ensures).bounds.0 at c.draw-drawn.ensures.sketch
