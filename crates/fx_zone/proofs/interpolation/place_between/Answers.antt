use Rattle.std.proofs.Common.{◌∙◌, map}
use Rattle.fx_zone.specs.Interpolation.{placed_along}
use Rattle.fx_zone.proofs.interpolation.place_between.Goals as goal

pub returns-then-whole-le-MAX_SHORT : goal.returns-then-whole-le-MAX_SHORT
returns-then-whole-le-MAX_SHORT c = c.place_run.ensures ∙ (λ i. map (placed_along c.args.axis (c.along-lo_org.ensures i)
    (c.along-lo_cur.ensures i) (c.along-hi_org.ensures i) (c.along-hi_cur.ensures i)) c.args.points.now)

pub returns-else-apart-gt0 : goal.returns-else-apart-gt0
returns-else-apart-gt0 c = c.place_long_run.ensures ∙ (λ i. map (placed_along c.args.axis (c.along-lo_org.ensures i)
    (c.along-lo_cur.ensures i) (c.along-hi_org.ensures i) (c.along-hi_cur.ensures i)) c.args.points.now)
