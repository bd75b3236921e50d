use Rattle.fx_vary.proofs.Numbering.{numbered}
use Rattle.fx_vary.proofs.AllPoints.{all_given}
use Rattle.fx_vary.proofs.font_at.FontAt.bearings.Goals as goal

pub shape-requires : goal.shape-requires
shape-requires c =
    let of_font = rw c.in-Some.is at c.self.invariant in
    let m = rw (← c.self.view_is) at c.requires in
    rw of_font (numbered _ _ _ m)

pub returns-in-Some-clause-points : goal.returns-in-Some-clause-points
returns-in-Some-clause-points c =
    rw (← c.self.view_is, c.in-Some.is) (all_given _ _ _ _ _ _ c.shape.result c.shape.ensures.value)
