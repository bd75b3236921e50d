use Rattle.fx_trace.specs.Changes.{point_change}
use Rattle.fx_trace.proofs.Pairs.{SaysBefore}
use Rattle.fx_trace.proofs.changes.add_points.Given as goal

-- the changes of the points before i were added
abbrev pub invariant-points : goal.invariant-points
invariant-points g l = SaysBefore (point_change l.zone) l.fn.text l.text l.was l.now l.i
