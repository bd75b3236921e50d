-- What a row does with each point of its loop, for the code that has one loop for all of them.
use Rattle.std.specs.Prelude.{ℤ}
use Rattle.fx_gstate.specs.declared.state.GState.{GState}
use Rattle.fx_pointops.specs.declared.zones.Zones.{Zones}
use Rattle.fx_pointops.specs.declared.loops.LoopStep.{LoopStep}
use Rattle.fx_pointops.specs.declared.loops.LoopStep.TheVariants.{Align, Flip, Shift, Interpolate}
use Rattle.fx_pointops.specs.ShiftPoint.{point_shifted}
use Rattle.fx_pointops.specs.Direct.{aligned_to_rp}
use Rattle.fx_pointops.specs.Interpolate.{point_in_proportion}
use Rattle.fx_pointops.specs.Flip.{point_flipped}

abbrev pub steps_of : GState → LoopStep → ℤ → Zones → Zones
steps_of g Align = aligned_to_rp g
steps_of g Flip = point_flipped g
steps_of g (Shift shift) = point_shifted g shift
steps_of g (Interpolate cb ob) = point_in_proportion g cb ob
