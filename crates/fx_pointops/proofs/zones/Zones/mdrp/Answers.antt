use Rattle.std.proofs.Common.{to_z-of_z, rules}
use Rattle.fx_pointops.proofs.Setting.{set_is}
use Rattle.fx_pointops.specs.Direct.{mdrp_of}
use Rattle.fx_pointops.specs.ShiftPoint.{moved_by}
use Rattle.fx_pointops.proofs.zones.Zones.mdrp.Goals as goal

pub returns : goal.returns
unfolding mdrp_of
returns c =
    let moved = set_is (moved_by c.args.g.now c.minus-3.result) _ _ _ _ _ _ (to_z-of_z c.ranges.p)
    c.in-Some-point_mut.ensures.value c.move_point.ensures in
    rw moved (search rules)
