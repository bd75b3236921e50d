use Rattle.std.proofs.Common.{to_z-of_z, rules}
use Rattle.fx_zone.specs.Points.{laid}
use Rattle.fx_pointops.proofs.Setting.{set_is}
use Rattle.fx_pointops.proofs.zones.Zones.lay_from_rp.Goals as goal

pub returns-in-Some : goal.returns-in-Some
returns-in-Some c =
    let lays = set_is (laid c.plus.result) _ _ _ _ _ _ (to_z-of_z c.ranges.p) c.in-Some.ensures.value c.laid.ensures in
    rw lays (search rules)
