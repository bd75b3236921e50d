-- The points of a loop: all steps for each, the top of the stack first.
-- Apple TrueType Reference Manual, "Graphics state": loop.
use Rattle.std.specs.Prelude.{ℤ, List, [], ◌∷◌}
use Rattle.fx_pointops.specs.declared.zones.Zones.{Zones}

-- a row's steps for each point
unfoldable pub each : (ℤ → Zones → Zones) → List ℤ → Zones → Zones
each steps [] z = z
each steps (p ∷ ps) z = each steps ps (steps p z)
