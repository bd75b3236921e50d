-- The setters that refuse numbers: each gives the state then, or the fault.
-- Apple TrueType Reference Manual, SZP0 to SZPS, SLOOP, SDS.
use Rattle.std.specs.Prelude.{ℤ, Result, Ok}
use Rattle.fx_fixed.specs.Chain.{◌>>=◌}
use Rattle.fx_gstate.specs.declared.fault.BadArgument.{BadArgument}
use Rattle.fx_gstate.specs.declared.state.GState.{GState}
use Rattle.fx_gstate.specs.States.{zone_of, loop_of, delta_shift_of}

-- SZP0, SZP1, SZP2
abbrev pub with_zp0 : ℤ → GState → Result GState BadArgument
with_zp0 n g = do
  zone ← zone_of n
  Ok (record g { zp0 = zone })

abbrev pub with_zp1 : ℤ → GState → Result GState BadArgument
with_zp1 n g = do
  zone ← zone_of n
  Ok (record g { zp1 = zone })

abbrev pub with_zp2 : ℤ → GState → Result GState BadArgument
with_zp2 n g = do
  zone ← zone_of n
  Ok (record g { zp2 = zone })

-- SZPS
abbrev pub with_zones : ℤ → GState → Result GState BadArgument
with_zones n g = do
  zone ← zone_of n
  Ok (record g { zp0 = zone; zp1 = zone; zp2 = zone })

-- SLOOP
abbrev pub with_loop : ℤ → GState → Result GState BadArgument
with_loop n g = do
  count ← loop_of n
  Ok (record g { loop_count = count })

-- SDS
abbrev pub with_delta_shift : ℤ → GState → Result GState BadArgument
with_delta_shift n g = do
  shift ← delta_shift_of n
  Ok (record g { delta_shift = shift })
