-- The rows that read or change the graphics state and see no point, on the stack and the graphics state alone; and such rows on a
-- state. All continue at the next address.
-- Each comment has the opcode, the mnemonic, its name in the manual and what becomes of the stack, whose top is written last.
-- Apple TrueType Reference Manual, "Instruction set"; "Graphics state".
use Rattle.std.specs.Prelude.{ℕ, ℤ, true, false, Some, unwrap_or, Result, Ok}
use Rattle.fx_fixed.specs.Chain.{◌>>=◌, map_fault}
use Rattle.fx_fixed.specs.declared.places.Axis.{Axis}
use Rattle.fx_scale.specs.declared.scale.Scale.{Scale}
use Rattle.fx_scale.specs.Scaling.{scaled_by}
use Rattle.fx_gstate.specs.declared.fault.BadArgument.{BadArgument}
use Rattle.fx_gstate.specs.declared.rounding.RoundState.{RoundState}
use Rattle.fx_gstate.specs.declared.rounding.RoundState.TheVariants.{ToGrid, ToHalfGrid, ToDoubleGrid, DownToGrid, UpToGrid, Off}
use Rattle.fx_gstate.specs.declared.rounding.RoundState.TheVariants.{Super}
use Rattle.fx_gstate.specs.declared.state.GState.{GState}
use Rattle.fx_gstate.specs.Vectors.{axis_of, words_of}
use Rattle.fx_gstate.specs.Rounding.{super_grid_of}
use Rattle.fx_gstate.specs.Scan.{scan_control_of, scan_type_of}
use Rattle.fx_gstate.specs.Setters.{with_zp0, with_zp1, with_zp2, with_zones, with_loop, with_delta_shift}
use Rattle.fx_stackops.specs.declared.fault.StackFault.{StackFault}
use Rattle.fx_stackops.specs.Store.{StoreView, one, two, pushed}
use Rattle.fx_stackops.specs.Rows.{with_control}
use Rattle.fx_machine.specs.declared.halt.Cause.{Cause}
use Rattle.fx_machine.specs.declared.state.State.{State}
use Rattle.fx_machine.specs.Causes.{of_stack, of_state}

-- ---- words

-- a row of the stack alone
abbrev pub on_store : (StoreView → Result StoreView StackFault) → State → Result State Cause
on_store row s = do
  t ← map_fault of_stack (row s.store)
  Ok (record s { store = t })

-- a row that changes the graphics state without an operand
abbrev pub on_graphics : (GState → GState) → State → Result State Cause
on_graphics change s = Ok (record s { graphics = change s.graphics })

-- a row of the stack and the graphics state
abbrev pub Both : Type 0
Both = Result (StoreView × GState) Cause

abbrev pub on_both : (StoreView → GState → Both) → State → Result State Cause
on_both row s = do
  x ← row s.store s.graphics
  Ok (record s { store = x.0; graphics = x.1 })

-- a row that changes the graphics state by one operand, or by two
abbrev pub by_one : (ℤ → GState → GState) → StoreView → GState → Both
by_one set t g = do
  x ← map_fault of_stack (one t)
  Ok (x.1, set x.0 g)

abbrev pub by_two : (ℤ → ℤ → GState → GState) → StoreView → GState → Both
by_two set t g = do
  x ← map_fault of_stack (two t)
  Ok (x.2, set x.0 x.1 g)

-- a row that changes it by one operand, which must be in range
abbrev pub by_one_in_range : (ℤ → GState → Result GState BadArgument) → StoreView → GState → Both
by_one_in_range set t g = do
  x ← map_fault of_stack (one t)
  y ← map_fault of_state (set x.0 g)
  Ok (x.1, y)

-- ---- 0: vectors

-- 00-01 SVTCA[a], Set freedom and projection Vectors To Coordinate Axis: ->; with 0 the y axis, with 1 the x axis
abbrev pub svtca_row : Axis → GState → GState
svtca_row axis g = record g { freedom = axis_of axis; projection = axis_of axis; dual = axis_of axis }

-- 02-03 SPVTCA[a], Set Projection Vector To Coordinate Axis: ->; sets its dual, too
abbrev pub spvtca_row : Axis → GState → GState
spvtca_row axis g = record g { projection = axis_of axis; dual = axis_of axis }

-- 04-05 SFVTCA[a], Set Freedom Vector To Coordinate Axis: ->
abbrev pub sfvtca_row : Axis → GState → GState
sfvtca_row axis g = record g { freedom = axis_of axis }

-- 0E SFVTPV, Set Freedom Vector To Projection Vector: ->
abbrev pub sfvtpv_row : GState → GState
sfvtpv_row g = record g { freedom = g.projection }

-- 0A SPVFS, Set Projection Vector From Stack: x y ->; 0B SFVFS, Set Freedom Vector From Stack: x y ->
unfoldable pub spvfs_row : StoreView → GState → Both
spvfs_row = by_two (λ x y g. record g { projection = words_of x y; dual = words_of x y })

unfoldable pub sfvfs_row : StoreView → GState → Both
sfvfs_row = by_two (λ x y g. record g { freedom = words_of x y })

-- 0C GPV, Get Projection Vector: -> x y; 0D GFV, Get Freedom Vector: -> x y
abbrev pub pushed_pair : ℤ × ℤ → StoreView → Result StoreView StackFault
pushed_pair v t = do
  u ← pushed v.0 t
  pushed v.1 u

unfoldable pub gpv_row : GState → StoreView → Result StoreView StackFault
gpv_row g = pushed_pair g.projection

unfoldable pub gfv_row : GState → StoreView → Result StoreView StackFault
gfv_row g = pushed_pair g.freedom

-- ---- 1: reference points, zone pointers, loop, round state, distances

-- 10 SRP0, 11 SRP1, 12 SRP2, Set Reference Point 0, 1, 2: p ->
unfoldable pub srp0_row : StoreView → GState → Both
srp0_row = by_one (λ p g. record g { rp0 = p })

unfoldable pub srp1_row : StoreView → GState → Both
srp1_row = by_one (λ p g. record g { rp1 = p })

unfoldable pub srp2_row : StoreView → GState → Both
srp2_row = by_one (λ p g. record g { rp2 = p })

-- 13 SZP0, 14 SZP1, 15 SZP2, Set Zone Pointer 0, 1, 2: z ->; 16 SZPS, Set Zone PointerS: z ->, all three
unfoldable pub szp0_row : StoreView → GState → Both
szp0_row = by_one_in_range with_zp0

unfoldable pub szp1_row : StoreView → GState → Both
szp1_row = by_one_in_range with_zp1

unfoldable pub szp2_row : StoreView → GState → Both
szp2_row = by_one_in_range with_zp2

unfoldable pub szps_row : StoreView → GState → Both
szps_row = by_one_in_range with_zones

-- 17 SLOOP, Set LOOP variable: n ->
unfoldable pub sloop_row : StoreView → GState → Both
sloop_row = by_one_in_range with_loop

-- 18 RTG, 19 RTHG, 3D RTDG, 7D RDTG, 7C RUTG, 7A ROFF: -> Round To Grid, To Half Grid, To Double Grid, Down To Grid, Up To Grid,
-- OFF
abbrev pub round_state_row : RoundState → GState → GState
round_state_row state g = record g { round_state = state }

abbrev pub rtg_row : GState → GState
rtg_row = round_state_row ToGrid

abbrev pub rthg_row : GState → GState
rthg_row = round_state_row ToHalfGrid

abbrev pub rtdg_row : GState → GState
rtdg_row = round_state_row ToDoubleGrid

abbrev pub rdtg_row : GState → GState
rdtg_row = round_state_row DownToGrid

abbrev pub rutg_row : GState → GState
rutg_row = round_state_row UpToGrid

abbrev pub roff_row : GState → GState
roff_row = round_state_row Off

-- 1A SMD, Set Minimum Distance: v ->; 1D SCVTCI, Set Control Value Table Cut-In: v ->; 1E SSWCI, Set Single Width Cut-In: v ->
-- v is in 26.6.
unfoldable pub smd_row : StoreView → GState → Both
smd_row = by_one (λ v g. record g { minimum_distance = v })

unfoldable pub scvtci_row : StoreView → GState → Both
scvtci_row = by_one (λ v g. record g { cut_in = v })

unfoldable pub sswci_row : StoreView → GState → Both
sswci_row = by_one (λ v g. record g { single_width_cut_in = v })

-- 1F SSW, Set Single Width: v ->, in FUnits
unfoldable pub ssw_row : Scale → StoreView → GState → Both
ssw_row scale = by_one (λ v g. record g { single_width = scaled_by scale v })

-- ---- 4, 5, 7: auto flip, deltas, rounding, control values

-- 4D FLIPON, 4E FLIPOFF, Set the auto FLIP Boolean to ON, OFF: ->
abbrev pub flipon_row : GState → GState
flipon_row g = record g { auto_flip = true }

abbrev pub flipoff_row : GState → GState
flipoff_row g = record g { auto_flip = false }

-- 5E SDB, Set Delta Base: n ->; 5F SDS, Set Delta Shift: n ->
unfoldable pub sdb_row : StoreView → GState → Both
sdb_row = by_one (λ n g. record g { delta_base = n })

unfoldable pub sds_row : StoreView → GState → Both
sds_row = by_one_in_range with_delta_shift

-- 70 WCVTF, Write Control Value Table in Funits: i v ->, v in FUnits
unfoldable pub wcvtf_row : Scale → StoreView → Result StoreView StackFault
wcvtf_row scale t = do
  x ← two t
  Ok (with_control x.0 (scaled_by scale x.1) x.2)

-- 76 SROUND, Super ROUND: n ->; 77 S45ROUND, Super ROUND 45 degrees: n ->
unfoldable pub sround_row : StoreView → GState → Both
sround_row = by_one (λ n g. record g { round_state = Super (super_grid_of 64 n) })

unfoldable pub s45round_row : StoreView → GState → Both
s45round_row = by_one (λ n g. record g { round_state = Super (super_grid_of 45 n) })

-- ---- 8: drop-out control

-- 85 SCANCTRL, SCAN conversion ConTRoL: n ->; the low word of n says at which sizes drop-out control is on
abbrev pub with_control_of : ℤ → ℕ → GState → GState
with_control_of n ppem g = record g { scan_control = Some (scan_control_of n ppem (unwrap_or g.scan_control false)) }

unfoldable pub scanctrl_row : ℕ → StoreView → GState → Both
scanctrl_row ppem = by_one (λ n g. with_control_of n ppem g)

-- 8D SCANTYPE: n ->; a number that is no type changes nothing
unfoldable pub scantype_row : StoreView → GState → Both
scantype_row = by_one (λ n g. record g { scan_type = unwrap_or (scan_type_of n) g.scan_type })
