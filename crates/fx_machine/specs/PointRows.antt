-- The rows that measure and move points, with their operands and the reference points that they set. All continue at the next
-- address.
-- Each comment has the opcode, the mnemonic, its name in the manual, what becomes of the stack, whose top is written last, and the
-- reference points that the row sets. What it does to the points is said in fx_pointops, in the file of its family: of MIAP and
-- MIRP in Indirect.
-- Apple TrueType Reference Manual, "Instruction set".
use Rattle.std.specs.Prelude.{ℕ, ℤ, negsuc, Bool, if◌then◌else◌, List, reverse, drop, Result, Ok}
use Rattle.std.specs.Ordering.{int_eq}
use Rattle.fx_fixed.specs.Chain.{◌>>=◌, map_fault}
use Rattle.fx_fixed.specs.declared.places.Axis.{Axis}
use Rattle.fx_gstate.specs.declared.deltas.DeltaForm.{DeltaForm}
use Rattle.fx_gstate.specs.declared.state.GState.{GState}
use Rattle.fx_gstate.specs.States.{zone_of}
use Rattle.fx_stackops.specs.Store.{StoreView, one, two, three, top_numbers, delta_pairs, on_top, with_stack, with_strays}
use Rattle.fx_stackops.specs.Table.{read_of, stray_of}
use Rattle.fx_pointops.specs.declared.distances.Relative.{Relative}
use Rattle.fx_pointops.specs.declared.zones.Zones.{Zones}
use Rattle.fx_pointops.specs.Measure.{gc_of, md_of}
use Rattle.fx_pointops.specs.Direct.{utp_of, mdap_of, msirp_of, alignrp_of, alignpts_of, scfs_of, shpix_of, mdrp_of}
use Rattle.fx_pointops.specs.Indirect.{miap_of, mirp_of}
use Rattle.fx_pointops.specs.Shift.{shp_of, shc_of, shz_of}
use Rattle.fx_pointops.specs.Interpolate.{ip_of}
use Rattle.fx_pointops.specs.Intersect.{isect_of}
use Rattle.fx_pointops.specs.Flip.{flippt_of, fliprg_of}
use Rattle.fx_pointops.specs.Delta.{deltap_of}
use Rattle.fx_pointops.specs.Iup.{iup_of}
use Rattle.fx_machine.specs.declared.halt.Cause.{Cause}
use Rattle.fx_machine.specs.declared.state.State.{State}
use Rattle.fx_machine.specs.Causes.{of_stack, of_state}

-- ---- words

-- the points that a row leaves, and what is left of the stack
abbrev pub with_points : Zones → StoreView → State → State
with_points z t s = record s { store = t; zones = z }

-- what a row measures, on top of what is left of the stack
abbrev pub with_measure : ℤ × Zones → StoreView → State → State
with_measure m t s = with_points m.1 (on_top m.0 t) s

-- rows of one operand, and of two
abbrev pub points_by_one : (GState → ℤ → Zones → Zones) → State → Result State Cause
points_by_one row s = do
  x ← map_fault of_stack (one s.store)
  Ok (with_points (row s.graphics x.0 s.zones) x.1 s)

abbrev pub points_by_two : (GState → ℤ → ℤ → Zones → Zones) → State → Result State Cause
points_by_two row s = do
  x ← map_fault of_stack (two s.store)
  Ok (with_points (row s.graphics x.0 x.1 s.zones) x.2 s)

-- a loop row takes as many points as loop says, the top of the stack first, and sets loop to 1
abbrev pub after_loop : Zones → ℕ → StoreView → State → State
after_loop z n t s = record s {
  store = with_stack (drop n t.stack) t;
  zones = z;
  graphics = record s.graphics { loop_count = 1 };
}

abbrev pub loop_on : (GState → List ℤ → Zones → Zones) → StoreView → State → Result State Cause
loop_on row t s = do
  points ← map_fault of_stack (top_numbers s.graphics.loop_count t)
  Ok (after_loop (row s.graphics (reverse points) s.zones) s.graphics.loop_count t s)

-- ---- 0 to 2

-- 0F ISECT, InterSECTion of two lines: p a0 a1 b0 b1 ->
unfoldable pub isect_row : State → Result State Cause
isect_row s = do
  x ← map_fault of_stack (three s.store)
  y ← map_fault of_stack (two x.3)
  Ok (with_points (isect_of s.graphics y.0 y.1 x.0 x.1 x.2 s.zones) y.2 s)

-- 27 ALIGNPTS, ALIGN Points: p q ->
unfoldable pub alignpts_row : State → Result State Cause
alignpts_row = points_by_two alignpts_of

-- 29 UTP, UnTouch Point: p ->
unfoldable pub utp_row : State → Result State Cause
utp_row = points_by_one utp_of

-- 2E-2F MDAP[a], Move Direct Absolute Point: p ->; with 1 rounds; rp0 and rp1 become p
unfoldable pub mdap_row : Bool → State → Result State Cause
mdap_row rounds s = do
  x ← map_fault of_stack (one s.store)
  Ok (with_points (mdap_of s.graphics rounds x.0 s.zones) x.1 (record s { graphics = record s.graphics { rp0 = x.0; rp1 = x.0 } }))

-- ---- 3

-- 30-31 IUP[a], Interpolate Untouched Points: ->; with 0 in y, with 1 in x
unfoldable pub iup_row : Axis → State → Result State Cause
iup_row axis s = Ok (record s { zones = iup_of axis s.zones })

-- 32-33 SHP[a], SHift Point: .. p ->, a loop; with 0 as rp2 was moved, with 1 as rp1 was
unfoldable pub shp_row : Bool → State → Result State Cause
shp_row takes_rp1 s = loop_on (λ g points z. shp_of g takes_rp1 points z) s.store s

-- 34-35 SHC[a], SHift Contour: k ->
unfoldable pub shc_row : Bool → State → Result State Cause
shc_row takes_rp1 = points_by_one (λ g k z. shc_of g takes_rp1 k z)

-- 36-37 SHZ[a], SHift Zone: z ->
unfoldable pub shz_row : Bool → State → Result State Cause
shz_row takes_rp1 s = do
  x ← map_fault of_stack (one s.store)
  zone ← map_fault of_state (zone_of x.0)
  Ok (with_points (shz_of s.graphics takes_rp1 zone s.zones) x.1 s)

-- 38 SHPIX, SHift point by a PIXel amount: .. p a ->, a loop
unfoldable pub shpix_row : State → Result State Cause
shpix_row s = do
  x ← map_fault of_stack (one s.store)
  loop_on (λ g points z. shpix_of g points x.0 z) x.1 s

-- 39 IP, Interpolate Point: .. p ->, a loop
unfoldable pub ip_row : State → Result State Cause
ip_row s = loop_on ip_of s.store s

-- 3A-3B MSIRP[a], Move Stack Indirect Relative Point: p d ->; rp1 becomes rp0, rp2 becomes p, and with 1 rp0 becomes p
unfoldable pub msirp_row : Bool → State → Result State Cause
msirp_row sets s = do
  x ← map_fault of_stack (two s.store)
  Ok (with_points (msirp_of s.graphics x.0 x.1 s.zones) x.2
      (record s { graphics = record s.graphics { rp0 = if sets then x.0 else s.graphics.rp0; rp1 = s.graphics.rp0; rp2 = x.0 } }))

-- 3C ALIGNRP, ALIGN Relative Point: .. p ->, a loop
unfoldable pub alignrp_row : State → Result State Cause
alignrp_row s = loop_on alignrp_of s.store s

-- 3E-3F MIAP[a], Move Indirect Absolute Point: p n ->; with 1 rounds and looks at the cut-in; rp0 and rp1 become p
unfoldable pub miap_row : Bool → State → Result State Cause
miap_row rounds s = do
  x ← map_fault of_stack (two s.store)
  Ok (with_points (miap_of s.graphics rounds x.0 (read_of x.2.cvt x.1) s.zones) (with_strays (stray_of x.2.cvt x.1) x.2)
      (record s { graphics = record s.graphics { rp0 = x.0; rp1 = x.0 } }))

-- ---- 4, 5, 7

-- 46-47 GC[a], Get Coordinate: p -> v; with 1 the original one
unfoldable pub gc_row : Bool → State → Result State Cause
gc_row original s = do
  x ← map_fault of_stack (one s.store)
  Ok (with_measure (gc_of s.graphics original x.0 s.zones) x.1 s)

-- 48 SCFS, Sets Coordinate From the Stack: p v ->
unfoldable pub scfs_row : State → Result State Cause
scfs_row = points_by_two scfs_of

-- 49-4A MD[a], Measure Distance: p q -> v; 49 the current one, 4A the original one
unfoldable pub md_row : Bool → State → Result State Cause
md_row original s = do
  x ← map_fault of_stack (two s.store)
  Ok (with_measure (md_of s.graphics original x.0 x.1 s.zones) x.2 s)

-- 5D DELTAP1, 71 DELTAP2, 72 DELTAP3, DELTA exception P: .. argument p n ->, n pairs
unfoldable pub deltap_row : DeltaForm → State → Result State Cause
deltap_row form s = do
  x ← map_fault of_stack (delta_pairs s.store)
  Ok (with_points (deltap_of s.graphics form s.scale.ppem (reverse x.0) s.zones) x.1 s)

-- ---- 8

-- 80 FLIPPT, FLIP PoinT: .. p ->, a loop
unfoldable pub flippt_row : State → Result State Cause
flippt_row s = loop_on flippt_of s.store s

-- 81 FLIPRGON, 82 FLIPRGOFF, FLIP RanGe: low high ->
unfoldable pub fliprg_row : Bool → State → Result State Cause
fliprg_row on = points_by_two (λ g low high z. fliprg_of g on low high z)

-- ---- C to F

-- what MDRP and MIRP set: rp1 becomes rp0, rp2 becomes p, and if the row says so rp0 becomes p
abbrev pub with_references : Relative → ℤ → State → State
with_references how p s = record s {
  graphics =
      record s.graphics { rp0 = if how.sets_rp0 then p else s.graphics.rp0; rp1 = s.graphics.rp0; rp2 = p };
}

-- C0-DF MDRP[abcde], Move Direct Relative Point: p ->; sets rp1, rp2, and with bit a rp0
unfoldable pub mdrp_row : Relative → State → Result State Cause
mdrp_row how s = do
  x ← map_fault of_stack (one s.store)
  Ok (with_points (mdrp_of s.graphics how x.0 s.zones) x.1 (with_references how x.0 s))

-- E0-FF MIRP[abcde], Move Indirect Relative Point: p n ->; sets rp1, rp2, and with bit a rp0
-- The control value of number -1 is 0, and no stray.
abbrev pub mirp_stray : List ℤ → ℤ → ℕ
mirp_stray cvt n = if int_eq n (negsuc 0) then 0 else stray_of cvt n

unfoldable pub mirp_row : Relative → State → Result State Cause
mirp_row how s = do
  x ← map_fault of_stack (two s.store)
  Ok (with_points (mirp_of s.graphics how x.0 (read_of x.2.cvt x.1) s.zones) (with_strays (mirp_stray x.2.cvt x.1) x.2)
      (with_references how x.0 s))
