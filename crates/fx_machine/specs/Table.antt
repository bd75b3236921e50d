-- The instruction table: what the instruction at an address of a program does. No row speaks of open calls.
-- Apple TrueType Reference Manual, "Instruction set"; the rows by the high nibble of the opcode.
use Rattle.std.specs.Prelude.{◌≡◌, ◌<◌, ℕ, ◌+◌, ◌/◌, [], true, false, Bool, ◌&&◌, ◌||◌, ◌==◌, nat_le, if◌then◌else◌, List, length}
use Rattle.std.specs.Prelude.{codes, Result, Ok, Err}
use Rattle.fx_fixed.specs.Chain.{◌>>=◌}
use Rattle.fx_fixed.specs.declared.places.Axis.TheVariants.{X, Y}
use Rattle.fx_code.specs.Opcodes.{NPUSHB, NPUSHW, PUSHB_1, PUSHW_8, ELSE, FDEF, ENDF, IF, EIF, IDEF}
use Rattle.fx_code.specs.Chain.{opcode_at, data_at, next_address}
use Rattle.fx_code.specs.Numbers.{numbers}
use Rattle.fx_code.specs.Names.{name_of}
use Rattle.fx_gstate.specs.declared.deltas.DeltaForm.TheVariants.{First, Second, Third}
use Rattle.fx_stackops.specs.Rows.{dup_row, pop_row, clear_row, swap_row, depth_row, cindex_row, mindex_row, push_row, ws_row, rs_row}
use Rattle.fx_stackops.specs.Rows.{wcvtp_row, rcvt_row, mppem_row, mps_row}
use Rattle.fx_stackops.specs.Rows.{lt_row, lteq_row, gt_row, gteq_row, eq_row, neq_row, odd_row, even_row, and_row, or_row, not_row}
use Rattle.fx_stackops.specs.Rows.{add_row, sub_row, div_row, mul_row, abs_row, neg_row, floor_row, ceiling_row, round_row, nround_row}
use Rattle.fx_stackops.specs.Rows.{deltac_row, ignored_row, getinfo_row, roll_row, max_row, min_row}
use Rattle.fx_pointops.specs.Distances.{relative_of}
use Rattle.fx_machine.specs.declared.program.Program.{Program}
use Rattle.fx_machine.specs.declared.halt.Cause.{Cause}
use Rattle.fx_machine.specs.declared.halt.Cause.TheVariants.{BadOpcode, CodeEnd}
use Rattle.fx_machine.specs.declared.action.Action.{Action}
use Rattle.fx_machine.specs.declared.action.Action.TheVariants.{Went, Called, Returned}
use Rattle.fx_machine.specs.declared.state.State.{State}
use Rattle.fx_machine.specs.Effects.{Effect, Ends, Fails, Goes, Calls, Returns}
use Rattle.fx_machine.specs.Flow.{if_row, else_row, eif_row, endf_row, jmpr_row, jrot_row, jrof_row, call_row, loopcall_row, fdef_row, idef_row, undefined_row}
use Rattle.fx_machine.specs.GraphicsRows.{on_store, on_graphics, on_both, svtca_row, spvtca_row, sfvtca_row, sfvtpv_row}
use Rattle.fx_machine.specs.GraphicsRows.{rtg_row, rthg_row, rtdg_row, rdtg_row, rutg_row, roff_row, flipon_row, flipoff_row}
use Rattle.fx_machine.specs.GraphicsRows.{spvfs_row, sfvfs_row, gpv_row, gfv_row, srp0_row, srp1_row, srp2_row, szp0_row}
use Rattle.fx_machine.specs.GraphicsRows.{szp1_row, szp2_row, szps_row, sloop_row, smd_row, scvtci_row, sswci_row, ssw_row}
use Rattle.fx_machine.specs.GraphicsRows.{sdb_row, sds_row, wcvtf_row, sround_row, s45round_row, scanctrl_row, scantype_row}
use Rattle.fx_machine.specs.StateRows.{spvtl_row, sfvtl_row, sdpvtl_row, instctrl_row}
use Rattle.fx_machine.specs.PointRows.{isect_row, alignpts_row, utp_row, mdap_row, iup_row, shp_row, shc_row, shz_row, shpix_row}
use Rattle.fx_machine.specs.PointRows.{ip_row}
use Rattle.fx_machine.specs.PointRows.{msirp_row, alignrp_row, miap_row, gc_row, scfs_row, md_row, deltap_row, flippt_row}
use Rattle.fx_machine.specs.PointRows.{fliprg_row, mdrp_row, mirp_row}

-- ---- the rows that continue at the next address; an opcode that has none of them here is in `row_of`

-- 00 to 0F: vectors, ISECT
unfoldable pub opcodes_0x : ℕ → State → Result State Cause
opcodes_0x op s =
    if op == 0x00 then on_graphics (svtca_row Y) s
    else if op == 0x01 then on_graphics (svtca_row X) s
    else if op == 0x02 then on_graphics (spvtca_row Y) s
    else if op == 0x03 then on_graphics (spvtca_row X) s
    else if op == 0x04 then on_graphics (sfvtca_row Y) s
    else if op == 0x05 then on_graphics (sfvtca_row X) s
    else if op == 0x06 then spvtl_row false s
    else if op == 0x07 then spvtl_row true s
    else if op == 0x08 then sfvtl_row false s
    else if op == 0x09 then sfvtl_row true s
    else if op == 0x0A then on_both spvfs_row s
    else if op == 0x0B then on_both sfvfs_row s
    else if op == 0x0C then on_store (gpv_row s.graphics) s
    else if op == 0x0D then on_store (gfv_row s.graphics) s
    else if op == 0x0E then on_graphics sfvtpv_row s
    else if op == 0x0F then isect_row s
    else Err BadOpcode

-- 10 to 1F: reference points, zone pointers, loop, rounding, distances
unfoldable pub opcodes_1x : ℕ → State → Result State Cause
opcodes_1x op s =
    if op == 0x10 then on_both srp0_row s
    else if op == 0x11 then on_both srp1_row s
    else if op == 0x12 then on_both srp2_row s
    else if op == 0x13 then on_both szp0_row s
    else if op == 0x14 then on_both szp1_row s
    else if op == 0x15 then on_both szp2_row s
    else if op == 0x16 then on_both szps_row s
    else if op == 0x17 then on_both sloop_row s
    else if op == 0x18 then on_graphics rtg_row s
    else if op == 0x19 then on_graphics rthg_row s
    else if op == 0x1A then on_both smd_row s
    else if op == 0x1D then on_both scvtci_row s
    else if op == 0x1E then on_both sswci_row s
    else if op == 0x1F then on_both (ssw_row s.scale) s
    else Err BadOpcode

-- 20 to 2F: the stack, ALIGNPTS, UTP, MDAP
unfoldable pub opcodes_2x : ℕ → State → Result State Cause
opcodes_2x op s =
    if op == 0x20 then on_store dup_row s
    else if op == 0x21 then on_store pop_row s
    else if op == 0x22 then on_store clear_row s
    else if op == 0x23 then on_store swap_row s
    else if op == 0x24 then on_store depth_row s
    else if op == 0x25 then on_store cindex_row s
    else if op == 0x26 then on_store mindex_row s
    else if op == 0x27 then alignpts_row s
    else if op == 0x29 then utp_row s
    else if op == 0x2E then mdap_row false s
    else if op == 0x2F then mdap_row true s
    else Err BadOpcode

-- 30 to 3F: points
unfoldable pub opcodes_3x : ℕ → State → Result State Cause
opcodes_3x op s =
    if op == 0x30 then iup_row Y s
    else if op == 0x31 then iup_row X s
    else if op == 0x32 then shp_row false s
    else if op == 0x33 then shp_row true s
    else if op == 0x34 then shc_row false s
    else if op == 0x35 then shc_row true s
    else if op == 0x36 then shz_row false s
    else if op == 0x37 then shz_row true s
    else if op == 0x38 then shpix_row s
    else if op == 0x39 then ip_row s
    else if op == 0x3A then msirp_row false s
    else if op == 0x3B then msirp_row true s
    else if op == 0x3C then alignrp_row s
    else if op == 0x3D then on_graphics rtdg_row s
    else if op == 0x3E then miap_row false s
    else if op == 0x3F then miap_row true s
    else Err BadOpcode

-- 42 to 4F: storage, control values, measuring, the size
unfoldable pub opcodes_4x : ℕ → State → Result State Cause
opcodes_4x op s =
    if op == 0x42 then on_store ws_row s
    else if op == 0x43 then on_store rs_row s
    else if op == 0x44 then on_store wcvtp_row s
    else if op == 0x45 then on_store rcvt_row s
    else if op == 0x46 then gc_row false s
    else if op == 0x47 then gc_row true s
    else if op == 0x48 then scfs_row s
    else if op == 0x49 then md_row false s
    else if op == 0x4A then md_row true s
    else if op == 0x4B then on_store (mppem_row s.scale.ppem) s
    else if op == 0x4C then on_store (mps_row s.scale.ppem) s
    else if op == 0x4D then on_graphics flipon_row s
    else if op == 0x4E then on_graphics flipoff_row s
    else if op == 0x4F then on_store ignored_row s
    else Err BadOpcode

-- 50 to 5F: comparisons, logic, deltas
unfoldable pub opcodes_5x : ℕ → State → Result State Cause
opcodes_5x op s =
    if op == 0x50 then on_store lt_row s
    else if op == 0x51 then on_store lteq_row s
    else if op == 0x52 then on_store gt_row s
    else if op == 0x53 then on_store gteq_row s
    else if op == 0x54 then on_store eq_row s
    else if op == 0x55 then on_store neq_row s
    else if op == 0x56 then on_store (odd_row s.graphics) s
    else if op == 0x57 then on_store (even_row s.graphics) s
    else if op == 0x5A then on_store and_row s
    else if op == 0x5B then on_store or_row s
    else if op == 0x5C then on_store not_row s
    else if op == 0x5D then deltap_row First s
    else if op == 0x5E then on_both sdb_row s
    else if op == 0x5F then on_both sds_row s
    else Err BadOpcode

-- 60 to 6F: arithmetic
unfoldable pub opcodes_6x : ℕ → State → Result State Cause
opcodes_6x op s =
    if op == 0x60 then on_store add_row s
    else if op == 0x61 then on_store sub_row s
    else if op == 0x62 then on_store div_row s
    else if op == 0x63 then on_store mul_row s
    else if op == 0x64 then on_store abs_row s
    else if op == 0x65 then on_store neg_row s
    else if op == 0x66 then on_store floor_row s
    else if op == 0x67 then on_store ceiling_row s
    else if nat_le 0x68 op && nat_le op 0x6B then on_store (round_row s.graphics) s
    else if nat_le 0x6C op && nat_le op 0x6F then on_store nround_row s
    else Err BadOpcode

-- 70 to 7F: control values, deltas, rounding
unfoldable pub opcodes_7x : ℕ → State → Result State Cause
opcodes_7x op s =
    if op == 0x70 then on_store (wcvtf_row s.scale) s
    else if op == 0x71 then deltap_row Second s
    else if op == 0x72 then deltap_row Third s
    else if op == 0x73 then on_store (deltac_row First s.graphics s.scale.ppem) s
    else if op == 0x74 then on_store (deltac_row Second s.graphics s.scale.ppem) s
    else if op == 0x75 then on_store (deltac_row Third s.graphics s.scale.ppem) s
    else if op == 0x76 then on_both sround_row s
    else if op == 0x77 then on_both s45round_row s
    else if op == 0x7A then on_graphics roff_row s
    else if op == 0x7C then on_graphics rutg_row s
    else if op == 0x7D then on_graphics rdtg_row s
    else if op == 0x7E || op == 0x7F then on_store ignored_row s
    else Err BadOpcode

-- 80 to 8F: flips, SDPVTL, what is asked of the rasterizer
unfoldable pub opcodes_8x : ℕ → State → Result State Cause
opcodes_8x op s =
    if op == 0x80 then flippt_row s
    else if op == 0x81 then fliprg_row true s
    else if op == 0x82 then fliprg_row false s
    else if op == 0x85 then on_both (scanctrl_row s.scale.ppem) s
    else if op == 0x86 then sdpvtl_row false s
    else if op == 0x87 then sdpvtl_row true s
    else if op == 0x88 then on_store getinfo_row s
    else if op == 0x8A then on_store roll_row s
    else if op == 0x8B then on_store max_row s
    else if op == 0x8C then on_store min_row s
    else if op == 0x8D then on_both scantype_row s
    else if op == 0x8E then instctrl_row s
    else Err BadOpcode

-- C0 to DF MDRP, E0 to FF MIRP
unfoldable pub relative_row : ℕ → State → Result State Cause
relative_row op s = if nat_le 0xE0 op then mirp_row (relative_of op) s else mdrp_row (relative_of op) s

-- by the high nibble
unfoldable pub plain_of : ℕ → State → Result State Cause
plain_of op s =
    if op / 16 == 0 then opcodes_0x op s
    else if op / 16 == 1 then opcodes_1x op s
    else if op / 16 == 2 then opcodes_2x op s
    else if op / 16 == 3 then opcodes_3x op s
    else if op / 16 == 4 then opcodes_4x op s
    else if op / 16 == 5 then opcodes_5x op s
    else if op / 16 == 6 then opcodes_6x op s
    else if op / 16 == 7 then opcodes_7x op s
    else opcodes_8x op s

-- ---- the table

-- the opcodes without a row, which run an instruction that a program has defined
abbrev pub is_undefined : ℕ → Bool
is_undefined op = op == 0x28 || op == 0x7B || op == 0x83 || op == 0x84 || nat_le 0x8F op && nat_le op 0xAF

-- they are those that have no name
abbrev pub EveryRowIsNamed : Type 0
EveryRowIsNamed = (op : ℕ) → op < 256
    → (is_undefined op ≡ true → name_of op ≡ codes "UNDEFINED") × (name_of op ≡ codes "UNDEFINED" → is_undefined op ≡ true)

-- the opcodes that push numbers
abbrev pub is_push : ℕ → Bool
is_push op = op == NPUSHB || op == NPUSHW || nat_le PUSHB_1 op && nat_le op PUSHW_8

-- on at the next address
abbrev pub then_at : ℕ → Result State Cause → Result (Action × State) Cause
then_at next r = do
  s ← r
  Ok (Went next, s)

-- the row of an opcode with its data, in the bytes of a program at an address and before the next one
unfoldable pub row_of : ℕ → List ℕ → List ℕ → Program → ℕ → ℕ → State → Result (Action × State) Cause
row_of op bytes code w address next s =
    if is_push op then then_at next (on_store (push_row (numbers op bytes)) s)
    else if nat_le 0xC0 op then then_at next (relative_row op s)
    else if is_undefined op then undefined_row op next s
    else if op == IF then if_row code next s
    else if op == ELSE then else_row code next s
    else if op == EIF then eif_row next s
    else if op == 0x1C then jmpr_row (length code) address s
    else if op == 0x78 then jrot_row (length code) address next s
    else if op == 0x79 then jrof_row (length code) address next s
    else if op == 0x2A then loopcall_row next s
    else if op == 0x2B then call_row next s
    else if op == FDEF then fdef_row code w next s
    else if op == ENDF then endf_row s
    else if op == IDEF then idef_row code w next s
    else then_at next (plain_of op s)

-- the row as code reads it: data if the opcode has some, and else the next address is one byte on
unfoldable pub push_at : List ℕ → ℕ → State → Result (Action × State) Cause
push_at code address s =
    if nat_le (next_address code address) (length code)
    then then_at (next_address code address) (on_store (push_row (numbers (opcode_at code address) (data_at code address))) s)
    else Err CodeEnd

unfoldable pub row_here : ℕ → List ℕ → Program → ℕ → State → Result (Action × State) Cause
row_here op code w address s = if is_push op then push_at code address s else row_of op [] code w address (address + 1) s

-- the effect of an action that leaves a state
abbrev pub effect_of : Action → State → Effect
effect_of (Went address) s = Goes address s
effect_of (Called turns function next) s = Calls turns function next s
effect_of Returned s = Returns s

-- what a row comes to
abbrev pub settled : Result (Action × State) Cause → Effect
settled (Ok r) = effect_of r.0 r.1
settled (Err cause) = Fails cause

-- what the instruction at an address of a program with these bytes does
unfoldable pub row_in : List ℕ → Program → ℕ → State → Effect
row_in code w address s =
    if address == length code then Ends
    else if nat_le (next_address code address) (length code)
    then settled (row_of (opcode_at code address) (data_at code address) code w address (next_address code address) s)
    else Fails CodeEnd

-- and in these programs
abbrev pub row_at : (Program → List ℕ) → Program → ℕ → State → Effect
row_at texts w address s = row_in (texts w) w address s
