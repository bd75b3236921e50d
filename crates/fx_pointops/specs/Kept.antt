-- No row changes how many points a zone has, or its contours.
use Rattle.std.specs.Prelude.{ℕ, ℤ, Bool, List}
use Rattle.fx_fixed.specs.declared.places.Axis.{Axis}
use Rattle.fx_gstate.specs.declared.deltas.DeltaForm.{DeltaForm}
use Rattle.fx_gstate.specs.declared.state.GState.{GState}
use Rattle.fx_gstate.specs.declared.zones.ZonePointer.{ZonePointer}
use Rattle.fx_pointops.specs.declared.distances.Relative.{Relative}
use Rattle.fx_pointops.specs.declared.zones.Zones.{Zones}
use Rattle.fx_pointops.specs.Zones.{HasShapes}
use Rattle.fx_pointops.specs.Measure.{gc_of, md_of, line_between}
use Rattle.fx_pointops.specs.Direct.{utp_of, mdap_of, msirp_of, alignrp_of, alignpts_of, scfs_of, shpix_of, mdrp_of}
use Rattle.fx_pointops.specs.Indirect.{miap_of, mirp_of}
use Rattle.fx_pointops.specs.Shift.{shp_of, shc_of, shz_of}
use Rattle.fx_pointops.specs.Interpolate.{ip_of}
use Rattle.fx_pointops.specs.Intersect.{isect_of}
use Rattle.fx_pointops.specs.Flip.{flippt_of, fliprg_of}
use Rattle.fx_pointops.specs.Delta.{deltap_of}
use Rattle.fx_pointops.specs.Iup.{iup_of}

-- what a row makes of the zones has as many points, and the same contours
abbrev pub Keeps : (Zones → Zones) → Type 0
Keeps row = (z : Zones) → HasShapes z (row z)

-- so it is with each row that reads or moves points
pub record RowsKeepShapes : Type 0 where
  pub isect : (g : GState) (p a0 a1 b0 b1 : ℤ) → Keeps (isect_of g p a0 a1 b0 b1)
  pub alignpts : (g : GState) (p q : ℤ) → Keeps (alignpts_of g p q)
  pub utp : (g : GState) (p : ℤ) → Keeps (utp_of g p)
  pub mdap : (g : GState) (rounds : Bool) (p : ℤ) → Keeps (mdap_of g rounds p)
  pub iup : (axis : Axis) → Keeps (iup_of axis)
  pub shp : (g : GState) (one : Bool) (points : List ℤ) → Keeps (shp_of g one points)
  pub shc : (g : GState) (one : Bool) (k : ℤ) → Keeps (shc_of g one k)
  pub shz : (g : GState) (one : Bool) (zone : ZonePointer) → Keeps (shz_of g one zone)
  pub shpix : (g : GState) (points : List ℤ) (a : ℤ) → Keeps (shpix_of g points a)
  pub ip : (g : GState) (points : List ℤ) → Keeps (ip_of g points)
  pub msirp : (g : GState) (p d : ℤ) → Keeps (msirp_of g p d)
  pub alignrp : (g : GState) (points : List ℤ) → Keeps (alignrp_of g points)
  pub miap : (g : GState) (rounds : Bool) (p v : ℤ) → Keeps (miap_of g rounds p v)
  pub gc : (g : GState) (original : Bool) (p : ℤ) → Keeps (λ z. (gc_of g original p z).1)
  pub scfs : (g : GState) (p v : ℤ) → Keeps (scfs_of g p v)
  pub md : (g : GState) (original : Bool) (p q : ℤ) → Keeps (λ z. (md_of g original p q z).1)
  pub deltap : (g : GState) (form : DeltaForm) (ppem : ℕ) (pairs : List ℤ) → Keeps (deltap_of g form ppem pairs)
  pub flippt : (g : GState) (points : List ℤ) → Keeps (flippt_of g points)
  pub fliprg : (g : GState) (on : Bool) (low high : ℤ) → Keeps (fliprg_of g on low high)
  pub mdrp : (g : GState) (how : Relative) (p : ℤ) → Keeps (mdrp_of g how p)
  pub mirp : (g : GState) (how : Relative) (p v : ℤ) → Keeps (mirp_of g how p v)
  pub line : (g : GState) (p q : ℤ) → Keeps (λ z. (line_between g p q z).1)
