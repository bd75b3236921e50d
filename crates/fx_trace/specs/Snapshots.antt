-- What lines compare of two states, and the text of what differs (own).
use Rattle.std.specs.Prelude.{◌≡◌, ℕ, ℤ, List, ◌++◌, codes, length, Option, Some, None}
use Rattle.fx_gstate.specs.declared.state.GState.{GState}
use Rattle.fx_zone.specs.declared.point.ZonePoint.{ZonePoint}
use Rattle.fx_machine.specs.declared.state.InstructControl.{InstructControl}
use Rattle.fx_machine.specs.declared.state.State.{State}
use Rattle.fx_trace.specs.Changes.{cell_change, each_from, point_change, setting_change, settings_of}

-- the points of both zones, the storage area, the control values, the graphics state, and what INSTCTRL set
pub record SnapshotView : Type 0 where
  pub twilight : List ZonePoint
  pub glyph : List ZonePoint
  pub storage : List ℤ
  pub cvt : List ℤ
  pub graphics : GState
  pub flags : InstructControl

abbrev pub snapshot_of : State → SnapshotView
snapshot_of s = record {
  twilight = s.zones.twilight.points;
  glyph = s.zones.glyph.points;
  storage = s.store.storage;
  cvt = s.store.cvt;
  graphics = s.graphics;
  flags = s.flags;
}

-- as many points, cells and control values
pub record HasSizesOf (a b : SnapshotView) : Type 0 where
  pub twilight : length a.twilight ≡ length b.twilight
  pub glyph : length a.glyph ≡ length b.glyph
  pub storage : length a.storage ≡ length b.storage
  pub cvt : length a.cvt ≡ length b.cvt

-- room for another one in its place: its own, if the sizes are the same, or the other one itself
abbrev pub IsRoomFor : Option SnapshotView → SnapshotView → SnapshotView → Type 0
IsRoomFor None was now = HasSizesOf was now
IsRoomFor (Some room) was now = room ≡ now

-- what differs: points, then the storage area and control values, then the graphics state and what INSTCTRL set
unfoldable pub changes_text : SnapshotView → SnapshotView → List ℕ
changes_text was now =
    each_from (point_change 0) 0 was.twilight now.twilight
    ++ (each_from (point_change 1) 0 was.glyph now.glyph
    ++ (each_from (cell_change (codes "storage")) 0 was.storage now.storage
    ++ (each_from (cell_change (codes "cvt")) 0 was.cvt now.cvt
    ++ each_from (λ (n : ℕ). setting_change) 0 (settings_of was.graphics was.flags) (settings_of now.graphics now.flags))))
