-- What a call from C that makes an outline returns and leaves. `old` and `new` are the caller's buffers before and after.
use Rattle.std.specs.Prelude.{◌≡◌, ℕ, min, Bool, true, false, List, map, length, Result, Ok}
use Rattle.fx_sfnt.specs.Collections.{FontFileView}
use Rattle.fx_outline.specs.declared.points.OutlinePoint as outline
use Rattle.fx_hint.specs.Outlines.{GlyphOutlineView}
use Rattle.fx_request.specs.declared.refusal.Refusal.{Refusal}
use Rattle.fx_request.specs.declared.request.Mode.{Mode}
use Rattle.fx_views.specs.Outlines.{outline_numbered_of}
use Rattle.mkstrike_c.specs.declared.outlines.OutlinePoint.{OutlinePoint}
use Rattle.mkstrike_c.specs.declared.outlines.Outlined.{Outlined}
use Rattle.mkstrike_c.specs.Drawn.{HasFront}

-- 1 on the curve, 0 off it
abbrev pub on_of : Bool → ℕ
on_of true = 1
on_of false = 0

-- a point for C
abbrev pub point_of : outline.OutlinePoint → OutlinePoint
point_of p = record { x = p.x; y = p.y; on_curve = on_of p.on_curve }

-- the counts and the advance of an outline
abbrev pub outlined_of : GlyphOutlineView → Outlined
outlined_of o = record { points = length o.points; contours = length o.ends; advance = o.advance }

-- the outline of a glyph by its number, which C has in 32 bits; no font has a glyph of the number 65,535
abbrev pub outline_by_id : FontFileView → ℕ → ℕ → Mode → Result GlyphOutlineView Refusal
outline_by_id file ppem glyph mode = outline_numbered_of file ppem (min glyph 65535) mode

-- an outline is due; as many of its points and of the last points of its contours as fit stand at the front of the caller's
-- buffers, what lies after them is as it was, and the counts are those of all
pub record IsOutlined (due : Result GlyphOutlineView Refusal) (old new : List OutlinePoint) (old_ends new_ends : List ℕ)
    (told : Outlined) : Type 0 where
  pub outline : GlyphOutlineView
  pub is : due ≡ Ok outline
  pub points : HasFront (map point_of outline.points) old new
  pub ends : HasFront outline.ends old_ends new_ends
  pub told_is : told ≡ outlined_of outline
