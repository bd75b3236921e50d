-- Arcs that bulge: a line of centres comes between the control point and both ends, so that the arc may pass it and turn back.
use Rattle.std.specs.Prelude.{◌≡◌, ◌⊎◌, ℤ, pos, ◌+ℤ◌, ◌*ℤ◌, ◌≤ℤ◌, ◌<ℤ◌, Option, Some, None}
use Rattle.fx_winding.specs.Area.{Place}
use Rattle.fx_winding.specs.Winding.{Span}

-- a line of centres comes from x on and up to y
pub record HasLine (x y : ℤ) : Type 0 where
  pub line : ℤ
  pub from : x ≤ℤ (pos 128 *ℤ line +ℤ pos 64)
  pub to : (pos 128 *ℤ line +ℤ pos 64) ≤ℤ y

-- x is below y and z, and a line comes from it on and up to both
pub record IsLineTo (x y z : ℤ) : Type 0 where
  pub below : x <ℤ y
  pub below_too : x <ℤ z
  pub line : HasLine x y
  pub line_too : HasLine x z

-- y is above x and z, and a line comes from both on and up to it
pub record IsLineFrom (x z y : ℤ) : Type 0 where
  pub above : x <ℤ y
  pub above_too : z <ℤ y
  pub line : HasLine x y
  pub line_too : HasLine z y

-- both ends of a piece are on a line of centres, at one height
pub record IsOnLine (s : Span) : Type 0 where
  pub level : s.a.y ≡ s.c.y
  pub line : HasLine s.a.y s.a.y

-- a control value b is beyond both end values, and a line comes between, or is at one of them
abbrev pub IsBeyond : ℤ → ℤ → ℤ → Type 0
IsBeyond a b c = IsLineTo b a c ⊎ IsLineFrom a c b

-- a line does not bulge
abbrev pub IsBulgePart : Place → Option Place → Place → Type 0
IsBulgePart a None c = ⊥
IsBulgePart a (Some b) c = IsBeyond a.x b.x c.x ⊎ IsBeyond a.y b.y c.y

abbrev pub IsBulge : Span → Type 0
IsBulge s = IsBulgePart s.a s.b s.c

-- a piece that does not bulge and has not both its ends on one line of centres
pub record IsPlain (s : Span) : Type 0 where
  pub flat : ¬ (IsBulge s)
  pub off : ¬ (IsOnLine s)
