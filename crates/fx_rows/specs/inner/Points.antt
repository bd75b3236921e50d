-- The points of a piece.
use Rattle.std.specs.Prelude.{◌≡◌, ◌⊎◌, ℤ, pos, negsuc, ◌+ℤ◌, ◌*ℤ◌, ◌<ℤ◌, ◌≤ℤ◌, Some}
use Rattle.fx_winding.specs.Area.{Place}
use Rattle.fx_winding.specs.Winding.{Span}
use Rattle.fx_winding.specs.declared.frame.Frame.{Frame}
use Rattle.fx_rows.specs.declared.across.Across.{Across}

-- q is an end of the piece or its control point
abbrev pub IsPointOf : Place → Span → Type 0
IsPointOf q s = (q ≡ s.a) ⊎ ((Some q ≡ s.b) ⊎ (q ≡ s.c))

-- the centres of the columns before first are left of all points of the piece, and those of the columns from end on right of them
abbrev pub AreAcross : Span → ℤ → ℤ → Type 0
AreAcross s first end =
    ((x : ℤ) → x <ℤ first → (q : Place) → IsPointOf q s → (pos 128 *ℤ x +ℤ pos 64) <ℤ q.x) ×
    ((x : ℤ) → end ≤ℤ x → (q : Place) → IsPointOf q s → q.x <ℤ (pos 128 *ℤ x +ℤ pos 64))

-- a frame has some columns
abbrev pub HasColumns : Frame → Across → Type 0
HasColumns f a = (f.left ≤ℤ a.first) × (a.end ≤ℤ (f.left +ℤ pos f.width))

-- the height y is strictly between two ends
abbrev pub IsInner : ℤ → ℤ → ℤ → Type 0
IsInner a c y = ((a <ℤ y) × (y <ℤ c)) ⊎ ((c <ℤ y) × (y <ℤ a))

-- foot and head are the heights of a chord's lower and upper end, and value is 1 if it rises, and else -1
pub record IsRise (s : Span) (foot head value : ℤ) : Type 0 where
  pub up : s.a.y <ℤ s.c.y → (foot ≡ s.a.y) × (head ≡ s.c.y) × (value ≡ pos 1)
  pub down : s.c.y ≤ℤ s.a.y → (foot ≡ s.c.y) × (head ≡ s.a.y) × (value ≡ negsuc 0)

-- how far right the lower end of a piece is, and how far its upper one
pub record IsFootX (s : Span) (x : ℤ) : Type 0 where
  pub rising : s.a.y <ℤ s.c.y → x ≡ s.a.x
  pub falling : s.c.y ≤ℤ s.a.y → x ≡ s.c.x

pub record IsHeadX (s : Span) (x : ℤ) : Type 0 where
  pub rising : s.a.y <ℤ s.c.y → x ≡ s.c.x
  pub falling : s.c.y ≤ℤ s.a.y → x ≡ s.a.x
