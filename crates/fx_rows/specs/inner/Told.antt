-- Where a piece's columns end in a row between its ends, as it is told to those who note segments; and bits that stay set.
use Rattle.std.specs.Prelude.{◌≡◌, ℕ, ◌≤◌, ◌<◌, ℤ, pos, negsuc, ◌+ℤ◌, int_lt, if◌then◌else◌, List, length, slice_index_or}
use Rattle.fx_winding.specs.declared.frame.Frame.{Frame}
use Rattle.fx_winding.specs.Bitmaps.{word_bit}
use Rattle.fx_winding.specs.Meets.{turn}
use Rattle.fx_winding.specs.Winding.{Span, IsOn, centre}

-- what a piece adds left of it in a row between its ends: 1 if its chord rises, and else -1
abbrev pub rise_value : Span → ℤ
rise_value s = if int_lt s.a.y s.c.y then pos 1 else negsuc 0

-- of a frame's columns the first n are left of the piece in a row of the plane, and the others right of it, but for those on it
pub record IsEndOn (s : Span) (f : Frame) (row : ℤ) (n : ℕ) : Type 0 where
  pub within : n ≤ f.width
  pub left : (k : ℕ) → k < n → ¬ (IsOn (centre (f.left +ℤ pos k) row) s) → turn (centre (f.left +ℤ pos k) row) s ≡ rise_value s
  pub right : (k : ℕ) → n ≤ k → k < f.width → ¬ (IsOn (centre (f.left +ℤ pos k) row) s)
      → turn (centre (f.left +ℤ pos k) row) s ≡ pos 0

-- the same in a row of the frame, counted from its lowest
abbrev pub IsEnd : Span → Frame → ℕ → ℕ → Type 0
IsEnd s f r n = IsEndOn s f (f.bottom +ℤ pos r) n

-- the end at a place of a list
abbrev pub IsEndIn : List ℕ → ℕ → ℕ → Type 0
IsEndIn ends i n = (i < length ends) × (slice_index_or ends i 0 ≡ n)

-- the bits that were set stay set
abbrev pub AreKept : List ℕ → List ℕ → Type 0
AreKept old new = (n : ℕ) → word_bit old n ≡ 1 → word_bit new n ≡ 1
