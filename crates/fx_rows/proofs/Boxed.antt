-- The ends of a piece in a band lie right of the column before the frame's first and left of the one after its last: `foot_near`.
-- Serves `apart` and those who note the others.
use Rattle.std.proofs.Common.{◌≡◌, sym, subst, ℕ, ℤ, pos, ◌+ℤ◌, ◌-ℤ◌, ◌*ℤ◌, ◌≤ℤ◌, ◌<ℤ◌, arith}
use Rattle.fx_fixed.proofs.Linear.{signed_linear}
use Rattle.fx_winding.specs.Area.{Place}
use Rattle.fx_winding.specs.Winding.{Span}
use Rattle.fx_winding.specs.declared.frame.Frame.{Frame}
use Rattle.fx_rows.specs.declared.across.Across.{Across}
use Rattle.fx_rows.specs.declared.piece_in_band.PieceInBand.{PieceInBand}
use Rattle.fx_rows.specs.inner.Placing.{AreColumns, IsBoxed, IsInBand}
use Rattle.fx_rows.specs.inner.Points.{IsFootX, IsHeadX, IsPointOf}

pub boxed : (f : Frame) (s : Span) (a : Across) → AreColumns f s a → IsBoxed f s
boxed f s a is = grind (arith, signed_linear, is)

-- a place right of the column before a frame's left one, and left of the column after its last
pub record IsNear (f : Frame) (x : ℤ) : Type 0 where
  pub left : (pos 128 *ℤ (f.left -ℤ pos 1) +ℤ pos 64) <ℤ x
  pub right : x <ℤ (pos 128 *ℤ (f.left +ℤ pos f.width) +ℤ pos 64)

point_near : (s : Span) (p : PieceInBand) → IsInBand s p → (q : Place) → IsPointOf q s → IsNear p.frame q.x
point_near s p is q of = grind (arith, signed_linear, is, of)

near_at : (f : Frame) (x y : ℤ) → x ≡ y → IsNear f y → IsNear f x
near_at f x y e = subst (IsNear f) (sym e)

pub foot_near : (s : Span) (p : PieceInBand) → IsInBand s p → (x : ℤ) → IsFootX s x → IsNear p.frame x
foot_near s p is x foot = grind (arith, signed_linear, is, foot, near_at, point_near)

pub head_near : (s : Span) (p : PieceInBand) → IsInBand s p → (x : ℤ) → IsHeadX s x → IsNear p.frame x
head_near s p is x head = grind (arith, signed_linear, is, head, near_at, point_near)

-- the first column that is not left of such a place is one of the frame, or the one after its last
pub first_near : (left x col : ℤ) (width : ℕ) → ((n : ℤ) → n <ℤ col → (pos 128 *ℤ n +ℤ pos 64) <ℤ x)
    → ((n : ℤ) → col ≤ℤ n → x ≤ℤ (pos 128 *ℤ n +ℤ pos 64)) → (pos 128 *ℤ (left -ℤ pos 1) +ℤ pos 64) <ℤ x
    → x <ℤ (pos 128 *ℤ (left +ℤ pos width) +ℤ pos 64) → (left ≤ℤ col) × (col ≤ℤ (left +ℤ pos width))
first_near left x col width before from low high = grind (arith, signed_linear, before, from, low, high)
