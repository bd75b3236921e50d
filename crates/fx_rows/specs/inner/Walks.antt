-- Bent arcs that are walked along, from row to row and from column to column.
use Rattle.std.specs.Prelude.{◌≡◌, ◌≢◌, ℕ, ◌+◌, ◌^◌, ℤ, pos, neg_ℤ, ◌+ℤ◌, ◌-ℤ◌, ◌*ℤ◌, ◌≤ℤ◌, false, Option, Some, None}
use Rattle.fx_fixed.specs.Ranges.{IsWithin}
use Rattle.fx_winding.specs.Area.{Place}
use Rattle.fx_winding.specs.Winding.{Span, span_of, sign, areas_of, centre}
use Rattle.fx_winding.specs.declared.point.Piece.{Piece}
use Rattle.fx_winding.specs.declared.weights.Weights.{Weights}
use Rattle.fx_rows.specs.declared.walk.Arc.{Arc}
use Rattle.fx_rows.specs.declared.walk.Spot.{Spot}
use Rattle.fx_rows.specs.declared.walk.ArcCuts.{ArcCuts}
use Rattle.fx_rows.specs.Parts.{IsBent}
use Rattle.fx_rows.specs.inner.Arcs.{IsTurned, MissesCentres}

-- areas that the code can hold
pub record AreSmall (x y z : ℤ) : Type 0 where
  pub u : IsWithin (2 ^ 55) x
  pub v : IsWithin (2 ^ 55) y
  pub w : IsWithin (2 ^ 55) z

-- areas after a step
pub record IsSum (areas step sum : Weights) : Type 0 where
  pub u : sum.u ≡ areas.u +ℤ step.u
  pub v : sum.v ≡ areas.v +ℤ step.v
  pub w : sum.w ≡ areas.w +ℤ step.w

-- the changes the other way
pub record IsReversed (step back : Weights) : Type 0 where
  pub u : back.u ≡ neg_ℤ step.u
  pub v : back.v ≡ neg_ℤ step.v
  pub w : back.w ≡ neg_ℤ step.w

-- areas with the sign of d
pub record AreTurned (d : ℤ) (areas turned : Weights) : Type 0 where
  pub u : turned.u ≡ sign d *ℤ areas.u
  pub v : turned.v ≡ sign d *ℤ areas.v
  pub w : turned.w ≡ sign d *ℤ areas.w

-- the areas of p with a piece's points, with the sign of the chord's rise
abbrev pub u_at : Span → Place → ℤ
u_at s p = sign (s.c.y -ℤ s.a.y) *ℤ (areas_of s p).0

abbrev pub v_at : Span → Place → ℤ
v_at s p = sign (s.c.y -ℤ s.a.y) *ℤ (areas_of s p).1

abbrev pub w_at : Span → Place → ℤ
w_at s p = sign (s.c.y -ℤ s.a.y) *ℤ (areas_of s p).2

-- the code holds them
pub record AreSided (s : Span) (p : Place) (areas : Weights) : Type 0 where
  pub u : areas.u ≡ u_at s p
  pub v : areas.v ≡ v_at s p
  pub w : areas.w ≡ w_at s p

-- the changes of the areas from p to q
pub record IsStep (s : Span) (p q : Place) (step : Weights) : Type 0 where
  pub u : u_at s q ≡ u_at s p +ℤ step.u
  pub v : v_at s q ≡ v_at s p +ℤ step.v
  pub w : w_at s q ≡ w_at s p +ℤ step.w

-- the centre of the column that is k columns right of a base
abbrev pub right_of : Place → ℕ → Place
right_of p k = record { x = p.x +ℤ pos 128 *ℤ pos k; y = p.y }

-- a piece's bent arc
pub record IsArc (arc : Arc) (piece : Piece) : Type 0 where
  pub bent : IsBent (span_of piece)
  pub turned : IsTurned (span_of piece) arc.right
  pub next : (q : Place) (k : ℕ) → IsStep (span_of piece) (right_of q k) (right_of q (k + 1)) arc.next
  pub up : (l r : ℤ) (k : ℕ) → IsStep (span_of piece) (right_of (centre l r) k) (right_of (centre l (r +ℤ pos 1)) k) arc.up
  pub misses : arc.touches ≡ false → MissesCentres (span_of piece)

-- a column of the row that has a place at its base, before another column or at it, with the areas of its centre and the points of
-- a piece with a slanted chord
pub record IsSpot (spot : Spot) (piece : Piece) (p : Place) (end : ℤ) : Type 0 where
  pub slanted : piece.a.y ≢ piece.c.y
  pub areas : AreSided (span_of piece) (right_of p spot.k) spot.areas
  pub within : (p.x +ℤ pos 128 *ℤ pos spot.k) ≤ℤ (pos 128 *ℤ end +ℤ pos 64)

-- the cuts of a piece's bent arc, at the row that has a place at its base, at a column before another or at it
pub record IsArcAt (cuts : ArcCuts) (piece : Piece) (p : Place) (end : ℤ) : Type 0 where
  pub arc : IsArc cuts.arc piece
  pub spot : IsSpot cuts.spot piece p end

-- it is that, or the piece's points are on one line
abbrev pub IsArcOrFlat : Option ArcCuts → Piece → Place → ℤ → Type 0
IsArcOrFlat None piece p end = ¬ (IsBent (span_of piece))
IsArcOrFlat (Some cuts) piece p end = IsArcAt cuts piece p end
