-- The work of closing gaps by the nearer pixel, a number that is known before any gap is closed: what each gap costs, summed over
-- all pairs of neighbours. So the gaps of columns count whether those of rows are closed or not.
use Rattle.std.specs.Prelude.{◌⊎◌, Any, ℕ, zero, suc, ◌+◌, ◌/◌, ◌^◌, nat_le, if◌then◌else◌, ℤ, pos, ◌+ℤ◌, Bool, true, false, not}
use Rattle.std.specs.Prelude.{◌&&◌, List, map, length, Option, Some, None}
use Rattle.std.specs.List.{count_by, list_any}
use Rattle.fx_winding.specs.Area.{Place}
use Rattle.fx_winding.specs.Limits.{least_pixel}
use Rattle.fx_winding.specs.Turned.{turned_span}
use Rattle.fx_winding.specs.Winding.{Span, IsCovered, centre}
use Rattle.fx_winding.specs.Meets.{IsMet}
use Rattle.fx_winding.specs.Frames.{IsInFrame}
use Rattle.fx_winding.specs.declared.frame.Frame.{Frame}
use Rattle.fx_dropout.specs.declared.chooser.Closing.{Closing}
use Rattle.fx_dropout.specs.declared.chooser.Closing.TheVariants.{Lower, Nearer}
use Rattle.fx_dropout.specs.Decided.{is_covered, is_met, is_missed}

-- some work if it is no more than a limit
abbrev pub within : ℕ → ℕ → Option ℕ
within most work = if nat_le work most then Some work else None

-- the price of a gap after the centre p: 1, one for 32 pieces, and one for each piece that is not above, below or left of p
unfoldable pub gap_price : List Span → Place → ℕ
gap_price ss p = 1 + length ss / 32 + count_by (λ s. not (is_missed p s)) ss

-- whether there is a gap between the pixel in column i and row j and its right neighbour: neither is covered, and some piece meets
-- the segment from one centre to the other
abbrev pub is_gap : (ℤ → ℤ → Bool) → List Span → ℤ → ℤ → Bool
is_gap covered ss i j =
    (not (covered i j) && not (covered (i +ℤ pos 1) j)) && list_any (is_met (centre i j) (centre (i +ℤ pos 1) j)) ss

-- the price of that gap, if it is one
unfoldable pub gap_work : (ℤ → ℤ → Bool) → List Span → ℤ → ℤ → ℕ
gap_work covered ss i j = if is_gap covered ss i j then gap_price ss (centre i j) else 0

-- the sum of f over the numbers below n
unfoldable pub sum_below : ℕ → (ℕ → ℕ) → ℕ
sum_below zero f = 0
sum_below (suc n) f = sum_below n f + f n

-- the sum of f over all numbers of columns, or of rows
abbrev pub sum_all : (ℤ → ℕ) → ℕ
sum_all f = sum_below (2 ^ 16) (λ n. f (least_pixel +ℤ pos n))

-- the prices of all gaps of rows
unfoldable pub rows_work : (ℤ → ℤ → Bool) → List Span → ℕ
rows_work covered ss = sum_all (λ j. sum_all (λ i. gap_work covered ss i j))

-- the prices of all gaps: those of rows, or with `true` of columns, which are rows of the outline with its coordinates exchanged
abbrev pub gaps_work : Bool → List Span → ℕ
gaps_work false ss = rows_work (λ i j. is_covered (centre i j) ss) ss
gaps_work true ss = rows_work (λ j i. is_covered (centre i j) ss) (map turned_span ss)

-- the work of closing the gaps of spans: none where the lower pixel closes each
abbrev pub closing_work : Closing → List Span → ℕ
closing_work Lower ss = 0
closing_work Nearer ss = gaps_work false ss + gaps_work true ss

-- a frame holds the gaps of spans: of two neighbours with a piece between their centres one lies in it, and no pixel outside it is
-- covered
pub record HoldsGaps (f : Frame) (ss : List Span) : Type 0 where
  pub rows : (i j : ℤ) → Any (IsMet (centre i j) (centre (i +ℤ pos 1) j)) ss → IsInFrame f i j ⊎ IsInFrame f (i +ℤ pos 1) j
  pub columns : (i j : ℤ) → Any (IsMet (centre j i) (centre (j +ℤ pos 1) i)) (map turned_span ss)
      → IsInFrame f i j ⊎ IsInFrame f i (j +ℤ pos 1)
  pub outside : (i j : ℤ) → ¬ (IsInFrame f i j) → ¬ (IsCovered (centre i j) ss)
