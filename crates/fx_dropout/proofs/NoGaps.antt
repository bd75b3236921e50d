-- Between neighbours that drop-out control leaves unset no piece passes (`bridged_no_gap`).
-- Serves the law `dropout`, and the law `bridged` of fx_raster.
use Rattle.std.proofs.Common.{◌≡◌, ◌⊎◌, inl, inr, ℤ, pos, ◌+ℤ◌, ◌-ℤ◌, List, map, Any, arith}
use Rattle.fx_fixed.proofs.Linear.{signed_linear}
use Rattle.fx_winding.specs.Turned.{turned_span}
use Rattle.fx_winding.specs.Frames.{IsInFrame}
use Rattle.fx_winding.specs.Meets.{IsMet}
use Rattle.fx_winding.specs.Winding.{Span, IsCovered, centre}
use Rattle.fx_dropout.specs.Dropout.{IsGap, IsNextChosen, IsBridged, IsRowSet}
use Rattle.fx_dropout.specs.Laws.{DropoutAdds, RowsHaveNoGap, ColumnsHaveNoGap}

column_before : (i : ℤ) → i ≡ (i +ℤ pos 1) -ℤ pos 1
column_before i = omega (arith, signed_linear)

-- between two neighbours that are not set, one of which is inside, no piece passes
pub bridged_no_gap : (ss : List Span) (In Near So : ℤ → ℤ → Type 0) (i j : ℤ) → In i j ⊎ In (i +ℤ pos 1) j
    → ¬ (IsBridged ss In Near So i j) → ¬ (IsBridged ss In Near So (i +ℤ pos 1) j)
    → ¬ (Any (IsMet (centre i j) (centre (i +ℤ pos 1) j)) ss)
bridged_no_gap ss In Near So i j h n m a = by h
  where
    gap : IsGap ss So i j
    gap = record { here = λ s. n (inl s); next = λ s. m (inl s); met = a }

    right : In (i +ℤ pos 1) j → Near i j ⊎ ¬ (In i j) → ⊥
    right k c = grind (arith, k, c, gap, m, column_before i)

    left : ¬ (In i j)
    left k = grind (arith, k, gap, n, right)

    by : In i j ⊎ In (i +ℤ pos 1) j → ⊥
    by (inl k) = left k
    by (inr k) = right k (inr left)

pub dropout_adds : DropoutAdds
dropout_adds closing ss f i j = grind (arith, closing, ss, f, i, j)

pub rows_have_no_gap : RowsHaveNoGap
rows_have_no_gap closing ss f i j h n m a =
    bridged_no_gap ss (IsInFrame f) (IsNextChosen closing ss) (λ i j. IsCovered (centre i j) ss) i j h (λ s. n (inl s))
    (λ s. m (inl s)) a

pub columns_have_no_gap : ColumnsHaveNoGap
columns_have_no_gap closing ss f i j h n m a =
    bridged_no_gap (map turned_span ss) (λ j i. IsInFrame f i j) (IsNextChosen closing (map turned_span ss))
    (λ j i. IsRowSet closing ss f i j) j i h n m a
