-- With drop-out control no gap stays open: `no_gap_in_row`, `no_gap_in_column`.
-- Serves the law `bridged`.
use Rattle.std.proofs.Common.{inl, map}
use Rattle.fx_winding.specs.Turned.{turned_span}
use Rattle.fx_winding.specs.Winding.{IsCovered, centre}
use Rattle.fx_dropout.specs.Dropout.{IsNextChosen, IsRowSetIn}
use Rattle.fx_dropout.proofs.NoGaps.{bridged_no_gap}
use Rattle.fx_contour.specs.DropoutFrames.{IsInDropoutFrame}
use Rattle.fx_contour.proofs.Bridged.{met_rows_are_kept, met_columns_are_kept}
use Rattle.fx_raster.specs.Laws.{NoGapInRow, NoGapInColumn}

pub no_gap_in_row : NoGapInRow
no_gap_in_row closing ss i j n m a =
    bridged_no_gap ss (IsInDropoutFrame ss) (IsNextChosen closing ss) (λ i j. IsCovered (centre i j) ss) i j
    (met_rows_are_kept ss i j a) (λ s. n (inl s)) (λ s. m (inl s)) a

pub no_gap_in_column : NoGapInColumn
no_gap_in_column closing ss i j n m a =
    bridged_no_gap (map turned_span ss) (λ j i. IsInDropoutFrame ss i j) (IsNextChosen closing (map turned_span ss))
    (λ j i. IsRowSetIn closing ss (IsInDropoutFrame ss) i j) j i (met_columns_are_kept ss i j a) n m a
