-- What the definition of drop-out control implies, whichever of the two pixels closes a gap.
use Rattle.std.specs.Prelude.{◌⊎◌, ℤ, pos, ◌+ℤ◌, List, map, Any}
use Rattle.fx_winding.specs.declared.frame.Frame.{Frame}
use Rattle.fx_winding.specs.Turned.{turned_span}
use Rattle.fx_winding.specs.Frames.{IsInFrame}
use Rattle.fx_winding.specs.Meets.{IsMet}
use Rattle.fx_winding.specs.Winding.{Span, IsCovered, centre}
use Rattle.fx_dropout.specs.declared.chooser.Closing.{Closing}
use Rattle.fx_dropout.specs.Dropout.{IsSet}

-- the law: it only adds pixels, and only in the frame
abbrev pub DropoutAdds : Type 0
DropoutAdds = (closing : Closing) (ss : List Span) (f : Frame) (i j : ℤ)
    → (IsCovered (centre i j) ss → IsSet closing ss f i j) × (IsSet closing ss f i j → IsCovered (centre i j) ss ⊎ IsInFrame f i j)

-- the law: no stroke is lost in a row: between two neighbours that are not set, one of which is in the frame, no piece passes
abbrev pub RowsHaveNoGap : Type 0
RowsHaveNoGap = (closing : Closing) (ss : List Span) (f : Frame) (i j : ℤ) → IsInFrame f i j ⊎ IsInFrame f (i +ℤ pos 1) j
    → ¬ (IsSet closing ss f i j) → ¬ (IsSet closing ss f (i +ℤ pos 1) j)
    → ¬ (Any (IsMet (centre i j) (centre (i +ℤ pos 1) j)) ss)

-- the law: nor in a column
abbrev pub ColumnsHaveNoGap : Type 0
ColumnsHaveNoGap = (closing : Closing) (ss : List Span) (f : Frame) (i j : ℤ) → IsInFrame f i j ⊎ IsInFrame f i (j +ℤ pos 1)
    → ¬ (IsSet closing ss f i j) → ¬ (IsSet closing ss f i (j +ℤ pos 1))
    → ¬ (Any (IsMet (centre j i) (centre (j +ℤ pos 1) i)) (map turned_span ss))
