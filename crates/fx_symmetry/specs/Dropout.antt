-- What drop-out control sets for pieces moved by a symmetry, for reversed ones, and for those moved by whole pixels.
use Rattle.std.specs.Prelude.{◌⊎◌, ◌↔◌, ℕ, ◌+◌, ◌<◌, ℤ, pos, ◌+ℤ◌, ◌*ℤ◌, List, map}
use Rattle.std.specs.List.Sorted.{IsPermutation}
use Rattle.fx_winding.specs.declared.frame.Frame.{Frame}
use Rattle.fx_winding.specs.Turned.{turned_span}
use Rattle.fx_winding.specs.Frames.{IsInFrame}
use Rattle.fx_winding.specs.Moves.{reversed, shifted}
use Rattle.fx_winding.specs.Outside.{AreOfOutline}
use Rattle.fx_winding.specs.Winding.{Span, IsCovered, centre}
use Rattle.fx_dropout.specs.declared.chooser.Closing.{Closing}
use Rattle.fx_dropout.specs.declared.chooser.Closing.TheVariants.{Nearer}
use Rattle.fx_dropout.specs.Dropout.{IsGap, IsCount, IsNextNearer, IsRowSetIn, IsSet, place_on}
use Rattle.fx_symmetry.specs.Symmetries.{Symmetry, Mirror, Flip, Exchange, span_in, col_in, row_in}

-- the stroke between the centres of a pixel and its right neighbour is nearer to the pixel: of the 63 places in the half beside it
-- more are covered than of the 63 in the other half
pub record IsHereNearer (ss : List Span) (col row : ℤ) : Type 0 where
  pub here : ℕ
  pub next : ℕ
  pub first_half : IsCount (λ n. IsCovered (place_on col row (n + 1)) ss) 63 here
  pub second_half : IsCount (λ n. IsCovered (place_on col row (n + 65)) ss) 63 next
  pub more : next < here

-- no gap is a tie, whose halves have as many covered places: of rows if left and right change places; if top and bottom do, of the
-- columns, with the pixels inside that the rows have set. Rows are closed first, so no law speaks of exchanged coordinates
abbrev pub HasNoTieIn : Symmetry → List Span → (ℤ → ℤ → Type 0) → Type 0
HasNoTieIn Mirror ss IsInside = (i j : ℤ) → IsGap ss (λ i j. IsCovered (centre i j) ss) i j
    → IsNextNearer ss i j ⊎ IsHereNearer ss i j
HasNoTieIn Flip ss IsInside = (i j : ℤ) → IsGap (map turned_span ss) (λ j i. IsRowSetIn Nearer ss IsInside i j) j i
    → IsNextNearer (map turned_span ss) j i ⊎ IsHereNearer (map turned_span ss) j i
HasNoTieIn Exchange ss IsInside = ⊥

-- the law: the moved pieces of closed contours without a tie, with the frame moved, set the moved pixels. A tie goes to the left
-- pixel, mirrored or not, and to the lower one, upside down or not
abbrev pub MovesNearSet : Type 0
MovesNearSet = (m : Symmetry) (ss : List Span) (f g : Frame) → AreOfOutline ss → HasNoTieIn m ss (IsInFrame f)
    → ((i j : ℤ) → IsInFrame g (col_in m i j) (row_in m i j) ↔ IsInFrame f i j) → (i j : ℤ)
    → IsSet Nearer (map (span_in m) ss) g (col_in m i j) (row_in m i j) ↔ IsSet Nearer ss f i j

-- the law: the pieces reversed, in whatever order, set the same pixels
abbrev pub ReversalKeepsSet : Type 0
ReversalKeepsSet = (closing : Closing) (ss ts : List Span) (f : Frame) → IsPermutation (map reversed ss) ts → (i j : ℤ)
    → IsSet closing ts f i j ↔ IsSet closing ss f i j

-- the law: pieces and a frame moved by k pixels to the right and l up, each pixel 128 units a side, set the pixels moved so
abbrev pub ShiftMovesSet : Type 0
ShiftMovesSet = (closing : Closing) (k l : ℤ) (ss : List Span) (f g : Frame)
    → ((i j : ℤ) → IsInFrame g (i +ℤ k) (j +ℤ l) ↔ IsInFrame f i j) → (i j : ℤ)
    → IsSet closing (map (shifted (pos 128 *ℤ k) (pos 128 *ℤ l)) ss) g (i +ℤ k) (j +ℤ l) ↔ IsSet closing ss f i j
