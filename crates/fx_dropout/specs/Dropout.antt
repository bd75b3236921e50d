-- Drop-out control: which pixels of a frame an outline sets if no thin stroke may be lost (Apple TrueType Reference Manual, scan
-- conversion, rules 3 and 5). Where a piece passes between the centres of two neighbours in a row, neither of which is covered,
-- one of them is set: the left one, or the one to which the stroke is nearer; then the same in columns, where the left one is the
-- lower one. The frame clamps: if the chosen one lies outside it, the other is set.
use Rattle.std.specs.Prelude.{◌≡◌, ◌⊎◌, ℕ, zero, suc, ◌+◌, ◌<◌, ℤ, pos, ◌+ℤ◌, ◌-ℤ◌, ◌*ℤ◌, List, map, Any}
use Rattle.fx_winding.specs.declared.frame.Frame.{Frame}
use Rattle.fx_winding.specs.Frames.{IsInFrame}
use Rattle.fx_winding.specs.Area.{Place, place}
use Rattle.fx_winding.specs.Winding.{Span, IsCovered, centre}
use Rattle.fx_winding.specs.Meets.{IsMet}
use Rattle.fx_winding.specs.Turned.{turned_span}
use Rattle.fx_dropout.specs.declared.chooser.Closing.{Closing}
use Rattle.fx_dropout.specs.declared.chooser.Closing.TheVariants.{Lower, Nearer}

-- ---- the nearer pixel

-- count of the numbers below n have P
unfoldable pub IsCount : (ℕ → Type 0) → ℕ → ℕ → Type 0
IsCount P zero count = count ≡ 0
IsCount P (suc n) count = (P n × (m : ℕ) × (count ≡ suc m) × IsCount P n m) ⊎ (¬ (P n) × IsCount P n count)

-- the place n steps of 1/128 pixel from the centre of a pixel to that of its right neighbour
abbrev pub place_on : ℤ → ℤ → ℕ → Place
place_on col row n = place ((pos 128 *ℤ col +ℤ pos 64) +ℤ pos n) (pos 128 *ℤ row +ℤ pos 64)

-- the stroke between the centres of a pixel and its right neighbour is nearer to the neighbour: of the 63 places in the half
-- beside the neighbour more are covered than of the 63 in the half beside the pixel (the rule's form in whole numbers)
pub record IsNextNearer (ss : List Span) (col row : ℤ) : Type 0 where
  pub here : ℕ
  pub next : ℕ
  pub first_half : IsCount (λ n. IsCovered (place_on col row (n + 1)) ss) 63 here
  pub second_half : IsCount (λ n. IsCovered (place_on col row (n + 65)) ss) 63 next
  pub more : here < next

-- of a pixel and its right neighbour the neighbour is chosen to close the gap: never, or if the stroke is nearer to it
abbrev pub IsNextChosen : Closing → List Span → ℤ → ℤ → Type 0
IsNextChosen Lower ss col row = ⊥
IsNextChosen Nearer ss col row = IsNextNearer ss col row

-- ---- gaps

-- a gap of a row: neither the pixel in column i and row j nor its right neighbour is set so far, and some piece meets the segment
-- from one centre to the other
pub record IsGap (ss : List Span) (IsSoFar : ℤ → ℤ → Type 0) (i j : ℤ) : Type 0 where
  pub here : ¬ (IsSoFar i j)
  pub next : ¬ (IsSoFar (i +ℤ pos 1) j)
  pub met : Any (IsMet (centre i j) (centre (i +ℤ pos 1) j)) ss

-- the left pixel closes the gap between i and i + 1: the right one is not chosen, or not inside
pub record IsClosedByLeft (ss : List Span) (IsInside IsRightChosen IsSoFar : ℤ → ℤ → Type 0) (i j : ℤ) : Type 0 where
  pub gap : IsGap ss IsSoFar i j
  pub chosen : ¬ (IsRightChosen i j) ⊎ ¬ (IsInside (i +ℤ pos 1) j)

-- the right one closes it: it is chosen, or the left one is not inside
pub record IsClosedByRight (ss : List Span) (IsInside IsRightChosen IsSoFar : ℤ → ℤ → Type 0) (i j : ℤ) : Type 0 where
  pub gap : IsGap ss IsSoFar i j
  pub chosen : IsRightChosen i j ⊎ ¬ (IsInside i j)

-- a pixel inside closes the gap to its right or the one to its left
pub record IsBridge (ss : List Span) (IsInside IsRightChosen IsSoFar : ℤ → ℤ → Type 0) (i j : ℤ) : Type 0 where
  pub inside : IsInside i j
  pub closes : IsClosedByLeft ss IsInside IsRightChosen IsSoFar i j
      ⊎ IsClosedByRight ss IsInside IsRightChosen IsSoFar (i -ℤ pos 1) j

-- a pixel is set so far, or closes a gap of its row
abbrev pub IsBridged : List Span → (ℤ → ℤ → Type 0) → (ℤ → ℤ → Type 0) → (ℤ → ℤ → Type 0) → ℤ → ℤ → Type 0
IsBridged ss IsInside IsRightChosen IsSoFar i j = IsSoFar i j ⊎ IsBridge ss IsInside IsRightChosen IsSoFar i j

-- ---- pixels

-- the pixel is set by its row: its centre is covered, or it is inside and closes a gap of the row
abbrev pub IsRowSetIn : Closing → List Span → (ℤ → ℤ → Type 0) → ℤ → ℤ → Type 0
IsRowSetIn closing ss IsInside = IsBridged ss IsInside (IsNextChosen closing ss) (λ i j. IsCovered (centre i j) ss)

-- the pixel is set: by its row, or it closes a gap that the rows have left open in its column, which is a row of the outline with
-- its coordinates exchanged
abbrev pub IsSetIn : Closing → List Span → (ℤ → ℤ → Type 0) → ℤ → ℤ → Type 0
IsSetIn closing ss IsInside i j =
    IsBridged (map turned_span ss) (λ j i. IsInside i j) (IsNextChosen closing (map turned_span ss))
    (λ j i. IsRowSetIn closing ss IsInside i j) j i

-- the same of the pixels of a frame
abbrev pub IsRowSet : Closing → List Span → Frame → ℤ → ℤ → Type 0
IsRowSet closing ss f = IsRowSetIn closing ss (IsInFrame f)

abbrev pub IsSet : Closing → List Span → Frame → ℤ → ℤ → Type 0
IsSet closing ss f = IsSetIn closing ss (IsInFrame f)
