-- What drop-out control sets lies in its frame (`nothing_set`), and depends on the frame's pixels alone (`set_along`).
-- Serves `bitmap_of`, `lies_in` and the law that a picture exists.
use Rattle.std.proofs.Common.{◌⊎◌, ◌↔◌, inl, inr, ℤ, pos, ◌+ℤ◌, ◌-ℤ◌, List, map, Option, arith}
use Rattle.fx_winding.specs.Winding.{Span, IsCovered, centre}
use Rattle.fx_winding.specs.Turned.{turned_span}
use Rattle.fx_winding.specs.Outside.{AreOfOutline}
use Rattle.fx_dropout.specs.declared.chooser.Closing.{Closing}
use Rattle.fx_dropout.specs.Dropout.{IsGap, IsNextChosen, IsBridged, IsRowSetIn, IsSetIn, IsClosedByLeft, IsClosedByRight}
use Rattle.fx_winding.specs.declared.frame.Frame.{Frame}
use Rattle.fx_contour.specs.Frames.{IsInside, NothingOutsideFrame}
use Rattle.fx_contour.specs.DropoutFrames.{IsInDropoutFrame}
use Rattle.fx_raster.specs.declared.rule.Rule.{Rule}
use Rattle.fx_raster.specs.declared.rule.Rule.TheVariants.{Centres, Bridged}
use Rattle.fx_raster.specs.Rules.{IsPixelSet}
use Rattle.fx_raster.specs.Frames.{IsFramedBy}

-- ---- the same pixels inside

-- a row closed, where the same pixels are inside and set so far
bridged_along : (ss : List Span) (In To Near So At : ℤ → ℤ → Type 0) → ((i j : ℤ) → In i j ↔ To i j)
    → ((i j : ℤ) → So i j ↔ At i j) → (i j : ℤ) → IsBridged ss In Near So i j ↔ IsBridged ss To Near At i j
bridged_along ss In To Near So At inside set i j = grind (arith, inside i j, set i j, left, right)
  where
    gap : (i : ℤ) → IsGap ss So i j ↔ IsGap ss At i j
    gap i = grind (arith, set i j, set (i +ℤ pos 1) j)

    left : IsClosedByLeft ss In Near So i j ↔ IsClosedByLeft ss To Near At i j
    left = grind (arith, gap i, inside (i +ℤ pos 1) j)

    right : IsClosedByRight ss In Near So (i -ℤ pos 1) j ↔ IsClosedByRight ss To Near At (i -ℤ pos 1) j
    right = grind (arith, gap (i -ℤ pos 1), inside (i -ℤ pos 1) j)

pub set_along : (closing : Closing) (ss : List Span) (In To : ℤ → ℤ → Type 0) → ((i j : ℤ) → In i j ↔ To i j) → (i j : ℤ)
    → IsSetIn closing ss In i j ↔ IsSetIn closing ss To i j
set_along closing ss In To e i j =
    bridged_along (map turned_span ss) (λ j i. In i j) (λ j i. To i j) (IsNextChosen closing (map turned_span ss))
    (λ j i. IsRowSetIn closing ss In i j) (λ j i. IsRowSetIn closing ss To i j) (λ j i. e i j)
    (λ j i. bridged_along ss In To (IsNextChosen closing ss) _ _ e (λ i j. (λ h. h, λ h. h)) i j) j i

-- ---- covered, or inside

pub set_within : (closing : Closing) (ss : List Span) (In : ℤ → ℤ → Type 0) (i j : ℤ) → IsSetIn closing ss In i j
    → IsCovered (centre i j) ss ⊎ In i j
set_within closing ss In i j (inl (inl c)) = inl c
set_within closing ss In i j (inl (inr b)) = inr b.inside
set_within closing ss In i j (inr b) = inr b.inside

-- no pixel outside the frame is set, if no pixel outside it is covered
pub nothing_set : (rule : Rule) (f : Option Frame) (ss : List Span) → IsFramedBy rule f ss → NothingOutsideFrame f ss
    → AreOfOutline ss → (col row : ℤ) → ¬ (IsInside f col row) → ¬ (IsPixelSet rule ss col row)
nothing_set Centres f ss framed outside closed col row n s = outside closed col row n s
nothing_set (Bridged closing) f ss framed outside closed col row n s = by (set_within closing ss (IsInDropoutFrame ss) col row s)
  where
    by : IsCovered (centre col row) ss ⊎ IsInDropoutFrame ss col row → ⊥
    by (inl c) = outside closed col row n c
    by (inr i) = n ((framed.0 col row).1 i)
