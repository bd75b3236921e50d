-- Each pixel that is set lies in a region in which the frame lies: `set_inside`.
-- Serves `are_among`, `lies_in` and `Shape::lies_in`.
use Rattle.std.proofs.Common.{◌≡◌, refl, ℕ, ℤ, pos, ◌+ℤ◌, true, List, Option, inl, inr, arith}
use Rattle.std.specs.Prelude.{int_le}
use Rattle.std.proofs.lemmas.Bool.{and_parts}
use Rattle.std.proofs.lemmas.Int.{ints}
use Rattle.fx_fixed.proofs.Linear.{signed_linear}
use Rattle.fx_winding.specs.Winding.{Span}
use Rattle.fx_winding.specs.Frames.{IsFrom}
use Rattle.fx_winding.specs.Outside.{AreOfOutline}
use Rattle.fx_winding.specs.declared.frame.Frame.{Frame}
use Rattle.fx_winding.proofs.KnownPlaces.{Known}
use Rattle.fx_contour.specs.Frames.{IsInside, NothingOutsideFrame}
use Rattle.fx_raster.specs.declared.region.Region.{Region}
use Rattle.fx_raster.specs.declared.rule.Rule.{Rule}
use Rattle.fx_raster.specs.Rules.{IsInRegion, IsPixelSet}
use Rattle.fx_raster.specs.Frames.{IsFramedBy}
use Rattle.fx_raster.specs.inner.Framing.{are_among, lies_in}
use Rattle.fx_raster.proofs.Bridged.{nothing_set}
use Rattle.fx_raster.proofs.Covering.{both}

-- the test of two runs, as the code has it
pub among_is : (end more_end first other : ℤ) (count more : ℕ) → end ≡ first +ℤ pos count → more_end ≡ other +ℤ pos more
    → int_le other first ≡ true → int_le end more_end ≡ are_among first count other more
among_is end more_end first other count more p q h = rw (p, q, h) refl

-- numbers of a run that lies among others
among_from : (first other n : ℤ) (count more : ℕ) → are_among first count other more ≡ true → IsFrom first count n
    → IsFrom other more n
among_from first other n count more h i = grind (arith, signed_linear, h, i, and_parts)

-- each pixel of a frame that lies in a region is in the region
pub lies_inside : (frame : Option Frame) (region : Region) → lies_in frame region ≡ true → (col row : ℤ)
    → IsInside frame col row → IsInRegion region col row
lies_inside frame region h col row i = grind (arith, signed_linear, h, i, and_parts, among_from)

known_from : (first n : ℤ) (count : ℕ) → Known (IsFrom first count n)
known_from first n count = grind (arith, ints)

-- each pixel that is set is in the region, if each of the frame is
pub set_inside : (rule : Rule) (frame : Option Frame) (ss : List Span) (region : Region) → IsFramedBy rule frame ss
    → NothingOutsideFrame frame ss → AreOfOutline ss → ((col row : ℤ) → IsInside frame col row → IsInRegion region col row)
    → (col row : ℤ) → IsPixelSet rule ss col row → IsInRegion region col row
set_inside rule frame ss region framed outside closed inside col row s =
    elim (both (known_from region.left col region.width) (known_from region.bottom row region.height)) [
      | inl h ↦ h
      | inr n ↦ absurd (nothing_set rule frame ss framed outside closed col row (λ i. n (inside col row i)) s)
    ]
