-- The pixels whose centres lie in the bounding box make the frame: `is_frame`.
-- For the clauses of `frame`.
use Rattle.std.proofs.Common.{◌≡◌, ◌⊎◌, subst, ℕ, ◌<◌, ◌≤◌, inl, inr, ℤ, pos, ◌+ℤ◌, List, arith, ◌↔◌}
use Rattle.fx_fixed.proofs.Linear.{signed_linear}
use Rattle.fx_winding.specs.Limits.{greatest_side}
use Rattle.fx_winding.specs.Winding.{Span, centre}
use Rattle.fx_contour.specs.declared.bounds.PieceBounds.{PieceBounds}
use Rattle.fx_contour.specs.declared.pixels.Pixels.{Pixels}
use Rattle.fx_winding.specs.declared.frame.Frame.{Frame}
use Rattle.std.proofs.Common.{Option, None, Result, Ok, Err, IfOk, IfErr}
use Rattle.std.specs.Prelude.{IsErrOf}
use Rattle.fx_contour.specs.declared.fault.ContourFault.{ContourFault}
use Rattle.fx_contour.specs.declared.fault.ContourFault.TheVariants.{TooLarge}
use Rattle.fx_contour.specs.Frames.{IsInBoundingBox, IsFrameOf, IsFrameFor, IsCentreIn, AreNoPixels, HaveNoPixel, AreTooLarge}
use Rattle.fx_winding.specs.Frames.{IsFrom}
use Rattle.fx_contour.specs.Bounds.{left_side, right_side, bottom_side, top_side, AreBounds, AreBoundsOf, ArePixels, IsBoxOf}

pub same_pixels : (s : Pixels) (l h l' h' : ℤ) → l ≡ l' → h ≡ h' → ArePixels s l h → ArePixels s l' h'
same_pixels s l h l' h' e f k = subst (λ (T : Type 0). T) (λ i. ArePixels s (e i) (f i)) k

pub same_none : (l h l' h' : ℤ) → l ≡ l' → h ≡ h' → AreNoPixels l h → AreNoPixels l' h'
same_none l h l' h' e f k = subst (λ (T : Type 0). T) (λ i. AreNoPixels (e i) (f i)) k

box_from : (b : PieceBounds) (ss : List Span) (i j : ℤ) → AreBounds b ss → IsCentreIn b.left b.right i → IsCentreIn b.bottom b.top j
    → IsInBoundingBox (centre i j) ss
box_from b ss i j a x y = record {
  left = (a.sides left_side (centre i j).x).1 x.0;
  right = (a.sides right_side (centre i j).x).1 x.1;
  bottom = (a.sides bottom_side (centre i j).y).1 y.0;
  top = (a.sides top_side (centre i j).y).1 y.1;
}

column_in : (b : PieceBounds) (ss : List Span) (i j : ℤ) → AreBounds b ss → IsInBoundingBox (centre i j) ss
    → IsCentreIn b.left b.right i
column_in b ss i j a h = ((a.sides left_side (centre i j).x).0 h.left, (a.sides right_side (centre i j).x).0 h.right)

row_in : (b : PieceBounds) (ss : List Span) (i j : ℤ) → AreBounds b ss → IsInBoundingBox (centre i j) ss
    → IsCentreIn b.bottom b.top j
row_in b ss i j a h = ((a.sides bottom_side (centre i j).y).0 h.bottom, (a.sides top_side (centre i j).y).0 h.top)

pub no_box : (o : Option PieceBounds) (ss : List Span) → o ≡ None → AreBoundsOf o ss → HaveNoPixel ss
no_box o ss e a col row h =
    let P : Option PieceBounds → Type 0 = λ x. AreBoundsOf x ss in ((subst P e a).sides left_side (centre col row).x).0 h.left

pub no_columns : (b : PieceBounds) (ss : List Span) → AreBounds b ss → AreNoPixels b.left b.right → HaveNoPixel ss
no_columns b ss a n col row h = n col (column_in b ss col row a h)

pub no_rows : (b : PieceBounds) (ss : List Span) → AreBounds b ss → AreNoPixels b.bottom b.top → HaveNoPixel ss
no_rows b ss a n col row h = n row (row_in b ss col row a h)

pub first_in : (first : ℤ) (count : ℕ) → 0 < count → IsFrom first count first
first_in first count h = (omega (arith, signed_linear), omega (arith, signed_linear))

pub far_in : (first : ℤ) (count : ℕ) → greatest_side < count → IsFrom first count (first +ℤ pos greatest_side)
far_in first count h = (omega (arith, signed_linear), omega (arith, signed_linear))

-- too many columns or rows
pub too_large : (b : PieceBounds) (ss : List Span) (s r : Pixels) → AreBounds b ss → ArePixels s b.left b.right
    → ArePixels r b.bottom b.top → greatest_side < s.count ⊎ greatest_side < r.count → AreTooLarge ss
too_large b ss s r a h k many =
    let column = (h s.first).0 (first_in s.first s.count s.some) in
    let row = (k r.first).0 (first_in r.first r.count r.some) in (
      s.first,
      r.first,
      box_from b ss s.first r.first a column row,
      elim many [
        | inl n ↦ inl (box_from b ss (s.first +ℤ pos greatest_side) r.first a
            ((h (s.first +ℤ pos greatest_side)).0 (far_in s.first s.count n)) row)
        | inr n ↦ inr (box_from b ss s.first (r.first +ℤ pos greatest_side) a column
            ((k (r.first +ℤ pos greatest_side)).0 (far_in r.first r.count n)))
      ],
    )

pub is_frame : (b : PieceBounds) (ss : List Span) (s r : Pixels) (f : Frame) → AreBounds b ss → ArePixels s b.left b.right
    → ArePixels r b.bottom b.top → IsBoxOf f s r → IsFrameOf f ss
is_frame b ss s r f a h k e = record {
  columns = rw e.width s.some;
  rows = rw e.height r.some;
  pixels = λ i j. (
    λ p. box_from b ss i j a ((h i).0 (rw (← e.left, ← e.width) p.column)) ((k j).0 (rw (← e.bottom, ← e.height) p.row)),
    λ p. record {
      column = rw (e.left, e.width) ((h i).1 (column_in b ss i j a p));
      row = rw (e.bottom, e.height) ((k j).1 (row_in b ss i j a p));
    },
  );
}

pub apart : (first : ℤ) (count : ℕ) (n : ℤ) → count ≤ greatest_side → IsFrom first count n
    → ¬ (IsFrom first count (n +ℤ pos greatest_side))
apart first count n h (a, b) (c, d) = omega (arith, signed_linear)

pub frame_not_too_large : (f : Option Frame) (ss : List Span) → IsFrameFor f ss → ¬ (AreTooLarge ss)
frame_not_too_large f ss h i = grind (arith, signed_linear, h, i, apart)

pub too_large_is : (r : Result (Option Frame) ContourFault) (ss : List Span) → IfOk r (λ f. IsFrameFor f ss)
    → IfErr r (λ e. (e ≡ TooLarge) × AreTooLarge ss) → IsErrOf r TooLarge ↔ AreTooLarge ss
too_large_is (Ok f) ss h k = (λ e. absurd (cc), λ t. absurd (frame_not_too_large f ss h t))
too_large_is (Err e) ss h k = (λ _. k.1, λ _. let x = k.0 in cc)
