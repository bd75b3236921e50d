-- The shape of an outline has a picture, and only one: `picture_exists`, `picture_is_one`.
-- Serves the law `picture`, and the law of fx_strike that a strike exists.
use Rattle.std.proofs.Common.{◌≡◌, ◌⊎◌, refl, subst, inl, inr, ℕ, ℤ, pos, negsuc, ◌+ℤ◌, ◌*ℤ◌, ◌≤ℤ◌, ◌<ℤ◌, Bool, true, false}
use Rattle.std.proofs.Common.{List, Ok, Decides, arith}
use Rattle.std.specs.Prelude.{IsTrue}
use Rattle.std.proofs.lemmas.Int.{ints}
use Rattle.fx_fixed.specs.Chain.{◌>>=◌}
use Rattle.fx_fixed.proofs.Chain.{bind_ok}
use Rattle.fx_fixed.proofs.Linear.{signed}
use Rattle.fx_fixed.proofs.Order.{below_or_not_ℤ}
use Rattle.fx_winding.specs.Limits.{IsPixelNumber, greatest_side}
use Rattle.fx_winding.specs.Winding.{Span, IsCovered, centre}
use Rattle.fx_outline.specs.declared.points.OutlinePoint.{OutlinePoint}
use Rattle.fx_contour.specs.Contours.{drawn_of}
use Rattle.fx_contour.specs.Frames.{IsInBoundingBox, AreTooLarge}
use Rattle.fx_contour.specs.DropoutFrames.{IsInDropoutFrame}
use Rattle.fx_contour.specs.Bounds.{left_side, right_side, bottom_side, top_side}
use Rattle.fx_contour.proofs.Decided.{more}
use Rattle.fx_contour.proofs.Kept.{covered_is_kept}
use Rattle.fx_contour.proofs.Outside.{in_box}
use Rattle.fx_dropout.specs.declared.chooser.Closing.{Closing}
use Rattle.fx_raster.specs.declared.rule.Rule.{Rule}
use Rattle.fx_raster.specs.declared.rule.Rule.TheVariants.{Centres, Bridged}
use Rattle.fx_raster.specs.Rules.{ShapeView, IsPixelSet, framed_by, shape_of}
use Rattle.fx_raster.specs.Laws.{PictureExists, PictureIsOne}
use Rattle.fx_raster.proofs.Bridged.{set_within}
use Rattle.fx_winding.proofs.KnownPlaces.{Known}
use Rattle.fx_raster.proofs.Covering.{covered, set_in}
use Rattle.fx_raster.proofs.Kept.{IsFramed, are_framed, in_dropout_frame, column_number, row_number, columns_near, rows_near}
use Rattle.fx_raster.proofs.Near.{AreNear, AreDrawn, are_drawn, not_large}

-- ---- the pixels that are covered

first_pixel : (n : ℤ) → negsuc 4194303 ≤ℤ (pos 128 *ℤ n +ℤ pos 64) → negsuc 32767 ≤ℤ n
first_pixel n h = omega (arith, signed, h)

last_pixel : (n : ℤ) → (pos 128 *ℤ n +ℤ pos 64) ≤ℤ pos 4194304 → n <ℤ pos 32768
last_pixel n h = omega (arith, signed, h)

pixel_numbers : (col row : ℤ) (ss : List Span) → AreNear ss → IsInBoundingBox (centre col row) ss
    → IsPixelNumber col × IsPixelNumber row
pixel_numbers col row ss n h = (
  (first_pixel col (n left_side (centre col row).x h.left), last_pixel col (n right_side (centre col row).x h.right)),
  (first_pixel row (n bottom_side (centre col row).y h.bottom), last_pixel row (n top_side (centre col row).y h.top)),
)

-- a number that is moved up by no more than lies between two others
up_from : (x a b : ℤ) → x ≤ℤ (pos 128 *ℤ a +ℤ pos 64) → a ≤ℤ b → x ≤ℤ (pos 128 *ℤ b +ℤ pos 64)
up_from x a b h k = omega (arith, signed, h, k)

down_from : (x a b : ℤ) → (pos 128 *ℤ b +ℤ pos 64) ≤ℤ x → a ≤ℤ b → (pos 128 *ℤ a +ℤ pos 64) ≤ℤ x
down_from x a b h k = omega (arith, signed, h, k)

not_wide : (ss : List Span) → (AreTooLarge ss → ⊥) → (col row col2 row2 : ℤ) → IsInBoundingBox (centre col row) ss
    → IsInBoundingBox (centre col2 row2) ss → col2 <ℤ (col +ℤ pos greatest_side)
not_wide ss small col row col2 row2 h k = elim (below_or_not_ℤ col2 (col +ℤ pos greatest_side)) [
  | inl l ↦ l
  | inr far ↦ absurd (small (
    col,
    row,
    h,
    inl (record {
      left = more (λ q. q.x ≤ℤ (centre col row).x) (λ q. q.x ≤ℤ (centre (col +ℤ pos greatest_side) row).x) ss h.left
          (λ q l. up_from q.x col (col +ℤ pos greatest_side) l (omega (arith, ints)));
      right = more (λ q. (centre col2 row2).x ≤ℤ q.x) (λ q. (centre (col +ℤ pos greatest_side) row).x ≤ℤ q.x) ss k.right
          (λ q l. down_from q.x (col +ℤ pos greatest_side) col2 l far);
      bottom = h.bottom;
      top = h.top;
    }),
  ))
]

not_high : (ss : List Span) → (AreTooLarge ss → ⊥) → (col row col2 row2 : ℤ) → IsInBoundingBox (centre col row) ss
    → IsInBoundingBox (centre col2 row2) ss → row2 <ℤ (row +ℤ pos greatest_side)
not_high ss small col row col2 row2 h k = elim (below_or_not_ℤ row2 (row +ℤ pos greatest_side)) [
  | inl l ↦ l
  | inr far ↦ absurd (small (
    col,
    row,
    h,
    inr (record {
      left = h.left;
      right = h.right;
      bottom = more (λ q. q.y ≤ℤ (centre col row).y) (λ q. q.y ≤ℤ (centre col (row +ℤ pos greatest_side)).y) ss h.bottom
          (λ q l. up_from q.y row (row +ℤ pos greatest_side) l (omega (arith, ints)));
      top = more (λ q. (centre col2 row2).y ≤ℤ q.y) (λ q. (centre col (row +ℤ pos greatest_side)).y ≤ℤ q.y) ss k.top
          (λ q l. down_from q.y (row +ℤ pos greatest_side) row2 l far);
    }),
  ))
]

-- whether a pixel is set, or not
known_set : (rule : Rule) (ss : List Span) (col row : ℤ) → Known (IsPixelSet rule ss col row)
known_set Centres ss col row = covered (centre col row) ss
known_set (Bridged closing) ss col row = set_in closing ss (IsInDropoutFrame ss) (in_dropout_frame ss) col row

-- what is known, as a bit
abbrev holds : {P : Type 0} → Known P → Bool
holds (inl h) = true
holds (inr n) = false

decides : {P : Type 0} (k : Known P) → Decides (holds k) P
decides (inl h) = (λ t. h, λ p. refl)
decides (inr n) = (λ t. absurd (cc), λ p. absurd (n p))

-- the bits of spans
abbrev bit_by : Rule → List Span → ℤ → ℤ → Bool
bit_by rule ss col row = holds (known_set rule ss col row)

-- where they lie
record AreSmall (bit : ℤ → ℤ → Bool) : Type 0 where
  columns : (col row : ℤ) → IsTrue (bit col row) → IsPixelNumber col
  rows : (col row : ℤ) → IsTrue (bit col row) → IsPixelNumber row
  narrow : (col row col2 row2 : ℤ) → IsTrue (bit col row) → IsTrue (bit col2 row2) → col2 <ℤ (col +ℤ pos greatest_side)
  low : (col row col2 row2 : ℤ) → IsTrue (bit col row) → IsTrue (bit col2 row2) → row2 <ℤ (row +ℤ pos greatest_side)

are_covered : (ss : List Span) → AreDrawn ss → (AreTooLarge ss → ⊥) → AreSmall (bit_by Centres ss)
are_covered ss d small = grind (arith, d, small, in_box, decides, known_set, pixel_numbers, not_wide, not_high)

-- with drop-out control all of them are kept
are_kept : (closing : Closing) (ss : List Span) → AreDrawn ss → IsFramed ss → AreSmall (bit_by (Bridged closing) ss)
are_kept closing ss d f =
    let kept : (col row : ℤ) → IsTrue (bit_by (Bridged closing) ss col row) → IsInDropoutFrame ss col row =
    λ col row h. by col row (set_within closing ss (IsInDropoutFrame ss) col row
    ((decides (known_set (Bridged closing) ss col row)).0 h)) in
    record {
      columns = λ col row h. column_number ss f col row (kept col row h);
      rows = λ col row h. row_number ss f col row (kept col row h);
      narrow = λ col row col2 row2 h k. columns_near ss f col row col2 row2 (kept col row h) (kept col2 row2 k);
      low = λ col row col2 row2 h k. rows_near ss f col row col2 row2 (kept col row h) (kept col2 row2 k);
    }
  where
    by : (i j : ℤ) → IsCovered (centre i j) ss ⊎ IsInDropoutFrame ss i j → IsInDropoutFrame ss i j
    by i j (inl c) = covered_is_kept ss d.closed i j c
    by i j (inr k) = k

are_small : (rule : Rule) (ss : List Span) → AreDrawn ss → framed_by rule ss ≡ Ok tt → AreSmall (bit_by rule ss)
are_small Centres ss d h = are_covered ss d (not_large ss h)
are_small (Bridged closing) ss d h = are_kept closing ss d (are_framed ss h)

-- ---- pictures

-- what was checked of the outline of a shape
record Checked (shape : ShapeView) : Type 0 where
  drawn : AreDrawn shape.spans
  framed : framed_by shape.rule shape.spans ≡ Ok tt

checked : (rule : Rule) (ends : List ℕ) (points : List OutlinePoint) (shape : ShapeView) → shape_of rule ends points ≡ Ok shape
    → Checked shape
unfolding shape_of
checked rule ends points shape h =
    let a = bind_ok (drawn_of ends points) (λ ss. framed_by rule ss >>= λ _. Ok (record { rule = rule; spans = ss })) shape h in
    let b = bind_ok (framed_by rule a.0) (λ _. Ok (record { rule = rule; spans = a.0 })) shape a.2 in
    let same : ◌≡◌ {A = ShapeView} (record { rule = rule; spans = a.0 }) shape = cc (b.2) in
    subst Checked same (record { drawn = are_drawn ends points a.0 a.1; framed = b.1 })

pub picture_exists : PictureExists
picture_exists shape (rule, ends, points, h) =
    let c = checked rule ends points shape h in
    let s = are_small shape.rule shape.spans c.drawn c.framed in (
      bit_by shape.rule shape.spans,
      record {
        bits = λ col row. decides (known_set shape.rule shape.spans col row);
        columns = s.columns;
        rows = s.rows;
        narrow = s.narrow;
        low = s.low;
      },
    )

same_bit : (a b : Bool) → (IsTrue a → IsTrue b) → (IsTrue b → IsTrue a) → a ≡ b
same_bit a b h i = grind (arith, h, i)

pub picture_is_one : PictureIsOne
picture_is_one shape bit other b o col row =
    same_bit (bit col row) (other col row) (λ x. (o col row).1 ((b col row).0 x)) (λ x. (b col row).1 ((o col row).0 x))
