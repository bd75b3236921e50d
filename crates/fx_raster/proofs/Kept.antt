-- Which pixels the frame with drop-out control keeps is decided (`in_dropout_frame`); they lie near each other: `columns_near`.
-- Serves the law that a picture exists, with Existing.
use Rattle.std.proofs.Common.{◌≡◌, inl, inr, refl, sym, ◌∙◌, ℤ, pos, ◌+ℤ◌, ◌*ℤ◌, ◌≤ℤ◌, ◌<ℤ◌, Bool, true, false, not, ◌||◌}
use Rattle.std.proofs.Common.{List, [], ◌∷◌, Ok, arith, true≢false}
use Rattle.std.proofs.lemmas.Bool.{or_parts}
use Rattle.fx_fixed.specs.Ranges.{IsWithin}
use Rattle.fx_fixed.specs.Chain.{refuse}
use Rattle.fx_fixed.proofs.Chain.{refuse_ok}
use Rattle.fx_fixed.proofs.Linear.{signed, signed_linear}
use Rattle.fx_fixed.proofs.Order.{below_or_not_ℤ}
use Rattle.fx_winding.specs.Area.{Place}
use Rattle.fx_winding.specs.Limits.{IsPixelNumber, greatest_side}
use Rattle.fx_winding.specs.Winding.{Span}
use Rattle.fx_contour.specs.declared.fault.ContourFault.TheVariants.{TooFar, TooLarge}
use Rattle.fx_contour.specs.Frames.{HaveAny, IsCentreIn, AreNoPixels, have_any, first_from}
use Rattle.fx_contour.specs.DropoutFrames.{x_of, y_of, least, greatest, IsMiddleOf, IsKeptIn, IsKept, IsInDropoutFrame}
use Rattle.fx_contour.specs.DropoutFrames.{KeepsTooMany, LeavesMargin, leaves_margin, farthest_with_margin, keeps_too_many, dropout_framed_of}
use Rattle.fx_contour.proofs.Decided.{first_reaches, first_least}
use Rattle.fx_contour.proofs.DropoutFramed.{near}
use Rattle.fx_contour.proofs.Extents.{low_is, high_is}
use Rattle.fx_contour.proofs.Kept.{kept_neighbours, margin_is_tested, many_is_tested}
use Rattle.fx_winding.proofs.KnownPlaces.{Known, known_either, known_as}
use Rattle.fx_raster.proofs.Covering.{both, none, le, lt}

-- ---- decided

centre_in : (low high n : ℤ) → Known (IsCentreIn low high n)
centre_in low high n = both (le low (pos 128 *ℤ n +ℤ pos 64)) (le (pos 128 *ℤ n +ℤ pos 64) high)

-- if a pixel's centre lies between two places, so does that of the first one whose centre does not lie before the lesser
first_centre : (low high n : ℤ) → IsCentreIn low high n → IsCentreIn low high (first_from low)
first_centre low high n h = grind (arith, signed_linear, h, first_reaches, first_least)

no_pixels : (low high : ℤ) → Known (AreNoPixels low high)
no_pixels low high =
    known_as (λ n m h. n (first_centre low high m h)) (λ n. n (first_from low)) (none (centre_in low high (first_from low)))

middle_of : (low high n : ℤ) → Known (IsMiddleOf low high n)
middle_of low high n = both (le (pos 256 *ℤ n) (low +ℤ high)) (lt (low +ℤ high) (pos 256 *ℤ (n +ℤ pos 1)))

kept_between : (low high n : ℤ) → Known (IsKeptIn low high n)
kept_between low high n = known_either (centre_in low high n) (both (no_pixels low high) (middle_of low high n))

pub in_dropout_frame : (ss : List Span) (i j : ℤ) → Known (IsInDropoutFrame ss i j)
in_dropout_frame [] i j = inr (λ h. h.0)
in_dropout_frame (s ∷ ss) i j =
    both (kept_between (least x_of s ss) (greatest x_of s ss) i) (kept_between (least y_of s ss) (greatest y_of s ss) j)

-- ---- near, and not too many

-- what passed the checks of the frame
pub record IsFramed (ss : List Span) : Type 0 where
  pub margin : ¬ (HaveAny (λ q. ¬ (LeavesMargin q)) ss)
  pub columns : ¬ (KeepsTooMany x_of ss)
  pub rows : ¬ (KeepsTooMany y_of ss)

refused_last : (b : Bool) → refuse b TooLarge ≡ Ok tt → b ≡ false
refused_last true h = absurd (cc)
refused_last false h = cc

pub are_framed : (ss : List Span) → dropout_framed_of ss ≡ Ok tt → IsFramed ss
unfolding dropout_framed_of
are_framed ss h =
    let p = refuse_ok (have_any (λ q. not (leaves_margin q)) ss) TooFar
    (λ _. refuse (keeps_too_many x_of ss || keeps_too_many y_of ss) TooLarge) tt h in
    let q = or_parts (keeps_too_many x_of ss) (keeps_too_many y_of ss) (refused_last _ p.1) in
    record {
      margin = λ n. true≢false (sym ((margin_is_tested ss).1 n) ∙ p.0);
      columns = λ n. true≢false (sym ((many_is_tested ss).0.1 n) ∙ q.0);
      rows = λ n. true≢false (sym ((many_is_tested ss).1.1 n) ∙ q.1);
    }

-- a column, or a row, that is kept has a number
kept_number : (coord : Place → ℤ) → ((q : Place) → LeavesMargin q → IsWithin farthest_with_margin (coord q)) → (ss : List Span)
    → IsFramed ss → (n : ℤ) → IsKept coord ss n → IsPixelNumber n
kept_number coord within [] f n k = absurd k
kept_number coord within (s ∷ ss) f n k =
    let p = kept_neighbours _ _ n (near coord within (s ∷ ss) f.margin _ (low_is coord (s ∷ ss) _ _ (refl, refl)))
    (near coord within (s ∷ ss) f.margin _ (high_is coord (s ∷ ss) _ _ (refl, refl))) k in
    let a = p.0.0 in let b = p.1.1 in (omega (arith, signed_linear, a), omega (arith, signed_linear, b))

-- what lies between two that are kept is kept
between_kept : (low high n k m : ℤ) → n ≤ℤ k → k ≤ℤ m → n <ℤ m → IsKeptIn low high n → IsKeptIn low high m → IsKeptIn low high k
between_kept low high n k m p q r (inl (a, b)) (inl (c, d)) = inl (omega (arith, signed, a, p), omega (arith, signed, d, q))
between_kept low high n k m p q r (inl h) (inr g) = absurd (g.0 n h)
between_kept low high n k m p q r (inr h) (inl g) = absurd (h.0 m g)
between_kept low high n k m p q r (inr h) (inr g) = let a = h.1.1 in let b = g.1.0 in absurd (omega (arith, signed, a, b, r))

-- two that are kept are less than the greatest side apart
kept_near : (coord : Place → ℤ) (ss : List Span) (n m : ℤ) → ¬ (KeepsTooMany coord ss) → IsKept coord ss n → IsKept coord ss m
    → m <ℤ (n +ℤ pos greatest_side)
kept_near coord [] n m few h k = absurd h
kept_near coord (s ∷ ss) n m few h k = elim (below_or_not_ℤ m (n +ℤ pos greatest_side)) [
  | inl l ↦ l
  | inr far ↦ absurd (few (
    n,
    h,
    between_kept (least coord s ss) (greatest coord s ss) n (n +ℤ pos greatest_side) m (omega (arith, signed_linear)) far
        (omega (arith, signed_linear, far)) h k,
  ))
]

pub column_number : (ss : List Span) → IsFramed ss → (i j : ℤ) → IsInDropoutFrame ss i j → IsPixelNumber i
column_number ss f i j h = kept_number x_of (λ q k. k.0) ss f i h.0

pub row_number : (ss : List Span) → IsFramed ss → (i j : ℤ) → IsInDropoutFrame ss i j → IsPixelNumber j
row_number ss f i j h = kept_number y_of (λ q k. k.1) ss f j h.1

pub columns_near : (ss : List Span) → IsFramed ss → (i j k l : ℤ) → IsInDropoutFrame ss i j → IsInDropoutFrame ss k l
    → k <ℤ (i +ℤ pos greatest_side)
columns_near ss f i j k l h g = kept_near x_of ss i k f.columns h.0 g.0

pub rows_near : (ss : List Span) → IsFramed ss → (i j k l : ℤ) → IsInDropoutFrame ss i j → IsInDropoutFrame ss k l
    → l <ℤ (j +ℤ pos greatest_side)
rows_near ss f i j k l h g = kept_near y_of ss j l f.rows h.1 g.1
