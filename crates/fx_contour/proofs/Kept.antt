-- Drop-out control keeps the columns and rows whose centres are in the box, else the middle one: `kept_pixels`, `kept_alone`.
-- For `Pixels::kept`, `dropout_frame_around` and the law `dropout`.
use Rattle.std.proofs.Common.{◌≡◌, ◌⊎◌, ◌↔◌, inl, inr, subst, ℤ, pos, negsuc, ◌+ℤ◌, ◌-ℤ◌, ◌*ℤ◌, ◌≤ℤ◌}
use Rattle.std.proofs.Common.{◌<ℤ◌, int_le, List, [], ◌∷◌, Option, Decides, arith}
use Rattle.std.proofs.lemmas.Int.{ints}
use Rattle.std.proofs.lemmas.Bool.Decides.{Decides-like}
use Rattle.std.specs.Int.{int_div_euclid}
use Rattle.fx_fixed.specs.Ranges.{IsWithin}
use Rattle.fx_fixed.proofs.Linear.{signed, signed_linear}
use Rattle.fx_fixed.proofs.Order.{below_or_not_ℤ}
use Rattle.fx_winding.specs.Area.{Place}
use Rattle.fx_winding.specs.declared.frame.Frame.{Frame}
use Rattle.fx_winding.specs.Frames.{IsFrom}
use Rattle.fx_winding.specs.Limits.{greatest_side, IsPixelNumber}
use Rattle.fx_winding.specs.Winding.{Span, centre}
use Rattle.fx_contour.specs.declared.pixels.Pixels.{Pixels}
use Rattle.fx_contour.specs.Bounds.{ArePixels, AreKept}
use Rattle.fx_contour.specs.DropoutFrames.{x_of, y_of, least, greatest, IsMiddleOf, IsKeptIn, IsKept, IsDropoutFrameFor}
use Rattle.fx_contour.specs.DropoutFrames.{LeavesMargin, farthest_with_margin, leaves_margin, KeepsTooMany, keeps_too_many}
use Rattle.fx_contour.specs.DropoutFrames.{MarginIsTested, ManyIsTested, SomePixelIsKept, BoxIsKept, CoveredIsKept}
use Rattle.fx_contour.specs.Frames.{HaveAny, IsCentreIn, AreNoPixels, NothingOutsideFrame, first_from}
use Rattle.fx_contour.proofs.Decided.{le_decides, have_decides, within_decides, first_reaches, first_least}
use Rattle.fx_contour.proofs.Extents.{IsExtent, least_reaches, greatest_reaches}
use Rattle.fx_contour.proofs.Framed.{first_in}
use Rattle.fx_contour.proofs.Outside.{in_box}

-- ---- between two places

-- a pixel has its centre between two places, or there is none there, and the middle lies in one
middle_one : (low high n m : ℤ) → IsMiddleOf low high n → IsMiddleOf low high m → n ≤ℤ m
middle_one low high n m h k = let a = h.0 in let b = k.1 in omega (arith, signed, a, b)

middle_at_least : (z : ℤ) → (pos 256 *ℤ int_div_euclid z (pos 256)) ≤ℤ z
middle_at_least (pos n) = omega (arith, ints)
middle_at_least (negsuc n) = omega (arith, ints)

middle_at_most : (z : ℤ) → z ≤ℤ (pos 256 *ℤ int_div_euclid z (pos 256) +ℤ pos 255)
middle_at_most (pos n) = omega (arith, ints)
middle_at_most (negsuc n) = omega (arith, ints)

pub middle_is : (low high : ℤ) → IsMiddleOf low high (int_div_euclid (low +ℤ high) (pos 256))
middle_is low high = grind (arith, signed_linear, middle_at_least, middle_at_most)

-- from the first pixel whose centre does not lie before low on
none_past : (low high : ℤ) → high <ℤ (pos 128 *ℤ first_from low +ℤ pos 64) → AreNoPixels low high
none_past low high h n i = grind (arith, signed_linear, h, n, i, first_least)

-- a pixel is kept
kept_somewhere : (low high : ℤ) → (n : ℤ) × IsKeptIn low high n
kept_somewhere low high = elim (below_or_not_ℤ high (pos 128 *ℤ first_from low +ℤ pos 64)) [
  | inl h ↦ (int_div_euclid (low +ℤ high) (pos 256), inr (none_past low high h, middle_is low high))
  | inr h ↦ (first_from low, inl (first_reaches low, h))
]

-- of two neighbours between whose centres the box comes one is kept
pub kept_of_two : (low high n : ℤ) → low ≤ℤ (pos 128 *ℤ (n +ℤ pos 1) +ℤ pos 64) → (pos 128 *ℤ n +ℤ pos 64) ≤ℤ high
    → IsKeptIn low high n ⊎ IsKeptIn low high (n +ℤ pos 1)
kept_of_two low high n h k =
    by (below_or_not_ℤ (pos 128 *ℤ n +ℤ pos 64) low) (below_or_not_ℤ high (pos 128 *ℤ (n +ℤ pos 1) +ℤ pos 64))
    (below_or_not_ℤ (low +ℤ high) (pos 256 *ℤ (n +ℤ pos 1)))
  where
    none : (pos 128 *ℤ n +ℤ pos 64) <ℤ low → high <ℤ (pos 128 *ℤ (n +ℤ pos 1) +ℤ pos 64) → AreNoPixels low high
    none a b m (c, d) = omega (arith, signed, a, b, c, d)

    by : ((pos 128 *ℤ n +ℤ pos 64) <ℤ low) ⊎ (low ≤ℤ (pos 128 *ℤ n +ℤ pos 64))
        → (high <ℤ (pos 128 *ℤ (n +ℤ pos 1) +ℤ pos 64)) ⊎ ((pos 128 *ℤ (n +ℤ pos 1) +ℤ pos 64) ≤ℤ high)
        → ((low +ℤ high) <ℤ (pos 256 *ℤ (n +ℤ pos 1))) ⊎ ((pos 256 *ℤ (n +ℤ pos 1)) ≤ℤ (low +ℤ high))
        → IsKeptIn low high n ⊎ IsKeptIn low high (n +ℤ pos 1)
    by (inr a) b c = inl (inl (a, k))
    by (inl a) (inr b) c = inr (inl (h, b))
    by (inl a) (inl b) (inl c) = inl (inr (none a b, (omega (arith, signed, a, k), c)))
    by (inl a) (inl b) (inr c) = inr (inr (none a b, (c, omega (arith, signed, h, b))))

-- the middle one alone, where no centre is
pub kept_alone : (low high n : ℤ) → AreNoPixels low high → IsMiddleOf low high n → (m : ℤ) → IsFrom n 1 m ↔ IsKeptIn low high m
kept_alone low high n none k m = (
  λ h. let e : n ≡ m = omega (arith, signed_linear, h) in inr (none, subst (IsMiddleOf low high) e k),
  λ h. elim h [
    | inl i ↦ absurd (none m i)
    | inr i ↦ let a = middle_one low high n m k i.1 in let b = middle_one low high m n i.1 k in (a, omega (arith, signed_linear, b))
  ],
)

-- the pixels whose centres are there, where there is one
pub kept_pixels : (s : Pixels) (low high : ℤ) → ArePixels s low high → AreKept s low high
kept_pixels s low high p n = let f = (p s.first).0 (first_in s.first s.count s.some) in let h = p n in grind (arith)

-- the middle pixel's number
pub middle_size : (low high n : ℤ) → IsWithin farthest_with_margin low → IsWithin farthest_with_margin high
    → IsMiddleOf low high n → IsWithin 32767 n
middle_size low high n a b (h, k) =
    let p = a.0 in let q = a.1 in let r = b.0 in let s = b.1 in
    (omega (arith, signed, k, p, r), omega (arith, signed, h, q, s))

-- two that are kept and lie as far apart as the greatest side have their centres there
far_apart : (low high n : ℤ) → IsKeptIn low high n → IsKeptIn low high (n +ℤ pos greatest_side)
    → IsCentreIn low high n × IsCentreIn low high (n +ℤ pos greatest_side)
far_apart low high n (inl h) (inl k) = (h, k)
far_apart low high n (inl h) (inr k) = absurd (k.0 n h)
far_apart low high n (inr h) (inl k) = absurd (h.0 (n +ℤ pos greatest_side) k)
far_apart low high n (inr h) (inr k) =
    let l = middle_one low high (n +ℤ pos greatest_side) n k.1 h.1 in absurd (omega (arith, signed_linear, l))

-- the pixels beside a kept one have numbers, if the places leave a margin
pub kept_neighbours : (low high n : ℤ) → IsWithin farthest_with_margin low → IsWithin farthest_with_margin high
    → IsKeptIn low high n → IsPixelNumber (n -ℤ pos 1) × IsPixelNumber (n +ℤ pos 1)
kept_neighbours low high n a b (inl (h, k)) = grind (arith, signed_linear, a, b)
kept_neighbours low high n a b (inr (e, (h, k))) =
    let p = a.0 in let q = a.1 in let r = b.0 in let s = b.1 in (
      (omega (arith, signed, k, p, r), omega (arith, signed, h, q, s)),
      (omega (arith, signed, k, p, r), omega (arith, signed, h, q, s)),
    )

-- ---- of spans

pub kept_in : (coord : Place → ℤ) (ss : List Span) (low high n : ℤ) → IsExtent coord ss low high
    → IsKept coord ss n ↔ IsKeptIn low high n
kept_in coord ss low high n h = grind (arith, signed_linear, h)

pub some_pixel_is_kept : SomePixelIsKept
some_pixel_is_kept [] h = absurd (omega (arith, h))
some_pixel_is_kept (s ∷ ss) h =
    let i = kept_somewhere (least x_of s ss) (greatest x_of s ss) in
    let j = kept_somewhere (least y_of s ss) (greatest y_of s ss) in
    (i.0, j.0, (i.1, j.1))

-- what the box comes to on both sides of its centre is kept
pub kept_across : (coord : Place → ℤ) (s : Span) (ss : List Span) (j : ℤ)
    → HaveAny (λ e. coord e ≤ℤ (pos 128 *ℤ j +ℤ pos 64)) (s ∷ ss) → HaveAny (λ e. (pos 128 *ℤ j +ℤ pos 64) ≤ℤ coord e) (s ∷ ss)
    → IsKept coord (s ∷ ss) j
kept_across coord s ss j b t = inl ((least_reaches coord s ss _).0 b, (greatest_reaches coord s ss _).0 t)

pub box_is_kept : BoxIsKept
box_is_kept [] i j h = absurd h.left
box_is_kept (s ∷ ss) i j h = (kept_across x_of s ss i h.left h.right, kept_across y_of s ss j h.bottom h.top)

pub covered_is_kept : CoveredIsKept
covered_is_kept ss o i j c = box_is_kept ss i j (in_box (centre i j) ss o c)

-- ---- the tests

pub margin_decides : (p : Place) → Decides (leaves_margin p) (LeavesMargin p)
margin_decides p = grind (arith, signed_linear, within_decides)

pub margin_is_tested : MarginIsTested
margin_is_tested ss = grind (arith, signed_linear, ss, have_decides, margin_decides)

-- the centre of the pixel that comes as far as the greatest side after the first one from z on
abbrev far_from : ℤ → ℤ
far_from z = pos 128 *ℤ (first_from z +ℤ pos greatest_side) +ℤ pos 64

-- the centre that far from the first one at the least or beyond is reached exactly if that pixel is kept
far_kept : (low high : ℤ) → far_from low ≤ℤ high → (n : ℤ) × IsKeptIn low high n × IsKeptIn low high (n +ℤ pos greatest_side)
far_kept low high h =
    let c = first_reaches low in (first_from low, inl (c, omega (arith, signed, h)), inl (omega (arith, signed, c), h))

kept_far : (low high n : ℤ) → IsKeptIn low high n → IsKeptIn low high (n +ℤ pos greatest_side) → far_from low ≤ℤ high
kept_far low high n k l =
    let c = far_apart low high n k l in let d = first_least low n c.0.0 in let e = c.1.1 in omega (arith, signed, d, e)

pub many_decides : (coord : Place → ℤ) (ss : List Span) → Decides (keeps_too_many coord ss) (KeepsTooMany coord ss)
unfolding keeps_too_many
many_decides coord [] = (λ n. absurd (cc), λ k. absurd k.1)
many_decides coord (s ∷ ss) =
    let low = least coord s ss in
    let high = greatest coord s ss in
    Decides-like (int_le (far_from low) high) (far_kept low high) (λ k. kept_far low high k.0 k.1 k.2)
    (le_decides (far_from low) high)

pub many_is_tested : ManyIsTested
many_is_tested ss = (many_decides x_of ss, many_decides y_of ss)

-- ---- from the box

-- a pixel outside the frame is not covered
pub nothing_outside_dropout : (ss : List Span) (f : Option Frame) → IsDropoutFrameFor f ss → NothingOutsideFrame f ss
nothing_outside_dropout ss f h o col row n k = n ((h col row).1 (covered_is_kept ss o col row k))
