-- A flat arc's halves are flat, and have the same places on them: `flat_halves`.
-- Serves the law of halves.
use Rattle.std.proofs.Common.{◌≡◌, sym, ◌∙◌, ◌↔◌, ◌⊎◌, inl, inr, refl, ℤ, pos, ◌+ℤ◌, ◌-ℤ◌, ◌*ℤ◌, neg_ℤ, [], ◌∷◌, arith}
use Rattle.fx_fixed.specs.Polynomial.{var, ◌⊠◌, ◌⊟◌}
use Rattle.fx_fixed.proofs.Ring.{ring}
use Rattle.fx_fixed.proofs.Linear.{signed_linear}
use Rattle.fx_winding.specs.Area.{Place, area}
use Rattle.fx_winding.specs.Winding.{IsInRange, IsOnFlatArc}
use Rattle.fx_winding.proofs.Triangle.{at, coordinates, area_at}
use Rattle.fx_winding.proofs.Products.{by_zero}
use Rattle.fx_symmetry.proofs.Ranges.{Middles, range_halves, range_of_first, range_of_second, range_along}
use Rattle.fx_symmetry.proofs.HalfAreas.{control, second_control, end, whole_u, whole_v, whole_w, second_u, second_v, area_first}
use Rattle.fx_winding.proofs.Triangle.{area_next, area_swap}
use Rattle.fx_symmetry.proofs.HalfAreas.{area_u, area_v, area_w, area_u2, area_v2, area_w2}
use Rattle.fx_winding.proofs.Triangle.{line_end, line_start}

-- p is on one line with each two of a, b and c
record IsFlat (a b c p : Place) : Type 0 where
  flat : area a b c ≡ pos 0
  with_ab : area a b p ≡ pos 0
  with_bc : area b c p ≡ pos 0
  with_ac : area a c p ≡ pos 0

-- ---- the areas
-- three areas are 0
record AreNone (e f g : ℤ) : Type 0 where
  of_e : e ≡ pos 0
  of_f : f ≡ pos 0
  of_g : g ≡ pos 0

sum_none : {x y z w : ℤ} → x ≡ (y +ℤ z) +ℤ w → AreNone y z w → x ≡ pos 0
sum_none e h = omega (arith, signed_linear, e, h)

none_by_minus : {x y : ℤ} → x ≡ neg_ℤ y → y ≡ pos 0 → x ≡ pos 0
none_by_minus e h = omega (arith, signed_linear, e, h)

-- p is so exactly if the areas with it are 0
flat_is : {u v w : ℤ} (a b c p : Place) → area p b c ≡ u → area a p c ≡ v → area a b p ≡ w → IsFlat a b c p ↔ AreNone u v w
flat_is a b c p eu ev ew = (
  λ h. record {
    of_e = sym eu ∙ sym (area_next p b c) ∙ h.with_bc;
    of_f = sym ev ∙ none_by_minus (area_swap a c p) h.with_ac;
    of_g = sym ew ∙ h.with_ab;
  },
  λ h. record {
    flat = sum_none (area_first a b c p) (record { of_e = eu ∙ h.of_e; of_f = ev ∙ h.of_f; of_g = ew ∙ h.of_g });
    with_ab = ew ∙ h.of_g;
    with_bc = area_next p b c ∙ eu ∙ h.of_e;
    with_ac = none_by_minus (area_swap a p c) (ev ∙ h.of_f);
  },
)

none_whole : (e f g : ℤ) → AreNone (whole_u e f g) (whole_v f g) (whole_w g) ↔ AreNone e f g
none_whole e f g = omega (arith, signed_linear)

none_second : (e f g : ℤ) → AreNone (second_u e f g) (second_v e f) e ↔ AreNone e f g
none_second e f g = omega (arith, signed_linear)

-- so of the arc if of a half, and of the other half
flat_alike : (a m j p : Place) → (IsFlat a (control a m) (end a m j) p ↔ IsFlat a m j p)
    × (IsFlat j (second_control m j) (end a m j) p ↔ IsFlat a m j p)
flat_alike a m j p = (
  alike (flat_is a (control a m) (end a m j) p (area_u a m j p) (area_v a m j p) (area_w a m j p))
      (none_whole (area p m j) (area a p j) (area a m p)) (flat_is a m j p refl refl refl),
  alike (flat_is j (second_control m j) (end a m j) p (area_u2 a m j p) (area_v2 a m j p) (area_w2 a m j p))
      (none_second (area p m j) (area a p j) (area a m p)) (flat_is a m j p refl refl refl),
)
  where
    alike : {X Y Z W : Type 0} → X ↔ Y → Y ↔ Z → W ↔ Z → X ↔ W
    alike f g h = (λ k. h.1 (g.0 (f.0 k)), λ k. f.1 (g.1 (h.0 k)))

-- ---- the ranges
middles : (a m j : ℤ) → Middles a ((m +ℤ m) -ℤ a) ((((j +ℤ j) -ℤ m) +ℤ ((j +ℤ j) -ℤ m)) -ℤ ((m +ℤ m) -ℤ a)) m ((j +ℤ j) -ℤ m) j
middles a m j = omega (arith, signed_linear)

-- two places on the line through a and b: their differences are in one proportion
on_line : (a b p q : Place) → area a b p ≡ pos 0 → area a b q ≡ pos 0 → (b.x -ℤ a.x) *ℤ (q.y -ℤ p.y) ≡ (b.y -ℤ a.y) *ℤ (q.x -ℤ p.x)
on_line a b p q hp hq = balance _ _ _ _ hp hq (ring (coordinates (a ∷ b ∷ p ∷ q ∷ []) [])
    ((var 2 ⊟ var 0) ⊠ (var 7 ⊟ var 5) ⊟ (var 3 ⊟ var 1) ⊠ (var 6 ⊟ var 4))
    (area_at (at 0) (at 1) (at 3) ⊟ area_at (at 0) (at 1) (at 2)) tt)
  where
    balance : (x y z w : ℤ) → z ≡ pos 0 → w ≡ pos 0 → x -ℤ y ≡ w -ℤ z → x ≡ y
    balance x y z w h k e = omega (arith, signed_linear)

-- along a line on which a and another of the points differ in x, the range of x tells that of y
range_y : (a b c p : Place) → IsFlat a b c p → ¬ ((b.x -ℤ a.x ≡ pos 0) × (c.x -ℤ a.x ≡ pos 0)) → IsInRange a.x b.x c.x p.x
    → IsInRange a.y b.y c.y p.y
range_y a b c p h wide r = by_zero (b.x -ℤ a.x) (λ z. by_zero (c.x -ℤ a.x) (λ w. absurd (wide (z, w)))
    (λ n. range_along (c.x -ℤ a.x) (c.y -ℤ a.y) a.x b.x c.x p.x a.y b.y c.y p.y n (on_line a c p a h.with_ac (line_start a c))
    (on_line a c p b h.with_ac (none_by_minus (area_swap a b c) h.flat)) (on_line a c p c h.with_ac (line_end a c)) r))
    (λ n. range_along (b.x -ℤ a.x) (b.y -ℤ a.y) a.x b.x c.x p.x a.y b.y c.y p.y n (on_line a b p a h.with_ab (line_start a b))
    (on_line a b p b h.with_ab (line_end a b)) (on_line a b p c h.with_ab h.flat) r)

-- where all control values are the same
one_value : (a b c p : ℤ) → b ≡ a → c ≡ a → IsInRange a b c p → p ≡ a
one_value a b c p hb hc r = omega (arith, signed_linear, r.low, r.high)

at_value : {a : ℤ} (b c : ℤ) {p : ℤ} → p ≡ a → IsInRange a b c p
at_value b c e = record { low = inl (omega (arith, signed_linear, e)); high = inl (omega (arith, signed_linear, e)) }

-- ---- the places
on_flat : {a b c p : Place} → IsFlat a b c p → IsInRange a.x b.x c.x p.x → IsInRange a.y b.y c.y p.y → IsOnFlatArc a b c p
on_flat h x y = grind (arith, signed_linear, h, x, y, range_y)

flat_of : {a b c p : Place} → IsOnFlatArc a b c p → IsFlat a b c p
flat_of on = record { flat = on.flat; with_ab = on.with_ab; with_bc = on.with_bc; with_ac = on.with_ac }

in_halves : (a m j p : Place) → IsOnFlatArc a (control a m) (end a m j) p
    → IsOnFlatArc a m j p ⊎ IsOnFlatArc j (second_control m j) (end a m j) p
in_halves a m j p on =
    by_zero (m.x -ℤ a.x) (λ z. by_zero (j.x -ℤ a.x) (λ w. upright z w) (λ n. wide (λ k. n k.1))) (λ n. wide (λ k. n k.0))
  where
    first : IsFlat a m j p
    first = (flat_alike a m j p).0.0 (flat_of on)

    second : IsFlat j (second_control m j) (end a m j) p
    second = (flat_alike a m j p).1.1 first

    wide : ¬ ((m.x -ℤ a.x ≡ pos 0) × (j.x -ℤ a.x ≡ pos 0)) → IsOnFlatArc a m j p ⊎ IsOnFlatArc j (second_control m j) (end a m j) p
    wide n = by (range_halves _ _ _ _ _ _ p.x (middles a.x m.x j.x) on.range_x)
      where
        other : (a m j : ℤ) → (((j +ℤ j) -ℤ m) -ℤ j ≡ pos 0)
            × (((((j +ℤ j) -ℤ m) +ℤ ((j +ℤ j) -ℤ m)) -ℤ ((m +ℤ m) -ℤ a)) -ℤ j ≡ pos 0) → (m -ℤ a ≡ pos 0) × (j -ℤ a ≡ pos 0)
        other a m j h = omega (arith, signed_linear, h)

        by : IsInRange a.x m.x j.x p.x ⊎ IsInRange j.x (second_control m j).x (end a m j).x p.x
            → IsOnFlatArc a m j p ⊎ IsOnFlatArc j (second_control m j) (end a m j) p
        by (inl r) = inl (on_flat first r (range_y a m j p first n r))
        by (inr r) = inr (on_flat second r (range_y _ _ _ p second (λ k. n (other a.x m.x j.x k)) r))

    upright : m.x -ℤ a.x ≡ pos 0 → j.x -ℤ a.x ≡ pos 0 → IsOnFlatArc a m j p ⊎ IsOnFlatArc j (second_control m j) (end a m j) p
    upright z w = by (range_halves _ _ _ _ _ _ p.y (middles a.y m.y j.y) on.range_y)
      where
        at_start : p.x ≡ a.x
        at_start = one_value _ _ _ p.x (omega (arith, signed_linear, z, w)) (omega (arith, signed_linear, z, w)) on.range_x

        by : IsInRange a.y m.y j.y p.y ⊎ IsInRange j.y (second_control m j).y (end a m j).y p.y
            → IsOnFlatArc a m j p ⊎ IsOnFlatArc j (second_control m j) (end a m j) p
        by (inl r) = inl (on_flat first (at_value m.x j.x at_start) r)
        by (inr r) = inr (on_flat second (at_value _ _ (omega (arith, signed_linear, at_start, w))) r)

pub flat_halves : (a m j p : Place) → IsOnFlatArc a (control a m) (end a m j) p ↔
    (IsOnFlatArc a m j p ⊎ IsOnFlatArc j (second_control m j) (end a m j) p)
flat_halves a m j p = (in_halves a m j p, of_half)
  where
    of_half : IsOnFlatArc a m j p ⊎ IsOnFlatArc j (second_control m j) (end a m j) p → IsOnFlatArc a (control a m) (end a m j) p
    of_half (inl on) = on_flat ((flat_alike a m j p).0.1 (flat_of on))
        (range_of_first _ _ _ _ _ _ p.x (middles a.x m.x j.x) on.range_x)
        (range_of_first _ _ _ _ _ _ p.y (middles a.y m.y j.y) on.range_y)
    of_half (inr on) = on_flat ((flat_alike a m j p).0.1 ((flat_alike a m j p).1.0 (flat_of on)))
        (range_of_second _ _ _ _ _ _ p.x (middles a.x m.x j.x) on.range_x)
        (range_of_second _ _ _ _ _ _ p.y (middles a.y m.y j.y) on.range_y)
