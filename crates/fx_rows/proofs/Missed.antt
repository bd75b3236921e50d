-- At a height that a piece lies above or below it adds nothing (`missed`), and it meets no segment there (`row_unmet`).
-- Serves the rows that a piece cannot touch.
use Rattle.std.proofs.Common.{◌≡◌, ◌⊎◌, inl, inr, refl, sym, ap, ◌∙◌, ℤ, pos, ◌+ℤ◌, ◌-ℤ◌, ◌*ℤ◌, neg_ℤ, ◌≤ℤ◌, ◌<ℤ◌}
use Rattle.std.proofs.Common.{Option, Some, None, [], ◌∷◌, arith}
use Rattle.fx_fixed.specs.Polynomial.{Expr, var, num, minus, ◌⊞◌, ◌⊠◌, ◌⊟◌}
use Rattle.fx_fixed.proofs.Linear.{signed, signed_linear}
use Rattle.fx_fixed.proofs.Order.{below_or_not_ℤ}
use Rattle.fx_fixed.proofs.Ring.{ring}
use Rattle.fx_fixed.proofs.Signs.{product_above_zero, product_at_least_zero, square_at_least_zero}
use Rattle.fx_winding.specs.Area.{Place, area, gap_of}
use Rattle.fx_winding.specs.Meets.{IsMet, IsTipPart}
use Rattle.fx_winding.specs.Winding.{Span, sign, weight_a, weight_b, weight_c, crossing, region, region_part, centre, IsBeforeTurn}
use Rattle.fx_winding.specs.Winding.{IsOn, IsOnPart}
use Rattle.fx_winding.proofs.Beside.{under_off, over_off, total_above, weights_total}
use Rattle.fx_winding.proofs.Crossings.{crossing_level, crossing_under}
use Rattle.fx_winding.proofs.Meeting.{above_not_met, below_not_met}
use Rattle.fx_winding.proofs.Products.{product}
use Rattle.fx_winding.proofs.Regions.{region_cases, region_out}
use Rattle.fx_winding.proofs.Triangle.{balance_y}
use Rattle.fx_rows.specs.inner.Heights.{IsPastTurn, IsMissed}
use Rattle.fx_rows.proofs.Signs.{above_or_zero}

-- ---- by numbers: how far three points are, and their weights
no_sum : (x y z t : ℤ) → x +ℤ (y +ℤ pos 4 *ℤ z) ≡ t → t ≡ pos 0 → pos 0 ≤ℤ x → pos 0 ≤ℤ y → pos 0 <ℤ z → ⊥
no_sum x y z t e f hx hy hz = omega (arith, signed)

gap_from : (x y : ℤ) → pos 0 <ℤ x → y ≡ pos 0 → pos 0 ≤ℤ (pos 4 *ℤ x -ℤ y)
gap_from x y h e = omega (arith, signed)

product_from : (x y : ℤ) → pos 4 *ℤ x -ℤ y ≡ pos 0 → pos 0 <ℤ y → pos 0 <ℤ x
product_from x y e h = omega (arith, signed)

-- a place in an arc's region or on it is at no height before which the arc turns
no_gap : (u v w a b c : ℤ) → pos 0 <ℤ (u *ℤ w) → pos 0 ≤ℤ gap_of u v w → (b *ℤ b) <ℤ (a *ℤ c)
    → u *ℤ a +ℤ v *ℤ b +ℤ w *ℤ c ≡ pos 0 → ⊥
no_gap u v w a b c some g l z =
    let d = u *ℤ a -ℤ w *ℤ c in
    let e : d *ℤ d +ℤ (gap_of u v w *ℤ (b *ℤ b) +ℤ pos 4 *ℤ ((u *ℤ w) *ℤ (a *ℤ c -ℤ b *ℤ b)))
    ≡ (u *ℤ a +ℤ v *ℤ b +ℤ w *ℤ c) *ℤ (u *ℤ a -ℤ v *ℤ b +ℤ w *ℤ c) =
    let ua = var 0 ⊠ var 3 in let vb = var 1 ⊠ var 4 in let wc = var 2 ⊠ var 5 in let bb = var 4 ⊠ var 4 in
    ring (u ∷ v ∷ w ∷ a ∷ b ∷ c ∷ []) ((ua ⊟ wc) ⊠ (ua ⊟ wc) ⊞ ((num (pos 4) ⊠ (var 0 ⊠ var 2) ⊟ var 1 ⊠ var 1) ⊠ bb ⊞
    num (pos 4) ⊠ ((var 0 ⊠ var 2) ⊠ (var 3 ⊠ var 5 ⊟ bb)))) ((ua ⊞ vb ⊞ wc) ⊠ (ua ⊟ vb ⊞ wc)) tt in
    let r = u *ℤ a -ℤ v *ℤ b +ℤ w *ℤ c in
    let none : (u *ℤ a +ℤ v *ℤ b +ℤ w *ℤ c) *ℤ r ≡ pos 0 = (λ i. z i *ℤ r) ∙ ring (r ∷ []) (num (pos 0) ⊠ var 0) (num (pos 0)) tt in
    let one = square_at_least_zero d in
    let two = product_at_least_zero (gap_of u v w) (b *ℤ b) g (square_at_least_zero b) in
    let three = product_above_zero (u *ℤ w) (a *ℤ c -ℤ b *ℤ b) some (omega (arith, signed_linear, l)) in
    no_sum (d *ℤ d) (gap_of u v w *ℤ (b *ℤ b)) ((u *ℤ w) *ℤ (a *ℤ c -ℤ b *ℤ b)) _ e none one two three

-- nor is one on the chord
no_chord : (u v w a b c : ℤ) → pos 0 ≤ℤ u → v ≡ pos 0 → pos 0 ≤ℤ w → pos 0 <ℤ (u +ℤ v +ℤ w) → pos 0 <ℤ a → pos 0 <ℤ c
    → u *ℤ a +ℤ v *ℤ b +ℤ w *ℤ c ≡ pos 0 → ⊥
no_chord u v w a b c hu hv hw some ha hc z =
    grind (arith, signed_linear, hu, hv, hw, some, ha, hc, z, product u a, product v b, product w c)

-- the same of the distances with the other sign
other_sign : (u v w a b c : ℤ) → u *ℤ a +ℤ v *ℤ b +ℤ w *ℤ c ≡ pos 0 → u *ℤ neg_ℤ a +ℤ v *ℤ neg_ℤ b +ℤ w *ℤ neg_ℤ c ≡ pos 0
other_sign u v w a b c z =
    ring (u ∷ v ∷ w ∷ a ∷ b ∷ c ∷ []) (var 0 ⊠ minus (var 3) ⊞ var 1 ⊠ minus (var 4) ⊞ var 2 ⊠ minus (var 5))
    (minus (var 0 ⊠ var 3 ⊞ var 1 ⊠ var 4 ⊞ var 2 ⊠ var 5)) tt ∙ ap neg_ℤ z

-- heights, as distances from the one before which the arc turns
abbrev pub turn_expr : Expr
turn_expr = (var 0 ⊠ var 2 ⊟ var 1 ⊠ var 1) ⊟ var 3 ⊠ (var 0 ⊟ num (pos 2) ⊠ var 1 ⊞ var 2)

from_turn : (a b c y : ℤ) → ¬ (IsBeforeTurn a b c y) → ((b -ℤ y) *ℤ (b -ℤ y)) <ℤ ((a -ℤ y) *ℤ (c -ℤ y))
from_turn a b c y n =
    let e : (a -ℤ y) *ℤ (c -ℤ y) -ℤ (b -ℤ y) *ℤ (b -ℤ y) ≡ (a *ℤ c -ℤ b *ℤ b) -ℤ y *ℤ (a -ℤ pos 2 *ℤ b +ℤ c) =
    ring (a ∷ b ∷ c ∷ y ∷ []) ((var 0 ⊟ var 3) ⊠ (var 2 ⊟ var 3) ⊟ (var 1 ⊟ var 3) ⊠ (var 1 ⊟ var 3)) turn_expr tt in
    elim (below_or_not_ℤ (y *ℤ (a -ℤ pos 2 *ℤ b +ℤ c)) (a *ℤ c -ℤ b *ℤ b)) [
      | inr h ↦ absurd (n h)
      | inl h ↦ omega (arith, signed_linear, h, e)
    ]

-- ---- an arc that turns before it comes to the height of p, which is beyond both its ends
abbrev AreBeyond : ℤ → ℤ → ℤ → Type 0
AreBeyond a c y = ((y <ℤ a) × (y <ℤ c)) ⊎ ((a <ℤ y) × (c <ℤ y))

inside : (a b c p : Place) → ¬ (IsBeforeTurn a.y b.y c.y p.y) → pos 0 <ℤ (weight_a a b c p *ℤ weight_c a b c p)
    → pos 0 ≤ℤ gap_of (weight_a a b c p) (weight_b a b c p) (weight_c a b c p) → ⊥
inside a b c p n some g = no_gap (weight_a a b c p) (weight_b a b c p) (weight_c a b c p) (a.y -ℤ p.y) (b.y -ℤ p.y) (c.y -ℤ p.y)
    some g (from_turn a.y b.y c.y p.y n) (balance_y (sign (area a b c)) a b c p)

turned_region : (a b c p : Place) → ¬ (IsBeforeTurn a.y b.y c.y p.y) → region_part a (Some b) c p ≡ pos 0
turned_region a b c p n = elim (region_cases a b c p) [
  | inl (inl (u, v, w, g)) ↦
      absurd (inside a b c p n (product_above_zero (weight_a a b c p) (weight_c a b c p) u w) (omega (arith, signed_linear, g)))
  | inl (inr (z, u, w, r)) ↦
      let some = product_above_zero (weight_a a b c p) (weight_c a b c p) u w in
      absurd (inside a b c p n some (gap_from (weight_a a b c p *ℤ weight_c a b c p) (weight_b a b c p *ℤ weight_b a b c p) some
      (λ i. z i *ℤ z i)))
  | inr out ↦ region_out a b c p out
]

turned_on : (a b c p : Place) → AreBeyond a.y c.y p.y → ¬ (IsBeforeTurn a.y b.y c.y p.y) → ¬ (IsOnPart a (Some b) c p)
turned_on a b c p ends n (inr on) =
    let low = on.range_y.low in let high = on.range_y.high in grind (arith, signed_linear, ends, n, low, high)
turned_on a b c p ends n (inl on) = by (above_or_zero v on.on_arc.1) ends
  where
    u : ℤ
    u = weight_a a b c p

    v : ℤ
    v = weight_b a b c p

    w : ℤ
    w = weight_c a b c p

    balance : u *ℤ (a.y -ℤ p.y) +ℤ v *ℤ (b.y -ℤ p.y) +ℤ w *ℤ (c.y -ℤ p.y) ≡ pos 0
    balance = balance_y (sign (area a b c)) a b c p

    total : pos 0 <ℤ (u +ℤ v +ℤ w)
    total = rw (weights_total a b c p) (total_above (area a b c) on.bent)

    by : (pos 0 <ℤ v) ⊎ (v ≡ pos 0) → AreBeyond a.y c.y p.y → ⊥
    by (inl l) beyond =
        let g = on.on_arc.3 in
        inside a b c p n (product_from (u *ℤ w) (v *ℤ v) g (product_above_zero v v l l)) (omega (arith, signed_linear, g))
    by (inr z) (inl (h, k)) = no_chord u v w (a.y -ℤ p.y) (b.y -ℤ p.y) (c.y -ℤ p.y) on.on_arc.0 z on.on_arc.2 total
        (omega (arith, signed_linear, h)) (omega (arith, signed_linear, k)) balance
    by (inr z) (inr (h, k)) = no_chord u v w (neg_ℤ (a.y -ℤ p.y)) (neg_ℤ (b.y -ℤ p.y)) (neg_ℤ (c.y -ℤ p.y)) on.on_arc.0 z
        on.on_arc.2 total (omega (arith, signed_linear, h)) (omega (arith, signed_linear, k))
        (other_sign u v w (a.y -ℤ p.y) (b.y -ℤ p.y) (c.y -ℤ p.y) balance)

turned_part : (a : Place) (b : Option Place) (c p : Place) → AreBeyond a.y c.y p.y
    → IsPastTurn (record { a = a; b = b; c = c }) p.y → (region_part a b c p ≡ pos 0) × (¬ (IsOnPart a b c p))
turned_part a None c p ends n = absurd n
turned_part a (Some b) c p ends n = (turned_region a b c p n, turned_on a b c p ends n)

no_tip : (a : Place) (b : Option Place) (c p q : Place) → AreBeyond a.y c.y p.y → IsPastTurn (record { a = a; b = b; c = c }) p.y
    → ¬ (IsTipPart a b c p q)
no_tip a None c p q ends n tip = tip
no_tip a (Some b) c p q ends n tip = let reached = tip.reached in grind (arith, signed_linear, ends, n, reached)

-- ---- a piece that lies above the height of p, or below it
pub missed : (p : Place) (s : Span) → IsMissed s p.y → (crossing p s ≡ pos 0) × (region p s ≡ pos 0) × (¬ (IsOn p s))
missed p s (inl (inl h)) = under_off p s h
missed p s (inr (inl h)) = over_off p s h
missed p s (inl (inr (h, k, n))) = let part = turned_part s.a s.b s.c p (inl (h, k)) n in
    (crossing_level s.a.y s.c.y p.y (area s.a s.c p) (h, k), part.0, part.1)
missed p s (inr (inr (h, k, n))) = let part = turned_part s.a s.b s.c p (inr (h, k)) n in
    (crossing_under s.a.y s.c.y p.y (area s.a s.c p) (h, k), part.0, part.1)

turned_unmet : (s : Span) (i j row : ℤ) → AreBeyond s.a.y s.c.y (pos 128 *ℤ row +ℤ pos 64)
    → IsPastTurn s (pos 128 *ℤ row +ℤ pos 64) → IsMissed s (pos 128 *ℤ row +ℤ pos 64)
    → ¬ (IsMet (centre i row) (centre j row) s)
turned_unmet s i j row ends n is (inl w) = let e = w.level in absurd (omega (arith, signed_linear, ends, e))
turned_unmet s i j row ends n is (inr (inl w)) = let e = w.level in absurd (omega (arith, signed_linear, ends, e))
turned_unmet s i j row ends n is (inr (inr (inr tip))) = no_tip s.a s.b s.c (centre i row) (centre j row) ends n tip
turned_unmet s i j row ends n is (inr (inr (inl t))) =
    let x = missed (centre i row) s is in let y = missed (centre j row) s is in t (λ k. (x.0 ∙ sym y.0) k +ℤ (x.1 ∙ sym y.1) k)

pub row_unmet : (s : Span) (i j row : ℤ) → IsMissed s (pos 128 *ℤ row +ℤ pos 64) → ¬ (IsMet (centre i row) (centre j row) s)
row_unmet s i j row (inl (inl h)) = above_not_met (centre i row) (centre j row) s refl h
row_unmet s i j row (inr (inl h)) = below_not_met (centre i row) (centre j row) s refl h
row_unmet s i j row (inl (inr (h, k, n))) = turned_unmet s i j row (inl (h, k)) n (inl (inr (h, k, n)))
row_unmet s i j row (inr (inr (h, k, n))) = turned_unmet s i j row (inr (h, k)) n (inr (inr (h, k, n)))
