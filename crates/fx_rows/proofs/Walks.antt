-- The areas at a place and a step are those after the step (`after_step`), and the columns of a strip are near (`near_column`).
-- Serves the walk along an arc.
use Rattle.std.proofs.Common.{◌≡◌, ◌≢◌, ◌∙◌, ap, sym, subst, ℕ, ◌+◌, ◌-◌, ◌^◌, ◌<◌, ◌≤◌, ℤ, pos, ◌+ℤ◌, ◌-ℤ◌, ◌*ℤ◌, ◌≤ℤ◌, [], ◌∷◌, Bool}
use Rattle.std.proofs.Common.{Option, Some, arith}
use Rattle.fx_fixed.specs.Polynomial.{Expr, var, ◌⊞◌, ◌⊠◌, ◌⊟◌}
use Rattle.fx_fixed.proofs.Ring.{ring, one-*ℤ}
use Rattle.fx_fixed.proofs.Linear.{signed, signed_linear}
use Rattle.fx_fixed.specs.Ranges.{IsWithin}
use Rattle.fx_winding.specs.Area.{Place, area_of, gap_of}
use Rattle.fx_winding.specs.Winding.{Span, sign, centre, place_of, maybe_place_of, span_of, areas_of}
use Rattle.fx_winding.specs.declared.point.Piece.{Piece}
use Rattle.fx_winding.specs.declared.point.Point.{Point}
use Rattle.fx_winding.specs.declared.weights.Weights.{Weights}
use Rattle.fx_rows.specs.declared.strip.Strip.{Strip}
use Rattle.fx_rows.specs.declared.walk.Spot.{Spot}
use Rattle.fx_rows.specs.inner.Arcs.{gap, AreAreas}
use Rattle.fx_rows.specs.inner.Cuts.{Counts, CountsAt}
use Rattle.fx_rows.specs.inner.Sides.{end_at, place_at}
use Rattle.fx_rows.specs.inner.Walks.{AreSmall, IsSum, AreTurned, AreSided, IsStep, IsReversed, right_of, IsSpot}
use Rattle.fx_rows.proofs.Sides.{areas_near, sign_times, middle}
use Rattle.fx_rows.proofs.Weights.{gap_scaled, sign_square}
use Rattle.fx_rows.proofs.Narrows.{changed}

-- ---- places
pub column_place : (strip : Strip) (k : ℕ) → right_of (place_at strip 0) k ≡ place_at strip k
column_place strip k =
    let x : (pos 128 *ℤ (strip.base +ℤ pos 0) +ℤ pos 64) +ℤ pos 128 *ℤ pos k ≡ pos 128 *ℤ (strip.base +ℤ pos k) +ℤ pos 64 =
    omega (arith, signed) in
    λ i. record { x = x i; y = pos 128 *ℤ strip.row +ℤ pos 64 }

abbrev IsNear : ℤ → Type 0
IsNear z = IsWithin 4194368 z

-- from the base the columns of a strip are near, and so is the one after them
pub near_column : (strip : Strip) (k : ℕ) → k ≤ strip.stop → IsNear (right_of (place_at strip 0) k).x
near_column strip k l =
    let n = strip.base_near in (omega (arith, signed, n.from, n.to, l), omega (arith, signed, n.from, n.to, l))

-- a spot is at a column of the strip, or at the one after them
pub spot_within : (s : Piece) (strip : Strip) (spot : Spot) → IsSpot spot s (place_at strip 0) (end_at strip) → spot.k ≤ strip.stop
spot_within s strip spot h = let w = h.within in omega (arith, signed, w)

pub within_spot : (strip : Strip) (k : ℕ) → k ≤ strip.stop
    → ((place_at strip 0).x +ℤ pos 128 *ℤ pos k) ≤ℤ (pos 128 *ℤ end_at strip +ℤ pos 64)
within_spot strip k l = omega (arith, signed, l)

pub near_row : (strip : Strip) → IsNear (place_at strip 0).y
near_row strip = let n = strip.row_near in (omega (arith, signed, n), omega (arith, signed, n))

pub near_above : (strip : Strip) → IsNear (centre (strip.base +ℤ pos 0) (strip.row +ℤ pos 1)).y
near_above strip = let n = strip.row_near in (omega (arith, signed, n), omega (arith, signed, n))

-- ---- areas after a step
pub after_step : (s : Span) (p q : Place) (areas step sum : Weights) → AreSided s p areas → IsStep s p q step
    → IsSum areas step sum → AreSided s q sum
after_step s p q areas step sum h d e = grind (arith, signed_linear, h, d, e)

-- ---- their sizes
pub small_after : (s : Piece) (p q : Place) (areas step : Weights) → AreSided (span_of s) p areas → IsStep (span_of s) p q step
    → IsNear q.x → IsNear q.y → AreSmall (areas.u +ℤ step.u) (areas.v +ℤ step.v) (areas.w +ℤ step.w)
small_after s p q areas step h d nx ny =
    let n = areas_near s.a s.b s.c q (omega (arith, signed_linear, nx), omega (arith, signed_linear, nx)) ny in
    let e = s.c.y -ℤ s.a.y in
    record {
      u = subst (IsWithin (2 ^ 55)) (d.u ∙ ap (λ z. z +ℤ step.u) (sym h.u)) (sign_times (2 ^ 55) e _ n.0);
      v = subst (IsWithin (2 ^ 55)) (d.v ∙ ap (λ z. z +ℤ step.v) (sym h.v)) (sign_times (2 ^ 55) e _ n.1);
      w = subst (IsWithin (2 ^ 55)) (d.w ∙ ap (λ z. z +ℤ step.w) (sym h.w)) (sign_times (2 ^ 55) e _ n.2);
    }

-- ---- steps
u_step : (d px py qx qy bx by cx cy : ℤ) → d *ℤ area_of qx qy bx by cx cy ≡
    d *ℤ area_of px py bx by cx cy +ℤ d *ℤ ((qx -ℤ px) *ℤ (by -ℤ cy) +ℤ (qy -ℤ py) *ℤ (cx -ℤ bx))
u_step d px py qx qy bx by cx cy =
    let f : Expr → Expr → Expr = λ p p'. (var 5 ⊟ p) ⊠ (var 8 ⊟ p') ⊟ (var 6 ⊟ p') ⊠ (var 7 ⊟ p) in
    ring (d ∷ px ∷ py ∷ qx ∷ qy ∷ bx ∷ by ∷ cx ∷ cy ∷ []) (var 0 ⊠ f (var 3) (var 4))
    (var 0 ⊠ f (var 1) (var 2) ⊞ var 0 ⊠ ((var 3 ⊟ var 1) ⊠ (var 6 ⊟ var 8) ⊞ (var 4 ⊟ var 2) ⊠ (var 7 ⊟ var 5))) tt

v_step : (d px py qx qy ax ay cx cy : ℤ) → d *ℤ area_of ax ay qx qy cx cy ≡
    d *ℤ area_of ax ay px py cx cy +ℤ d *ℤ ((qx -ℤ px) *ℤ (cy -ℤ ay) +ℤ (qy -ℤ py) *ℤ (ax -ℤ cx))
v_step d px py qx qy ax ay cx cy =
    let f : Expr → Expr → Expr = λ p p'. (p ⊟ var 5) ⊠ (var 8 ⊟ var 6) ⊟ (p' ⊟ var 6) ⊠ (var 7 ⊟ var 5) in
    ring (d ∷ px ∷ py ∷ qx ∷ qy ∷ ax ∷ ay ∷ cx ∷ cy ∷ []) (var 0 ⊠ f (var 3) (var 4))
    (var 0 ⊠ f (var 1) (var 2) ⊞ var 0 ⊠ ((var 3 ⊟ var 1) ⊠ (var 8 ⊟ var 6) ⊞ (var 4 ⊟ var 2) ⊠ (var 5 ⊟ var 7))) tt

w_step : (d px py qx qy ax ay bx by : ℤ) → d *ℤ area_of ax ay bx by qx qy ≡
    d *ℤ area_of ax ay bx by px py +ℤ d *ℤ ((qx -ℤ px) *ℤ (ay -ℤ by) +ℤ (qy -ℤ py) *ℤ (bx -ℤ ax))
w_step d px py qx qy ax ay bx by =
    let f : Expr → Expr → Expr = λ p p'. (var 7 ⊟ var 5) ⊠ (p' ⊟ var 6) ⊟ (var 8 ⊟ var 6) ⊠ (p ⊟ var 5) in
    ring (d ∷ px ∷ py ∷ qx ∷ qy ∷ ax ∷ ay ∷ bx ∷ by ∷ []) (var 0 ⊠ f (var 3) (var 4))
    (var 0 ⊠ f (var 1) (var 2) ⊞ var 0 ⊠ ((var 3 ⊟ var 1) ⊠ (var 6 ⊟ var 8) ⊞ (var 4 ⊟ var 2) ⊠ (var 7 ⊟ var 5))) tt

step_arc : (a b c p q : Place) (plain step : Weights) → plain.u ≡ (q.x -ℤ p.x) *ℤ (b.y -ℤ c.y) +ℤ (q.y -ℤ p.y) *ℤ (c.x -ℤ b.x)
    → plain.v ≡ (q.x -ℤ p.x) *ℤ (c.y -ℤ a.y) +ℤ (q.y -ℤ p.y) *ℤ (a.x -ℤ c.x)
    → plain.w ≡ (q.x -ℤ p.x) *ℤ (a.y -ℤ b.y) +ℤ (q.y -ℤ p.y) *ℤ (b.x -ℤ a.x)
    → AreTurned (c.y -ℤ a.y) plain step → IsStep (record { a = a; b = Some b; c = c }) p q step
step_arc a b c p q plain step eu ev ew t = grind (arith, signed_linear, eu, ev, ew, t, u_step, v_step, w_step)

step_piece : (s : Piece) (b : Point) (p q : Place) (step : Weights) → s.b ≡ Some b
    → IsStep (record { a = place_of s.a; b = Some (place_of b); c = place_of s.c }) p q step → IsStep (span_of s) p q step
step_piece s b p q step is h =
    subst (λ (o : Option Point). IsStep (record { a = place_of s.a; b = maybe_place_of o; c = place_of s.c }) p q step) (sym is) h

along_x : (x y t z : ℤ) → x ≡ pos 128 → y ≡ pos 0 → pos 128 *ℤ t ≡ x *ℤ t +ℤ y *ℤ z
along_x x y t z ex ey = grind (arith, signed_linear, ex, ey)

along_y : (x y t z : ℤ) → x ≡ pos 0 → y ≡ pos 128 → pos 128 *ℤ t ≡ x *ℤ z +ℤ y *ℤ t
along_y x y t z ex ey = grind (arith, signed_linear, ex, ey)

pub step_next : (s : Piece) (b : Point) (plain step : Weights) → s.b ≡ Some b → plain.u ≡ pos 128 *ℤ (b.y -ℤ s.c.y)
    → plain.v ≡ pos 128 *ℤ (s.c.y -ℤ s.a.y) → plain.w ≡ pos 128 *ℤ (s.a.y -ℤ b.y) → AreTurned (s.c.y -ℤ s.a.y) plain step
    → (p : Place) (k : ℕ) → IsStep (span_of s) (right_of p k) (right_of p (k + 1)) step
step_next s b plain step is eu ev ew t p k =
    let x : (p.x +ℤ pos 128 *ℤ pos (k + 1)) -ℤ (p.x +ℤ pos 128 *ℤ pos k) ≡ pos 128 = omega (arith, signed) in
    let y : p.y -ℤ p.y ≡ pos 0 = omega (arith, signed_linear) in
    step_piece s b (right_of p k) (right_of p (k + 1)) step is
    (step_arc (place_of s.a) (place_of b) (place_of s.c) (right_of p k) (right_of p (k + 1)) plain step
    (eu ∙ along_x _ _ (b.y -ℤ s.c.y) (s.c.x -ℤ b.x) x y) (ev ∙ along_x _ _ (s.c.y -ℤ s.a.y) (s.a.x -ℤ s.c.x) x y)
    (ew ∙ along_x _ _ (s.a.y -ℤ b.y) (b.x -ℤ s.a.x) x y) t)

pub step_up : (s : Piece) (b : Point) (plain step : Weights) → s.b ≡ Some b → plain.u ≡ pos 128 *ℤ (s.c.x -ℤ b.x)
    → plain.v ≡ pos 128 *ℤ (s.a.x -ℤ s.c.x) → plain.w ≡ pos 128 *ℤ (b.x -ℤ s.a.x) → AreTurned (s.c.y -ℤ s.a.y) plain step
    → (l r : ℤ) (k : ℕ) → IsStep (span_of s) (right_of (centre l r) k) (right_of (centre l (r +ℤ pos 1)) k) step
step_up s b plain step is eu ev ew t l r k =
    let z = (centre l r).x +ℤ pos 128 *ℤ pos k in
    let x : z -ℤ z ≡ pos 0 = omega (arith, signed_linear) in
    let y : (pos 128 *ℤ (r +ℤ pos 1) +ℤ pos 64) -ℤ (pos 128 *ℤ r +ℤ pos 64) ≡ pos 128 = omega (arith, signed) in
    step_piece s b (right_of (centre l r) k) (right_of (centre l (r +ℤ pos 1)) k) step is
    (step_arc (place_of s.a) (place_of b) (place_of s.c) (right_of (centre l r) k) (right_of (centre l (r +ℤ pos 1)) k) plain step
    (eu ∙ along_y _ _ (s.c.x -ℤ b.x) (b.y -ℤ s.c.y) x y) (ev ∙ along_y _ _ (s.a.x -ℤ s.c.x) (s.c.y -ℤ s.a.y) x y)
    (ew ∙ along_y _ _ (b.x -ℤ s.a.x) (s.a.y -ℤ b.y) x y) t)

step_back : (s : Span) (p q : Place) (step back : Weights) → IsStep s p q step → IsReversed step back → IsStep s q p back
step_back s p q step back h r = record {
  u = omega (arith, signed_linear, h.u, r.u);
  v = omega (arith, signed_linear, h.v, r.v);
  w = omega (arith, signed_linear, h.w, r.w);
}

-- ---- the areas of a place
pub sided : (s : Span) (p q : Place) (areas turned : Weights) → AreAreas s p areas → AreTurned (s.c.y -ℤ s.a.y) areas turned → q ≡ p
    → AreSided s q turned
sided s p q areas turned h t e = grind (arith, signed_linear, h, t, e)

-- their gap, in which the sign does not matter
sided_gap : (s : Span) (p : Place) (areas : Weights) → s.a.y ≢ s.c.y → AreSided s p areas
    → gap_of areas.u areas.v areas.w ≡ gap s p
sided_gap s p areas slanted h =
    let d = sign (s.c.y -ℤ s.a.y) in
    (λ i. gap_of (h.u i) (h.v i) (h.w i))
    ∙ gap_scaled d (areas_of s p).0 (areas_of s p).1 (areas_of s p).2
    ∙ ap (λ z. z *ℤ gap s p) (sign_square (s.c.y -ℤ s.a.y) (changed s.a.y s.c.y slanted))
    ∙ one-*ℤ (gap s p)

pub gap_at_column : (s : Piece) (strip : Strip) (spot : Spot) → IsSpot spot s (place_at strip 0) (end_at strip)
    → gap_of spot.areas.u spot.areas.v spot.areas.w ≡ gap (span_of s) (place_at strip spot.k)
gap_at_column s strip spot h = sided_gap (span_of s) (place_at strip spot.k) spot.areas h.slanted
    (subst (λ q. AreSided (span_of s) q spot.areas) (column_place strip spot.k) h.areas)

-- a column counts by its areas
pub counts_at : (s : Piece) (r : Bool) (strip : Strip) (spot : Spot) → IsSpot spot s (place_at strip 0) (end_at strip)
    → Counts r spot.areas.v (gap_of spot.areas.u spot.areas.v spot.areas.w) ≡ CountsAt (span_of s) r strip spot.k
counts_at s r strip spot h =
    let slanted = h.slanted in let areas = h.areas in
    grind (arith, signed_linear, slanted, areas, h, column_place, middle, gap_at_column)

-- the step to the column before
pub step_before : (s : Span) (p : Place) (k : ℕ) (step back : Weights) → 0 < k
    → ((q : Place) (j : ℕ) → IsStep s (right_of q j) (right_of q (j + 1)) step) → IsReversed step back
    → IsStep s (right_of p k) (right_of p (k - 1)) back
step_before s p k step back some h r =
    let e : (k - 1) + 1 ≡ k = omega (arith, some) in subst (λ n. IsStep s (right_of p n) (right_of p (k - 1)) back) e
    (step_back s (right_of p (k - 1)) (right_of p ((k - 1) + 1)) step back (h p (k - 1)) r)
