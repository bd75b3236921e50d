-- A piece that lies wholly right or left of the segment between two places of a row does not meet it: `right_not_met`,
-- `left_not_met`. One end may be in the column of the nearer place, if that place is not the end.
-- Serves the frame with drop-out control in `fx_contour`, and `Turning`.
use Rattle.std.proofs.Common.{◌≡◌, ◌≢◌, ◌⊎◌, inl, inr, ℤ, pos, ◌+ℤ◌, ◌-ℤ◌, ◌*ℤ◌, ◌≤ℤ◌, ◌<ℤ◌, [], ◌∷◌, Option, Some, None, arith}
use Rattle.std.proofs.Math.Logic.{⊎_swap}
use Rattle.fx_fixed.specs.Polynomial.{Expr, var, num, ◌⊞◌, ◌⊠◌, ◌⊟◌}
use Rattle.fx_fixed.proofs.Ring.{ring, *ℤ_comm}
use Rattle.fx_fixed.proofs.Linear.{signed, signed_linear}
use Rattle.fx_fixed.proofs.Signs.{product_at_least_zero, product_above_zero}
use Rattle.fx_winding.specs.Area.{Place, area, area_of}
use Rattle.fx_winding.specs.Winding.{Span}
use Rattle.fx_winding.specs.Outside.{HasAll, OptionAll}
use Rattle.fx_winding.specs.Meets.{turn, slope, IsReached, IsTipPart, IsMet}
use Rattle.fx_winding.proofs.Beside.{HasAll-weaker, all_beyond, beyond_weaker, StartsFrom, EndsAt, left_no_region, right_no_region}
use Rattle.fx_winding.proofs.Crossings.{above, crossing_right, crossing_left, area_split, area_split_right, area_turn}
use Rattle.fx_winding.proofs.Products.{product}
use Rattle.fx_winding.proofs.Triangle.{at, coordinates, slope_at, not_below_range, not_above_range}

-- ---- a chord one end of which is in the column of p
-- p is neither end of a piece
pub record IsNoEnd (p : Place) (s : Span) : Type 0 where
  pub first : p ≢ s.a
  pub last : p ≢ s.c

pub same_place : (p e : Place) → p.x ≡ e.x → p.y ≡ e.y → p ≡ e
same_place p e h k = λ i. record { x = h i; y = k i }

-- an end at or below the height of p is right of p, or below its height while the other end is right of p
apart_right : (p e : Place) (x : ℤ) → p ≢ e → e.y ≤ℤ p.y → p.x ≤ℤ e.x → (p.x <ℤ e.x) ⊎ (p.x <ℤ x)
    → (p.x <ℤ e.x) ⊎ ((e.y <ℤ p.y) × (p.x <ℤ x))
apart_right p e x h i j k = grind (arith, signed_linear, h, i, j, k, same_place)

apart_left : (p e : Place) (x : ℤ) → p ≢ e → e.y ≤ℤ p.y → e.x ≤ℤ p.x → (e.x <ℤ p.x) ⊎ (x <ℤ p.x)
    → (e.x <ℤ p.x) ⊎ ((e.y <ℤ p.y) × (x <ℤ p.x))
apart_left p e x h i j k = grind (arith, signed_linear, h, i, j, k, same_place)

-- a sum of two products, of which one is above 0
one_above : (x u y v : ℤ) → (pos 0 ≤ℤ x) × (pos 0 ≤ℤ u) × (pos 0 ≤ℤ y) × (pos 0 ≤ℤ v)
    → ((pos 0 <ℤ x) × (pos 0 <ℤ u)) ⊎ ((pos 0 <ℤ y) × (pos 0 <ℤ v)) → pos 0 <ℤ (x *ℤ u +ℤ y *ℤ v)
one_above x u y v h (inl k) = omega (arith, signed_linear, product_above_zero x u k.0 k.1, product_at_least_zero y v h.2 h.3)
one_above x u y v h (inr k) = omega (arith, signed_linear, product_at_least_zero x u h.0 h.1, product_above_zero y v k.0 k.1)

-- where it rises past the height of p, p lies left of it, or right
left_of_rising_end : (ax ay cx cy px py : ℤ) → ay ≤ℤ py → py <ℤ cy → px ≤ℤ ax → px ≤ℤ cx
    → (px <ℤ ax) ⊎ ((ay <ℤ py) × (px <ℤ cx)) → pos 0 <ℤ area_of ax ay cx cy px py
left_of_rising_end ax ay cx cy px py h k m n one =
    rw (area_split ax ay cx cy px py) (one_above (cy -ℤ py) (ax -ℤ px) (py -ℤ ay) (cx -ℤ px) (omega (arith, signed_linear))
    (elim one [ inl l ↦ inl (omega (arith, signed_linear)) | inr l ↦ inr (omega (arith, signed_linear)) ]))

right_of_rising_end : (ax ay cx cy px py : ℤ) → ay ≤ℤ py → py <ℤ cy → ax ≤ℤ px → cx ≤ℤ px
    → (ax <ℤ px) ⊎ ((ay <ℤ py) × (cx <ℤ px)) → area_of ax ay cx cy px py <ℤ pos 0
right_of_rising_end ax ay cx cy px py h k m n one =
    let s = one_above (cy -ℤ py) (px -ℤ ax) (py -ℤ ay) (px -ℤ cx) (omega (arith, signed_linear))
    (elim one [ inl l ↦ inl (omega (arith, signed_linear)) | inr l ↦ inr (omega (arith, signed_linear)) ]) in
    rw (area_split_right ax ay cx cy px py) (omega (arith, signed_linear, s))

-- ---- what a piece adds
-- one that lies right of p or in its column
pub right_turn : (p : Place) (s : Span) → StartsFrom p.x s → IsNoEnd p s → turn p s ≡ above p.y s.c.y -ℤ above p.y s.a.y
right_turn p s h n =
    let x = crossing_right s.a.y s.c.y p.y (area s.a s.c p) up down in let y = left_no_region p s h in omega (arith, signed_linear)
  where
    up : s.a.y ≤ℤ p.y → p.y <ℤ s.c.y → pos 0 <ℤ area s.a s.c p
    up k l = left_of_rising_end s.a.x s.a.y s.c.x s.c.y p.x p.y k l h.all.0 h.all.2
        (apart_right p s.a s.c.x n.first k h.all.0 h.one)

    down : s.c.y ≤ℤ p.y → p.y <ℤ s.a.y → area s.a s.c p <ℤ pos 0
    down k l = let z = area_turn s.a.x s.a.y s.c.x s.c.y p.x p.y in
        let w = left_of_rising_end s.c.x s.c.y s.a.x s.a.y p.x p.y k l h.all.2 h.all.0
        (apart_right p s.c s.a.x n.last k h.all.2 (⊎_swap h.one)) in omega (arith, signed_linear)

-- one that lies left of p or in its column: nothing
pub left_turn : (p : Place) (s : Span) → EndsAt p.x s → IsNoEnd p s → turn p s ≡ pos 0
left_turn p s h n =
    let x = crossing_left s.a.y s.c.y p.y (area s.a s.c p) up down in let y = right_no_region p s h in omega (arith, signed_linear)
  where
    up : s.a.y ≤ℤ p.y → p.y <ℤ s.c.y → area s.a s.c p <ℤ pos 0
    up k l = right_of_rising_end s.a.x s.a.y s.c.x s.c.y p.x p.y k l h.all.0 h.all.2
        (apart_left p s.a s.c.x n.first k h.all.0 h.one)

    down : s.c.y ≤ℤ p.y → p.y <ℤ s.a.y → pos 0 <ℤ area s.a s.c p
    down k l = let z = area_turn s.a.x s.a.y s.c.x s.c.y p.x p.y in
        let w = right_of_rising_end s.c.x s.c.y s.a.x s.a.y p.x p.y k l h.all.2 h.all.0
        (apart_left p s.c s.a.x n.last k h.all.2 (⊎_swap h.one)) in omega (arith, signed_linear)

-- ---- strictly to one side
-- all points of a piece are right of the column x
pub all_right : (x : ℤ) (s : Span) → HasAll (λ e. x <ℤ e.x) s → StartsFrom x s
all_right x s h = all_beyond (λ e. x ≤ℤ e.x) (λ e. x <ℤ e.x) (λ e l. omega (arith, signed_linear, l)) s h

-- all are left of it
pub all_left : (x : ℤ) (s : Span) → HasAll (λ e. e.x <ℤ x) s → EndsAt x s
all_left x s h = all_beyond (λ e. e.x ≤ℤ x) (λ e. e.x <ℤ x) (λ e l. omega (arith, signed_linear, l)) s h

apart_x : (p e : Place) → (p.x <ℤ e.x) ⊎ (e.x <ℤ p.x) → p ≢ e
apart_x p e h k = let z : p.x ≡ e.x = λ i. (k i).x in omega (arith, signed_linear, h, z)

pub right_no_end : (p : Place) (s : Span) → HasAll (λ e. p.x <ℤ e.x) s → IsNoEnd p s
right_no_end p s h = record { first = apart_x p s.a (inl h.0); last = apart_x p s.c (inl h.2) }

pub left_no_end : (p : Place) (s : Span) → HasAll (λ e. e.x <ℤ p.x) s → IsNoEnd p s
left_no_end p s h = record { first = apart_x p s.a (inr h.0); last = apart_x p s.c (inr h.2) }

-- ---- no tip

-- how much the place of an end along the row counts in the slope there, and that of the control point, where the ends lie A and C
-- to one side of the row and the control point B to the other
abbrev weight_end : ℤ → ℤ → ℤ → ℤ
weight_end A B C = (pos 2 *ℤ (B *ℤ B) -ℤ A *ℤ C) +ℤ pos 2 *ℤ (B *ℤ C) +ℤ C *ℤ C

abbrev weight_middle : ℤ → ℤ → ℤ → ℤ
weight_middle A B C = pos 4 *ℤ (A *ℤ C) +ℤ pos 2 *ℤ (A *ℤ B) +ℤ pos 2 *ℤ (B *ℤ C)

record AreAbove (A B C : ℤ) : Type 0 where
  first : pos 0 <ℤ weight_end A B C
  middle : pos 0 <ℤ weight_middle A B C
  last : pos 0 <ℤ weight_end C B A

-- the weight of an end, and of the control point, by the products in it
end_above : (ac bb x y : ℤ) → pos 0 <ℤ ac → ac ≤ℤ bb → pos 0 ≤ℤ x → pos 0 <ℤ y → pos 0 <ℤ ((pos 2 *ℤ bb -ℤ ac) +ℤ pos 2 *ℤ x +ℤ y)
end_above ac bb x y h k l m = omega (arith, signed)

middle_above : (ac ab bc : ℤ) → pos 0 <ℤ ac → pos 0 ≤ℤ ab → pos 0 ≤ℤ bc → pos 0 <ℤ (pos 4 *ℤ ac +ℤ pos 2 *ℤ ab +ℤ pos 2 *ℤ bc)
middle_above ac ab bc h k l = omega (arith, signed)

both_below : (x y : ℤ) → x <ℤ pos 0 → y <ℤ pos 0 → pos 0 <ℤ (x *ℤ y)
both_below x y h k = (product x y).neither h k

weights_up : (A B C : ℤ) → (pos 0 <ℤ A) × (pos 0 <ℤ B) × (pos 0 <ℤ C) → (A *ℤ C) ≤ℤ (B *ℤ B) → (C *ℤ A) ≤ℤ (B *ℤ B) → AreAbove A B C
weights_up A B C s h k = grind (arith, signed_linear, s, h, k, product_above_zero, end_above, middle_above)

weights_down : (A B C : ℤ) → (A <ℤ pos 0) × (B <ℤ pos 0) × (C <ℤ pos 0) → (A *ℤ C) ≤ℤ (B *ℤ B) → (C *ℤ A) ≤ℤ (B *ℤ B)
    → AreAbove A B C
weights_down A B C s h k = grind (arith, signed_linear, s, h, k, both_below, end_above, middle_above)

-- the same as expressions
abbrev end_expr : Expr → Expr → Expr → Expr
end_expr A B C = (num (pos 2) ⊠ (B ⊠ B) ⊟ A ⊠ C) ⊞ num (pos 2) ⊠ (B ⊠ C) ⊞ C ⊠ C

abbrev middle_expr : Expr → Expr → Expr → Expr
middle_expr A B C = num (pos 4) ⊠ (A ⊠ C) ⊞ num (pos 2) ⊠ (A ⊠ B) ⊞ num (pos 2) ⊠ (B ⊠ C)

-- the slope as a sum of how far the arc's points lie right of p, each with its weight
abbrev weighted : Place → Place → Place → Place → ℤ → ℤ → ℤ → ℤ
weighted a b c p A B C = (a.x -ℤ p.x) *ℤ weight_end A B C +ℤ (b.x -ℤ p.x) *ℤ weight_middle A B C +ℤ (c.x -ℤ p.x) *ℤ weight_end C B A

abbrev weighted_at : Expr → Expr → Expr → Expr
weighted_at A B C = (var 0 ⊟ var 6) ⊠ end_expr A B C ⊞ (var 2 ⊟ var 6) ⊠ middle_expr A B C ⊞ (var 4 ⊟ var 6) ⊠ end_expr C B A

slope_weighted : (a b c p : Place) → slope a b c p ≡ weighted a b c p (p.y -ℤ a.y) (b.y -ℤ p.y) (p.y -ℤ c.y)
slope_weighted a b c p = ring (coordinates (a ∷ b ∷ c ∷ p ∷ []) []) (slope_at (at 0) (at 1) (at 2) (at 3))
    (weighted_at (var 7 ⊟ var 1) (var 3 ⊟ var 7) (var 7 ⊟ var 5)) tt

-- the turn of a quadratic that goes past the row and back
turn_past : (a b c p : ℤ) → (a *ℤ c -ℤ b *ℤ b) ≤ℤ (p *ℤ (a -ℤ pos 2 *ℤ b +ℤ c)) → ((p -ℤ a) *ℤ (p -ℤ c)) ≤ℤ ((b -ℤ p) *ℤ (b -ℤ p))
turn_past a b c p h =
    let e : (a *ℤ c -ℤ b *ℤ b) -ℤ p *ℤ (a -ℤ pos 2 *ℤ b +ℤ c) ≡ (p -ℤ a) *ℤ (p -ℤ c) -ℤ (b -ℤ p) *ℤ (b -ℤ p) =
    ring (a ∷ b ∷ c ∷ p ∷ []) ((var 0 ⊠ var 2 ⊟ var 1 ⊠ var 1) ⊟ var 3 ⊠ (var 0 ⊟ num (pos 2) ⊠ var 1 ⊞ var 2))
    ((var 3 ⊟ var 0) ⊠ (var 3 ⊟ var 2) ⊟ (var 1 ⊟ var 3) ⊠ (var 1 ⊟ var 3)) tt in
    omega (arith, signed_linear, e, h)

-- an arc that reaches a row goes past it
goes_past : (a b c p : ℤ) → IsReached a b c p → (((a <ℤ p) × (p <ℤ b) × (c <ℤ p)) ⊎ ((p <ℤ a) × (b <ℤ p) × (p <ℤ c)))
    × ((a *ℤ c -ℤ b *ℤ b) ≤ℤ (p *ℤ (a -ℤ pos 2 *ℤ b +ℤ c)))
goes_past a b c p h = let l = not_below_range a b c p in let k = not_above_range a b c p in grind (arith, signed_linear, h, k, l)

reached_above : (a b c p : ℤ) → IsReached a b c p → AreAbove (p -ℤ a) (b -ℤ p) (p -ℤ c)
reached_above a b c p h =
    let k = goes_past a b c p h in
    let t = turn_past a b c p k.1 in
    let u : ((p -ℤ c) *ℤ (p -ℤ a)) ≤ℤ ((b -ℤ p) *ℤ (b -ℤ p)) = rw (*ℤ_comm (p -ℤ c) (p -ℤ a)) t in
    elim k.0 [
      | inl l ↦ weights_up _ _ _ (omega (arith, signed_linear, l)) t u
      | inr l ↦ weights_down _ _ _ (omega (arith, signed_linear, l)) t u
    ]

-- where one of the ends is not in the column
sum_above : (x y z u v w : ℤ) → (pos 0 ≤ℤ x) × (pos 0 ≤ℤ y) × (pos 0 ≤ℤ z) → (pos 0 <ℤ x) ⊎ (pos 0 <ℤ z) → pos 0 <ℤ u → pos 0 <ℤ v
    → pos 0 <ℤ w → pos 0 <ℤ (x *ℤ u +ℤ y *ℤ v +ℤ z *ℤ w)
sum_above x y z u v w h one hu hv hw =
    let s = one_above x u z w (omega (arith, signed_linear)) (elim one [ inl l ↦ inl (l, hu) | inr l ↦ inr (l, hw) ]) in
    omega (arith, signed_linear, s, product_at_least_zero y v h.1 (omega (arith, signed_linear)))

sum_below : (x y z u v w : ℤ) → (x ≤ℤ pos 0) × (y ≤ℤ pos 0) × (z ≤ℤ pos 0) → (x <ℤ pos 0) ⊎ (z <ℤ pos 0) → pos 0 <ℤ u → pos 0 <ℤ v
    → pos 0 <ℤ w → (x *ℤ u +ℤ y *ℤ v +ℤ z *ℤ w) <ℤ pos 0
sum_below x y z u v w h one hu hv hw =
    let a = product x u in let b = product y v in let c = product z w in grind (arith, signed_linear)

right_no_tip : (a : Place) (b : Option Place) (c p q : Place) → q.y ≡ p.y → q.x ≤ℤ a.x → OptionAll (λ e. q.x ≤ℤ e.x) b
    → q.x ≤ℤ c.x → (q.x <ℤ a.x) ⊎ (q.x <ℤ c.x) → ¬ (IsTipPart a b c p q)
right_no_tip a None c p q e ha hb hc one t = t
right_no_tip a (Some b) c p q e ha hb hc one t =
    let w = reached_above a.y b.y c.y q.y (rw e t.reached) in
    let s = sum_above (a.x -ℤ q.x) (b.x -ℤ q.x) (c.x -ℤ q.x) _ _ _ (omega (arith, signed_linear))
    (elim one [ inl l ↦ inl (omega (arith, signed_linear, l)) | inr l ↦ inr (omega (arith, signed_linear, l)) ]) w.first w.middle
    w.last in
    let k = t.falls in omega (arith, signed_linear, s, k, slope_weighted a b c q)

left_no_tip : (a : Place) (b : Option Place) (c p q : Place) → a.x ≤ℤ p.x → OptionAll (λ e. e.x ≤ℤ p.x) b → c.x ≤ℤ p.x
    → (a.x <ℤ p.x) ⊎ (c.x <ℤ p.x) → ¬ (IsTipPart a b c p q)
left_no_tip a None c p q ha hb hc one t = t
left_no_tip a (Some b) c p q ha hb hc one t =
    let w = reached_above a.y b.y c.y p.y t.reached in
    let s = sum_below (a.x -ℤ p.x) (b.x -ℤ p.x) (c.x -ℤ p.x) _ _ _ (omega (arith, signed_linear))
    (elim one [ inl l ↦ inl (omega (arith, signed_linear, l)) | inr l ↦ inr (omega (arith, signed_linear, l)) ]) w.first w.middle
    w.last in
    let k = t.rises in omega (arith, signed_linear, s, k, slope_weighted a b c p)

-- ---- not met
further_right : (x y : ℤ) (s : Span) → x ≤ℤ y → StartsFrom y s → StartsFrom x s
further_right x y s l h = beyond_weaker (λ e. y ≤ℤ e.x) (λ e. x ≤ℤ e.x) (λ e. y <ℤ e.x) (λ e. x <ℤ e.x)
    (λ e k. omega (arith, signed_linear, l, k)) (λ e k. omega (arith, signed_linear, l, k)) s h

further_left : (x y : ℤ) (s : Span) → x ≤ℤ y → EndsAt x s → EndsAt y s
further_left x y s l h = beyond_weaker (λ e. e.x ≤ℤ x) (λ e. e.x ≤ℤ y) (λ e. e.x <ℤ x) (λ e. e.x <ℤ y)
    (λ e k. omega (arith, signed_linear, l, k)) (λ e k. omega (arith, signed_linear, l, k)) s h

-- a piece that lies right of the segment from p to q, or in the column of q, does not meet it
pub right_end_not_met : (p q : Place) (s : Span) → q.y ≡ p.y → p.x ≤ℤ q.x → StartsFrom q.x s → IsNoEnd p s → IsNoEnd q s
    → ¬ (IsMet p q s)
right_end_not_met p q s h i j k l m = grind (arith, signed_linear, h, i, j, k, l, m, right_turn, further_right, above, right_no_tip)

-- nor does one that lies left of it, or in the column of p
pub left_end_not_met : (p q : Place) (s : Span) → p.x ≤ℤ q.x → EndsAt p.x s → IsNoEnd p s → IsNoEnd q s → ¬ (IsMet p q s)
left_end_not_met p q s h i j k l = grind (arith, signed_linear, h, i, j, k, l, left_turn, further_left, left_no_tip)

-- where all points lie strictly to that side
pub right_not_met : (p q : Place) (s : Span) → q.y ≡ p.y → p.x ≤ℤ q.x → HasAll (λ e. q.x <ℤ e.x) s → ¬ (IsMet p q s)
right_not_met p q s e l h = right_end_not_met p q s e l (all_right q.x s h)
    (right_no_end p s (HasAll-weaker (λ e. q.x <ℤ e.x) (λ e. p.x <ℤ e.x) (λ o k. omega (arith, signed_linear, l, k)) s h))
    (right_no_end q s h)

pub left_not_met : (p q : Place) (s : Span) → p.x ≤ℤ q.x → HasAll (λ e. e.x <ℤ p.x) s → ¬ (IsMet p q s)
left_not_met p q s l h = left_end_not_met p q s l (all_left p.x s h) (left_no_end p s h)
    (left_no_end q s (HasAll-weaker (λ e. e.x <ℤ p.x) (λ e. e.x <ℤ q.x) (λ o k. omega (arith, signed_linear, l, k)) s h))
