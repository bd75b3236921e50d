-- A piece that lies above a row, or below it, meets no segment of it: `above_not_met`, `below_not_met`.
-- Serves the law `meeting`, and `fx_dropout`, which asks no piece that lies beside a row.
use Rattle.std.proofs.Common.{◌≡◌, ◌≢◌, sym, ◌∙◌, ◌⊎◌, inl, inr, ℤ, pos, ◌+ℤ◌, ◌-ℤ◌, ◌*ℤ◌}
use Rattle.std.proofs.Common.{◌<ℤ◌, neg_ℤ, [], ◌∷◌, Option, Some, None, option_map, List, arith}
use Rattle.std.proofs.lemmas.Int.{ints}
use Rattle.fx_fixed.specs.Polynomial.{var, ◌⊞◌, ◌⊠◌, ◌⊟◌}
use Rattle.fx_fixed.proofs.Ring.{ring}
use Rattle.fx_fixed.proofs.Linear.{signed_linear}
use Rattle.fx_fixed.proofs.Signs.{product_above_zero}
use Rattle.fx_winding.specs.Area.{Place, area, area_of}
use Rattle.fx_winding.specs.Winding.{Span, crossing, region, region_part, winding, IsCovered}
use Rattle.fx_winding.specs.Moves.{reversed, shifted_place, shifted}
use Rattle.fx_winding.specs.Meets.{turn, slope, IsWithinRow, IsReached, IsTipPart, IsMet, IsBetweenEnds, ReversalMeets, ShiftMeets}
use Rattle.fx_winding.specs.Meets.{CrossingsCancel, InnerMeets, LinesAreMet}
use Rattle.fx_winding.proofs.Crossings.{crossing_number, area_turn}
use Rattle.fx_winding.specs.Outside.{HasAll, OptionAll}
use Rattle.fx_winding.proofs.Beside.{under_off, over_off}
use Rattle.fx_winding.proofs.Triangle.{area_expr, at, coordinates, slope_at, not_below_range, not_above_range}
use Rattle.fx_winding.proofs.Reversal.{minus_sum, low_back, high_back, none_back, region_part_back, reversal_negates}
use Rattle.fx_winding.proofs.Shifts.{area_shift, crossing_shift, region_part_shift, low_shift, high_shift, unshifted}

-- ---- reversed
same_minus : (x y : ℤ) → neg_ℤ x ≡ neg_ℤ y → x ≡ y
same_minus x y h = omega (arith, signed_linear)

pub added_back : (p : Place) (s : Span) → turn p (reversed s) ≡ neg_ℤ (turn p s)
added_back p s =
    let k = reversal_negates p s in (λ i. k.1 i +ℤ k.2 i) ∙ sym (minus_sum (crossing p s) (region p s))

reached_back : (a b c p : ℤ) → IsReached a b c p → IsReached c b a p
reached_back a b c p h = let k = high_back a b c p in let l = low_back a b c p in grind (arith, ints, h, k, l)

slope_back : (a b c p : Place) → slope c b a p ≡ slope a b c p
slope_back a b c p =
    ring (coordinates (a ∷ b ∷ c ∷ p ∷ []) []) (slope_at (at 2) (at 1) (at 0) (at 3)) (slope_at (at 0) (at 1) (at 2) (at 3)) tt

tip_back : (a : Place) (b : Option Place) (c p q : Place) → IsTipPart a b c p q → IsTipPart c b a p q
tip_back a None c p q h = absurd h
tip_back a (Some b) c p q h = record {
  reached = reached_back a.y b.y c.y p.y h.reached;
  outside = none_back (region_part a (Some b) c p) _ (region_part_back a (Some b) c p) h.outside;
  rises = rw (slope_back a b c p) h.rises;
  falls = rw (slope_back a b c q) h.falls;
}

met_back : (p q : Place) (s : Span) → IsMet p q s → IsMet p q (reversed s)
met_back p q s (inl h) = inr (inl h)
met_back p q s (inr (inl h)) = inl h
met_back p q s (inr (inr (inl n))) =
    inr (inr (inl (λ e. n (same_minus (turn p s) (turn q s) (sym (added_back p s) ∙ e ∙ added_back q s)))))
met_back p q s (inr (inr (inr t))) = inr (inr (inr (tip_back s.a s.b s.c p q t)))

pub reversal_meets : ReversalMeets
reversal_meets p q s = (met_back p q (reversed s), met_back p q s)

-- ---- between two places that are not covered
none_or_not : (z : ℤ) → ¬ (z ≢ pos 0) → z ≡ pos 0
none_or_not z h = grind (arith, ints)

none_wound : (p : Place) (ss : List Span) → ¬ (IsCovered p ss) → winding p ss ≡ pos 0
unfolding IsCovered
none_wound p ss n = none_or_not (winding p ss) (λ k. n (inr k))

pub crossings_cancel : CrossingsCancel
crossings_cancel p q ss np nq = none_wound p ss np ∙ sym (none_wound q ss nq)

-- ---- moved
added_shift : (x y : ℤ) (p : Place) (s : Span) → turn (shifted_place x y p) (shifted x y s) ≡ turn p s
added_shift x y p s = λ i. crossing_shift x y s.a s.c p i +ℤ region_part_shift x y s.a s.b s.c p i

step_shift : (t m n : ℤ) → (m +ℤ t) -ℤ (n +ℤ t) ≡ m -ℤ n
step_shift t m n = omega (arith, signed_linear)

slope_shift : (x y : ℤ) (a b c p : Place)
    → slope (shifted_place x y a) (shifted_place x y b) (shifted_place x y c) (shifted_place x y p) ≡ slope a b c p
slope_shift x y a b c p = grind (arith, signed_linear, step_shift, area_shift)

within_shift : (x y : ℤ) (p q e : Place) → IsWithinRow p q e
    → IsWithinRow (shifted_place x y p) (shifted_place x y q) (shifted_place x y e)
within_shift x y p q e h = omega (arith, signed_linear, h)

reached_shift : (t a b c p : ℤ) → IsReached a b c p → IsReached (a +ℤ t) (b +ℤ t) (c +ℤ t) (p +ℤ t)
reached_shift t a b c p h = grind (arith, signed_linear, h, high_shift, low_shift)

tip_shift : (x y : ℤ) (a : Place) (b : Option Place) (c p q : Place) → IsTipPart a b c p q
    → IsTipPart (shifted_place x y a) (option_map (shifted_place x y) b) (shifted_place x y c) (shifted_place x y p)
    (shifted_place x y q)
tip_shift x y a None c p q h = h
tip_shift x y a (Some b) c p q h = record {
  reached = reached_shift y a.y b.y c.y p.y h.reached;
  outside = region_part_shift x y a (Some b) c p ∙ h.outside;
  rises = rw (slope_shift x y a b c p) h.rises;
  falls = rw (slope_shift x y a b c q) h.falls;
}

met_shift : (x y : ℤ) (p q : Place) (s : Span) → IsMet p q s → IsMet (shifted_place x y p) (shifted_place x y q) (shifted x y s)
met_shift x y p q s h = grind (arith, signed_linear, h, within_shift, added_shift, tip_shift)

pub shift_meets : ShiftMeets
shift_meets x y p q s = (
  λ h. unshifted IsMet x y p q s (met_shift (neg_ℤ x) (neg_ℤ y) (shifted_place x y p) (shifted_place x y q) (shifted x y s) h),
  met_shift x y p q s,
)

-- ---- on a row strictly between the ends
between_not_reached : (a b c y : ℤ) → ((a <ℤ y) × (y <ℤ c)) ⊎ ((c <ℤ y) × (y <ℤ a)) → IsReached a b c y → ⊥
between_not_reached a b c y i h = omega (arith, signed_linear, i, h)

between_no_tip : (a : Place) (b : Option Place) (c p q : Place) → ((a.y <ℤ p.y) × (p.y <ℤ c.y)) ⊎ ((c.y <ℤ p.y) × (p.y <ℤ a.y))
    → IsTipPart a b c p q → ⊥
between_no_tip a None c p q i t = t
between_no_tip a (Some b) c p q i t = between_not_reached a.y b.y c.y p.y i t.reached

between_turns : (p q : Place) (s : Span) → IsBetweenEnds p s → IsMet p q s → turn p s ≢ turn q s
between_turns p q s h i = grind (arith, signed_linear, h, i, between_no_tip)

pub inner_meets : InnerMeets
inner_meets p q s i = (between_turns p q s i, λ n. inr (inr (inl n)))

-- ---- lines
-- along a row the area falls by the chord's rise for each step to the right
area_along : (ax ay cx cy px rx y : ℤ) → area_of ax ay cx cy px y ≡ area_of ax ay cx cy rx y +ℤ (rx -ℤ px) *ℤ (cy -ℤ ay)
area_along ax ay cx cy px rx y =
    ring (ax ∷ ay ∷ cx ∷ cy ∷ px ∷ rx ∷ y ∷ []) (area_expr (var 0) (var 1) (var 2) (var 3) (var 4) (var 6))
    (area_expr (var 0) (var 1) (var 2) (var 3) (var 5) (var 6) ⊞ (var 5 ⊟ var 4) ⊠ (var 3 ⊟ var 1)) tt

rising_crossing_differs : (ay cy y sp sq : ℤ) → ay <ℤ y → y <ℤ cy → pos 0 <ℤ sp → sq <ℤ pos 0
    → ¬ (crossing_number ay cy y sp +ℤ pos 0 ≡ crossing_number ay cy y sq +ℤ pos 0)
rising_crossing_differs ay cy y sp sq h i j k e = grind (arith, ints)

rising_line_crosses : (ax ay cx cy px qx rx y : ℤ) → px <ℤ rx → rx <ℤ qx → area_of ax ay cx cy rx y ≡ pos 0 → ay <ℤ y → y <ℤ cy
    → ¬ (crossing_number ay cy y (area_of ax ay cx cy px y) +ℤ pos 0 ≡ crossing_number ay cy y (area_of ax ay cx cy qx y) +ℤ pos 0)
rising_line_crosses ax ay cx cy px qx rx y lp lq z h k =
    let m = product_above_zero (rx -ℤ px) (cy -ℤ ay) (omega (arith, signed_linear)) (omega (arith, signed_linear)) in
    let n = product_above_zero (qx -ℤ rx) (cy -ℤ ay) (omega (arith, signed_linear)) (omega (arith, signed_linear)) in
    let e = area_along ax ay cx cy px rx y in
    let f = area_along ax ay cx cy rx qx y in
    rising_crossing_differs ay cy y (area_of ax ay cx cy px y) (area_of ax ay cx cy qx y) h k
    (omega (arith, signed_linear, m, e, z)) (omega (arith, signed_linear, n, f, z))

-- both places brought to the row of the third
crosses_on_row : (ax ay cx cy px qx py qy y : ℤ) → py ≡ y → qy ≡ y
    → ¬ (crossing_number ay cy y (area_of ax ay cx cy px y) +ℤ pos 0 ≡ crossing_number ay cy y (area_of ax ay cx cy qx y) +ℤ pos 0)
    → ¬ (crossing_number ay cy py (area_of ax ay cx cy px py) +ℤ pos 0 ≡
    crossing_number ay cy qy (area_of ax ay cx cy qx qy) +ℤ pos 0)
crosses_on_row ax ay cx cy px qx py qy y ep eq n e = grind (arith, signed_linear, ep, eq, n, e, crossing_number)

line_is_met : (a c p q r : Place) → p.y ≡ r.y → q.y ≡ r.y → p.x <ℤ r.x → r.x <ℤ q.x → area a c r ≡ pos 0 → a.y <ℤ r.y
    → r.y <ℤ c.y → IsMet p q (record { a = a; b = None; c = c })
line_is_met a c p q r ep eq lp lq z h k = inr (inr (inl (crosses_on_row a.x a.y c.x c.y p.x q.x p.y q.y r.y ep eq
    (rising_line_crosses a.x a.y c.x c.y p.x q.x r.x r.y lp lq z h k))))

-- one that falls is met if the reversed line is
pub lines_are_met : LinesAreMet
lines_are_met a c p q r ep eq lp lq z (inl (h, k)) = line_is_met a c p q r ep eq lp lq z h k
lines_are_met a c p q r ep eq lp lq z (inr (h, k)) = met_back p q (record { a = c; b = None; c = a })
    (line_is_met c a p q r ep eq lp lq (none_back (area a c r) _ (area_turn c.x c.y a.x a.y r.x r.y) z) h k)

-- ---- beside the row
same_none : {w z w' z' : ℤ} → w ≡ pos 0 → z ≡ pos 0 → w' ≡ pos 0 → z' ≡ pos 0 → w +ℤ z ≡ w' +ℤ z'
same_none e f g h = (λ i. e i +ℤ f i) ∙ sym (λ i. g i +ℤ h i)

above_not_reached : (a b c y : ℤ) → y <ℤ a → y <ℤ b → ¬ (IsReached a b c y)
above_not_reached a b c y ha hb h =
    let n = not_below_range a b c y (omega (arith, signed_linear, hb)) in grind (arith, signed_linear, h, n)

below_not_reached : (a b c y : ℤ) → a <ℤ y → b <ℤ y → ¬ (IsReached a b c y)
below_not_reached a b c y ha hb h =
    let n = not_above_range a b c y (omega (arith, signed_linear, hb)) in grind (arith, signed_linear, h, n)

-- the tip of an arc that lies above the row is not on the row
above_no_tip : (a : Place) (b : Option Place) (c p q : Place) → p.y <ℤ a.y → OptionAll (λ e. p.y <ℤ e.y) b → ¬ (IsTipPart a b c p q)
above_no_tip a None c p q ha hb t = t
above_no_tip a (Some b) c p q ha hb t = above_not_reached a.y b.y c.y p.y ha hb t.reached

-- nor that of one that lies below it
below_no_tip : (a : Place) (b : Option Place) (c p q : Place) → a.y <ℤ p.y → OptionAll (λ e. e.y <ℤ p.y) b → ¬ (IsTipPart a b c p q)
below_no_tip a None c p q ha hb t = t
below_no_tip a (Some b) c p q ha hb t = below_not_reached a.y b.y c.y p.y ha hb t.reached

-- a piece that lies above the row meets nothing of it
pub above_not_met : (p q : Place) (s : Span) → q.y ≡ p.y → HasAll (λ e. p.y <ℤ e.y) s → ¬ (IsMet p q s)
above_not_met p q s h i j = grind (arith, signed_linear, h, i, j, under_off, same_none, above_no_tip)

-- nor does one that lies below it
pub below_not_met : (p q : Place) (s : Span) → q.y ≡ p.y → HasAll (λ e. e.y <ℤ p.y) s → ¬ (IsMet p q s)
below_not_met p q s h i j = grind (arith, signed_linear, h, i, j, over_off, same_none, below_no_tip)
