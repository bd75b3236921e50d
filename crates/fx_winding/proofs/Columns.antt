-- Off a chord that rises, its crossing and that of the exchanged chord add up to 1 left of the upper end, else 0: `crossings_sum`.
-- Serves `Sideways`.
use Rattle.std.proofs.Common.{◌≡◌, ◌≢◌, sym, ap, ◌∙◌, inl, inr, ℤ, pos, ◌+ℤ◌, ◌-ℤ◌, ◌*ℤ◌, neg_ℤ, ◌≤ℤ◌, ◌<ℤ◌, [], ◌∷◌, arith}
use Rattle.std.proofs.lemmas.Int.{ints, by_lt_z}
use Rattle.fx_fixed.specs.Polynomial.{var, ◌⊞◌, ◌⊠◌, ◌⊟◌}
use Rattle.fx_fixed.proofs.Ring.{ring, *ℤ_zero, one-*ℤ}
use Rattle.fx_fixed.proofs.Linear.{signed_linear}
use Rattle.fx_winding.specs.Area.{Place, area, area_of}
use Rattle.fx_winding.specs.Turned.{turned_place}
use Rattle.fx_winding.specs.Winding.{IsBetween, IsInRange, IsOnLine, IsOnFlatArc, chord_crossing}
use Rattle.fx_winding.proofs.Crossings.{above, crossing_number, area_split_right, left_of_rising, no_crossing}
use Rattle.fx_winding.proofs.TurnedAreas.{area_turned}
use Rattle.fx_winding.proofs.Products.{product}
use Rattle.fx_winding.proofs.Triangle.{at, area_at, area_next}

-- ---- the row between the ends
-- a product's sign is that of the way from x to y
pub record IsAlong (m x y : ℤ) : Type 0 where
  pub up : x <ℤ y → pos 0 <ℤ m
  pub down : y <ℤ x → m <ℤ pos 0
  pub level : x ≡ y → m ≡ pos 0

pub sign_along : (k x y : ℤ) → pos 0 <ℤ k → IsAlong (k *ℤ (y -ℤ x)) x y
sign_along k x y h = let p = product k (y -ℤ x) in record {
  up = λ l. p.both h (omega (arith, signed_linear, l));
  down = λ l. p.low h (omega (arith, signed_linear, l));
  level = λ e. p.level (omega (arith, signed_linear, e));
}

-- the area of a place with a chord that passes its row, as a sum with the signs of the ways from the ends
record IsSplit (s ax cx px : ℤ) : Type 0 where
  first : ℤ
  last : ℤ
  is : s ≡ neg_ℤ (first +ℤ last)
  of_first : IsAlong first ax px
  of_last : IsAlong last cx px

split : (ax ay cx cy px py : ℤ) → ay <ℤ py → py <ℤ cy → IsSplit (area_of ax ay cx cy px py) ax cx px
split ax ay cx cy px py h k = record {
  first = (cy -ℤ py) *ℤ (px -ℤ ax);
  last = (py -ℤ ay) *ℤ (px -ℤ cx);
  is = area_split_right ax ay cx cy px py;
  of_first = sign_along (cy -ℤ py) ax px (omega (arith, signed_linear, k));
  of_last = sign_along (py -ℤ ay) cx px (omega (arith, signed_linear, h));
}

-- where the row meets the chord, the place is left of the chord's end if the chord goes right, else not
pub end_side : (ax ay cx cy px py : ℤ) → ay <ℤ py → py <ℤ cy → area_of ax ay cx cy px py ≡ pos 0
    → (ax <ℤ cx → px <ℤ cx) × (cx ≤ℤ ax → cx ≤ℤ px)
end_side ax ay cx cy px py h k z = by _ ax cx px (split ax ay cx cy px py h k) z
  where
    by : (s ax cx px : ℤ) → IsSplit s ax cx px → s ≡ pos 0 → (ax <ℤ cx → px <ℤ cx) × (cx ≤ℤ ax → cx ≤ℤ px)
    by s ax cx px i z = (λ l. grind (arith, signed_linear), λ l. grind (arith, signed_linear))

pub chord_between : (ax ay cx cy px py : ℤ) → ay <ℤ py → py <ℤ cy → area_of ax ay cx cy px py ≡ pos 0 → IsBetween ax cx px
chord_between ax ay cx cy px py h k z = by _ ax cx px (split ax ay cx cy px py h k) z
  where
    by : (s ax cx px : ℤ) → IsSplit s ax cx px → s ≡ pos 0 → IsBetween ax cx px
    by s ax cx px i z = grind (arith, signed_linear)

-- ---- the crossings
-- the crossing of the exchanged chord
abbrev pub column_crossing : Place → Place → Place → ℤ
column_crossing a c p = chord_crossing (turned_place a) (turned_place c) (turned_place p)

rising_crossing : (ay cy py s : ℤ) → ay <ℤ py → py <ℤ cy → pos 0 <ℤ s → crossing_number ay cy py s ≡ pos 1
rising_crossing ay cy py s h k m = grind (arith, ints)

-- the exchanged chord's, where the place is left of the chord and where it is right of it
column_left : (ax cx px t : ℤ) → t <ℤ pos 0 → (ax ≤ℤ px → px <ℤ cx) → crossing_number ax cx px t ≡ above px cx -ℤ pos 1
column_left ax cx px t h left = grind (arith, ints)

column_right : (ax cx px t : ℤ) → pos 0 <ℤ t → (px <ℤ cx → ax ≤ℤ px) → crossing_number ax cx px t ≡ above px cx
column_right ax cx px t h right = grind (arith, ints)

crossings_left : (ax ay cx cy px py : ℤ) → ay <ℤ py → py <ℤ cy → pos 0 <ℤ area_of ax ay cx cy px py
    → crossing_number ax cx px (neg_ℤ (area_of ax ay cx cy px py)) +ℤ crossing_number ay cy py (area_of ax ay cx cy px py)
    ≡ above px cx
crossings_left ax ay cx cy px py h k s =
    let e = rising_crossing ay cy py (area_of ax ay cx cy px py) h k s in
    let f = column_left ax cx px (neg_ℤ (area_of ax ay cx cy px py)) (omega (arith, signed_linear, s)) left in
    (λ i. f i +ℤ e i) ∙ back (above px cx)
  where
    by : (s ax cx px : ℤ) → IsSplit s ax cx px → pos 0 <ℤ s → ax ≤ℤ px → px <ℤ cx
    by s ax cx px i m l = grind (arith, signed_linear)

    left : ax ≤ℤ px → px <ℤ cx
    left l = by _ ax cx px (split ax ay cx cy px py h k) s l

    back : (z : ℤ) → (z -ℤ pos 1) +ℤ pos 1 ≡ z
    back z = omega (arith, signed_linear)

crossings_right : (ax ay cx cy px py : ℤ) → ay <ℤ py → py <ℤ cy → area_of ax ay cx cy px py <ℤ pos 0
    → crossing_number ax cx px (neg_ℤ (area_of ax ay cx cy px py)) +ℤ crossing_number ay cy py (area_of ax ay cx cy px py)
    ≡ above px cx
crossings_right ax ay cx cy px py h k s =
    let e = no_crossing ay cy py (area_of ax ay cx cy px py) (inr (inr (omega (arith, signed_linear, s))))
    (inr (inl (omega (arith, signed_linear, h)))) in
    let f = column_right ax cx px (neg_ℤ (area_of ax ay cx cy px py)) (omega (arith, signed_linear, s)) right in
    (λ i. f i +ℤ e i) ∙ same (above px cx)
  where
    right : px <ℤ cx → ax ≤ℤ px
    right m = by_lt_z px ax (λ l. absurd (let n = left_of_rising ax ay cx cy px py (omega (arith, signed_linear, h)) k l m in omega
        (arith, signed_linear, n, s)))
        (λ l. l)

    same : (z : ℤ) → z +ℤ pos 0 ≡ z
    same z = omega (arith, signed_linear)

pub below_zero : (z : ℤ) → z ≢ pos 0 → z ≤ℤ pos 0 → z <ℤ pos 0
below_zero z n h = grind (arith, ints)

-- off the chord's line the crossings of a piece and of the exchanged one add up to 1 where the place is left of the upper end
pub crossings_sum : (a c p : Place) → a.y <ℤ p.y → p.y <ℤ c.y → area a c p ≢ pos 0
    → column_crossing a c p +ℤ chord_crossing a c p ≡ above p.x c.x
crossings_sum a c p h k n = ap (λ t. crossing_number a.x c.x p.x t +ℤ chord_crossing a c p) (area_turned a c p)
    ∙ by_lt_z (pos 0) (area a c p) (crossings_left a.x a.y c.x c.y p.x p.y h k)
    (λ l. crossings_right a.x a.y c.x c.y p.x p.y h k (below_zero (area a c p) n l))

-- ---- on the chord
pub none_factor : (k z : ℤ) → pos 0 <ℤ k → k *ℤ z ≡ pos 0 → z ≡ pos 0
none_factor k z h e = let p = product k z in grind (arith, signed_linear)

-- the weights of the ends, by those of the whole and of the control point; s is the sign of the whole
pub weight_up : (s ax ay bx by cx cy px py : ℤ)
    → (cy -ℤ ay) *ℤ (s *ℤ area_of ax ay bx by px py) ≡ (py -ℤ ay) *ℤ (s *ℤ area_of ax ay bx by cx cy) +ℤ
    (by -ℤ ay) *ℤ (s *ℤ area_of ax ay cx cy px py)
weight_up s ax ay bx by cx cy px py = ring (ax ∷ ay ∷ bx ∷ by ∷ cx ∷ cy ∷ px ∷ py ∷ s ∷ [])
    ((var 5 ⊟ var 1) ⊠ (var 8 ⊠ area_at (at 0) (at 1) (at 3))) ((var 7 ⊟ var 1) ⊠ (var 8 ⊠ area_at (at 0) (at 1) (at 2)) ⊞
    (var 3 ⊟ var 1) ⊠ (var 8 ⊠ area_at (at 0) (at 2) (at 3))) tt

pub weight_down : (s ax ay bx by cx cy px py : ℤ)
    → (cy -ℤ ay) *ℤ (s *ℤ area_of px py bx by cx cy) ≡ (cy -ℤ py) *ℤ (s *ℤ area_of ax ay bx by cx cy) -ℤ
    (by -ℤ cy) *ℤ (s *ℤ area_of ax ay cx cy px py)
weight_down s ax ay bx by cx cy px py = ring (ax ∷ ay ∷ bx ∷ by ∷ cx ∷ cy ∷ px ∷ py ∷ s ∷ [])
    ((var 5 ⊟ var 1) ⊠ (var 8 ⊠ area_at (at 3) (at 1) (at 2))) ((var 5 ⊟ var 7) ⊠ (var 8 ⊠ area_at (at 0) (at 1) (at 2)) ⊟
    (var 3 ⊟ var 5) ⊠ (var 8 ⊠ area_at (at 0) (at 2) (at 3))) tt

-- p is on the chord, strictly between its ends, the first of which is the lower one
pub record IsOnRising (a c p : Place) : Type 0 where
  pub low : a.y <ℤ p.y
  pub high : p.y <ℤ c.y
  pub none : area a c p ≡ pos 0

pub times_none : (s z : ℤ) → z ≡ pos 0 → s *ℤ z ≡ pos 0
times_none s z e = ap (λ t. s *ℤ t) e ∙ *ℤ_zero s

pub between_range : (a b c p : ℤ) → IsBetween a c p → IsInRange a b c p
between_range a b c p (inl (h, k)) = record { low = inl h; high = inr (inl k) }
between_range a b c p (inr (h, k)) = record { low = inr (inl h); high = inl k }

-- so that it is on an arc whose points are on one line
pub flat_on : (a b c p : Place) → IsOnRising a c p → area a b c ≡ pos 0 → IsOnFlatArc a b c p
flat_on a b c p h z =
    let low = h.low in
    let high = h.high in
    let rise : pos 0 <ℤ (c.y -ℤ a.y) = omega (arith, signed_linear, low, high) in
    let e = weight_up (pos 1) a.x a.y b.x b.y c.x c.y p.x p.y in
    let f = weight_down (pos 1) a.x a.y b.x b.y c.x c.y p.x p.y in
    record {
      flat = z;
      with_ab = one_none _ (none_factor _ _ rise (e ∙ λ i. none (p.y -ℤ a.y) z i +ℤ none (b.y -ℤ a.y) h.none i));
      with_bc = area_next p b c ∙ one_none _ (none_factor _ _ rise (f ∙ λ i. none (c.y -ℤ p.y) z i -ℤ none (b.y -ℤ c.y) h.none i));
      with_ac = h.none;
      range_x = between_range a.x b.x c.x p.x (chord_between a.x a.y c.x c.y p.x p.y low high h.none);
      range_y = between_range a.y b.y c.y p.y (inl (omega (arith, signed_linear, low), omega (arith, signed_linear, high)));
    }
  where
    one_none : (z : ℤ) → pos 1 *ℤ z ≡ pos 0 → z ≡ pos 0
    one_none z e = sym (one-*ℤ z) ∙ e

    none : (k : ℤ) {z : ℤ} → z ≡ pos 0 → k *ℤ (pos 1 *ℤ z) ≡ pos 0
    none k e = times_none k _ (times_none (pos 1) _ e)

-- and on a line
pub line_on : (a c p : Place) → IsOnRising a c p → IsOnLine a c p
line_on a c p h = grind (arith, signed_linear, h, chord_between)
