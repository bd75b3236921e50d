-- A reversed piece adds the negative of what the piece adds to a winding number, and has the same places on it:
-- `reversal_negates`.
-- Serves the law `reversal`, and halves, the second of which is the first of the reversed arc.
use Rattle.std.proofs.Common.{◌≡◌, refl, sym, ap, ◌∙◌, inl, inr, ℤ, pos, ◌+ℤ◌, ◌-ℤ◌, ◌*ℤ◌, neg_ℤ, Bool, int_lt, ◌&&◌, ◌||◌, []}
use Rattle.std.proofs.Common.{◌∷◌, Option, Some, None, map, arith}
use Rattle.std.specs.Ordering.{int_eq}
use Rattle.std.proofs.lemmas.Int.{ints}
use Rattle.fx_fixed.specs.Polynomial.{var, num, ◌⊞◌, ◌⊠◌, minus, ◌⊟◌}
use Rattle.fx_fixed.proofs.Ring.{ring}
use Rattle.fx_fixed.proofs.Linear.{signed_linear}
use Rattle.fx_winding.specs.Area.{Place, area, gap_of}
use Rattle.fx_winding.specs.Winding.{sign, weight_a, weight_b, weight_c, is_right_of_chord, chord_crossing, region_part, IsOnPart}
use Rattle.fx_winding.specs.Winding.{IsBetween, IsInRange, IsAboveLow, IsBelowHigh, AreOnArc, IsBeforeTurn}
use Rattle.fx_winding.specs.Moves.{reversed, ReversalNegates, ReversalKeepsCover}
use Rattle.fx_winding.proofs.Crossings.{crossing_number, area_turn}
use Rattle.fx_winding.proofs.Triangle.{at, coordinates, area_at}
use Rattle.fx_winding.proofs.Regions.{IsIn, IsInRegion, move_in, region_cases, region_in, region_out}
use Rattle.fx_winding.proofs.Covers.{covered_permutation, covered_map}

crossing_number_back : (ay cy py s : ℤ) → crossing_number cy ay py (neg_ℤ s) ≡ neg_ℤ (crossing_number ay cy py s)
crossing_number_back ay cy py s = grind (arith, ints)

pub crossing_back : (a c p : Place) → chord_crossing c a p ≡ neg_ℤ (chord_crossing a c p)
crossing_back a c p =
    ap (crossing_number c.y a.y p.y) (area_turn c.x c.y a.x a.y p.x p.y) ∙ crossing_number_back a.y c.y p.y (area a c p)

pub sign_back : (z : ℤ) → sign (neg_ℤ z) ≡ neg_ℤ (sign z)
sign_back z = grind (arith, signed_linear)

pub area_back : (a b c : Place) → area c b a ≡ neg_ℤ (area a b c)
area_back a b c = ring (coordinates (a ∷ b ∷ c ∷ []) []) (area_at (at 2) (at 1) (at 0)) (minus (area_at (at 0) (at 1) (at 2))) tt

pub both_minus : (x y : ℤ) → neg_ℤ x *ℤ neg_ℤ y ≡ x *ℤ y
both_minus x y = ring (x ∷ y ∷ []) (minus (var 0) ⊠ minus (var 1)) (var 0 ⊠ var 1) tt

pub sign_area_back : (a b c : Place) → sign (area c b a) ≡ neg_ℤ (sign (area a b c))
sign_area_back a b c = ap sign (area_back a b c) ∙ sign_back (area a b c)

pub weight_a-back : (a b c p : Place) → weight_a c b a p ≡ weight_c a b c p
weight_a-back a b c p = (λ i. sign_area_back a b c i *ℤ area_back a b p i) ∙ both_minus (sign (area a b c)) (area a b p)

pub weight_b-back : (a b c p : Place) → weight_b c b a p ≡ weight_b a b c p
weight_b-back a b c p = (λ i. sign_area_back a b c i *ℤ area_back a p c i) ∙ both_minus (sign (area a b c)) (area a p c)

pub weight_c-back : (a b c p : Place) → weight_c c b a p ≡ weight_a a b c p
weight_c-back a b c p = (λ i. sign_area_back a b c i *ℤ area_back p b c i) ∙ both_minus (sign (area a b c)) (area p b c)

pub gap_back : (u v w : ℤ) → gap_of w v u ≡ gap_of u v w
gap_back u v w =
    ring (u ∷ v ∷ w ∷ []) (num (pos 4) ⊠ (var 2 ⊠ var 0) ⊟ var 1 ⊠ var 1) (num (pos 4) ⊠ (var 0 ⊠ var 2) ⊟ var 1 ⊠ var 1) tt

pub right_back : (a b c : Place) → is_right_of_chord c b a ≡ is_right_of_chord a b c
right_back a b c = tests (area c b a *ℤ (a.y -ℤ c.y)) (area a b c *ℤ (c.y -ℤ a.y)) a.y b.y c.y same
  where
    same : area c b a *ℤ (a.y -ℤ c.y) ≡ area a b c *ℤ (c.y -ℤ a.y)
    same = ap (λ z. z *ℤ (a.y -ℤ c.y)) (area_back a b c)
        ∙ ring (area a b c ∷ a.y ∷ c.y ∷ []) (minus (var 0) ⊠ (var 1 ⊟ var 2)) (var 0 ⊠ (var 2 ⊟ var 1)) tt

    tests : (d d' ay b cy : ℤ) → d ≡ d'
        → (int_lt (pos 0) d || (int_eq cy ay && int_lt cy b)) ≡ (int_lt (pos 0) d' || (int_eq ay cy && int_lt ay b))
    tests d d' ay b cy e = grind (arith, ints)

-- ---- the region
in_back : (u v w : ℤ) (r : Bool) → IsIn u v w r → IsIn w v u r
in_back u v w r (inl (k, l, m, g)) = inl (m, l, k, rw (gap_back u v w) g)
in_back u v w r (inr (l, k, m, e)) = inr (l, m, k, e)

pub in_region_back : (a b c p : Place) → IsInRegion a b c p → IsInRegion c b a p
in_region_back a b c p h = move_in (sym (weight_a-back a b c p)) (sym (weight_b-back a b c p)) (sym (weight_c-back a b c p))
    (sym (right_back a b c)) (in_back _ _ _ _ h)

pub region_part_back : (a : Place) (b : Option Place) (c p : Place) → region_part c b a p ≡ neg_ℤ (region_part a b c p)
region_part_back a None c p = refl
region_part_back a (Some b) c p = elim (region_cases a b c p) [
  | inl h ↦ region_in c b a p (in_region_back a b c p h) ∙ sign_area_back a b c ∙ ap neg_ℤ (sym (region_in a b c p h))
  | inr n ↦ region_out c b a p (λ h. n (in_region_back c b a p h)) ∙ ap neg_ℤ (sym (region_out a b c p n))
]

-- ---- on a piece
pub none_back : (z w : ℤ) → w ≡ neg_ℤ z → z ≡ pos 0 → w ≡ pos 0
none_back z w e h = omega (arith, signed_linear)

none_if_back : (z w : ℤ) → w ≡ neg_ℤ z → w ≡ pos 0 → z ≡ pos 0
none_if_back z w e h = omega (arith, signed_linear)

between_back : (a c p : ℤ) → IsBetween a c p → IsBetween c a p
between_back a c p h = grind (arith, ints)

turn_back : (a b c p : ℤ) → IsBeforeTurn a b c p → IsBeforeTurn c b a p
turn_back a b c p h =
    let e : c *ℤ a -ℤ b *ℤ b ≡ a *ℤ c -ℤ b *ℤ b =
    ring (a ∷ b ∷ c ∷ []) (var 2 ⊠ var 0 ⊟ var 1 ⊠ var 1) (var 0 ⊠ var 2 ⊟ var 1 ⊠ var 1) tt in
    let f : p *ℤ (c -ℤ pos 2 *ℤ b +ℤ a) ≡ p *ℤ (a -ℤ pos 2 *ℤ b +ℤ c) =
    ring (a ∷ b ∷ c ∷ p ∷ []) (var 3 ⊠ (var 2 ⊟ num (pos 2) ⊠ var 1 ⊞ var 0)) (var 3 ⊠ (var 0 ⊟ num (pos 2) ⊠ var 1 ⊞ var 2)) tt in
    rw (e, f) h

pub low_back : (a b c p : ℤ) → IsAboveLow a b c p → IsAboveLow c b a p
low_back a b c p h = let t = turn_back a b c p in grind (arith, ints, t)

pub high_back : (a b c p : ℤ) → IsBelowHigh a b c p → IsBelowHigh c b a p
high_back a b c p h = let t = turn_back a b c p in grind (arith, ints, t)

pub range_back : (a b c p : ℤ) → IsInRange a b c p → IsInRange c b a p
range_back a b c p r = record { low = low_back a b c p r.low; high = high_back a b c p r.high }

arc_back : (a b c p : Place) → AreOnArc (weight_a a b c p) (weight_b a b c p) (weight_c a b c p)
    → AreOnArc (weight_a c b a p) (weight_b c b a p) (weight_c c b a p)
arc_back a b c p h = grind (arith, signed_linear, h, weight_a-back, weight_b-back, weight_c-back, gap_back)

pub on_part_back : (a : Place) (b : Option Place) (c p : Place) → IsOnPart a b c p → IsOnPart c b a p
on_part_back a None c p on = grind (arith, signed_linear, on, none_back, area_turn, between_back)
on_part_back a (Some b) c p (inl on) = inl (record {
  bent = λ e. on.bent (none_if_back (area a b c) (area c b a) (area_back a b c) e);
  on_arc = arc_back a b c p on.on_arc;
})
on_part_back a (Some b) c p (inr on) = inr (record {
  flat = none_back (area a b c) (area c b a) (area_back a b c) on.flat;
  with_ab = none_back (area b c p) (area c b p) (area_turn c.x c.y b.x b.y p.x p.y) on.with_bc;
  with_bc = none_back (area a b p) (area b a p) (area_turn b.x b.y a.x a.y p.x p.y) on.with_ab;
  with_ac = none_back (area a c p) (area c a p) (area_turn c.x c.y a.x a.y p.x p.y) on.with_ac;
  range_x = range_back a.x b.x c.x p.x on.range_x;
  range_y = range_back a.y b.y c.y p.y on.range_y;
})

pub reversal_negates : ReversalNegates
reversal_negates p s = grind (arith, signed_linear, p, s, on_part_back, crossing_back, region_part_back)

-- ---- all pieces of a list
pub minus_sum : (x y : ℤ) → neg_ℤ (x +ℤ y) ≡ neg_ℤ x +ℤ neg_ℤ y
minus_sum x y = omega (arith, signed_linear)

minus_none : (z : ℤ) → neg_ℤ z ≡ pos 0 → z ≡ pos 0
minus_none z h = omega (arith, signed_linear)

pub reversal_keeps_cover : ReversalKeepsCover
reversal_keeps_cover p ss ts h =
    let kept = covered_permutation p (map reversed ss) ts h in
    let same = covered_map p p reversed neg_ℤ minus_sum refl minus_none (λ s. (reversal_negates p s).0)
    (λ s. (reversal_negates p s).1) (λ s. (reversal_negates p s).2) ss in
    (λ k. same.0 (kept.0 k), λ k. kept.1 (same.1 k))
