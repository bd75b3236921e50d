-- On a chord that rises, the regions of an arc and of the exchanged one add up to 1 left of the upper end, else to 0: `regions_on`.
-- Serves `Sideways`.
use Rattle.std.proofs.Common.{◌≡◌, ◌≢◌, refl, ap, ◌∙◌, subst, inl, inr, ℤ, pos, negsuc, ◌+ℤ◌, ◌-ℤ◌, ◌*ℤ◌, neg_ℤ, ◌≤ℤ◌, ◌<ℤ◌, int_lt}
use Rattle.std.proofs.Common.{int_le, Bool, true, false, ◌&&◌, ◌||◌, if◌then◌else◌, [], ◌∷◌, Option, Some, option_map, arith}
use Rattle.std.specs.Ordering.{int_eq}
use Rattle.std.proofs.lemmas.Int.{ints, by_lt_z}
use Rattle.fx_fixed.specs.Polynomial.{var, ◌⊠◌, minus}
use Rattle.fx_fixed.proofs.Ring.{ring, *ℤ_comm}
use Rattle.fx_fixed.proofs.Linear.{signed_linear}
use Rattle.fx_fixed.proofs.Signs.{product_above_zero}
use Rattle.fx_winding.specs.Area.{Place, area, area_of}
use Rattle.fx_winding.specs.Turned.{turned_place}
use Rattle.fx_winding.specs.Winding.{sign, weight_a, weight_b, weight_c, region_part, is_right_of_chord}
use Rattle.fx_winding.proofs.Beside.{total_above}
use Rattle.fx_winding.proofs.Columns.{IsAlong, sign_along, below_zero, IsOnRising, end_side, times_none, weight_up, weight_down}
use Rattle.fx_winding.proofs.Crossings.{above}
use Rattle.fx_winding.proofs.Products.{product}
use Rattle.fx_winding.proofs.Reflected.{sign_reflected}
use Rattle.fx_winding.proofs.TurnedAreas.{area_turned, turning, weight}
use Rattle.fx_winding.proofs.Triangle.{area_swap}
use Rattle.fx_winding.proofs.Places.{clash}
use Rattle.fx_winding.proofs.Regions.{IsInRegion, region_in, region_out, sign_above}

-- the region of the exchanged piece
abbrev pub column_region : Place → Option Place → Place → Place → ℤ
column_region a b c p = region_part (turned_place a) (option_map turned_place b) (turned_place c) (turned_place p)

-- ---- the weights
pub above_factor : (k z : ℤ) → pos 0 <ℤ k → pos 0 <ℤ (k *ℤ z) → pos 0 <ℤ z
above_factor k z h m = let p = product k z in grind (arith, signed_linear)

-- on the chord those of the ends are above 0
pub record HasEnds (a b c p : Place) : Type 0 where
  pub of_a : pos 0 <ℤ weight_a a b c p
  pub of_b : weight_b a b c p ≡ pos 0
  pub of_c : pos 0 <ℤ weight_c a b c p

pub has_ends : (a b c p : Place) → IsOnRising a c p → area a b c ≢ pos 0 → HasEnds a b c p
has_ends a b c p h n =
    let low = h.low in
    let high = h.high in
    let s = sign (area a b c) in
    let z = times_none s _ h.none in
    let some = total_above (area a b c) n in
    let rise : pos 0 <ℤ (c.y -ℤ a.y) = omega (arith, signed_linear, low, high) in
    record {
      of_a = above_factor (c.y -ℤ a.y) (weight_a a b c p) rise (let e = weight_down s a.x a.y b.x b.y c.x c.y p.x p.y in
          let y = times_none (b.y -ℤ c.y) _ z in
          let q = product_above_zero (c.y -ℤ p.y) _ (omega (arith, signed_linear, high)) some in
          omega (arith, signed_linear, e, y, q));
      of_b = times_none s _ (area_swap a c p ∙ ap neg_ℤ h.none);
      of_c = above_factor (c.y -ℤ a.y) (weight_c a b c p) rise (let e = weight_up s a.x a.y b.x b.y c.x c.y p.x p.y in
          let y = times_none (b.y -ℤ a.y) _ z in
          let q = product_above_zero (p.y -ℤ a.y) _ (omega (arith, signed_linear, low)) some in
          omega (arith, signed_linear, e, y, q));
    }

-- exchanged, they are the same
has_ends_turned : (a b c p : Place) → HasEnds a b c p → HasEnds (turned_place a) (turned_place b) (turned_place c) (turned_place p)
has_ends_turned a b c p h = grind (arith, signed_linear, h, weight)

-- what belongs to the region on the chord: all or nothing
abbrev pub chord_region : Place → Place → Place → ℤ
chord_region a b c = if is_right_of_chord a b c then sign (area a b c) else pos 0

pub region_at : (a b c p : Place) → HasEnds a b c p → region_part a (Some b) c p ≡ chord_region a b c
region_at a b c p h = by (is_right_of_chord a b c) refl
  where
    apart : is_right_of_chord a b c ≡ false → ¬ (IsInRegion a b c p)
    apart e (inl k) = let z = h.of_b in let l = k.1 in omega (arith, signed_linear, z, l)
    apart e (inr k) = clash _ e k.3

    by : (r : Bool) → is_right_of_chord a b c ≡ r → region_part a (Some b) c p ≡ (if r then sign (area a b c) else pos 0)
    by true e = region_in a b c p (inr (h.of_b, h.of_a, h.of_c, e))
    by false e = region_out a b c p (apart e)

-- ---- the sides
-- the control point of an arc whose chord is vertical, by the arc's area
vertical : (ax ay bx by cx cy : ℤ) → ay <ℤ cy → ax ≡ cx → IsAlong (area_of ax ay bx by cx cy) ax bx
vertical ax ay bx by cx cy h e = subst (λ z. IsAlong z ax bx) same (sign_along (cy -ℤ ay) ax bx (omega (arith, signed_linear, h)))
  where
    same : (cy -ℤ ay) *ℤ (bx -ℤ ax) ≡ area_of ax ay bx by cx cy
    same =
        let z = times_none (by -ℤ ay) (cx -ℤ ax) (omega (arith, signed_linear, e)) in
        let f = *ℤ_comm (cy -ℤ ay) (bx -ℤ ax) in
        omega (arith, signed_linear, z, f)

control_right : (ax ay bx by cx cy : ℤ) → ay <ℤ cy → pos 0 <ℤ area_of ax ay bx by cx cy → ax ≡ cx → ax <ℤ bx
control_right ax ay bx by cx cy h d e = rises _ ax bx (vertical ax ay bx by cx cy h e) d
  where
    rises : (m x y : ℤ) → IsAlong m x y → pos 0 <ℤ m → x <ℤ y
    rises m x y v d = grind (arith, signed_linear)

control_left : (ax ay bx by cx cy : ℤ) → ay <ℤ cy → area_of ax ay bx by cx cy <ℤ pos 0 → ax ≡ cx → bx ≤ℤ ax
control_left ax ay bx by cx cy h d e = by_lt_z ax bx
    (λ l. absurd (let m = (vertical ax ay bx by cx cy h e).up l in omega (arith, signed_linear, d, m))) (λ l. l)

-- the arc is right of the chord, or left of it
chord_right : (m ay by cy : ℤ) → pos 0 <ℤ m → (int_lt (pos 0) m || (int_eq ay cy && int_lt ay by)) ≡ true
chord_right m ay by cy h = grind (arith, ints)

chord_left : (m ay by cy : ℤ) → ay <ℤ cy → pos 0 <ℤ m → (int_lt (pos 0) (neg_ℤ m) || (int_eq ay cy && int_lt ay by)) ≡ false
chord_left m ay by cy h k = grind (arith, ints)

-- and, exchanged, is so by the way that the chord goes
column_arc_right : (m ax bx cx : ℤ) → (ax <ℤ cx → pos 0 <ℤ m) → (cx <ℤ ax → m <ℤ pos 0) → (ax ≡ cx → ax <ℤ bx)
    → (int_lt (pos 0) (neg_ℤ m) || (int_eq ax cx && int_lt ax bx)) ≡ int_le cx ax
column_arc_right m ax bx cx up down beside = grind (arith, ints)

column_arc_left : (m ax bx cx : ℤ) → (ax <ℤ cx → pos 0 <ℤ m) → (cx <ℤ ax → m <ℤ pos 0) → (ax ≡ cx → m ≡ pos 0)
    → (ax ≡ cx → bx ≤ℤ ax) → (int_lt (pos 0) m || (int_eq ax cx && int_lt ax bx)) ≡ int_lt ax cx
column_arc_left m ax bx cx up down level beside = grind (arith, ints)

total_right : (ax cx px : ℤ) → (ax <ℤ cx → px <ℤ cx) → (cx ≤ℤ ax → cx ≤ℤ px)
    → (if int_le cx ax then negsuc 0 else pos 0) +ℤ pos 1 ≡ above px cx
total_right ax cx px h k = grind (arith, ints)

total_left : (ax cx px : ℤ) → (ax <ℤ cx → px <ℤ cx) → (cx ≤ℤ ax → cx ≤ℤ px)
    → (if int_lt ax cx then pos 1 else pos 0) +ℤ pos 0 ≡ above px cx
total_left ax cx px h k = grind (arith, ints)

-- ---- the regions
pub regions_right : (a b c : Place) → a.y <ℤ c.y → pos 0 <ℤ area a b c
    → (chord_region (turned_place a) (turned_place b) (turned_place c) ≡ (if int_le c.x a.x then negsuc 0 else pos 0))
    × (chord_region a b c ≡ pos 1)
regions_right a b c h d =
    let s = sign_above (area a b c) d in
    let m = sign_along (area a b c) a.x c.x d in
    let e : area (turned_place a) (turned_place b) (turned_place c) *ℤ (c.x -ℤ a.x) ≡ neg_ℤ (area a b c *ℤ (c.x -ℤ a.x)) =
    ap (λ z. z *ℤ (c.x -ℤ a.x)) (area_turned a b c) ∙ ring (area a b c ∷ (c.x -ℤ a.x) ∷ []) (minus (var 0) ⊠ var 1)
    (minus (var 0 ⊠ var 1)) tt in
    let r = ap (λ z. int_lt (pos 0) z || (int_eq a.x c.x && int_lt a.x b.x)) e
    ∙ column_arc_right (area a b c *ℤ (c.x -ℤ a.x)) a.x b.x c.x m.up m.down (control_right a.x a.y b.x b.y c.x c.y h d) in
    let q = product_above_zero (area a b c) (c.y -ℤ a.y) d (omega (arith, signed_linear, h)) in (
      λ i. if r i then (sign_reflected turned_place turning a b c ∙ ap neg_ℤ s) i else pos 0,
      λ i. if chord_right (area a b c *ℤ (c.y -ℤ a.y)) a.y b.y c.y q i then s i else pos 0,
    )

pub regions_left : (a b c : Place) → a.y <ℤ c.y → area a b c <ℤ pos 0
    → (chord_region (turned_place a) (turned_place b) (turned_place c) ≡ (if int_lt a.x c.x then pos 1 else pos 0))
    × (chord_region a b c ≡ pos 0)
regions_left a b c h d =
    let k : pos 0 <ℤ neg_ℤ (area a b c) = omega (arith, signed_linear, d) in
    let s = ap sign (area_turned a b c) ∙ sign_above (neg_ℤ (area a b c)) k in
    let m = sign_along (neg_ℤ (area a b c)) a.x c.x k in
    let r = ap (λ z. int_lt (pos 0) (z *ℤ (c.x -ℤ a.x)) || (int_eq a.x c.x && int_lt a.x b.x)) (area_turned a b c)
    ∙ column_arc_left (neg_ℤ (area a b c) *ℤ (c.x -ℤ a.x)) a.x b.x c.x m.up m.down m.level
    (control_left a.x a.y b.x b.y c.x c.y h d) in
    let q = product_above_zero (neg_ℤ (area a b c)) (c.y -ℤ a.y) k (omega (arith, signed_linear, h)) in
    let e : area a b c *ℤ (c.y -ℤ a.y) ≡ neg_ℤ (neg_ℤ (area a b c) *ℤ (c.y -ℤ a.y)) =
    ring (area a b c ∷ (c.y -ℤ a.y) ∷ []) (var 0 ⊠ var 1) (minus (minus (var 0) ⊠ var 1)) tt in
    let l = ap (λ z. int_lt (pos 0) z || (int_eq a.y c.y && int_lt a.y b.y)) e
    ∙ chord_left (neg_ℤ (area a b c) *ℤ (c.y -ℤ a.y)) a.y b.y c.y h q in
    (λ i. if r i then s i else pos 0, ap (λ t. if t then sign (area a b c) else pos 0) l)

-- they add up to 1 where the place is left of the upper end
pub regions_on : (a b c p : Place) → IsOnRising a c p → area a b c ≢ pos 0
    → column_region a (Some b) c p +ℤ region_part a (Some b) c p ≡ above p.x c.x
regions_on a b c p h n = (λ i. region_at _ _ _ _ (has_ends_turned a b c p ends) i +ℤ region_at a b c p ends i)
    ∙ by_lt_z (pos 0) (area a b c) right (λ l. left (below_zero (area a b c) n l))
  where
    ends : HasEnds a b c p
    ends = has_ends a b c p h n

    side : (a.x <ℤ c.x → p.x <ℤ c.x) × (c.x ≤ℤ a.x → c.x ≤ℤ p.x)
    side = end_side a.x a.y c.x c.y p.x p.y h.low h.high h.none

    rises : a.y <ℤ c.y
    rises = let low = h.low in let high = h.high in omega (arith, signed_linear, low, high)

    right : pos 0 <ℤ area a b c
        → chord_region (turned_place a) (turned_place b) (turned_place c) +ℤ chord_region a b c ≡ above p.x c.x
    right d = let r = regions_right a b c rises d in (λ i. r.0 i +ℤ r.1 i) ∙ total_right a.x c.x p.x side.0 side.1

    left : area a b c <ℤ pos 0
        → chord_region (turned_place a) (turned_place b) (turned_place c) +ℤ chord_region a b c ≡ above p.x c.x
    left d = let r = regions_left a b c rises d in (λ i. r.0 i +ℤ r.1 i) ∙ total_left a.x c.x p.x side.0 side.1
