-- A moved place is on a moved piece exactly if the place is on the piece: `on_moved`.
-- Serves what moved pieces add, cover and meet.
use Rattle.std.proofs.Common.{◌≡◌, refl, sym, ap, ◌∙◌, subst, ◌↔◌, inl, inr, ℤ, pos, ◌+ℤ◌, ◌-ℤ◌, ◌*ℤ◌, neg_ℤ, ◌≤ℤ◌, ◌<ℤ◌, [], ◌∷◌}
use Rattle.std.proofs.Common.{Option, Some, None, option_map, arith}
use Rattle.fx_fixed.specs.Polynomial.{var, num, ◌⊞◌, ◌⊠◌, minus, ◌⊟◌}
use Rattle.fx_fixed.proofs.Ring.{ring}
use Rattle.fx_fixed.proofs.Linear.{signed_linear}
use Rattle.fx_winding.specs.Area.{Place, area}
use Rattle.fx_winding.specs.Winding.{Span, sign, IsBetween, IsBeforeTurn, IsAboveLow, IsBelowHigh, IsInRange}
use Rattle.fx_winding.specs.Winding.{AreOnArc, IsOnPart, IsOn}
use Rattle.fx_winding.proofs.Reflected.{Reflects, weight_reflected, none_reflected}
use Rattle.fx_winding.proofs.TurnedAreas.{area_turned}
use Rattle.fx_winding.proofs.Triangle.{area_expr, at, coordinates, area_at}
use Rattle.fx_symmetry.specs.Symmetries.{Symmetry, Mirror, Flip, Exchange, place_in, span_in}

-- ---- areas change their sign
pub reflects : (m : Symmetry) → Reflects (place_in m)
reflects Mirror = record {
  area_is = λ p q r. ring (coordinates (p ∷ q ∷ r ∷ []) [])
      (area_expr (minus (var 0)) (var 1) (minus (var 2)) (var 3) (minus (var 4)) (var 5)) (minus (area_at (at 0) (at 1) (at 2))) tt;
}
reflects Flip = record {
  area_is = λ p q r. ring (coordinates (p ∷ q ∷ r ∷ []) [])
      (area_expr (var 0) (minus (var 1)) (var 2) (minus (var 3)) (var 4) (minus (var 5))) (minus (area_at (at 0) (at 1) (at 2))) tt;
}
reflects Exchange = record { area_is = area_turned }

-- ---- numbers with their signs changed
pub minus_minus : (z : ℤ) → neg_ℤ (neg_ℤ z) ≡ z
minus_minus z = omega (arith, signed_linear)

between_minus : (a c p : ℤ) → IsBetween a c p → IsBetween (neg_ℤ a) (neg_ℤ c) (neg_ℤ p)
between_minus a c p (inl (h, k)) = inr (omega (arith, signed_linear, k), omega (arith, signed_linear, h))
between_minus a c p (inr (h, k)) = inl (omega (arith, signed_linear, k), omega (arith, signed_linear, h))

turn_minus : (a b c p : ℤ) → IsBeforeTurn a b c p → IsBeforeTurn (neg_ℤ a) (neg_ℤ b) (neg_ℤ c) (neg_ℤ p)
turn_minus a b c p h =
    let e : neg_ℤ a *ℤ neg_ℤ c -ℤ neg_ℤ b *ℤ neg_ℤ b ≡ a *ℤ c -ℤ b *ℤ b =
    ring (a ∷ b ∷ c ∷ []) (minus (var 0) ⊠ minus (var 2) ⊟ minus (var 1) ⊠ minus (var 1)) (var 0 ⊠ var 2 ⊟ var 1 ⊠ var 1) tt in
    let f : neg_ℤ p *ℤ (neg_ℤ a -ℤ pos 2 *ℤ neg_ℤ b +ℤ neg_ℤ c) ≡ p *ℤ (a -ℤ pos 2 *ℤ b +ℤ c) =
    ring (a ∷ b ∷ c ∷ p ∷ []) (minus (var 3) ⊠ (minus (var 0) ⊟ num (pos 2) ⊠ minus (var 1) ⊞ minus (var 2)))
    (var 3 ⊠ (var 0 ⊟ num (pos 2) ⊠ var 1 ⊞ var 2)) tt in
    rw (e, f) h

minus_order : (x y : ℤ) → x ≤ℤ y → neg_ℤ y ≤ℤ neg_ℤ x
minus_order x y h = omega (arith, signed_linear, h)

minus_strictly : (x y : ℤ) → x <ℤ y → neg_ℤ y <ℤ neg_ℤ x
minus_strictly x y h = omega (arith, signed_linear, h)

pub low_minus : (a b c p : ℤ) → IsAboveLow a b c p → IsBelowHigh (neg_ℤ a) (neg_ℤ b) (neg_ℤ c) (neg_ℤ p)
low_minus a b c p (inl h) = inl (minus_order a p h)
low_minus a b c p (inr (inl h)) = inr (inl (minus_order c p h))
low_minus a b c p (inr (inr (h, k, t))) = inr (inr (minus_strictly b a h, minus_strictly b c k, turn_minus a b c p t))

pub high_minus : (a b c p : ℤ) → IsBelowHigh a b c p → IsAboveLow (neg_ℤ a) (neg_ℤ b) (neg_ℤ c) (neg_ℤ p)
high_minus a b c p (inl h) = inl (minus_order p a h)
high_minus a b c p (inr (inl h)) = inr (inl (minus_order p c h))
high_minus a b c p (inr (inr (h, k, t))) = inr (inr (minus_strictly a b h, minus_strictly c b k, turn_minus a b c p t))

range_minus : (a b c p : ℤ) → IsInRange a b c p → IsInRange (neg_ℤ a) (neg_ℤ b) (neg_ℤ c) (neg_ℤ p)
range_minus a b c p r = record { low = high_minus a b c p r.high; high = low_minus a b c p r.low }

-- ---- the ranges of coordinates go along
between_in : (m : Symmetry) (a c p : Place) → IsBetween a.x c.x p.x → IsBetween a.y c.y p.y
    → IsBetween (place_in m a).x (place_in m c).x (place_in m p).x × IsBetween (place_in m a).y (place_in m c).y (place_in m p).y
between_in Mirror a c p h k = (between_minus a.x c.x p.x h, k)
between_in Flip a c p h k = (h, between_minus a.y c.y p.y k)
between_in Exchange a c p h k = (k, h)

range_in : (m : Symmetry) (a b c p : Place) → IsInRange a.x b.x c.x p.x → IsInRange a.y b.y c.y p.y
    → IsInRange (place_in m a).x (place_in m b).x (place_in m c).x (place_in m p).x
    × IsInRange (place_in m a).y (place_in m b).y (place_in m c).y (place_in m p).y
range_in Mirror a b c p h k = (range_minus a.x b.x c.x p.x h, k)
range_in Flip a b c p h k = (h, range_minus a.y b.y c.y p.y k)
range_in Exchange a b c p h k = (k, h)

-- ---- on a piece
on_part : (m : Symmetry) (a : Place) (b : Option Place) (c p : Place)
    → IsOnPart a b c p → IsOnPart (place_in m a) (option_map (place_in m) b) (place_in m c) (place_in m p)
on_part m a None c p on = record {
  collinear = none_reflected (place_in m) (reflects m) a c p on.collinear;
  between_x = (between_in m a c p on.between_x on.between_y).0;
  between_y = (between_in m a c p on.between_x on.between_y).1;
}
on_part m a (Some b) c p (inl on) = inl (record {
  bent = λ e. on.bent (back (area a b c) (sym ((reflects m).area_is a b c) ∙ e));
  on_arc = arc (weight p b c) (weight a p c) (weight a b p) on.on_arc;
})
  where
    back : (z : ℤ) → neg_ℤ z ≡ pos 0 → z ≡ pos 0
    back z h = omega (arith, signed_linear, h)

    weight : (q r s : Place)
        → sign (area (place_in m a) (place_in m b) (place_in m c)) *ℤ area (place_in m q) (place_in m r) (place_in m s)
        ≡ sign (area a b c) *ℤ area q r s
    weight q r s = weight_reflected (place_in m) (reflects m) a b c q r s

    arc : {u v w u' v' w' : ℤ} → u' ≡ u → v' ≡ v → w' ≡ w → AreOnArc u v w → AreOnArc u' v' w'
    arc eu ev ew h = rw (eu, ev, ew) h
on_part m a (Some b) c p (inr on) = inr (record {
  flat = none_reflected (place_in m) (reflects m) a b c on.flat;
  with_ab = none_reflected (place_in m) (reflects m) a b p on.with_ab;
  with_bc = none_reflected (place_in m) (reflects m) b c p on.with_bc;
  with_ac = none_reflected (place_in m) (reflects m) a c p on.with_ac;
  range_x = (range_in m a b c p on.range_x on.range_y).0;
  range_y = (range_in m a b c p on.range_x on.range_y).1;
})

-- ---- moved twice
pub twice : (m : Symmetry) (p : Place) → place_in m (place_in m p) ≡ p
twice Mirror p = λ i. record { x = minus_minus p.x i; y = p.y }
twice Flip p = λ i. record { x = p.x; y = minus_minus p.y i }
twice Exchange p = refl

pub span_twice : (m : Symmetry) (s : Span) → span_in m (span_in m s) ≡ s
span_twice m s = λ i. record { a = twice m s.a i; b = option s.b i; c = twice m s.c i }
  where
    option : (b : Option Place) → option_map (place_in m) (option_map (place_in m) b) ≡ b
    option None = refl
    option (Some b) = ap Some (twice m b)

pub on_moved : (m : Symmetry) (p : Place) (s : Span) → IsOn (place_in m p) (span_in m s) ↔ IsOn p s
on_moved m p s = (
  λ h. subst (λ (T : Type 0). T) (λ i. IsOn (twice m p i) (span_twice m s i))
      (on_part m (place_in m s.a) (option_map (place_in m) s.b) (place_in m s.c) (place_in m p) h),
  on_part m s.a s.b s.c p,
)

-- ---- one after another
-- a mirrored piece with its coordinates exchanged is the exchanged piece upside down
pub turned_mirrored : (s : Span) → span_in Exchange (span_in Mirror s) ≡ span_in Flip (span_in Exchange s)
turned_mirrored s = λ i. record {
  a = place_in Flip (place_in Exchange s.a);
  b = control s.b i;
  c = place_in Flip (place_in Exchange s.c);
}
  where
    control : (b : Option Place) → option_map (place_in Exchange) (option_map (place_in Mirror) b)
        ≡ option_map (place_in Flip) (option_map (place_in Exchange) b)
    control None = refl
    control (Some b) = refl

-- and the other way round
pub turned_flipped : (s : Span) → span_in Exchange (span_in Flip s) ≡ span_in Mirror (span_in Exchange s)
turned_flipped s = ap (λ t. span_in Exchange (span_in Flip t)) (sym (span_twice Exchange s))
    ∙ ap (span_in Exchange) (sym (turned_mirrored (span_in Exchange s))) ∙ span_twice Exchange (span_in Mirror (span_in Exchange s))
