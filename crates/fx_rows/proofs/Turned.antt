-- A place is on a piece if, with the coordinates of both exchanged, it is on the piece: `on_turned`.
-- Serves the columns of arcs that bulge.
use Rattle.std.proofs.Common.{◌≡◌, ◌∙◌, ap, subst, inl, inr, ℤ, pos, neg_ℤ, Option, Some, None, option_map, arith}
use Rattle.fx_fixed.proofs.Linear.{signed_linear}
use Rattle.fx_winding.specs.Area.{Place, area}
use Rattle.fx_winding.specs.Turned.{turned_place, turned_span}
use Rattle.fx_winding.specs.Winding.{Span, IsOn, IsOnPart, AreOnArc}
use Rattle.fx_winding.proofs.TurnedAreas.{area_turned, weight}

zero : (x y : ℤ) → x ≡ neg_ℤ y → x ≡ pos 0 → y ≡ pos 0
zero x y e h = omega (arith, signed_linear, e, h)

part : (a : Place) (b : Option Place) (c p : Place)
    → IsOnPart (turned_place a) (option_map turned_place b) (turned_place c) (turned_place p) → IsOnPart a b c p
part a None c p h = record {
  collinear = zero (area (turned_place a) (turned_place c) (turned_place p)) (area a c p) (area_turned a c p) h.collinear;
  between_x = h.between_y;
  between_y = h.between_x;
}
part a (Some b) c p (inl h) = inl (record {
  bent = λ e. h.bent (area_turned a b c ∙ ap neg_ℤ e);
  on_arc = subst (λ z. z) (λ i. AreOnArc (weight a b c p b c i) (weight a b c a p c i) (weight a b c a b p i)) h.on_arc;
})
part a (Some b) c p (inr h) = inr (record {
  flat = zero (area (turned_place a) (turned_place b) (turned_place c)) (area a b c) (area_turned a b c) h.flat;
  with_ab = zero (area (turned_place a) (turned_place b) (turned_place p)) (area a b p) (area_turned a b p) h.with_ab;
  with_bc = zero (area (turned_place b) (turned_place c) (turned_place p)) (area b c p) (area_turned b c p) h.with_bc;
  with_ac = zero (area (turned_place a) (turned_place c) (turned_place p)) (area a c p) (area_turned a c p) h.with_ac;
  range_x = h.range_y;
  range_y = h.range_x;
})

pub on_turned : (p : Place) (s : Span) → IsOn (turned_place p) (turned_span s) → IsOn p s
on_turned p s = part s.a s.b s.c p
