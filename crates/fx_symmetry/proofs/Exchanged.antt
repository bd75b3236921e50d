-- What a piece adds with its coordinates exchanged tells by a ray up what a ray to the right tells: `exchanged_turn`.
-- Serves the law `pieces`.
use Rattle.std.proofs.Common.{◌≡◌, sym, ap, ◌∙◌, subst, ◌⊎◌, inl, inr, ℤ, pos, ◌+ℤ◌, ◌-ℤ◌, ◌*ℤ◌, ◌≤ℤ◌}
use Rattle.std.proofs.Common.{◌<ℤ◌, int_lt, ◌&&◌, if◌then◌else◌, [], ◌∷◌, Option, Some, None, arith}
use Rattle.std.specs.Ordering.{int_eq}
use Rattle.std.proofs.lemmas.Int.{ints}
use Rattle.fx_fixed.specs.Polynomial.{var, ◌⊠◌, ◌⊟◌}
use Rattle.fx_fixed.proofs.Ring.{ring}
use Rattle.fx_fixed.proofs.Linear.{signed_linear}
use Rattle.fx_winding.specs.Area.{Place, area, area_of}
use Rattle.fx_winding.specs.Meets.{turn}
use Rattle.fx_winding.specs.Winding.{Span, chord_crossing, region_part, IsOn}
use Rattle.fx_winding.proofs.Crossings.{crossing_number}
use Rattle.fx_winding.proofs.EndsOn.{off_no_end}
use Rattle.fx_winding.proofs.Products.{IsProduct, product}
use Rattle.fx_winding.proofs.Reflected.{AddUp, add_up_line, add_up_arc, regions_cancel, none_reflected, reflected_crossings_none}
use Rattle.fx_winding.proofs.Regions.{IsInRegion}
use Rattle.fx_winding.proofs.TurnedAreas.{turning}
use Rattle.fx_winding.proofs.Sideways.{corner, corners, turned_within}
use Rattle.fx_winding.proofs.Triangle.{area_expr}
use Rattle.fx_symmetry.specs.Symmetries.{Exchange, place_in, span_in}
use Rattle.fx_symmetry.proofs.ChordLine.{IsAsideOf, area_start, aside_row, aside_column}
use Rattle.fx_symmetry.proofs.OnPieces.{on_moved, span_twice}

abbrev turned_place : Place → Place
turned_place = place_in Exchange

abbrev ExchangeAdds : Place → Span → Type 0
ExchangeAdds p s = turn (turned_place p) (span_in Exchange s) ≡ corners p s.a s.c -ℤ turn p s

-- ---- the column strictly between them: that is a row of the exchanged piece
between_columns : (p : Place) (s : Span) → ((s.a.x <ℤ p.x) × (p.x <ℤ s.c.x)) ⊎ ((s.c.x <ℤ p.x) × (p.x <ℤ s.a.x)) → ¬ (IsOn p s)
    → ExchangeAdds p s
between_columns p s h off =
    back (turn (turned_place p) (span_in Exchange s)) (turn p s) (corner p.y p.x s.c.y s.c.x) (corner p.y p.x s.a.y s.a.x)
    (corner p.x p.y s.c.x s.c.y) (corner p.x p.y s.a.x s.a.y) (same p.x p.y s.c.x s.c.y) (same p.x p.y s.a.x s.a.y)
    (subst (λ r. turn p r
    ≡ (corner p.y p.x s.c.y s.c.x -ℤ corner p.y p.x s.a.y s.a.x) -ℤ turn (turned_place p) (span_in Exchange s))
    (span_twice Exchange s) (turned_within (turned_place p) (span_in Exchange s) h (λ o. off ((on_moved Exchange p s).0 o))))
  where
    same : (px py ex ey : ℤ) → corner py px ey ex ≡ corner px py ex ey
    same px py ex ey = grind (arith, ints)

    back : (t r c a c' a' : ℤ) → c ≡ c' → a ≡ a' → r ≡ (c -ℤ a) -ℤ t → t ≡ (c' -ℤ a') -ℤ r
    back t r c a c' a' e f g = omega (arith, signed_linear, e, f, g)

-- ---- elsewhere
-- the place is above both ends or in the row of the higher one, or the like, and is none of them
record IsCorner (p a c : Place) : Type 0 where
  across : IsAsideOf a.x c.x p.x
  up : IsAsideOf a.y c.y p.y
  first : p ≡ a → ⊥
  last : p ≡ c → ⊥

-- 1 if an end of the coordinates (ex, ey) is right of a place in its row, and the other end, at the height oy, above that
abbrev lower_end : ℤ → ℤ → ℤ → ℤ → ℤ → ℤ
lower_end px py ex ey oy = if int_eq py ey && (int_lt py oy && int_lt px ex) then pos 1 else pos 0

-- a chord passes the row of its lower end alone
crossing_at_ends : (ax ay cx cy px py s : ℤ) → IsAsideOf ay cy py → (py ≡ ay → IsProduct (cy -ℤ ay) (ax -ℤ px) s)
    → (py ≡ cy → IsProduct (cy -ℤ ay) (cx -ℤ px) s)
    → crossing_number ay cy py s ≡ lower_end px py ax ay cy -ℤ lower_end px py cx cy ay
crossing_at_ends ax ay cx cy px py s aside start end = by aside
    (λ e l h. (start e).both (omega (arith, signed_linear, e, l)) (omega (arith, signed_linear, h)))
    (λ e l h. at_most (ax -ℤ px) s (omega (arith, signed_linear, h)) ((start e).low (omega (arith, signed_linear, e, l)))
    (start e).level)
    (λ e l h. (end e).down (omega (arith, signed_linear, e, l)) (omega (arith, signed_linear, h)))
    (λ e l h. at_least (cx -ℤ px) s (omega (arith, signed_linear, h)) ((end e).neither (omega (arith, signed_linear, e, l)))
    (end e).level)
  where
    at_most : (h s : ℤ) → h ≤ℤ pos 0 → (h <ℤ pos 0 → s <ℤ pos 0) → (h ≡ pos 0 → s ≡ pos 0) → s ≤ℤ pos 0
    at_most h s l low level = grind (arith, ints)

    at_least : (h s : ℤ) → h ≤ℤ pos 0 → (h <ℤ pos 0 → pos 0 <ℤ s) → (h ≡ pos 0 → s ≡ pos 0) → pos 0 ≤ℤ s
    at_least h s l low level = grind (arith, ints)

    by : IsAsideOf ay cy py → (py ≡ ay → py <ℤ cy → px <ℤ ax → pos 0 <ℤ s) → (py ≡ ay → py <ℤ cy → ax ≤ℤ px → s ≤ℤ pos 0)
        → (py ≡ cy → py <ℤ ay → px <ℤ cx → s <ℤ pos 0) → (py ≡ cy → py <ℤ ay → cx ≤ℤ px → pos 0 ≤ℤ s)
        → crossing_number ay cy py s ≡ lower_end px py ax ay cy -ℤ lower_end px py cx cy ay
    by (inl (h, k)) right left up down = grind (arith, ints)
    by (inr (h, k)) right left up down = grind (arith, ints)

crossing_of : (a c p : Place) → IsAsideOf a.y c.y p.y
    → chord_crossing a c p ≡ lower_end p.x p.y a.x a.y c.y -ℤ lower_end p.x p.y c.x c.y a.y
crossing_of a c p aside = crossing_at_ends a.x a.y c.x c.y p.x p.y (area a c p) aside
    (λ e. subst (IsProduct (c.y -ℤ a.y) (a.x -ℤ p.x))
    (sym (ap (area_of a.x a.y c.x c.y p.x) e ∙ area_start a.x a.y c.x c.y p.x)) (product (c.y -ℤ a.y) (a.x -ℤ p.x)))
    (λ e. subst (IsProduct (c.y -ℤ a.y) (c.x -ℤ p.x))
    (sym (ap (area_of a.x a.y c.x c.y p.x) e ∙ area_end a.x a.y c.x c.y p.x)) (product (c.y -ℤ a.y) (c.x -ℤ p.x)))
  where
    area_end : (ax ay cx cy px : ℤ) → area_of ax ay cx cy px cy ≡ (cy -ℤ ay) *ℤ (cx -ℤ px)
    area_end ax ay cx cy px = ring (ax ∷ ay ∷ cx ∷ cy ∷ px ∷ []) (area_expr (var 0) (var 1) (var 2) (var 3) (var 4) (var 3))
        ((var 3 ⊟ var 1) ⊠ (var 2 ⊟ var 4)) tt

-- the rows and the columns that a chord and the exchanged one so pass
sum_of : (ax ay cx cy px py : ℤ) → IsAsideOf ax cx px → IsAsideOf ay cy py → (px ≡ ax → py ≡ ay → ⊥) → (px ≡ cx → py ≡ cy → ⊥)
    → (lower_end py px ay ax cx -ℤ lower_end py px cy cx ax) +ℤ (lower_end px py ax ay cy -ℤ lower_end px py cx cy ay)
    ≡ corner px py cx cy -ℤ corner px py ax ay
sum_of ax ay cx cy px py (inl (h, k)) (inl (l, m)) n o = grind (arith, ints)
sum_of ax ay cx cy px py (inl (h, k)) (inr (l, m)) n o = grind (arith, ints)
sum_of ax ay cx cy px py (inr (h, k)) (inl (l, m)) n o = grind (arith, ints)
sum_of ax ay cx cy px py (inr (h, k)) (inr (l, m)) n o = grind (arith, ints)

crossings_at_corner : (a c p : Place) → IsCorner p a c
    → chord_crossing (turned_place a) (turned_place c) (turned_place p) +ℤ chord_crossing a c p ≡ corners p a c
crossings_at_corner a c p h =
    (λ i. crossing_of (turned_place a) (turned_place c) (turned_place p) h.across i +ℤ crossing_of a c p h.up i)
    ∙ sum_of a.x a.y c.x c.y p.x p.y h.across h.up (λ e f. h.first (λ i. record { x = e i; y = f i }))
    (λ e f. h.last (λ i. record { x = e i; y = f i }))

-- on the chord's line both are 0, and no region has the place
none_at_corner : (a c p : Place) → IsCorner p a c → area a c p ≡ pos 0 → corners p a c ≡ pos 0
none_at_corner a c p h z = sym (crossings_at_corner a c p h) ∙ reflected_crossings_none turned_place turning a c p z

no_region : (a b c p : Place) → IsCorner p a c → area a c p ≡ pos 0 → IsInRegion a b c p → ⊥
no_region a b c p h z r =
    h.first (λ i. record { x = (aside_column a b c p z r h.across).0 i; y = (aside_row a b c p z r h.up).0 i })

corner_turned : (p a c : Place) → IsCorner p a c → IsCorner (turned_place p) (turned_place a) (turned_place c)
corner_turned p a c h =
    record { across = h.up; up = h.across; first = λ e. h.first (ap turned_place e); last = λ e. h.last (ap turned_place e) }

regions_at_corner : (a b c p : Place) → IsCorner p a c → area a c p ≡ pos 0
    → region_part (turned_place a) (Some (turned_place b)) (turned_place c) (turned_place p) +ℤ region_part a (Some b) c p ≡ pos 0
regions_at_corner a b c p h z = regions_cancel turned_place turning a b c p (λ r. absurd (no_region a b c p h z r))
    (λ r. absurd (no_region (turned_place a) (turned_place b) (turned_place c) (turned_place p) (corner_turned p a c h)
    (none_reflected turned_place turning a c p z) r))

corner_part : (a : Place) (b : Option Place) (c p : Place) → IsCorner p a c → AddUp turned_place (corners p a c) a b c p
corner_part a None c p h = add_up_line turned_place turning (corners p a c) a c p (λ n. crossings_at_corner a c p h)
    (λ z. none_at_corner a c p h z)
corner_part a (Some b) c p h = add_up_arc turned_place turning (corners p a c) a b c p (λ n. crossings_at_corner a c p h)
    (λ y z. none_at_corner a c p h z) (λ n z. regions_at_corner a b c p h z ∙ sym (none_at_corner a c p h z))

-- ---- the whole
strictly_or_aside : (a c p : ℤ) → (((a <ℤ p) × (p <ℤ c)) ⊎ ((c <ℤ p) × (p <ℤ a))) ⊎ IsAsideOf a c p
strictly_or_aside a c p = grind (arith, ints)

pub exchanged_turn : (p : Place) (s : Span) → ¬ (IsOn p s) → ExchangeAdds p s
exchanged_turn p s off = by (strictly_or_aside s.a.y s.c.y p.y) (strictly_or_aside s.a.x s.c.x p.x)
  where
    by : (((s.a.y <ℤ p.y) × (p.y <ℤ s.c.y)) ⊎ ((s.c.y <ℤ p.y) × (p.y <ℤ s.a.y))) ⊎ IsAsideOf s.a.y s.c.y p.y
        → (((s.a.x <ℤ p.x) × (p.x <ℤ s.c.x)) ⊎ ((s.c.x <ℤ p.x) × (p.x <ℤ s.a.x))) ⊎ IsAsideOf s.a.x s.c.x p.x → ExchangeAdds p s
    by (inl h) k = turned_within p s h off
    by (inr h) (inl k) = between_columns p s k off
    by (inr h) (inr k) = corner_part s.a s.b s.c p (record {
      across = k;
      up = h;
      first = (off_no_end p s off).first;
      last = (off_no_end p s off).last;
    })
