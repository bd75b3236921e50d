-- Mirrored pieces meet the mirrored segments, and pieces upside down those upside down: `mirror_meets`, `flip_meets`.
-- Serves the law `meeting`, and moved outlines with drop-out control.
use Rattle.std.proofs.Common.{◌≡◌, ◌≢◌, sym, ap, ◌∙◌, subst, ◌↔◌, ◌⊎◌, inl, inr, ℤ, pos, negsuc, ◌+ℤ◌, ◌-ℤ◌, neg_ℤ, ◌≤ℤ◌}
use Rattle.std.proofs.Common.{◌<ℤ◌, int_lt, ◌&&◌, if◌then◌else◌, [], ◌∷◌, Option, Some, None, option_map, arith}
use Rattle.std.specs.Ordering.{int_eq}
use Rattle.std.proofs.lemmas.Int.{ints}
use Rattle.fx_fixed.specs.Polynomial.{minus}
use Rattle.fx_fixed.proofs.Ring.{ring}
use Rattle.fx_fixed.proofs.Linear.{signed_linear}
use Rattle.fx_winding.specs.Area.{Place, area}
use Rattle.fx_winding.specs.Turned.{turned_place, turned_span}
use Rattle.fx_winding.specs.Meets.{turn, slope, IsWithinRow, IsReached, IsTipPart, IsMet}
use Rattle.fx_winding.specs.Winding.{Span, chord_crossing, region_part, IsOn}
use Rattle.fx_winding.proofs.Crossings.{above, crossing_number, crossing_level, crossing_under}
use Rattle.fx_winding.proofs.EndsOn.{off_no_end}
use Rattle.fx_winding.proofs.Triangle.{ExprPlace, at, coordinates, slope_at}
use Rattle.fx_symmetry.specs.Symmetries.{Symmetry, Mirror, Flip, Exchange, place_in, span_in}
use Rattle.fx_symmetry.specs.Pieces.{end_in, MirrorMeets, MirrorMeetsUp, FlipMeets, FlipMeetsUp}
use Rattle.fx_symmetry.proofs.Covering.{turn_in}
use Rattle.fx_symmetry.proofs.OnPieces.{low_minus, high_minus, twice, span_twice, on_moved, turned_mirrored, turned_flipped}

-- in a row that an arc reaches from one side no chord passes
reached_crossing : (a b c y s : ℤ) → IsReached a b c y → crossing_number a c y s ≡ pos 0
reached_crossing a b c y s (inl (l, r, t)) = crossing_under a c y s (l, r)
reached_crossing a b c y s (inr (l, r, t)) = crossing_level a c y s (l, r)

-- so it is in no region of the moved arc if it is in none of the arc, and the ends count alike
outside_moved : (m : Symmetry) (a b c p : Place) → IsReached a.y b.y c.y p.y
    → IsReached (place_in m a).y (place_in m b).y (place_in m c).y (place_in m p).y → end_in m p a ≡ end_in m p c
    → ¬ (IsOn p (record { a = a; b = Some b; c = c })) → region_part a (Some b) c p ≡ pos 0
    → region_part (place_in m a) (Some (place_in m b)) (place_in m c) (place_in m p) ≡ pos 0
outside_moved m a b c p h k same off e = none (chord_crossing a c p) (region_part a (Some b) c p) _ _ (end_in m p a) (end_in m p c)
    (reached_crossing a.y b.y c.y p.y (area a c p) h) e
    (reached_crossing (place_in m a).y (place_in m b).y (place_in m c).y (place_in m p).y
    (area (place_in m a) (place_in m c) (place_in m p)) k) same (turn_in m p (record { a = a; b = Some b; c = c }) off)
  where
    none : (x r x' r' u w : ℤ) → x ≡ pos 0 → r ≡ pos 0 → x' ≡ pos 0 → u ≡ w → x' +ℤ r' ≡ (w -ℤ u) -ℤ (x +ℤ r) → r' ≡ pos 0
    none x r x' r' u w f g h k i = omega (arith, signed_linear, f, g, h, k, i)

-- a piece moved twice is the piece
met_twice : (m : Symmetry) (p q : Place) (s : Span)
    → IsMet (place_in m (place_in m p)) (place_in m (place_in m q)) (span_in m (span_in m s)) → IsMet p q s
met_twice m p q s h = subst (λ (T : Type 0). T) (λ i. IsMet (twice m p i) (twice m q i) (span_twice m s i)) h

-- ---- mirrored, along a row
mirrored_at : ExprPlace → ExprPlace
mirrored_at p = record { x = minus p.x; y = p.y }

slope_mirrored : (a b c p : Place) → slope (place_in Mirror a) (place_in Mirror b) (place_in Mirror c) (place_in Mirror p)
    ≡ neg_ℤ (slope a b c p)
unfolding mirrored_at
slope_mirrored a b c p = ring (coordinates (a ∷ b ∷ c ∷ p ∷ []) [])
    (slope_at (mirrored_at (at 0)) (mirrored_at (at 1)) (mirrored_at (at 2)) (mirrored_at (at 3)))
    (minus (slope_at (at 0) (at 1) (at 2) (at 3))) tt

within_mirrored : (p q e : Place) → p.y ≡ q.y → IsWithinRow p q e
    → IsWithinRow (place_in Mirror q) (place_in Mirror p) (place_in Mirror e)
within_mirrored p q e k h = record {
  level = h.level ∙ k;
  after = let b = h.before in omega (arith, signed_linear, b);
  before = let a = h.after in omega (arith, signed_linear, a);
}

-- what both ends of a segment add tells what the mirrored ones add
same_added : (p q : Place) (s : Span) → p.y ≡ q.y → ¬ (IsOn p s) → ¬ (IsOn q s)
    → turn (place_in Mirror q) (span_in Mirror s) ≡ turn (place_in Mirror p) (span_in Mirror s) → turn p s ≡ turn q s
same_added p q s k np nq e = by (above p.y s.c.y -ℤ above p.y s.a.y) (above q.y s.c.y -ℤ above q.y s.a.y) (turn p s) (turn q s)
    (turn (place_in Mirror p) (span_in Mirror s)) (turn (place_in Mirror q) (span_in Mirror s))
    (ap (λ y. above y s.c.y -ℤ above y s.a.y) k) (turn_in Mirror p s np) (turn_in Mirror q s nq) e
  where
    by : (x y t r t' r' : ℤ) → x ≡ y → t' ≡ x -ℤ t → r' ≡ y -ℤ r → r' ≡ t' → t ≡ r
    by x y t r t' r' k e f g = omega (arith, signed_linear, k, e, f, g)

tip_mirrored : (p q a : Place) (b : Option Place) (c : Place) → p.y ≡ q.y
    → turn p (record { a = a; b = b; c = c }) ≡ turn q (record { a = a; b = b; c = c })
    → ¬ (IsOn q (record { a = a; b = b; c = c })) → IsTipPart a b c p q
    → IsTipPart (place_in Mirror a) (option_map (place_in Mirror) b) (place_in Mirror c) (place_in Mirror q) (place_in Mirror p)
tip_mirrored p q a None c k e nq t = absurd t
tip_mirrored p q a (Some b) c k e nq t = record {
  reached = reached;
  outside = outside_moved Mirror a b c q reached reached (level a.y b.y c.y q.y reached) nq
      (none (chord_crossing a c p) (region_part a (Some b) c p) (chord_crossing a c q) (region_part a (Some b) c q)
      (reached_crossing a.y b.y c.y p.y (area a c p) t.reached) t.outside
      (reached_crossing a.y b.y c.y q.y (area a c q) reached) e);
  rises = rw (slope_mirrored a b c q) (let f = t.falls in omega (arith, signed_linear, f));
  falls = rw (slope_mirrored a b c p) (let f = t.rises in omega (arith, signed_linear, f));
}
  where
    reached : IsReached a.y b.y c.y q.y
    reached = subst (IsReached a.y b.y c.y) k t.reached

    level : (a b c y : ℤ) → IsReached a b c y → above y a ≡ above y c
    level a b c y (inl (l, r, t)) = under a c y l r
      where
        under : (a c y : ℤ) → a <ℤ y → c <ℤ y → above y a ≡ above y c
        under a c y l r = grind (arith, ints)
    level a b c y (inr (l, r, t)) = over a c y l r
      where
        over : (a c y : ℤ) → y <ℤ a → y <ℤ c → above y a ≡ above y c
        over a c y l r = grind (arith, ints)

    none : (x r y w : ℤ) → x ≡ pos 0 → r ≡ pos 0 → y ≡ pos 0 → x +ℤ r ≡ y +ℤ w → w ≡ pos 0
    none x r y w f g h i = omega (arith, signed_linear, f, g, h, i)

met_mirrored : (p q : Place) (s : Span) → p.y ≡ q.y → ¬ (IsOn p s) → ¬ (IsOn q s) → IsMet p q s
    → IsMet (place_in Mirror q) (place_in Mirror p) (span_in Mirror s)
met_mirrored p q s k np nq (inl h) = inl (within_mirrored p q s.a k h)
met_mirrored p q s k np nq (inr (inl h)) = inr (inl (within_mirrored p q s.c k h))
met_mirrored p q s k np nq (inr (inr (inl n))) = inr (inr (inl (λ e. n (same_added p q s k np nq e))))
met_mirrored p q s k np nq (inr (inr (inr t))) = by (same_or_not (turn p s) (turn q s))
  where
    same_or_not : (x y : ℤ) → (x ≡ y) ⊎ (x ≢ y)
    same_or_not x y = grind (arith, ints)

    by : (turn p s ≡ turn q s) ⊎ (turn p s ≢ turn q s) → IsMet (place_in Mirror q) (place_in Mirror p) (span_in Mirror s)
    by (inl e) = inr (inr (inr (tip_mirrored p q s.a s.b s.c k e nq t)))
    by (inr n) = inr (inr (inl (λ e. n (same_added p q s k np nq e))))

pub mirror_meets : MirrorMeets
mirror_meets p q s k np nq = (
  λ h. met_twice Mirror p q s (met_mirrored (place_in Mirror q) (place_in Mirror p) (span_in Mirror s) (sym k)
      (λ o. nq ((on_moved Mirror q s).0 o)) (λ o. np ((on_moved Mirror p s).0 o)) h),
  met_mirrored p q s k np nq,
)

-- ---- upside down, along a row
flipped_at : ExprPlace → ExprPlace
flipped_at p = record { x = p.x; y = minus p.y }

slope_flipped : (a b c p : Place) → slope (place_in Flip a) (place_in Flip b) (place_in Flip c) (place_in Flip p) ≡ slope a b c p
unfolding flipped_at
slope_flipped a b c p = ring (coordinates (a ∷ b ∷ c ∷ p ∷ []) [])
    (slope_at (flipped_at (at 0)) (flipped_at (at 1)) (flipped_at (at 2)) (flipped_at (at 3)))
    (slope_at (at 0) (at 1) (at 2) (at 3)) tt

within_flipped : (p q e : Place) → IsWithinRow p q e → IsWithinRow (place_in Flip p) (place_in Flip q) (place_in Flip e)
within_flipped p q e h = record { level = ap neg_ℤ h.level; after = h.after; before = h.before }

reached_flipped : (a b c p : ℤ) → IsReached a b c p → IsReached (neg_ℤ a) (neg_ℤ b) (neg_ℤ c) (neg_ℤ p)
reached_flipped a b c p (inl (l, r, t)) =
    inr (omega (arith, signed_linear, l), omega (arith, signed_linear, r), high_minus a b c p t)
reached_flipped a b c p (inr (l, r, t)) =
    inl (omega (arith, signed_linear, l), omega (arith, signed_linear, r), low_minus a b c p t)

-- an end lies between the places, or counts alike for both
end_sides : (p q e : Place) → p.y ≡ q.y → p.x ≤ℤ q.x → ¬ (p ≡ e) → ¬ (q ≡ e)
    → IsWithinRow p q e ⊎ (end_in Flip p e ≡ end_in Flip q e)
end_sides p q e k l np nq = by (known p.x p.y q.x q.y e.x e.y k l (λ x y. np (λ i. record { x = x i; y = y i }))
    (λ x y. nq (λ i. record { x = x i; y = y i })))
  where
    known : (px py qx qy ex ey : ℤ) → py ≡ qy → px ≤ℤ qx → (px ≡ ex → py ≡ ey → ⊥) → (qx ≡ ex → qy ≡ ey → ⊥)
        → ((ey ≡ py) × (px <ℤ ex) × (ex <ℤ qx)) ⊎ ((if int_eq ey py && int_lt px ex then negsuc 0 else pos 0)
        ≡ (if int_eq ey qy && int_lt qx ex then negsuc 0 else pos 0))
    known px py qx qy ex ey k l np nq = grind (arith, ints)

    by : ((e.y ≡ p.y) × (p.x <ℤ e.x) × (e.x <ℤ q.x)) ⊎ (end_in Flip p e ≡ end_in Flip q e)
        → IsWithinRow p q e ⊎ (end_in Flip p e ≡ end_in Flip q e)
    by (inl (h, a, b)) = inl (record { level = h; after = a; before = b })
    by (inr h) = inr h

turns_flipped : (p q : Place) (s : Span) → p.y ≡ q.y → p.x ≤ℤ q.x → ¬ (IsOn p s) → ¬ (IsOn q s) → turn p s ≢ turn q s
    → IsMet (place_in Flip p) (place_in Flip q) (span_in Flip s)
turns_flipped p q s k l np nq n = by (end_sides p q s.a k l (off_no_end p s np).first (off_no_end q s nq).first)
    (end_sides p q s.c k l (off_no_end p s np).last (off_no_end q s nq).last)
  where
    same : (x y z w t r t' r' : ℤ) → x ≡ z → y ≡ w → t' ≡ (y -ℤ x) -ℤ t → r' ≡ (w -ℤ z) -ℤ r → t' ≡ r' → t ≡ r
    same x y z w t r t' r' a c e f g = omega (arith, signed_linear, a, c, e, f, g)

    by : IsWithinRow p q s.a ⊎ (end_in Flip p s.a ≡ end_in Flip q s.a)
        → IsWithinRow p q s.c ⊎ (end_in Flip p s.c ≡ end_in Flip q s.c)
        → IsMet (place_in Flip p) (place_in Flip q) (span_in Flip s)
    by (inl h) c = inl (within_flipped p q s.a h)
    by (inr a) (inl h) = inr (inl (within_flipped p q s.c h))
    by (inr a) (inr c) = inr (inr (inl (λ e. n (same (end_in Flip p s.a) (end_in Flip p s.c) (end_in Flip q s.a)
        (end_in Flip q s.c) (turn p s) (turn q s) (turn (place_in Flip p) (span_in Flip s))
        (turn (place_in Flip q) (span_in Flip s)) a c (turn_in Flip p s np) (turn_in Flip q s nq) e))))

-- an end in another row counts 0
other_row : (px py ex ey : ℤ) → (ey ≡ py → ⊥) → (if int_eq ey py && int_lt px ex then negsuc 0 else pos 0) ≡ pos 0
other_row px py ex ey n = grind (arith, ints)

tip_flipped : (p q a : Place) (b : Option Place) (c : Place) → ¬ (IsOn p (record { a = a; b = b; c = c })) → IsTipPart a b c p q
    → IsTipPart (place_in Flip a) (option_map (place_in Flip) b) (place_in Flip c) (place_in Flip p) (place_in Flip q)
tip_flipped p q a None c np t = absurd t
tip_flipped p q a (Some b) c np t = record {
  reached = reached;
  outside = outside_moved Flip a b c p t.reached reached (level p.x a.x a.y b.y c.x c.y p.y t.reached) np t.outside;
  rises = rw (slope_flipped a b c p) t.rises;
  falls = rw (slope_flipped a b c q) t.falls;
}
  where
    reached : IsReached (neg_ℤ a.y) (neg_ℤ b.y) (neg_ℤ c.y) (neg_ℤ p.y)
    reached = reached_flipped a.y b.y c.y p.y t.reached

    level : (px ax ay b cx cy py : ℤ) → IsReached ay b cy py → (if int_eq ay py && int_lt px ax then negsuc 0 else pos 0)
        ≡ (if int_eq cy py && int_lt px cx then negsuc 0 else pos 0)
    level px ax ay b cx cy py (inl (l, r, t)) = other_row px py ax ay (λ e. omega (arith, signed_linear, e, l))
        ∙ sym (other_row px py cx cy (λ e. omega (arith, signed_linear, e, r)))
    level px ax ay b cx cy py (inr (l, r, t)) = other_row px py ax ay (λ e. omega (arith, signed_linear, e, l))
        ∙ sym (other_row px py cx cy (λ e. omega (arith, signed_linear, e, r)))

met_flipped : (p q : Place) (s : Span) → p.y ≡ q.y → p.x ≤ℤ q.x → ¬ (IsOn p s) → ¬ (IsOn q s) → IsMet p q s
    → IsMet (place_in Flip p) (place_in Flip q) (span_in Flip s)
met_flipped p q s k l np nq (inl h) = inl (within_flipped p q s.a h)
met_flipped p q s k l np nq (inr (inl h)) = inr (inl (within_flipped p q s.c h))
met_flipped p q s k l np nq (inr (inr (inl n))) = turns_flipped p q s k l np nq n
met_flipped p q s k l np nq (inr (inr (inr t))) = inr (inr (inr (tip_flipped p q s.a s.b s.c np t)))

pub flip_meets : FlipMeets
flip_meets p q s k l np nq = (
  λ h. met_twice Flip p q s (met_flipped (place_in Flip p) (place_in Flip q) (span_in Flip s) (ap neg_ℤ k) l
      (λ o. np ((on_moved Flip p s).0 o)) (λ o. nq ((on_moved Flip q s).0 o)) h),
  met_flipped p q s k l np nq,
)

-- ---- up a column
pub mirror_meets_up : MirrorMeetsUp
mirror_meets_up p q s k l np nq = subst (λ t. IsMet (turned_place (place_in Mirror p)) (turned_place (place_in Mirror q)) t
    ↔ IsMet (turned_place p) (turned_place q) (turned_span s)) (sym (turned_mirrored s))
    (flip_meets (turned_place p) (turned_place q) (turned_span s) k l (λ o. np ((on_moved Exchange p s).0 o))
    (λ o. nq ((on_moved Exchange q s).0 o)))

pub flip_meets_up : FlipMeetsUp
flip_meets_up p q s k np nq = subst (λ t. IsMet (turned_place (place_in Flip q)) (turned_place (place_in Flip p)) t
    ↔ IsMet (turned_place p) (turned_place q) (turned_span s)) (sym (turned_flipped s))
    (mirror_meets (turned_place p) (turned_place q) (turned_span s) k (λ o. np ((on_moved Exchange p s).0 o))
    (λ o. nq ((on_moved Exchange q s).0 o)))
