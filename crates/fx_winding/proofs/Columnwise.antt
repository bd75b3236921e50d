-- A piece meets a column's segment if it adds other numbers at its two ends: `up_met`. A column is a row of the exchanged piece.
-- Serves the segments that a scan by rows notes: they are no more than the pieces meet.
use Rattle.std.proofs.Common.{◌≡◌, ◌≢◌, sym, ◌∙◌, ◌⊎◌, inl, inr, ℤ, pos, negsuc, ◌-ℤ◌, ◌≤ℤ◌, ◌<ℤ◌, arith}
use Rattle.std.proofs.lemmas.Int.{ints}
use Rattle.fx_fixed.proofs.Linear.{signed_linear}
use Rattle.fx_winding.specs.Area.{Place}
use Rattle.fx_winding.specs.Turned.{turned_place, turned_span}
use Rattle.fx_winding.specs.Meets.{turn, IsWithinRow, IsMet, IsBetweenEnds}
use Rattle.fx_winding.specs.Outside.{HasAll}
use Rattle.fx_winding.specs.Winding.{Span, IsBetween, IsOn}
use Rattle.fx_winding.proofs.Beside.{RestsOn, HangsFrom}
use Rattle.fx_winding.proofs.Columns.{between_range}
use Rattle.fx_winding.proofs.Crossings.{above}
use Rattle.fx_winding.proofs.EndsOn.{off_no_end}
use Rattle.fx_winding.proofs.Triangle.{area_level}
use Rattle.fx_winding.proofs.Sideways.{corner, turned_within}
use Rattle.fx_winding.proofs.Turning.{turned_below, turned_above, same_corners}

-- ---- one number, or another
by_same : {P : Type 0} (x y : ℤ) → (x ≡ y → P) → (x ≢ y → P) → P
by_same {P} x y f g = grind (arith, ints, y, f, g)

-- ---- a column, seen as a row of the exchanged piece
-- two rows strictly between the ends: it meets the segment if it adds different numbers at the segment's ends
pub up_met : (p q : Place) (s : Span) → p.x ≡ q.x → IsBetweenEnds p s → IsBetweenEnds q s → ¬ (IsOn p s) → ¬ (IsOn q s)
    → turn p s ≢ turn q s → IsMet (turned_place p) (turned_place q) (turned_span s)
up_met p q s e hp hq np nq t = inr (inr (inl (λ z. t
    (cancel _ _ _ _ _ _ (turned_within p s hp np) (turned_within q s hq nq) (same_corners p q s e hp hq) z))))
  where
    cancel : (a b t u x y : ℤ) → x ≡ a -ℤ t → y ≡ b -ℤ u → a ≡ b → x ≡ y → t ≡ u
    cancel a b t u x y i j k l = omega (arith, signed_linear, i, j, k, l)

-- an end in the column of the places, at or above the lower one and at or below the upper one, neither of which it is
other_height : (p e : Place) → p ≢ e → p.x ≡ e.x → p.y ≢ e.y
other_height p e n h k = n (λ i. record { x = h i; y = k i })

end_within : (p q e : Place) → p.x ≡ q.x → e.x ≡ p.x → p ≢ e → q ≢ e → p.y ≤ℤ e.y → e.y ≤ℤ q.y
    → IsWithinRow (turned_place p) (turned_place q) (turned_place e)
end_within p q e same at np nq l m = grind (arith, signed_linear, same, at, np, nq, l, m, other_height)

-- an end at x, and a place of another row: the place is not left of the end but left of the piece; or it is not right of the end
-- but
-- right of the piece
abbrev pub IsPastEnd : ℤ → ℤ → Place → Span → Type 0
IsPastEnd x value q s = ((x ≤ℤ q.x) × (turn q s ≡ value)) ⊎ ((q.x ≤ℤ x) × (turn q s ≡ pos 0))

-- the same by numbers: an end at one, a place at another that adds a third, and the two differ
abbrev IsPast : ℤ → ℤ → ℤ → ℤ → Type 0
IsPast end value x t = (((end ≤ℤ x) × (t ≡ value)) ⊎ ((x ≤ℤ end) × (t ≡ pos 0))) × (x ≢ end)

foot_differs : (ax ay cx cy px qx qy t : ℤ) → px ≡ qx → ((ay <ℤ qy) × (qy <ℤ cy)) ⊎ ((cy <ℤ qy) × (qy <ℤ ay))
    → ((ay <ℤ cy) × IsPast ax (pos 1) qx t) ⊎ ((cy <ℤ ay) × IsPast cx (negsuc 0) qx t)
    → above px cx -ℤ above px ax ≢ (corner qx qy cx cy -ℤ corner qx qy ax ay) -ℤ t
foot_differs ax ay cx cy px qx qy t e i c z = grind (arith, ints)

head_differs : (ax ay cx cy px py t : ℤ) → ((ay <ℤ py) × (py <ℤ cy)) ⊎ ((cy <ℤ py) × (py <ℤ ay))
    → ((ay <ℤ cy) × IsPast cx (pos 1) px t) ⊎ ((cy <ℤ ay) × IsPast ax (negsuc 0) px t)
    → (corner px py cx cy -ℤ corner px py ax ay) -ℤ t ≢ pos 0
head_differs ax ay cx cy px py t i c z = grind (arith, ints)

-- from a row on which it rests to one between its ends
pub foot_met : (p q : Place) (s : Span) → p.x ≡ q.x → RestsOn p.y s → ¬ (IsOn p s) → IsBetweenEnds q s → ¬ (IsOn q s)
    → ((s.a.y <ℤ s.c.y) × IsPastEnd s.a.x (pos 1) q s) ⊎ ((s.c.y <ℤ s.a.y) × IsPastEnd s.c.x (negsuc 0) q s)
    → IsMet (turned_place p) (turned_place q) (turned_span s)
foot_met p q s e h np i nq past = by past
  where
    apart : ((s.a.y <ℤ s.c.y) × IsPast s.a.x (pos 1) q.x (turn q s)) ⊎ ((s.c.y <ℤ s.a.y) × IsPast s.c.x (negsuc 0) q.x (turn q s))
        → IsMet (turned_place p) (turned_place q) (turned_span s)
    apart c = inr (inr (inl (λ z. foot_differs s.a.x s.a.y s.c.x s.c.y p.x q.x q.y (turn q s) e i c
        (sym (turned_below p s h np) ∙ z ∙ turned_within q s i nq))))

    by : ((s.a.y <ℤ s.c.y) × IsPastEnd s.a.x (pos 1) q s) ⊎ ((s.c.y <ℤ s.a.y) × IsPastEnd s.c.x (negsuc 0) q s)
        → IsMet (turned_place p) (turned_place q) (turned_span s)
    by (inl (r, k)) = by_same q.x s.a.x
        (λ l. inl (end_within p q s.a e (sym l ∙ sym e) (off_no_end p s np).first (off_no_end q s nq).first h.all.0
        (omega (arith, signed_linear, i, r))))
        (λ n. apart (inl (r, (k, n))))
    by (inr (r, k)) = by_same q.x s.c.x
        (λ l. inr (inl (end_within p q s.c e (sym l ∙ sym e) (off_no_end p s np).last (off_no_end q s nq).last h.all.2
        (omega (arith, signed_linear, i, r)))))
        (λ n. apart (inr (r, (k, n))))

-- from a row between its ends to one from which it hangs
pub head_met : (p q : Place) (s : Span) → p.x ≡ q.x → IsBetweenEnds p s → ¬ (IsOn p s) → HangsFrom q.y s → ¬ (IsOn q s)
    → ((s.a.y <ℤ s.c.y) × IsPastEnd s.c.x (pos 1) p s) ⊎ ((s.c.y <ℤ s.a.y) × IsPastEnd s.a.x (negsuc 0) p s)
    → IsMet (turned_place p) (turned_place q) (turned_span s)
head_met p q s e i np h nq past = by past
  where
    apart : ((s.a.y <ℤ s.c.y) × IsPast s.c.x (pos 1) p.x (turn p s)) ⊎ ((s.c.y <ℤ s.a.y) × IsPast s.a.x (negsuc 0) p.x (turn p s))
        → IsMet (turned_place p) (turned_place q) (turned_span s)
    apart c = inr (inr (inl (λ z. head_differs s.a.x s.a.y s.c.x s.c.y p.x p.y (turn p s) i c
        (sym (turned_within p s i np) ∙ z ∙ turned_above q s h nq))))

    by : ((s.a.y <ℤ s.c.y) × IsPastEnd s.c.x (pos 1) p s) ⊎ ((s.c.y <ℤ s.a.y) × IsPastEnd s.a.x (negsuc 0) p s)
        → IsMet (turned_place p) (turned_place q) (turned_span s)
    by (inl (r, k)) = by_same p.x s.c.x
        (λ l. inr (inl (end_within p q s.c e (sym l) (off_no_end p s np).last (off_no_end q s nq).last
        (omega (arith, signed_linear, i, r)) h.all.2)))
        (λ n. apart (inl (r, (k, n))))
    by (inr (r, k)) = by_same p.x s.a.x (λ l. inl (end_within p q s.a e (sym l) (off_no_end p s np).first (off_no_end q s nq).first
        (omega (arith, signed_linear, i, r)) h.all.0))
        (λ n. apart (inr (r, (k, n))))

-- from a row on which it rests to one from which it hangs, with no row between its ends: it meets the segments of the columns from
-- one end to the other
pub through_met : (p q : Place) (s : Span) → p.x ≡ q.x → RestsOn p.y s → ¬ (IsOn p s) → HangsFrom q.y s → ¬ (IsOn q s)
    → IsBetween s.a.x s.c.x p.x → IsMet (turned_place p) (turned_place q) (turned_span s)
through_met p q s e h0 np h1 nq between = by_same p.x s.a.x
    (λ h. inl (end_within p q s.a e (sym h) (off_no_end p s np).first (off_no_end q s nq).first h0.all.0 h1.all.0))
    (λ n. by_same p.x s.c.x
    (λ h. inr (inl (end_within p q s.c e (sym h) (off_no_end p s np).last (off_no_end q s nq).last h0.all.2 h1.all.2)))
    (λ m. inr (inr (inl (λ z. differ s.a.x s.c.x p.x between n m (sym (turned_below p s h0 np) ∙ z ∙ turned_above q s h1 nq))))))
  where
    differ : (a c x : ℤ) → IsBetween a c x → x ≢ a → x ≢ c → above x c -ℤ above x a ≢ pos 0
    differ a c x h n m k = absurd (grind (arith, ints))

-- ---- a level piece
-- a place between the ends of a piece whose points are all at its height is on it
pub level_on : (p : Place) (s : Span) → HasAll (λ e. e.y ≡ p.y) s → IsBetween s.a.x s.c.x p.x → IsOn p s
level_on p s h between = grind (arith, signed_linear, h, between, area_level, between_range)
