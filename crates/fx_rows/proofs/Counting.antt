-- Between its ends a piece adds to a row one value before a column, and 0 from it on: `arc_end`, `line_end`.
-- Serves what a bent arc or a line adds to such a row.
use Rattle.std.proofs.Common.{◌≡◌, ◌≢◌, ◌⊎◌, inl, inr, refl, sym, ◌∙◌, subst, ℕ, ◌+◌, ◌≤◌, ◌<◌, ℤ, pos}
use Rattle.std.proofs.Common.{◌+ℤ◌, ◌-ℤ◌, ◌*ℤ◌, ◌≤ℤ◌, ◌<ℤ◌, neg_ℤ, Bool, true, false, Option, Some, None, arith}
use Rattle.std.proofs.lemmas.Int.{ints}
use Rattle.fx_fixed.proofs.Order.{below_or_not, below_same_above, below_or_not_ℤ}
use Rattle.fx_fixed.proofs.Linear.{signed_linear}
use Rattle.fx_winding.specs.Area.{Place, area}
use Rattle.fx_winding.specs.Winding.{Span, sign, weight_b, region_part, chord_crossing, IsOn, IsOnPart}
use Rattle.fx_rows.specs.declared.strip.Strip.{Strip}
use Rattle.fx_rows.specs.declared.cells.Cut.{Cut}
use Rattle.fx_rows.specs.Parts.{IsBent, IsBentPart}
use Rattle.fx_rows.specs.inner.Sides.{place_at, side, IsAcross, IsEdge}
use Rattle.fx_rows.specs.inner.Arcs.{gap, IsTurnedPart}
use Rattle.fx_rows.specs.inner.Candidates.{IsOnStrip}
use Rattle.fx_rows.specs.inner.Cuts.{Counts, CountsAt, CountsFirst, IsEndOfCount, IsLast, IsStripEnd, IsCut}
use Rattle.fx_winding.proofs.Beside.{left_off, right_off}
use Rattle.fx_winding.proofs.Crossings.{crossing_left, left_of_rising, left_of_falling, right_of_rising, right_of_falling}
use Rattle.fx_rows.specs.inner.Points.{IsPointOf, AreAcross, IsInner, IsRise}
use Rattle.fx_rows.specs.inner.Told.{rise_value}
use Rattle.fx_rows.specs.declared.part.OnRow.TheVariants.{None as Nowhere}
use Rattle.fx_rows.proofs.Signs.{not_below_zero, below_zero_if_not, above_or_zero}
use Rattle.fx_rows.proofs.Points.{to_all}
use Rattle.fx_rows.proofs.Contacts.{none_on}
use Rattle.fx_rows.proofs.Sides.{crossing_of_left, crossing_of_rest, counted_up, counted_down, sign_above, sign_below}
use Rattle.fx_rows.proofs.Weights.{gap_w, gap_of_weights, above_from}
use Rattle.fx_rows.proofs.Narrows.{rises, weight_right, weight_left, own_right, not_own_left}
use Rattle.fx_rows.proofs.Regions.{no_region_beyond, no_region_below, region_of_gap, not_owned, on_from_gap, on_gap}
use Rattle.fx_rows.proofs.Flats.{no_region_flat}
use Rattle.fx_rows.proofs.Cutting.{closer, slanted}

pub across : (a c y : ℤ) → IsInner a c y → IsAcross a c y
across a c y (inl h) = inl (omega (arith, signed_linear, h.0), h.1)
across a c y (inr h) = inr (omega (arith, signed_linear, h.0), h.1)

pub both_zero : (x y : ℤ) → x ≡ pos 0 → y ≡ pos 0 → x +ℤ y ≡ pos 0
both_zero x y e f = omega (arith, signed_linear)

pub first_only : (x y z : ℤ) → x ≡ z → y ≡ pos 0 → x +ℤ y ≡ z
first_only x y z e f = omega (arith, signed_linear)

second_only : (x y z : ℤ) → x ≡ pos 0 → y ≡ z → x +ℤ y ≡ z
second_only x y z e f = omega (arith, signed_linear)

opposite : (x y z : ℤ) → x ≡ z → y ≡ neg_ℤ z → x +ℤ y ≡ pos 0
opposite x y z e f = omega (arith, signed_linear)

-- ---- one place left of another on the row
counts_left : (a b c p q : Place) (r : Bool) → area a b c ≢ pos 0 → IsInner a.y c.y p.y → q.y ≡ p.y → side a c p <ℤ side a c q
    → IsTurnedPart a (Some b) c r → Counts r (side a c q) (gap_w a b c q) → Counts r (side a c p) (gap_w a b c p)
counts_left a b c p q true bent inner row less t (inl h) = inl (omega (arith, signed_linear))
counts_left a b c p q true bent inner row less t (inr g) = by (below_or_not_ℤ (side a c p) (pos 0))
  where
    vp : weight_b a b c p ≡ side a c p
    vp = weight_right a (Some b) c p t

    vq : weight_b a b c q ≡ side a c q
    vq = weight_right a (Some b) c q t

    by : (side a c p <ℤ pos 0) ⊎ (pos 0 ≤ℤ side a c p) → Counts true (side a c p) (gap_w a b c p)
    by (inl h) = inl h
    by (inr h) =
        let k = closer a b c p q bent inner row (omega (arith, signed_linear, vp)) (omega (arith, signed_linear, vp, vq)) g in
        inr (omega (arith, signed_linear, k))
counts_left a b c p q false bent inner row less t h =
    (omega (arith, signed_linear, h.0), by (below_or_not_ℤ (gap_w a b c p) (pos 0)))
  where
    vp : weight_b a b c p ≡ neg_ℤ (side a c p)
    vp = weight_left a (Some b) c p t

    vq : weight_b a b c q ≡ neg_ℤ (side a c q)
    vq = weight_left a (Some b) c q t

    by : (gap_w a b c p <ℤ pos 0) ⊎ (pos 0 ≤ℤ gap_w a b c p) → gap_w a b c p <ℤ pos 0
    by (inl k) = k
    by (inr k) =
        let hs = h.0 in
        let hg = h.1 in
        let n = closer a b c q p bent (subst (IsInner a.y c.y) (sym row) inner) (sym row) (omega (arith, signed_linear, vq))
        (omega (arith, signed_linear, vp, vq)) k in
        absurd (omega (arith, signed_linear))

-- ---- what the arc adds at a place that is not on it
gap_inside : (a b c p : Place) → area a b c ≢ pos 0 → pos 0 ≤ℤ weight_b a b c p → pos 0 ≤ℤ gap_w a b c p
    → ¬ (IsOnPart a (Some b) c p) → pos 0 <ℤ gap_w a b c p
gap_inside a b c p bent v g off = above_from (gap_w a b c p) g (λ z. off (on_from_gap a b c p bent v z))

pub value_inside : (a b c p : Place) (r : Bool) → area a b c ≢ pos 0 → IsInner a.y c.y p.y → IsTurnedPart a (Some b) c r
    → ¬ (IsOnPart a (Some b) c p) → Counts r (side a c p) (gap_w a b c p)
    → chord_crossing a c p +ℤ region_part a (Some b) c p ≡ sign (c.y -ℤ a.y)
value_inside a b c p true bent inner t off counts = by (below_or_not_ℤ (side a c p) (pos 0)) counts
  where
    v : weight_b a b c p ≡ side a c p
    v = weight_right a (Some b) c p t

    by : (side a c p <ℤ pos 0) ⊎ (pos 0 ≤ℤ side a c p) → (side a c p <ℤ pos 0) ⊎ (pos 0 ≤ℤ gap_w a b c p)
        → chord_crossing a c p +ℤ region_part a (Some b) c p ≡ sign (c.y -ℤ a.y)
    by (inl h) x = first_only _ _ _ (crossing_of_left a c p (across a.y c.y p.y inner) h)
        (no_region_beyond a b c p (omega (arith, signed_linear, v)))
    by (inr h) (inl k) = absurd (omega (arith, signed_linear))
    by (inr h) (inr g) =
        let low : pos 0 ≤ℤ weight_b a b c p = omega (arith, signed_linear, v) in
        second_only _ _ _ (crossing_of_rest a c p h)
        (region_of_gap a b c p bent (gap_inside a b c p bent low g off)
        (own_right a (Some b) c p bent t (slanted a.y c.y p.y inner) low) ∙ t)
value_inside a b c p false bent inner t off counts = first_only _ _ _
    (crossing_of_left a c p (across a.y c.y p.y inner) counts.0) (no_region_below a b c p bent counts.1)

pub value_outside : (a b c p : Place) (r : Bool) → area a b c ≢ pos 0 → IsInner a.y c.y p.y → IsTurnedPart a (Some b) c r
    → ¬ (IsOnPart a (Some b) c p) → ¬ (Counts r (side a c p) (gap_w a b c p))
    → chord_crossing a c p +ℤ region_part a (Some b) c p ≡ pos 0
value_outside a b c p true bent inner t off not = both_zero _ _
    (crossing_of_rest a c p (not_below_zero (side a c p) (λ h. not (inl h))))
    (no_region_below a b c p bent (below_zero_if_not (gap_w a b c p) (λ h. not (inr h))))
value_outside a b c p false bent inner t off not = by (below_or_not_ℤ (side a c p) (pos 0))
  where
    v : weight_b a b c p ≡ neg_ℤ (side a c p)
    v = weight_left a (Some b) c p t

    right : (pos 0 <ℤ side a c p) ⊎ (side a c p ≡ pos 0) → region_part a (Some b) c p ≡ pos 0
    right (inl h) = no_region_beyond a b c p (omega (arith, signed_linear, v))
    right (inr e) = not_owned a b c p
        (not_own_left a (Some b) c p bent t (slanted a.y c.y p.y inner) (omega (arith, signed_linear, v, e)))

    by : (side a c p <ℤ pos 0) ⊎ (pos 0 ≤ℤ side a c p) → chord_crossing a c p +ℤ region_part a (Some b) c p ≡ pos 0
    by (inl h) =
        let up : pos 0 <ℤ weight_b a b c p = omega (arith, signed_linear, v) in
        let low : pos 0 ≤ℤ weight_b a b c p = omega (arith, signed_linear, v) in
        let g = gap_inside a b c p bent low (not_below_zero (gap_w a b c p) (λ k. not (h, k))) off in
        opposite _ _ _ (crossing_of_left a c p (across a.y c.y p.y inner) h) (region_of_gap a b c p bent g (inl up) ∙ t)
    by (inr h) = both_zero _ _ (crossing_of_rest a c p h) (right (above_or_zero (side a c p) h))

-- ---- a place on the arc, and those beside it
pub on_weight : (a b c p : Place) → area a b c ≢ pos 0 → IsOnPart a (Some b) c p → pos 0 ≤ℤ weight_b a b c p
on_weight a b c p bent (inl on) = on.on_arc.1
on_weight a b c p bent (inr on) = absurd (bent on.flat)

-- of an arc right of its chord a place on it counts, and none right of it
on_right : (a b c p : Place) → area a b c ≢ pos 0 → IsOnPart a (Some b) c p → Counts true (side a c p) (gap_w a b c p)
on_right a b c p bent on = let z = on_gap a b c p bent on in inr (omega (arith, signed_linear, z))

on_right_last : (a b c p q : Place) → area a b c ≢ pos 0 → IsInner a.y c.y p.y → q.y ≡ p.y → side a c p <ℤ side a c q
    → IsTurnedPart a (Some b) c true → IsOnPart a (Some b) c p → ¬ (Counts true (side a c q) (gap_w a b c q))
on_right_last a b c p q bent inner row less t on counts =
    let z = on_gap a b c p bent on in
    let v = on_weight a b c p bent on in
    let vp = weight_right a (Some b) c p t in
    let vq = weight_right a (Some b) c q t in
    by z v vp vq counts
  where
    by : gap_w a b c p ≡ pos 0 → pos 0 ≤ℤ weight_b a b c p → weight_b a b c p ≡ side a c p → weight_b a b c q ≡ side a c q
        → (side a c q <ℤ pos 0) ⊎ (pos 0 ≤ℤ gap_w a b c q) → ⊥
    by z v vp vq (inl h) = omega (arith, signed_linear, vp)
    by z v vp vq (inr g) =
        let k = closer a b c p q bent inner row v (omega (arith, signed_linear, vp, vq)) g in omega (arith, signed_linear, z)

-- of an arc left of its chord a place on it does not count, and each left of it does
on_left : (a b c p : Place) → area a b c ≢ pos 0 → IsOnPart a (Some b) c p → ¬ (Counts false (side a c p) (gap_w a b c p))
on_left a b c p bent on counts = let z = on_gap a b c p bent on in let g = counts.1 in omega (arith, signed_linear, z)

on_left_first : (a b c p q : Place) → area a b c ≢ pos 0 → IsInner a.y c.y p.y → q.y ≡ p.y → side a c q <ℤ side a c p
    → IsTurnedPart a (Some b) c false → IsOnPart a (Some b) c p → Counts false (side a c q) (gap_w a b c q)
on_left_first a b c p q bent inner row less t on =
    (omega (arith, signed_linear, v, vp), by (below_or_not_ℤ (gap_w a b c q) (pos 0)))
  where
    z : gap_w a b c p ≡ pos 0
    z = on_gap a b c p bent on

    v : pos 0 ≤ℤ weight_b a b c p
    v = on_weight a b c p bent on

    vp : weight_b a b c p ≡ neg_ℤ (side a c p)
    vp = weight_left a (Some b) c p t

    vq : weight_b a b c q ≡ neg_ℤ (side a c q)
    vq = weight_left a (Some b) c q t

    by : (gap_w a b c q <ℤ pos 0) ⊎ (pos 0 ≤ℤ gap_w a b c q) → gap_w a b c q <ℤ pos 0
    by (inl k) = k
    by (inr k) =
        let n = closer a b c p q bent inner row v (omega (arith, signed_linear, vp, vq)) k in
        absurd (omega (arith, signed_linear, z))

-- ---- along a row
pub record Bends (a b c : Place) (r : Bool) (strip : Strip) : Type 0 where
  pub bent : area a b c ≢ pos 0
  pub inner : IsInner a.y c.y (pos 128 *ℤ strip.row +ℤ pos 64)
  pub turned : IsTurnedPart a (Some b) c r

abbrev arc : Place → Place → Place → Span
arc a b c = record { a = a; b = Some b; c = c }

abbrev real_at : Place → Place → Place → Bool → Strip → ℕ → Type 0
real_at a b c r strip k = Counts r (side a c (place_at strip k)) (gap_w a b c (place_at strip k))

real : (a b c : Place) (r : Bool) (strip : Strip) → Bends a b c r strip → (k : ℕ) → CountsAt (arc a b c) r strip k
    → real_at a b c r strip k
real a b c r strip h k =
    subst (λ z. Counts r (side a c (place_at strip k)) z) (sym (gap_of_weights a b c (place_at strip k) h.bent))

unreal : (a b c : Place) (r : Bool) (strip : Strip) → Bends a b c r strip → (k : ℕ) → real_at a b c r strip k
    → CountsAt (arc a b c) r strip k
unreal a b c r strip h k = subst (λ z. Counts r (side a c (place_at strip k)) z) (gap_of_weights a b c (place_at strip k) h.bent)

equal_or : (i j : ℕ) → i ≤ j → (i < j) ⊎ (i ≡ j)
equal_or i j h = grind arith

counts_first : (a b c : Place) (r : Bool) (strip : Strip) → Bends a b c r strip → CountsFirst (arc a b c) r strip
counts_first a b c r strip h i j l counts = elim (equal_or i j l) [
  | inl n ↦
      unreal a b c r strip h i (counts_left a b c (place_at strip i) (place_at strip j) r h.bent h.inner refl
      (rises a c strip i j (slanted a.y c.y _ h.inner) n) h.turned (real a b c r strip h j counts))
  | inr e ↦ subst (CountsAt (arc a b c) r strip) (sym e) counts
]

-- the columns on the arc
only_right : (a b c : Place) (strip : Strip) (end : ℕ) → Bends a b c true strip → IsEndOfCount (arc a b c) true strip end → (k : ℕ)
    → k < strip.stop → IsOnPart a (Some b) c (place_at strip k) → k + 1 ≡ end
only_right a b c strip end h e k l on = by (below_or_not k end) (below_or_not (k + 1) end)
  where
    here : CountsAt (arc a b c) true strip k
    here = unreal a b c true strip h k (on_right a b c (place_at strip k) h.bent on)

    next : ¬ (CountsAt (arc a b c) true strip (k + 1))
    next n = on_right_last a b c (place_at strip k) (place_at strip (k + 1)) h.bent h.inner refl
        (rises a c strip k (k + 1) (slanted a.y c.y _ h.inner) (omega arith)) h.turned on (real a b c true strip h (k + 1) n)

    by : (k < end) ⊎ (end ≤ k) → (k + 1 < end) ⊎ (end ≤ k + 1) → k + 1 ≡ end
    by (inr m) x = absurd (e.outside k m l here)
    by (inl m) (inl n) = absurd (next (e.inside (k + 1) n))
    by (inl m) (inr n) = omega arith

only_left : (a b c : Place) (strip : Strip) (end : ℕ) → Bends a b c false strip → IsEndOfCount (arc a b c) false strip end → (k : ℕ)
    → k < strip.stop → IsOnPart a (Some b) c (place_at strip k) → k ≡ end
only_left a b c strip end h e k l on = by (below_same_above k end)
  where
    here : ¬ (CountsAt (arc a b c) false strip k)
    here n = on_left a b c (place_at strip k) h.bent on (real a b c false strip h k n)

    before : (j : ℕ) → j < k → CountsAt (arc a b c) false strip j
    before j m = unreal a b c false strip h j (on_left_first a b c (place_at strip k) (place_at strip j) h.bent h.inner refl
        (rises a c strip j k (slanted a.y c.y _ h.inner) m) h.turned on)

    by : (k < end) ⊎ ((k ≡ end) ⊎ (end < k)) → k ≡ end
    by (inl m) = absurd (here (e.inside k m))
    by (inr (inl m)) = m
    by (inr (inr m)) = absurd (e.outside end (omega arith) (omega arith) (before end m))

only_last : (a b c : Place) (r : Bool) (strip : Strip) (end : ℕ) → Bends a b c r strip → IsEndOfCount (arc a b c) r strip end
    → (k : ℕ) → k < strip.stop → IsOnPart a (Some b) c (place_at strip k) → IsLast r end k
only_last a b c true strip end h e k l on = only_right a b c strip end h e k l on
only_last a b c false strip end h e k l on = only_left a b c strip end h e k l on

-- ---- for a piece
abbrev pub BendsPart : Place → Option Place → Place → Bool → Strip → Type 0
BendsPart a None c r strip = ⊥
BendsPart a (Some b) c r strip = Bends a b c r strip

abbrev span : Place → Option Place → Place → Span
span a b c = record { a = a; b = b; c = c }

pub bends : (a : Place) (b : Option Place) (c : Place) (r : Bool) (strip : Strip) → IsBentPart a b c
    → IsInner a.y c.y (pos 128 *ℤ strip.row +ℤ pos 64) → IsTurnedPart a b c r → BendsPart a b c r strip
bends a None c r strip bent inner turned = absurd bent
bends a (Some b) c r strip bent inner turned = record { bent = bent; inner = inner; turned = turned }

pub first_part : (a : Place) (b : Option Place) (c : Place) (r : Bool) (strip : Strip) → BendsPart a b c r strip
    → CountsFirst (span a b c) r strip
first_part a None c r strip h = absurd h
first_part a (Some b) c r strip h = counts_first a b c r strip h

pub last_part : (a : Place) (b : Option Place) (c : Place) (r : Bool) (strip : Strip) (end : ℕ) → BendsPart a b c r strip
    → IsEndOfCount (span a b c) r strip end → (k : ℕ) → k < strip.stop → IsOnPart a b c (place_at strip k)
    → IsLast r end k × (gap (span a b c) (place_at strip k) ≡ pos 0)
last_part a None c r strip end h e k l on = absurd h
last_part a (Some b) c r strip end h e k l on = (
  only_last a b c r strip end h e k l on,
  sym (gap_of_weights a b c (place_at strip k) h.bent) ∙ on_gap a b c (place_at strip k) h.bent on,
)

inside_part : (a : Place) (b : Option Place) (c : Place) (r : Bool) (strip : Strip) (k : ℕ) → BendsPart a b c r strip
    → ¬ (IsOnPart a b c (place_at strip k)) → CountsAt (span a b c) r strip k
    → chord_crossing a c (place_at strip k) +ℤ region_part a b c (place_at strip k) ≡ sign (c.y -ℤ a.y)
inside_part a None c r strip k h off counts = absurd h
inside_part a (Some b) c r strip k h off counts =
    value_inside a b c (place_at strip k) r h.bent h.inner h.turned off (real a b c r strip h k counts)

outside_part : (a : Place) (b : Option Place) (c : Place) (r : Bool) (strip : Strip) (k : ℕ) → BendsPart a b c r strip
    → ¬ (IsOnPart a b c (place_at strip k)) → ¬ (CountsAt (span a b c) r strip k)
    → chord_crossing a c (place_at strip k) +ℤ region_part a b c (place_at strip k) ≡ pos 0
outside_part a None c r strip k h off not = absurd h
outside_part a (Some b) c r strip k h off not =
    value_outside a b c (place_at strip k) r h.bent h.inner h.turned off (λ n. not (unreal a b c r strip h k n))

-- the value that a piece has left of it
pub rise_told : (s : Span) (foot head value : ℤ) → IsRise s foot head value → value ≡ rise_value s
rise_told s foot head value h = grind (arith, ints, signed_linear, below_or_not_ℤ s.a.y s.c.y)

sign_told : (s : Span) (y : ℤ) → IsInner s.a.y s.c.y y → rise_value s ≡ sign (s.c.y -ℤ s.a.y)
sign_told s y h = grind (arith, ints, signed_linear, h, sign_above, sign_below)

pub arc_end : (s : Span) (r : Bool) (strip : Strip) (end : ℕ) → BendsPart s.a s.b s.c r strip → IsEndOfCount s r strip end
    → end ≤ strip.stop → IsInner s.a.y s.c.y (pos 128 *ℤ strip.row +ℤ pos 64) → IsStripEnd s strip end
arc_end s r strip end h e within inner = record {
  inside = λ k m o off. inside_part s.a s.b s.c r strip k h off (e.inside k o) ∙ sym (sign_told s _ inner);
  outside = λ k m o off. outside_part s.a s.b s.c r strip k h off (e.outside k o m);
  within = within;
}

-- ---- for a line
pub line_end : (s : Span) (strip : Strip) (end : ℕ) → ¬ (IsBent s) → IsInner s.a.y s.c.y (pos 128 *ℤ strip.row +ℤ pos 64)
    → IsEdge s.a s.c strip end → IsStripEnd s strip end
line_end s strip end flat inner e = record {
  inside = λ k m o off. first_only _ _ _
      (crossing_of_left s.a s.c (place_at strip k) (across s.a.y s.c.y _ inner) (e.left k o) ∙ sym (sign_told s _ inner))
      (no_region_flat s (place_at strip k) flat);
  outside = λ k m o off. both_zero _ _ (crossing_of_rest s.a s.c (place_at strip k) (e.rest k o m))
      (no_region_flat s (place_at strip k) flat);
  within = e.within;
}

-- ---- for a piece whose box has no column's centre in it
pub left_crossing : (a c p : Place) → IsInner a.y c.y p.y → p.x <ℤ a.x → p.x <ℤ c.x → chord_crossing a c p ≡ sign (c.y -ℤ a.y)
left_crossing a c p h i j =
    grind (arith, signed_linear, h, i, j, counted_up, left_of_rising, sign_above, counted_down, left_of_falling, sign_below)

pub right_crossing : (a c p : Place) → a.x <ℤ p.x → c.x <ℤ p.x → chord_crossing a c p ≡ pos 0
right_crossing a c p l m = grind (arith, signed_linear, l, m, crossing_left, right_of_rising, right_of_falling)

pub clear_is_cut : (s : Span) (strip : Strip) (cut : Cut) (first end : ℤ) → AreAcross s first end → end ≤ℤ first
    → IsInner s.a.y s.c.y (pos 128 *ℤ strip.row +ℤ pos 64) → cut.end ≤ strip.stop
    → ((k : ℕ) → k < cut.end → (strip.base +ℤ pos k) <ℤ first)
    → ((k : ℕ) → cut.end ≤ k → k < strip.stop → first ≤ℤ (strip.base +ℤ pos k))
    → cut.on ≡ Nowhere → IsCut s strip cut
clear_is_cut s strip cut first end h clear inner within before rest none = record {
  end = record {
    inside = λ k m o off. first_only _ _ _
        (left_crossing s.a s.c (place_at strip k) inner (left k o s.a (inl refl)) (left k o s.c (inr (inr refl)))
        ∙ sym (sign_told s _ inner))
        (left_off (place_at strip k) s (to_all (λ q. (place_at strip k).x <ℤ q.x) s (left k o))).0;
    outside = λ k m o off. both_zero _ _
        (right_crossing s.a s.c (place_at strip k) (right k o m s.a (inl refl)) (right k o m s.c (inr (inr refl))))
        (right_off (place_at strip k) s (to_all (λ q. q.x <ℤ (place_at strip k).x) s (right k o m))).0;
    within = within;
  };
  on = subst (IsOnStrip s strip) (sym none) (none_on s strip (λ k m. off k m (below_or_not k cut.end)));
}
  where
    left : (k : ℕ) → k < cut.end → (q : Place) → IsPointOf q s → (place_at strip k).x <ℤ q.x
    left k o q i = h.0 (strip.base +ℤ pos k) (before k o) q i

    past : (k : ℕ) → cut.end ≤ k → k < strip.stop → end ≤ℤ (strip.base +ℤ pos k)
    past k o m = let r = rest k o m in omega (arith, signed_linear)

    right : (k : ℕ) → cut.end ≤ k → k < strip.stop → (q : Place) → IsPointOf q s → q.x <ℤ (place_at strip k).x
    right k o m q i = h.1 (strip.base +ℤ pos k) (past k o m) q i

    off : (k : ℕ) → k < strip.stop → (k < cut.end) ⊎ (cut.end ≤ k) → ¬ (IsOn (place_at strip k) s)
    off k m (inl o) = (left_off (place_at strip k) s (to_all (λ q. (place_at strip k).x <ℤ q.x) s (left k o))).1
    off k m (inr o) = (right_off (place_at strip k) s (to_all (λ q. q.x <ℤ (place_at strip k).x) s (right k o m))).1
