-- In a row that is not between its ends a piece meets a segment with no end on it exactly if an end of the piece is within, or its
-- region changes there, or its tip comes between (`met_cases`, `region_met`).
-- Serves the notes of such rows.
use Rattle.std.proofs.Common.{◌≡◌, ◌≢◌, ◌⊎◌, inl, inr, refl, sym, ◌∙◌, subst, ℕ, ◌<◌, ℤ, pos, ◌+ℤ◌, ◌-ℤ◌, ◌*ℤ◌}
use Rattle.std.proofs.Common.{◌≤ℤ◌, ◌<ℤ◌, Option, Some, None, [], ◌∷◌, arith}
use Rattle.std.proofs.lemmas.Int.{ints}
use Rattle.fx_fixed.specs.Polynomial.{var, num, ◌⊞◌, ◌⊠◌, ◌⊟◌}
use Rattle.fx_fixed.proofs.Linear.{signed_linear}
use Rattle.fx_fixed.proofs.Order.{below_or_not_ℤ}
use Rattle.fx_fixed.proofs.Ring.{ring}
use Rattle.fx_fixed.proofs.Signs.{product_above_zero, product_at_least_zero}
use Rattle.fx_winding.specs.Area.{Place, area}
use Rattle.fx_winding.specs.Frames.{IsFrom}
use Rattle.fx_winding.specs.Meets.{turn, IsWithinRow, IsTipPart, IsMet}
use Rattle.fx_winding.specs.Winding.{Span, chord_crossing, region, region_part, IsOn}
use Rattle.fx_winding.specs.declared.frame.Frame.{Frame}
use Rattle.fx_winding.proofs.Crossings.{crossing_number, crossing_level, no_crossing, area_split}
use Rattle.fx_winding.proofs.EndsOn.{first_on, last_on}
use Rattle.fx_winding.proofs.Reversal.{crossing_back}
use Rattle.fx_rows.specs.Parts.{IsRun}
use Rattle.fx_rows.specs.declared.part.Run.{Run}
use Rattle.fx_rows.specs.inner.Lines.{IsRunEnd}
use Rattle.fx_rows.specs.inner.Points.{IsInner, IsRise}
use Rattle.fx_rows.proofs.Signs.{same_or_not}

-- where a value that is one run changes, the run begins or has ended
pub run_changes : (f : ℤ → ℤ) (frame : Frame) (run : Option Run) (k : ℕ) → IsRun f frame run → 0 < k → k < frame.width
    → f ((frame.left -ℤ pos 1) +ℤ pos k) ≢ f (frame.left +ℤ pos k) → IsRunEnd frame run k
run_changes f frame None k h some l n =
    n (h ((frame.left -ℤ pos 1) +ℤ pos k) (omega (arith, signed_linear, some), omega (arith, signed_linear, l))
    ∙ sym (h (frame.left +ℤ pos k) (omega (arith, signed_linear), omega (arith, signed_linear, l))))
run_changes f frame (Some r) k h some l n = by (below_or_not_ℤ y r.first) (below_or_not_ℤ r.last y)
  where
    x : ℤ
    x = (frame.left -ℤ pos 1) +ℤ pos k

    y : ℤ
    y = frame.left +ℤ pos k

    next : x +ℤ pos 1 ≡ y
    next = omega (arith, signed_linear)

    in_x : IsFrom frame.left frame.width x
    in_x = (omega (arith, signed_linear, some), omega (arith, signed_linear, l))

    in_y : IsFrom frame.left frame.width y
    in_y = (omega (arith, signed_linear), omega (arith, signed_linear, l))

    by : (y <ℤ r.first) ⊎ (r.first ≤ℤ y) → (r.last <ℤ y) ⊎ (y ≤ℤ r.last) → (y ≡ r.first) ⊎ (y ≡ r.last +ℤ pos 1)
    by (inl a) b = absurd (n (h.outside x in_x (inl (omega (arith, signed_linear, a, next))) ∙ sym (h.outside y in_y (inl a))))
    by (inr a) (inr b) = first (below_or_not_ℤ x r.first)
      where
        first : (x <ℤ r.first) ⊎ (r.first ≤ℤ x) → (y ≡ r.first) ⊎ (y ≡ r.last +ℤ pos 1)
        first (inl c) = inl (omega (arith, signed_linear, a, c, next))
        first (inr c) = absurd (n (h.inside x c (omega (arith, signed_linear, b, next)) ∙ sym (h.inside y a b)))
    by (inr a) (inl b) = last (below_or_not_ℤ r.last x)
      where
        last : (r.last <ℤ x) ⊎ (x ≤ℤ r.last) → (y ≡ r.first) ⊎ (y ≡ r.last +ℤ pos 1)
        last (inl c) = absurd (n (h.outside x in_x (inr c) ∙ sym (h.outside y in_y (inr b))))
        last (inr c) = inr (omega (arith, signed_linear, b, c, next))

-- and it changes where a run begins or has ended
pub run_ends : (f : ℤ → ℤ) (frame : Frame) (run : Option Run) (k : ℕ) → IsRun f frame run → 0 < k → k < frame.width
    → IsRunEnd frame run k → f ((frame.left -ℤ pos 1) +ℤ pos k) ≢ f (frame.left +ℤ pos k)
run_ends f frame None k h some l e same = absurd e
run_ends f frame (Some r) k h some l (inl e) same =
    let o = h.order in
    h.counts (sym (h.inside _ (omega (arith, signed_linear, e)) (omega (arith, signed_linear, e, o))) ∙ sym same ∙ h.outside _
    (omega (arith, signed_linear, some), omega (arith, signed_linear, l)) (inl (omega (arith, signed_linear, e))))
run_ends f frame (Some r) k h some l (inr e) same =
    let o = h.order in
    h.counts (sym (h.inside _ (omega (arith, signed_linear, e, o)) (omega (arith, signed_linear, e))) ∙ same ∙ h.outside _
    (omega (arith, signed_linear), omega (arith, signed_linear, l)) (inr (omega (arith, signed_linear, e))))

-- ---- a row that is not between the ends
abbrev IsBesideEnds : ℤ → ℤ → ℤ → Type 0
IsBesideEnds a c y = ((y ≤ℤ a) × (y ≤ℤ c)) ⊎ ((a ≤ℤ y) × (c ≤ℤ y))

beside_ends : (a c y : ℤ) → ¬ (IsInner a c y) → IsBesideEnds a c y
beside_ends a c y n =
    grind (arith, signed_linear, n, below_or_not_ℤ a y, below_or_not_ℤ y a, below_or_not_ℤ c y, below_or_not_ℤ y c)

-- ---- two places of such a row
counted : (ay cy y s : ℤ) → ay ≤ℤ y → y <ℤ cy → pos 0 <ℤ s → crossing_number ay cy y s ≡ pos 1
counted ay cy y s h l k = grind (arith, ints)

-- the chord is crossed at one alone: the end that is on the row is between them, or at the second
from_foot : (a c p q : Place) → p.y ≡ q.y → a.y ≡ p.y → p.y <ℤ c.y → p.x <ℤ q.x → chord_crossing a c p ≢ chord_crossing a c q
    → (p.x <ℤ a.x) × (a.x ≤ℤ q.x)
from_foot a c p q row foot under less n = by (below_or_not_ℤ p.x a.x) (below_or_not_ℤ q.x a.x)
  where
    side : (t : Place) → a.y ≡ t.y → area a c t ≡ (c.y -ℤ t.y) *ℤ (a.x -ℤ t.x)
    side t e = area_split a.x a.y c.x c.y t.x t.y
        ∙ (λ i. (c.y -ℤ t.y) *ℤ (a.x -ℤ t.x) +ℤ (t.y -ℤ e i) *ℤ (c.x -ℤ t.x))
        ∙ ring (c.y ∷ t.y ∷ a.x ∷ t.x ∷ c.x ∷ []) ((var 0 ⊟ var 1) ⊠ (var 2 ⊟ var 3) ⊞ (var 1 ⊟ var 1) ⊠ (var 4 ⊟ var 3))
        ((var 0 ⊟ var 1) ⊠ (var 2 ⊟ var 3)) tt

    left : (t : Place) → a.y ≡ t.y → t.y <ℤ c.y → t.x <ℤ a.x → chord_crossing a c t ≡ pos 1
    left t e l h =
        let m = product_above_zero (c.y -ℤ t.y) (a.x -ℤ t.x) (omega (arith, signed_linear, l)) (omega (arith, signed_linear, h)) in
        let s : pos 0 <ℤ area a c t = rw (side t e) m in
        counted a.y c.y t.y (area a c t) (omega (arith, signed_linear, e)) l s

    right : (t : Place) → a.y ≡ t.y → t.y <ℤ c.y → a.x ≤ℤ t.x → chord_crossing a c t ≡ pos 0
    right t e l h =
        let m = product_at_least_zero (c.y -ℤ t.y) (t.x -ℤ a.x) (omega (arith, signed_linear, l))
        (omega (arith, signed_linear, h)) in
        let f : (c.y -ℤ t.y) *ℤ (a.x -ℤ t.x) ≡ pos 0 -ℤ (c.y -ℤ t.y) *ℤ (t.x -ℤ a.x) =
        ring (c.y ∷ t.y ∷ a.x ∷ t.x ∷ []) ((var 0 ⊟ var 1) ⊠ (var 2 ⊟ var 3))
        (num (pos 0) ⊟ (var 0 ⊟ var 1) ⊠ (var 3 ⊟ var 2)) tt in
        let s = side t e in
        no_crossing a.y c.y t.y (area a c t) (inr (inr (omega (arith, signed_linear, s, f, m)))) (inl l)

    by : (p.x <ℤ a.x) ⊎ (a.x ≤ℤ p.x) → (q.x <ℤ a.x) ⊎ (a.x ≤ℤ q.x) → (p.x <ℤ a.x) × (a.x ≤ℤ q.x)
    by (inl h) (inr l) = (h, l)
    by (inl h) (inl l) = absurd (n (left p foot under h ∙ sym (left q (foot ∙ row) (omega (arith, signed_linear, under, row)) l)))
    by (inr h) l = absurd (n (right p foot under h
        ∙ sym (right q (foot ∙ row) (omega (arith, signed_linear, under, row)) (omega (arith, signed_linear, h, less)))))

-- such an end is between places that are not on the piece
end_within : (s : Span) (e p q : Place) → (e ≡ s.a) ⊎ (e ≡ s.c) → p.y ≡ q.y → e.y ≡ p.y → (p.x <ℤ e.x) × (e.x ≤ℤ q.x)
    → ¬ (IsOn q s) → IsWithinRow p q e
end_within s e p q end row level at off = elim (below_or_not_ℤ e.x q.x) [
  | inl l ↦ record { level = level; after = at.0; before = l }
  | inr l ↦
      let x : e.x ≡ q.x = let o = at.1 in omega (arith, signed_linear, l, o) in
      let here : e ≡ q = λ i. record { x = x i; y = (level ∙ row) i } in
      absurd (off (subst (λ t. IsOn t s) here (elim end [
        | inl f ↦ subst (λ t. IsOn t s) (sym f) (first_on s)
        | inr f ↦ subst (λ t. IsOn t s) (sym f) (last_on s)
      ])))
]

crossed : (s : Span) (p q : Place) → p.y ≡ q.y → p.x <ℤ q.x → ¬ (IsInner s.a.y s.c.y p.y) → ¬ (IsOn q s)
    → chord_crossing s.a s.c p ≢ chord_crossing s.a s.c q → IsWithinRow p q s.a ⊎ IsWithinRow p q s.c
crossed s p q row less out off n = by (beside_ends s.a.y s.c.y p.y out) (below_or_not_ℤ p.y s.a.y) (below_or_not_ℤ p.y s.c.y)
  where
    turned : chord_crossing s.c s.a p ≢ chord_crossing s.c s.a q
    turned e = let a = crossing_back s.a s.c p in let b = crossing_back s.a s.c q in n (omega (arith, signed_linear, a, b, e))

    none : (t : Place) → t.y ≡ p.y → ((s.a.y ≤ℤ p.y) × (s.c.y ≤ℤ p.y)) ⊎ ((p.y <ℤ s.a.y) × (p.y <ℤ s.c.y))
        → chord_crossing s.a s.c t ≡ pos 0
    none t e (inl h) = no_crossing s.a.y s.c.y t.y (area s.a s.c t) (inr (inl (omega (arith, signed_linear, h, e))))
        (inr (inl (omega (arith, signed_linear, h, e))))
    none t e (inr h) =
        crossing_level s.a.y s.c.y t.y (area s.a s.c t) (omega (arith, signed_linear, h, e), omega (arith, signed_linear, h, e))

    by : IsBesideEnds s.a.y s.c.y p.y → (p.y <ℤ s.a.y) ⊎ (s.a.y ≤ℤ p.y) → (p.y <ℤ s.c.y) ⊎ (s.c.y ≤ℤ p.y)
        → IsWithinRow p q s.a ⊎ IsWithinRow p q s.c
    by (inr h) x y = absurd (n (none p refl (inl h) ∙ sym (none q (sym row) (inl h))))
    by (inl h) (inl x) (inl y) = absurd (n (none p refl (inr (x, y)) ∙ sym (none q (sym row) (inr (x, y)))))
    by (inl h) (inr x) (inl y) =
        let e : s.a.y ≡ p.y = let l = h.0 in omega (arith, signed_linear, l, x) in
        inl (end_within s s.a p q (inl refl) row e (from_foot s.a s.c p q row e y less n) off)
    by (inl h) (inl x) (inr y) =
        let e : s.c.y ≡ p.y = let l = h.1 in omega (arith, signed_linear, l, y) in
        inr (end_within s s.c p q (inr refl) row e (from_foot s.c s.a p q row e x less turned) off)
    by (inl h) (inr x) (inr y) = absurd (n (none p refl (inl (x, y)) ∙ sym (none q (sym row) (inl (x, y)))))

-- ---- a segment that is met
pub met_cases : (s : Span) (p q : Place) → p.y ≡ q.y → p.x <ℤ q.x → ¬ (IsInner s.a.y s.c.y p.y) → ¬ (IsOn q s) → IsMet p q s
    → IsWithinRow p q s.a ⊎ (IsWithinRow p q s.c ⊎ (region p s ≢ region q s ⊎ IsTipPart s.a s.b s.c p q))
met_cases s p q row less out off met = by met
  where
    changes : turn p s ≢ turn q s
        → (chord_crossing s.a s.c p ≡ chord_crossing s.a s.c q) ⊎ (chord_crossing s.a s.c p ≢ chord_crossing s.a s.c q)
        → IsWithinRow p q s.a ⊎ (IsWithinRow p q s.c ⊎ (region p s ≢ region q s ⊎ IsTipPart s.a s.b s.c p q))
    changes n (inr c) = elim (crossed s p q row less out off c) [ inl h ↦ inl h | inr h ↦ inr (inl h) ]
    changes n (inl e) = inr (inr (inl (λ f. n (λ i. e i +ℤ f i))))

    by : IsMet p q s
        → IsWithinRow p q s.a ⊎ (IsWithinRow p q s.c ⊎ (region p s ≢ region q s ⊎ IsTipPart s.a s.b s.c p q))
    by (inl h) = inl h
    by (inr (inl h)) = inr (inl h)
    by (inr (inr (inl n))) = changes n (same_or_not (chord_crossing s.a s.c p) (chord_crossing s.a s.c q))
    by (inr (inr (inr tip))) = inr (inr (inr tip))

pub region_met : (s : Span) (p q : Place) → p.y ≡ q.y → p.x <ℤ q.x → ¬ (IsInner s.a.y s.c.y p.y) → ¬ (IsOn q s)
    → region p s ≢ region q s → IsMet p q s
region_met s p q row less out off n = elim (same_or_not (chord_crossing s.a s.c p) (chord_crossing s.a s.c q)) [
  | inl e ↦ inr (inr (inl (λ t. n (omega (arith, signed_linear, e, t)))))
  | inr c ↦ elim (crossed s p q row less out off c) [ inl h ↦ inl h | inr h ↦ inr (inl h) ]
]

-- ---- tips
-- the ends of a segment within the frame are columns of it
pub left_in : (f : Frame) (k : ℕ) → 0 < k → k < f.width → IsFrom f.left f.width ((f.left -ℤ pos 1) +ℤ pos k)
left_in f k o l = (omega (arith, signed_linear, o), omega (arith, signed_linear, l))

-- the row of a tip is above both ends of the arc, or below both
tip_beyond : (a : Place) (b : Option Place) (c p q : Place) → IsTipPart a b c p q
    → ((a.y <ℤ p.y) × (c.y <ℤ p.y)) ⊎ ((p.y <ℤ a.y) × (p.y <ℤ c.y))
tip_beyond a None c p q t = absurd t
tip_beyond a (Some b) c p q t = elim t.reached [ inl h ↦ inl (h.0, h.1) | inr h ↦ inr (h.0, h.1) ]

pub among_no_tip : (s : Span) (foot head value : ℤ) (p q : Place) → IsRise s foot head value → foot ≤ℤ p.y → p.y ≤ℤ head
    → ¬ (IsTipPart s.a s.b s.c p q)
among_no_tip s foot head value p q rise low high tip =
    let beyond = tip_beyond s.a s.b s.c p q tip in
    grind (arith, signed_linear, rise, low, high, beyond, below_or_not_ℤ s.a.y s.c.y)

-- a tip comes after a place that is not in the region
pub tip_outside : (a : Place) (b : Option Place) (c p q : Place) → IsTipPart a b c p q → region_part a b c p ≡ pos 0
tip_outside a None c p q t = absurd t
tip_outside a (Some b) c p q t = t.outside
