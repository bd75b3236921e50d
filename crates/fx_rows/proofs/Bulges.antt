-- All segments that a piece meets in a row that is not between its ends are noted (`row_set`), in the rows of a band
-- (`others_across`), and in all rows of a frame (`all_rows_set`). It misses the rows that it cannot touch.
-- Serves those who note segments.
use Rattle.std.proofs.Common.{◌↔◌, IsTrue, Bool, false, ◌≡◌, ◌⊎◌, inl, inr, refl, sym, subst, ℕ, ◌+◌, ◌*◌, ◌<◌, ◌≤◌, ℤ, pos, ◌+ℤ◌, ◌-ℤ◌, ◌*ℤ◌}
use Rattle.std.proofs.Common.{◌≤ℤ◌, ◌<ℤ◌, List, arith}
use Rattle.fx_fixed.proofs.Linear.{signed, signed_linear}
use Rattle.fx_fixed.proofs.Order.{below_or_not, below_same_above, below_or_not_ℤ}
use Rattle.fx_winding.specs.Area.{place}
use Rattle.fx_winding.specs.Meets.{IsWithinRow, IsTipPart, IsMet}
use Rattle.fx_winding.specs.Winding.{Span, IsOn, region, centre}
use Rattle.fx_winding.specs.declared.frame.Frame.{Frame}
use Rattle.fx_winding.proofs.EndsOn.{first_on, last_on}
use Rattle.fx_winding.proofs.Aside.{left_not_met, right_not_met}
use Rattle.fx_winding.proofs.Places.{clash}
use Rattle.fx_winding.specs.Bitmaps.{words_for, word_bit}
use Rattle.fx_winding.specs.Turned.{turned_span}
use Rattle.fx_winding.specs.Notes.{pixel_number, IsMetAcross, IsNotedAcross, IsNotedUp}
use Rattle.fx_rows.specs.inner.Bulging.{HasLine, IsBeyond}
use Rattle.fx_rows.specs.inner.Heights.{height_of, IsAbove, IsBelow, IsMissed}
use Rattle.fx_rows.specs.declared.heights.RowRange.{RowRange}
use Rattle.fx_rows.specs.inner.Placing.{AreBetween}
use Rattle.fx_rows.specs.inner.Points.{AreAcross, IsInner}
use Rattle.fx_rows.specs.inner.Told.{AreKept}
use Rattle.fx_rows.proofs.Missed.{row_unmet}
use Rattle.fx_rows.proofs.Kept.{rows_three}
use Rattle.fx_rows.proofs.MetRuns.{met_cases, region_met, run_changes, run_ends}
use Rattle.fx_rows.proofs.Points.{to_all}
use Rattle.fx_rows.specs.Parts.{IsRowPart}
use Rattle.fx_rows.specs.declared.part.RowPart.{RowPart}
use Rattle.fx_rows.proofs.Telling.{outside_below, outside_above}
use Rattle.fx_rows.specs.inner.Lines.{left_at, right_at, IsMetTo, IsMetToUnlessOn, IsRunEnd, IsSetTo, AreSetIn}
use Rattle.fx_rows.specs.inner.Runs.{IsSplit}
use Rattle.fx_rows.proofs.Turned.{on_turned}

-- ---- the ends of the frame
in_order : (f : Frame) (row : ℤ) (k : ℕ) → (left_at f row k).x ≤ℤ (right_at f row k).x
in_order f row k =
    let l : (pos 128 *ℤ ((f.left -ℤ pos 1) +ℤ pos k) +ℤ pos 64) ≤ℤ (pos 128 *ℤ (f.left +ℤ pos k) +ℤ pos 64) =
    omega (arith, signed) in l

pub met_first : (s : Span) (f : Frame) (first end row : ℤ) (k : ℕ) → AreAcross s first end → IsMetTo s f row k
    → first ≤ℤ (f.left +ℤ pos k)
met_first s f first end row k h m = elim (below_or_not_ℤ (f.left +ℤ pos k) first) [
  | inl l ↦
      absurd (right_not_met (left_at f row k) (right_at f row k) s refl (in_order f row k)
      (to_all (λ q. (right_at f row k).x <ℤ q.x) s (h.0 (f.left +ℤ pos k) l)) m)
  | inr l ↦ l
]

pub met_last : (s : Span) (f : Frame) (first end row : ℤ) (k : ℕ) → AreAcross s first end → IsMetTo s f row k
    → ((f.left -ℤ pos 1) +ℤ pos k) <ℤ end
met_last s f first end row k h m = elim (below_or_not_ℤ ((f.left -ℤ pos 1) +ℤ pos k) end) [
  | inl l ↦ l
  | inr l ↦
      absurd (left_not_met (left_at f row k) (right_at f row k) s (in_order f row k)
      (to_all (λ q. q.x <ℤ (left_at f row k).x) s (h.1 ((f.left -ℤ pos 1) +ℤ pos k) l)) m)
]

-- ---- a whole row
-- all segments of a row that is not between the ends of a piece, by what that adds to it
pub row_set : (s : Span) (f : Frame) (row : ℤ) (part : RowPart) (first step : ℕ) (bits : List ℕ) → IsRowPart s row f part
    → ¬ (IsInner s.a.y s.c.y (pos 128 *ℤ row +ℤ pos 64))
    → ((k : ℕ) → k ≤ f.width → 0 < k → k < f.width → IsRunEnd f part.region k → IsSetTo s f row first step bits k)
    → ((k : ℕ) → k ≤ f.width → IsWithinRow (left_at f row k) (right_at f row k) s.a → IsSetTo s f row first step bits k)
    → ((k : ℕ) → k ≤ f.width → IsWithinRow (left_at f row k) (right_at f row k) s.c → IsSetTo s f row first step bits k)
    → ((k : ℕ) → k ≤ f.width → 0 < k → k < f.width → IsTipPart s.a s.b s.c (left_at f row k) (right_at f row k)
    → IsSetTo s f row first step bits k)
    → ((k : ℕ) → k ≤ f.width → k ≡ 0 → IsSetTo s f row first step bits k)
    → ((k : ℕ) → k ≤ f.width → k ≡ f.width → IsSetTo s f row first step bits k) → (k : ℕ) → k ≤ f.width
    → IsSetTo s f row first step bits k
row_set s f row part first step bits is out regions at_a at_c tip left right k l off off' met =
    by (below_same_above k 0) (below_same_above k f.width)
  where
    less : (left_at f row k).x <ℤ (right_at f row k).x
    less = omega (arith, signed)

    inner : 0 < k → k < f.width → word_bit bits (first + k * step) ≡ 1
    inner o m = elim (met_cases s (left_at f row k) (right_at f row k) refl less out off' met) [
      | inl h ↦ at_a k l h off off' met
      | inr (inl h) ↦ at_c k l h off off' met
      | inr (inr (inl n)) ↦
          regions k l o m (run_changes (λ col. region (centre col row) s) f part.region k is.regions o m n) off off' met
      | inr (inr (inr h)) ↦ tip k l o m h off off' met
    ]

    by : (k < 0) ⊎ ((k ≡ 0) ⊎ (0 < k)) → (k < f.width) ⊎ ((k ≡ f.width) ⊎ (f.width < k)) → word_bit bits (first + k * step) ≡ 1
    by (inl o) m = absurd (omega (arith, o))
    by (inr (inl e)) m = left k l e off off' met
    by (inr (inr o)) (inl m) = inner o m
    by (inr (inr o)) (inr (inl e)) = right k l e off off' met
    by (inr (inr o)) (inr (inr m)) = absurd (omega (arith, m, l))

-- it meets the segments at the ends of the run of its region
pub run_met : (s : Span) (f : Frame) (row : ℤ) (part : RowPart) (k : ℕ) → IsRowPart s row f part
    → ¬ (IsInner s.a.y s.c.y (pos 128 *ℤ row +ℤ pos 64)) → 0 < k → k < f.width → IsRunEnd f part.region k
    → IsMetToUnlessOn s f row k
run_met s f row part k is out o l e off off' =
    region_met s (left_at f row k) (right_at f row k) refl (omega (arith, signed)) out off'
    (run_ends (λ col. region (centre col row) s) f part.region k is.regions o l e)

pub set_kept : (s : Span) (f : Frame) (row : ℤ) (first step k : ℕ) (a b : List ℕ) → AreKept a b → IsSetTo s f row first step a k
    → IsSetTo s f row first step b k
set_kept s f row first step k a b kept h off off' met = kept (first + k * step) (h off off' met)

-- ---- rows and columns of notes
-- a row that a piece misses
across_unmet : (s : Span) (f : Frame) (r k : ℕ) → IsMissed s (height_of f r) → ¬ (IsMetAcross s f r k)
across_unmet s f r k h m = row_unmet s ((f.left -ℤ pos 1) +ℤ pos k) (f.left +ℤ pos k) (f.bottom +ℤ pos r) h m.met

-- the rows of a band between a piece's ends are noted, and the others unless it misses them
pub others_across : (s : Span) (f : Frame) (from to : ℕ) (part : RowRange) (bits : List ℕ) → AreBetween s f from to part
    → ((r : ℕ) → from ≤ r → r < to → ¬ (IsInner s.a.y s.c.y (height_of f r)) → ¬ (IsMissed s (height_of f r))
    → IsNotedAcross s f bits r) → ((r : ℕ) → part.first ≤ r → r < part.end → IsNotedAcross s f bits r) → (r : ℕ) → from ≤ r
    → r < to → IsNotedAcross s f bits r
others_across s f from to part bits is others inner r l m = by (below_or_not r part.first) (below_or_not r part.end)
  where
    other : ¬ (IsInner s.a.y s.c.y (height_of f r)) → IsNotedAcross s f bits r
    other n k w met = others r l m n (λ missed. across_unmet s f r k missed met) k w met

    by : (r < part.first) ⊎ (part.first ≤ r) → (r < part.end) ⊎ (part.end ≤ r) → IsNotedAcross s f bits r
    by (inl o) x = other (outside_below s f from to part is r l o)
    by (inr o) (inl x) = inner r o x
    by (inr o) (inr x) = other (outside_above s f from to part is r x m)

pub across_set : (s : Span) (f : Frame) (r : ℕ) (bits : List ℕ) → AreSetIn s f r (r * (32 * words_for f.width)) 1 bits
    → IsNotedAcross s f bits r
across_set s f r bits h k m met = grind (arith, signed_linear, h, k, m, met)

pub up_set : (s : Span) (f g : Frame) (bits : List ℕ) → g.left ≡ f.bottom → g.bottom ≡ f.left → g.width ≡ f.height
    → g.height ≡ f.width
    → ((r : ℕ) → 0 ≤ r → r < g.height → AreSetIn (turned_span s) g r (r * 1) (32 * words_for f.width) bits)
    → (r : ℕ) → r ≤ f.height → IsNotedUp s f bits r
up_set s f g bits el eb ew eh h r l k m met =
    let e : k * 1 + r * (32 * words_for f.width) ≡ pixel_number f r k = omega arith in
    subst (λ (n : ℕ). word_bit bits n ≡ 1) e (h k (omega arith) (subst (λ (n : ℕ). k < n) (sym eh) m) r
    (subst (λ (n : ℕ). r ≤ n) (sym ew) l)
    (record {
      met = subst (λ z. z) (λ i. IsMet (centre ((sym el i -ℤ pos 1) +ℤ pos r) (sym eb i +ℤ pos k))
          (centre (sym el i +ℤ pos r) (sym eb i +ℤ pos k)) (turned_span s)) met.met;
      off_left = λ on. met.off_lower (on_turned (centre (f.left +ℤ pos k) ((f.bottom -ℤ pos 1) +ℤ pos r)) s
          (subst (λ z. z) (λ i. IsOn (centre ((el i -ℤ pos 1) +ℤ pos r) (eb i +ℤ pos k)) (turned_span s)) on));
      off_right = λ on. met.off_upper (on_turned (centre (f.left +ℤ pos k) (f.bottom +ℤ pos r)) s
          (subst (λ z. z) (λ i. IsOn (centre (el i +ℤ pos r) (eb i +ℤ pos k)) (turned_span s)) on));
    }))

-- ---- the segment that x is within, by the first column of a row's strip that is not left of x
pub segment_ended : (f : Frame) (x row col base : ℤ) (stop n : ℕ) → base ≡ f.left -ℤ pos 1 → stop ≡ f.width + 2
    → ((j : ℤ) → j <ℤ col → (pos 128 *ℤ j +ℤ pos 64) <ℤ x) → ((j : ℤ) → col ≤ℤ j → x ≤ℤ (pos 128 *ℤ j +ℤ pos 64))
    → IsSplit (λ k. (base +ℤ pos k) <ℤ col) (λ k. col ≤ℤ (base +ℤ pos k)) stop n
    → ((k : ℕ) → k ≤ f.width → k + 1 ≡ n → ((left_at f row k).x <ℤ x) × (x ≤ℤ (right_at f row k).x))
    × ((k : ℕ) → k ≤ f.width → (left_at f row k).x <ℤ x → x <ℤ (right_at f row k).x → k + 1 ≡ n)
segment_ended f x row col base stop n eb es before from is = (
  λ k l e.
      let a = before ((f.left -ℤ pos 1) +ℤ pos k) (let b = is.below k (omega (arith, e)) in omega (arith, signed_linear, b, eb)) in
      let b = is.rest (k + 1) (omega (arith, e)) (omega (arith, es, l)) in
      let c = from (f.left +ℤ pos k) (omega (arith, signed_linear, b, eb)) in
      (a, c),
  λ k l after over. by k l after over (below_same_above (k + 1) n),
)
  where
    by : (k : ℕ) → k ≤ f.width → (left_at f row k).x <ℤ x → x <ℤ (right_at f row k).x → (k + 1 < n) ⊎ ((k + 1 ≡ n) ⊎ (n < k + 1))
        → k + 1 ≡ n
    by k l after over (inr (inl e)) = e
    by k l after over (inl h) =
        let a = before (f.left +ℤ pos k) (let b = is.below (k + 1) h in omega (arith, signed_linear, b, eb)) in
        absurd (omega (arith, signed_linear, a, over))
    by k l after over (inr (inr h)) =
        let b = is.rest k (omega (arith, h)) (omega (arith, es, l)) in
        let a = from ((f.left -ℤ pos 1) +ℤ pos k) (omega (arith, signed_linear, b, eb)) in
        absurd (omega (arith, signed_linear, a, after))

-- an end of a piece up to the right end of a segment is within that, or on its right end
pub end_met : (s : Span) (f : Frame) (row : ℤ) (k : ℕ) (x y : ℤ) → (place x y ≡ s.a) ⊎ (place x y ≡ s.c)
    → y ≡ pos 128 *ℤ row +ℤ pos 64 → (left_at f row k).x <ℤ x → x ≤ℤ (right_at f row k).x → IsMetToUnlessOn s f row k
end_met s f row k x y end level low high p q = elim (below_or_not_ℤ x (right_at f row k).x) [
  | inl l ↦
      let w : IsWithinRow (left_at f row k) (right_at f row k) (place x y) = record { level = level; after = low; before = l } in
      elim end [
        | inl e ↦ inl (subst (IsWithinRow (left_at f row k) (right_at f row k)) e w)
        | inr e ↦ inr (inl (subst (IsWithinRow (left_at f row k) (right_at f row k)) e w))
      ]
  | inr m ↦
      let at : x ≡ (right_at f row k).x = omega (arith, signed_linear, high, m) in
      let here : place x y ≡ right_at f row k = λ i. place (at i) (level i) in
      absurd (q (subst (λ t. IsOn t s) here (elim end [
        | inl e ↦ subst (λ t. IsOn t s) (sym e) (first_on s)
        | inr e ↦ subst (λ t. IsOn t s) (sym e) (last_on s)
      ])))
]

pub set_in : (s : Span) (f : Frame) (r first step : ℕ) (bits : List ℕ)
    → ((k : ℕ) → k ≤ f.width → IsSetTo s f (f.bottom +ℤ pos r) first step bits k) → AreSetIn s f r first step bits
set_in s f r first step bits h k l met = h k l met.off_left met.off_right met.met

pub in_kept : (s : Span) (f : Frame) (r first step : ℕ) (a b : List ℕ) → AreKept a b → AreSetIn s f r first step a
    → AreSetIn s f r first step b
in_kept s f r first step a b kept h k l met = kept (first + k * step) (h k l met)

-- the rows that a piece can touch are noted, and it misses the others
pub all_rows_set : (s : Span) (f : Frame) (from low high to row_step step : ℕ) (bits : List ℕ)
    → ((r : ℕ) → from ≤ r → r < low → IsAbove s (height_of f r))
    → ((r : ℕ) → high ≤ r → r < to → IsBelow s (height_of f r))
    → ((r : ℕ) → low ≤ r → r < high → AreSetIn s f r (r * row_step) step bits)
    → (r : ℕ) → from ≤ r → r < to → AreSetIn s f r (r * row_step) step bits
all_rows_set s f from low high to row_step step bits below above h = rows_three (λ r. AreSetIn s f r (r * row_step) step bits)
    from low high to (λ r l m k w met. absurd (across_unmet s f r k (inl (below r l m)) met)) h
    (λ r l m k w met. absurd (across_unmet s f r k (inr (above r l m)) met))

-- ---- two tests, of which the first failed
pub or_else : {A B : Type 0} (r t : Bool) → r ≡ false → (IsTrue r ↔ A) → (IsTrue t ↔ B) → IsTrue t ↔ (A ⊎ B)
or_else r t e x y = (λ h. inr (y.0 h), λ h. elim h [ inl a ↦ absurd (clash r e (x.1 a)) | inr b ↦ y.1 b ])

-- ---- a line of centres
-- the first one from x on comes before the first one past y
pub line_found : (x y n m : ℤ) → x ≤ℤ (pos 128 *ℤ n +ℤ pos 64)
    → ((j : ℤ) → j <ℤ m → (pos 128 *ℤ j +ℤ pos 64) <ℤ (y +ℤ pos 1)) → n <ℤ m → HasLine x y
line_found x y n m from before l = grind (arith, signed_linear, from, before, l)

pub line_lost : (x y n m : ℤ) → ((j : ℤ) → j <ℤ n → (pos 128 *ℤ j +ℤ pos 64) <ℤ x)
    → ((j : ℤ) → m ≤ℤ j → (y +ℤ pos 1) ≤ℤ (pos 128 *ℤ j +ℤ pos 64)) → HasLine x y → n <ℤ m
line_lost x y n m before from h = grind (arith, signed_linear, below_or_not_ℤ h.line n, below_or_not_ℤ h.line m)

pub line_same : (r : Bool) {x y x' y' : ℤ} → x ≡ x' → y ≡ y' → (IsTrue r ↔ HasLine x y) → IsTrue r ↔ HasLine x' y'
line_same r e f h = subst (λ z. z) (λ i. IsTrue r ↔ HasLine (e i) (f i)) h

pub beyond_same : (r : Bool) {a b c a' b' c' : ℤ} → a ≡ a' → b ≡ b' → c ≡ c' → (IsTrue r ↔ IsBeyond a b c)
    → IsTrue r ↔ IsBeyond a' b' c'
beyond_same r e f g h = subst (λ z. z) (λ i. IsTrue r ↔ IsBeyond (e i) (f i) (g i)) h
