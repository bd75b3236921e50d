-- In a row between its ends a piece meets one segment at most, the one before the end of its cut: `met_end`.
-- In a strip with one column more on each side of the frame it is the one before the end (`strip_met`).
-- Serves `note_across`, and the cuts of rows that are noted.
use Rattle.std.proofs.Common.{◌≡◌, ◌⊎◌, inl, inr, sym, ap, ◌∙◌, subst, ℕ, zero, suc, ◌-◌, ◌<◌, ◌≤◌, ℤ, pos, ◌+ℤ◌, ◌-ℤ◌}
use Rattle.std.proofs.Common.{◌≤ℤ◌, ◌<ℤ◌, ◌*ℤ◌, ◌≢◌, ◌+◌, ◌↔◌, List, length, slice_index_or, arith}
use Rattle.fx_fixed.proofs.Order.{below_or_not, below_same_above}
use Rattle.fx_fixed.proofs.Linear.{signed_linear}
use Rattle.std.proofs.lemmas.Int.{ints}
use Rattle.fx_winding.specs.declared.frame.Frame.{Frame}
use Rattle.fx_winding.specs.Area.{Place}
use Rattle.fx_winding.specs.Meets.{turn, IsMet}
use Rattle.fx_winding.specs.Notes.{IsMetAcross}
use Rattle.fx_winding.specs.Winding.{Span, centre, IsOn}
use Rattle.fx_winding.proofs.Meeting.{inner_meets}
use Rattle.fx_winding.proofs.Turning.{right_of_all, beside_turn}
use Rattle.fx_rows.specs.declared.piece_in_band.PieceInBand.{PieceInBand}
use Rattle.fx_rows.specs.declared.strip.Strip.{Strip}
use Rattle.fx_rows.specs.inner.Cuts.{IsStripEnd}
use Rattle.fx_rows.specs.inner.Heights.{height_of}
use Rattle.fx_rows.specs.inner.Lines.{left_at, right_at, IsMetTo}
use Rattle.fx_rows.specs.inner.Placing.{AreEndsTold, IsInBand}
use Rattle.fx_rows.specs.inner.Points.{IsInner, AreAcross}
use Rattle.fx_rows.specs.inner.Sides.{place_at}
use Rattle.fx_rows.specs.inner.Told.{rise_value, IsEnd}
use Rattle.fx_rows.proofs.Points.{to_all}

-- the ends of the segment between a pixel and its left neighbour
abbrev left_end : Frame → ℕ → ℕ → Place
left_end f r k = centre ((f.left -ℤ pos 1) +ℤ pos k) (f.bottom +ℤ pos r)

abbrev right_end : Frame → ℕ → ℕ → Place
right_end f r k = centre (f.left +ℤ pos k) (f.bottom +ℤ pos r)

-- ---- the one segment of a row between the ends
-- what the piece adds at the left end of a segment that goes to a column before the row's end, or to the end
left_of_end : (s : Span) (f : Frame) (first end : ℤ) (r n k : ℕ) → AreAcross s first end → f.left ≤ℤ first
    → IsInner s.a.y s.c.y (height_of f r) → IsEnd s f r n → k ≤ n → ¬ (IsOn (left_end f r k) s)
    → turn (left_end f r k) s ≡ rise_value s
left_of_end s f first end r n zero h l inner is m off =
    beside_turn (left_end f r zero) s inner (to_all (λ q. (left_end f r zero).x <ℤ q.x) s
    (h.0 ((f.left -ℤ pos 1) +ℤ pos zero) (omega (arith, signed_linear, l))))
left_of_end s f first end r n (suc j) h l inner is m off =
    let e : (f.left -ℤ pos 1) +ℤ pos (suc j) ≡ f.left +ℤ pos j = omega (arith, signed_linear) in
    let same : left_end f r (suc j) ≡ right_end f r j = λ i. centre (e i) (f.bottom +ℤ pos r) in
    ap (λ (q : Place). turn q s) same
    ∙ is.left j (omega (arith, m)) (subst (λ (q : Place). ¬ (IsOn q s)) same off)

-- and at the left end of one that goes to a column after the row's end
left_past_end : (s : Span) (f : Frame) (r n k : ℕ) → IsEnd s f r n → n < k → k ≤ f.width → ¬ (IsOn (left_end f r k) s)
    → turn (left_end f r k) s ≡ pos 0
left_past_end s f r n zero is l m off = absurd (omega (arith, l))
left_past_end s f r n (suc j) is l m off =
    let e : (f.left -ℤ pos 1) +ℤ pos (suc j) ≡ f.left +ℤ pos j = omega (arith, signed_linear) in
    let same : left_end f r (suc j) ≡ right_end f r j = λ i. centre (e i) (f.bottom +ℤ pos r) in
    ap (λ (q : Place). turn q s) same
    ∙ is.right j (omega (arith, l)) (omega (arith, m)) (subst (λ (q : Place). ¬ (IsOn q s)) same off)

-- at the right end of such a one
right_past_end : (s : Span) (f : Frame) (first end : ℤ) (r n k : ℕ) → AreAcross s first end → end ≤ℤ (f.left +ℤ pos f.width)
    → IsEnd s f r n → n < k → k ≤ f.width → ¬ (IsOn (right_end f r k) s) → turn (right_end f r k) s ≡ pos 0
right_past_end s f first end r n k h w is l m off = elim (below_or_not k f.width) [
  | inl i ↦ is.right k (omega (arith, l)) i off
  | inr i ↦
      right_of_all (right_end f r k) s (to_all (λ q. q.x <ℤ (right_end f r k).x) s
      (h.1 (f.left +ℤ pos k) (omega (arith, signed_linear, w, i))))
]

-- a row between the piece's ends, of a frame that has all columns of its box
pub met_end : (s : Span) (f : Frame) (first end : ℤ) (r n k : ℕ) → AreAcross s first end → f.left ≤ℤ first
    → end ≤ℤ (f.left +ℤ pos f.width) → IsInner s.a.y s.c.y (height_of f r) → IsEnd s f r n → k ≤ f.width → IsMetAcross s f r k
    → k ≡ n
met_end s f first end r n k h l w inner is m met = by (below_same_above k n)
  where
    changes : turn (left_end f r k) s ≡ turn (right_end f r k) s → ⊥
    changes = (inner_meets (left_end f r k) (right_end f r k) s inner).0 met.met

    by : (k < n) ⊎ ((k ≡ n) ⊎ (n < k)) → k ≡ n
    by (inl o) = absurd (changes (left_of_end s f first end r n k h l inner is (omega (arith, o)) met.off_left
        ∙ sym (is.left k o met.off_right)))
    by (inr (inl o)) = o
    by (inr (inr o)) = absurd (changes (left_past_end s f r n k is o m met.off_left
        ∙ sym (right_past_end s f first end r n k h w is o m met.off_right)))

-- ---- the end's segment is met, at the frame's edge too
value_not_zero : (s : Span) → rise_value s ≡ pos 0 → ⊥
value_not_zero s e = grind (arith, ints)

right_at_end : (s : Span) (f : Frame) (first end : ℤ) (r n : ℕ) → AreAcross s first end → end ≤ℤ (f.left +ℤ pos f.width)
    → IsEnd s f r n → ¬ (IsOn (right_end f r n) s) → turn (right_end f r n) s ≡ pos 0
right_at_end s f first end r n h w is off = elim (below_or_not n f.width) [
  | inl i ↦ is.right n (omega arith) i off
  | inr i ↦
      right_of_all (right_end f r n) s (to_all (λ q. q.x <ℤ (right_end f r n).x) s
      (h.1 (f.left +ℤ pos n) (omega (arith, signed_linear, w, i))))
]

pub end_met_too : (s : Span) (f : Frame) (first end : ℤ) (r n : ℕ) → AreAcross s first end → f.left ≤ℤ first
    → end ≤ℤ (f.left +ℤ pos f.width) → IsInner s.a.y s.c.y (height_of f r) → IsEnd s f r n → ¬ (IsOn (left_end f r n) s)
    → ¬ (IsOn (right_end f r n) s) → IsMetAcross s f r n
end_met_too s f first end r n h l w inner is off off' = record {
  met = (inner_meets (left_end f r n) (right_end f r n) s inner).1 (λ e. value_not_zero s
      (sym (left_of_end s f first end r n n h l inner is (omega arith) off) ∙ e ∙ right_at_end s f first end r n h w is off'));
  off_left = off;
  off_right = off';
}

-- ---- in a strip with the columns beside the frame
pub strip_met : (s : Span) (f : Frame) (strip : Strip) (row : ℤ) (end k : ℕ) → strip.row ≡ row → strip.base ≡ f.left -ℤ pos 1
    → strip.stop ≡ f.width + 2 → IsInner s.a.y s.c.y (pos 128 *ℤ row +ℤ pos 64) → IsStripEnd s strip end → k ≤ f.width
    → ¬ (IsOn (left_at f row k) s) → ¬ (IsOn (right_at f row k) s) → IsMetTo s f row k ↔ (k + 1 ≡ end)
strip_met s f strip row end k at base stop inner is l off off' = (
  λ met. by met (below_same_above (k + 1) end),
  λ e. meets.1 (λ same. value_not_zero s (sym (inside (omega (arith, e))) ∙ same ∙ outside (omega (arith, e)))),
)
  where
    left : place_at strip k ≡ left_at f row k
    left = λ i. centre (base i +ℤ pos k) (at i)

    right : place_at strip (k + 1) ≡ right_at f row k
    right = let e : strip.base +ℤ pos (k + 1) ≡ f.left +ℤ pos k = omega (arith, signed_linear, base) in λ i. centre (e i) (at i)

    meets : IsMet (left_at f row k) (right_at f row k) s ↔ (turn (left_at f row k) s ≢ turn (right_at f row k) s)
    meets = inner_meets (left_at f row k) (right_at f row k) s inner

    inside : k < end → turn (left_at f row k) s ≡ rise_value s
    inside h = subst (λ (q : Place). ¬ (IsOn q s) → turn q s ≡ rise_value s) left (is.inside k (omega (arith, stop, l)) h) off

    inside_too : k + 1 < end → turn (right_at f row k) s ≡ rise_value s
    inside_too h =
        subst (λ (q : Place). ¬ (IsOn q s) → turn q s ≡ rise_value s) right (is.inside (k + 1) (omega (arith, stop, l)) h) off'

    outside : end ≤ k + 1 → turn (right_at f row k) s ≡ pos 0
    outside h = subst (λ (q : Place). ¬ (IsOn q s) → turn q s ≡ pos 0) right (is.outside (k + 1) (omega (arith, stop, l)) h) off'

    outside_too : end ≤ k → turn (left_at f row k) s ≡ pos 0
    outside_too h = subst (λ (q : Place). ¬ (IsOn q s) → turn q s ≡ pos 0) left (is.outside k (omega (arith, stop, l)) h) off

    by : IsMetTo s f row k → (k + 1 < end) ⊎ ((k + 1 ≡ end) ⊎ (end < k + 1)) → k + 1 ≡ end
    by met (inr (inl e)) = e
    by met (inl h) = absurd (meets.0 met (inside (omega (arith, h)) ∙ sym (inside_too h)))
    by met (inr (inr h)) = absurd (meets.0 met (outside_too (omega (arith, h)) ∙ sym (outside (omega (arith, h)))))

-- ---- the end that is told of a row between the piece's ends
pub end_told : (ends : List ℕ) (s : Span) (p : PieceInBand) → IsInBand s p → AreEndsTold ends s p → (r : ℕ) → p.inner.first ≤ r
    → r < p.inner.end
    → (r - p.rows.first < length ends) × IsEnd s p.frame r (slice_index_or ends (r - p.rows.first) 0)
end_told ends s p is told r l m =
    let t = told.rows r (omega (arith, l, p.first)) (omega (arith, m, p.end)) (is.between.inner r l m) in
    (t.told.0, subst (IsEnd s p.frame r) (sym t.told.1) t.is)
