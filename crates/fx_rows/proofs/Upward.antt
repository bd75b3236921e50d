-- A piece that does not bulge meets segments up to a row in columns between its ends alone: `met_between`.
-- Serves `note_up`.
use Rattle.std.proofs.Common.{◌≡◌, ◌≢◌, ◌⊎◌, inl, inr, refl, sym, ap, ◌∙◌, subst, ℕ, ◌+◌, ◌-◌, ◌<◌, ◌≤◌, min, max, ℤ, pos, negsuc}
use Rattle.std.proofs.Common.{◌+ℤ◌, ◌-ℤ◌, ◌*ℤ◌, ◌≤ℤ◌, ◌<ℤ◌, List, Option, Some, None, ◌^◌, arith}
use Rattle.std.proofs.Common.{w32, to_z, of_z}
use Rattle.fx_fixed.specs.Ranges.{IsWithin}
use Rattle.std.proofs.lemmas.Int.{ints}
use Rattle.fx_fixed.proofs.Order.{below_or_not, below_same_above, below_or_not_ℤ}
use Rattle.fx_fixed.proofs.Linear.{signed, signed_linear}
use Rattle.fx_winding.specs.declared.frame.Frame.{Frame}
use Rattle.fx_winding.specs.Area.{Place}
use Rattle.fx_winding.specs.Turned.{turned_place, turned_span}
use Rattle.fx_winding.specs.Limits.{IsPixelNumber}
use Rattle.fx_winding.specs.Meets.{turn}
use Rattle.fx_winding.specs.Notes.{IsMetUp, IsNotedUp}
use Rattle.fx_winding.specs.Outside.{HasAll, OptionAll}
use Rattle.fx_winding.specs.Winding.{Span, centre, IsOn, IsBetween}
use Rattle.fx_winding.proofs.Aside.{left_not_met, right_not_met}
use Rattle.fx_winding.proofs.Beside.{HasAll-weaker}
use Rattle.fx_winding.proofs.Columnwise.{up_met, foot_met, head_met, through_met, level_on, IsPastEnd}
use Rattle.fx_winding.proofs.Meeting.{above_not_met, below_not_met}
use Rattle.fx_winding.proofs.Turning.{IsClearOf, IsClearOfFoot, IsClearOfHead, all_turned, inner_pair_not_met, from_foot_not_met}
use Rattle.fx_winding.proofs.Turning.{to_foot_not_met, from_head_not_met, to_head_not_met}
use Rattle.fx_rows.specs.declared.heights.RowRange.{RowRange}
use Rattle.fx_rows.specs.declared.reach.Reach.{Reach}
use Rattle.fx_rows.specs.inner.Bulging.{HasLine, IsBeyond, IsBulge, IsBulgePart, IsOnLine, IsPlain}
use Rattle.fx_rows.specs.inner.Heights.{height_of, IsResting, IsHanging, IsAtMostEnds, IsAtLeastEnds, IsOneOver, IsOneUnder}
use Rattle.fx_rows.specs.inner.Placing.{AreBetween}
use Rattle.fx_rows.specs.inner.Points.{IsFootX, IsHeadX, AreAcross, IsInner}
use Rattle.fx_rows.specs.inner.Told.{rise_value}
use Rattle.fx_rows.specs.inner.Upward.{column_of, height_below, AreMetBetween, AreMetWithin, AreAllMet, AreAt}
use Rattle.fx_rows.specs.inner.Upward.{AreAtFoot, AreAtHead, IsPassing, IsLow, IsHigh, IsLevel, ComesFrom, GoesTo}
use Rattle.fx_rows.proofs.Points.{to_all}

-- the ends of a segment
abbrev lower : Frame → ℕ → ℕ → Place
lower f r k = centre (f.left +ℤ pos k) ((f.bottom -ℤ pos 1) +ℤ pos r)

abbrev upper : Frame → ℕ → ℕ → Place
upper f r k = centre (f.left +ℤ pos k) (f.bottom +ℤ pos r)

-- ---- columns beside a piece
left_unmet : (s : Span) (f : Frame) (first end : ℤ) (r k : ℕ) → AreAcross s first end → (f.left +ℤ pos k) <ℤ first
    → ¬ (IsMetUp s f r k)
left_unmet s f first end r k h l m =
    above_not_met (turned_place (lower f r k)) (turned_place (upper f r k)) (turned_span s) refl
    (all_turned (λ e. column_of f k <ℤ e.y) s (to_all (λ q. column_of f k <ℤ q.x) s (h.0 (f.left +ℤ pos k) l))) m.met

right_unmet : (s : Span) (f : Frame) (first end : ℤ) (r k : ℕ) → AreAcross s first end → end ≤ℤ (f.left +ℤ pos k)
    → ¬ (IsMetUp s f r k)
right_unmet s f first end r k h l m =
    below_not_met (turned_place (lower f r k)) (turned_place (upper f r k)) (turned_span s) refl
    (all_turned (λ e. e.y <ℤ column_of f k) s (to_all (λ q. q.x <ℤ column_of f k) s (h.1 (f.left +ℤ pos k) l))) m.met

-- a box without columns
pub none_within : (s : Span) (f : Frame) (first end : ℤ) → AreAcross s first end → end ≤ℤ first → (r k : ℕ) → ¬ (IsMetUp s f r k)
none_within s f first end is none r k m = elim (below_or_not_ℤ (f.left +ℤ pos k) first) [
  | inl l ↦ left_unmet s f first end r k is l m
  | inr l ↦ right_unmet s f first end r k is (omega (arith, signed_linear, none, l)) m
]

-- ---- what it means that a piece does not bulge: its control point is on no other side of a line of centres than both its ends
no_line_to : (a b c row : ℤ) → ¬ (IsBeyond a b c) → (pos 128 *ℤ row +ℤ pos 64) ≤ℤ a → (pos 128 *ℤ row +ℤ pos 64) ≤ℤ c
    → b ≤ℤ (pos 128 *ℤ row +ℤ pos 64) → b <ℤ a → b <ℤ c → ⊥
no_line_to a b c row plain to to' from l m = grind (arith, signed_linear, plain, to, to', from, l, m)

no_line_from : (a b c row : ℤ) → ¬ (IsBeyond a b c) → a ≤ℤ (pos 128 *ℤ row +ℤ pos 64) → c ≤ℤ (pos 128 *ℤ row +ℤ pos 64)
    → (pos 128 *ℤ row +ℤ pos 64) ≤ℤ b → a <ℤ b → c <ℤ b → ⊥
no_line_from a b c row plain from from' to l m = grind (arith, signed_linear, plain, from, from', to, l, m)

above_line : (s : Span) (row : ℤ) → ¬ (IsBulge s) → (pos 128 *ℤ row +ℤ pos 64) ≤ℤ s.a.y → (pos 128 *ℤ row +ℤ pos 64) ≤ℤ s.c.y
    → HasAll (λ q. (pos 128 *ℤ row +ℤ pos 64) ≤ℤ q.y) s
above_line s row plain a c = grind (arith, signed_linear, plain, a, c, no_line_to)

below_line : (s : Span) (row : ℤ) → ¬ (IsBulge s) → s.a.y ≤ℤ (pos 128 *ℤ row +ℤ pos 64) → s.c.y ≤ℤ (pos 128 *ℤ row +ℤ pos 64)
    → HasAll (λ q. q.y ≤ℤ (pos 128 *ℤ row +ℤ pos 64)) s
below_line s row plain a c = grind (arith, signed_linear, plain, a, c, no_line_from)

-- a line of centres that is at both ends
on_line : (a c row : ℤ) → a ≡ pos 128 *ℤ row +ℤ pos 64 → c ≡ pos 128 *ℤ row +ℤ pos 64 → (a ≡ c) × HasLine a a
on_line a c row e f = (
  e ∙ sym f,
  record {
    line = row;
    from = omega (arith, signed_linear, e);
    to = omega (arith, signed_linear, e);
  },
)

-- a row that is below both ends, or at one of them
pub resting : (s : Span) (row : ℤ) → IsPlain s → IsAtMostEnds s (pos 128 *ℤ row +ℤ pos 64)
    → IsResting s (pos 128 *ℤ row +ℤ pos 64)
resting s row plain h = grind (arith, signed_linear, plain, h, above_line, on_line)

-- a row that is above both ends, or at one of them
pub hanging : (s : Span) (row : ℤ) → IsPlain s → IsAtLeastEnds s (pos 128 *ℤ row +ℤ pos 64)
    → IsHanging s (pos 128 *ℤ row +ℤ pos 64)
hanging s row plain h = grind (arith, signed_linear, plain, h, below_line, on_line)

-- it meets segments in columns between its ends alone
pub met_between : (s : Span) (f : Frame) → ¬ (IsBulge s) → AreMetBetween s f
met_between s f plain r k l m =
    grind (arith, signed_linear, left, right, below_or_not_ℤ x s.a.x, below_or_not_ℤ x s.c.x)
  where
    x : ℤ
    x = column_of f k

    right_of : x <ℤ s.a.x → x <ℤ s.c.x → (b : Option Place) → ¬ (IsBulgePart s.a b s.c) → OptionAll (λ e. x <ℤ e.x) b
    right_of a c None n = tt
    right_of a c (Some b) n = each (below_or_not_ℤ x b.x)
      where
        each : (x <ℤ b.x) ⊎ (b.x ≤ℤ x) → x <ℤ b.x
        each (inl i) = i
        each (inr i) = absurd (no_line_to s.a.x b.x s.c.x (f.left +ℤ pos k) (λ h. n (inl h)) (omega (arith, signed_linear, a))
            (omega (arith, signed_linear, c)) i (omega (arith, signed_linear, i, a)) (omega (arith, signed_linear, i, c)))

    left_of : s.a.x <ℤ x → s.c.x <ℤ x → (b : Option Place) → ¬ (IsBulgePart s.a b s.c) → OptionAll (λ e. e.x <ℤ x) b
    left_of a c None n = tt
    left_of a c (Some b) n = each (below_or_not_ℤ b.x x)
      where
        each : (b.x <ℤ x) ⊎ (x ≤ℤ b.x) → b.x <ℤ x
        each (inl i) = i
        each (inr i) = absurd (no_line_from s.a.x b.x s.c.x (f.left +ℤ pos k) (λ h. n (inl h)) (omega (arith, signed_linear, a))
            (omega (arith, signed_linear, c)) i (omega (arith, signed_linear, i, a)) (omega (arith, signed_linear, i, c)))

    left : x <ℤ s.a.x → x <ℤ s.c.x → ⊥
    left a c = above_not_met (turned_place (lower f r k)) (turned_place (upper f r k)) (turned_span s) refl
        (all_turned (λ e. x <ℤ e.y) s (a, right_of a c s.b plain, c)) m.met

    right : s.a.x <ℤ x → s.c.x <ℤ x → ⊥
    right a c = below_not_met (turned_place (lower f r k)) (turned_place (upper f r k)) (turned_span s) refl
        (all_turned (λ e. e.y <ℤ x) s (a, left_of a c s.b plain, c)) m.met

-- ---- rows beside a piece
next_up : (f : Frame) (r : ℕ) → height_below f r ≤ℤ height_of f r
next_up f r = omega (arith, signed)

-- it rests on the upper row of a segment
pub resting_unmet : (s : Span) (f : Frame) (r k : ℕ) → IsResting s (height_of f r) → ¬ (IsMetUp s f r k)
resting_unmet s f r k h m =
    to_foot_not_met (lower f r k) (upper f r k) s refl (next_up f r) (record { all = h.0; one = h.1 }) m.off_upper m.met

-- it hangs from the lower row
pub hanging_unmet : (s : Span) (f : Frame) (r k : ℕ) → IsHanging s (height_below f r) → ¬ (IsMetUp s f r k)
hanging_unmet s f r k h m =
    from_head_not_met (lower f r k) (upper f r k) s refl (next_up f r) (record { all = h.0; one = h.1 }) m.off_lower m.met

-- no end of it is below the upper row; or none is above the lower row
pub set_under : (s : Span) (f : Frame) (r : ℕ) (up : List ℕ) → IsPlain s → IsAtMostEnds s (height_of f r)
    → IsNotedUp s f up r
set_under s f r up plain h k w m = absurd (resting_unmet s f r k (resting s (f.bottom +ℤ pos r) plain h) m)

pub set_over : (s : Span) (f : Frame) (r : ℕ) (up : List ℕ) → IsPlain s → IsAtLeastEnds s (height_below f r)
    → IsNotedUp s f up r
set_over s f r up plain h k w m =
    absurd (hanging_unmet s f r k (hanging s ((f.bottom -ℤ pos 1) +ℤ pos r) plain h) m)

-- no line of centres comes between two neighbours
same_line : (j b r : ℤ) → (pos 128 *ℤ ((b -ℤ pos 1) +ℤ r) +ℤ pos 64) <ℤ (pos 128 *ℤ j +ℤ pos 64)
    → (pos 128 *ℤ j +ℤ pos 64) ≤ℤ (pos 128 *ℤ (b +ℤ r) +ℤ pos 64) → pos 128 *ℤ j +ℤ pos 64 ≡ pos 128 *ℤ (b +ℤ r) +ℤ pos 64
same_line j b r h l =
    let e : j ≡ b +ℤ r = omega (arith, signed, h, l) in
    ap (λ (z : ℤ). pos 128 *ℤ z +ℤ pos 64) e

-- a level piece on a row of centres meets no segment: those of its columns have an end on it
pub on_line_unmet : (s : Span) (f : Frame) (r k : ℕ) → ¬ (IsBulge s) → IsOnLine s → k < f.width → ¬ (IsMetUp s f r k)
on_line_unmet s f r k plain on w m =
    by (below_or_not_ℤ y (height_below f r)) (below_or_not_ℤ (height_below f r) y) (below_or_not_ℤ (height_of f r) y)
  where
    row : ℤ
    row = on.line.line

    y : ℤ
    y = pos 128 *ℤ row +ℤ pos 64

    at_a : s.a.y ≡ y
    at_a = let from = on.line.from in let to = on.line.to in omega (arith, signed_linear, from, to)

    at_c : s.c.y ≡ y
    at_c = sym on.level ∙ at_a

    all_at : HasAll (λ e. e.y ≡ y) s
    all_at = join s.b (above_line s row plain (omega (arith, signed_linear, at_a)) (omega (arith, signed_linear, at_c))).1
        (below_line s row plain (omega (arith, signed_linear, at_a)) (omega (arith, signed_linear, at_c))).1
      where
        join : (b : Option Place) → OptionAll (λ e. y ≤ℤ e.y) b → OptionAll (λ e. e.y ≤ℤ y) b
            → (s.a.y ≡ y) × OptionAll (λ e. e.y ≡ y) b × (s.c.y ≡ y)
        join None h k = (at_a, tt, at_c)
        join (Some b) h k = (at_a, omega (arith, signed_linear, h, k), at_c)

    between : IsBetween s.a.x s.c.x (column_of f k)
    between = met_between s f plain r k w m

    on_at : (p : Place) → y ≡ p.y → IsBetween s.a.x s.c.x p.x → IsOn p s
    on_at p e b = level_on p s (HasAll-weaker (λ q. q.y ≡ y) (λ q. q.y ≡ p.y) (λ q h. h ∙ e) s all_at) b

    by : (y <ℤ height_below f r) ⊎ (height_below f r ≤ℤ y) → (height_below f r <ℤ y) ⊎ (y ≤ℤ height_below f r)
        → (height_of f r <ℤ y) ⊎ (y ≤ℤ height_of f r) → ⊥
    by (inl l) j h =
        left_not_met (turned_place (lower f r k)) (turned_place (upper f r k)) (turned_span s) (next_up f r)
        (all_turned (λ e. e.x <ℤ height_below f r) s
        (HasAll-weaker (λ e. e.y ≡ y) (λ e. e.y <ℤ height_below f r) (λ q o. omega (arith, signed_linear, l, o)) s all_at)) m.met
    by (inr l) (inr j) h = m.off_lower (on_at (lower f r k) (omega (arith, signed_linear, l, j)) between)
    by (inr l) (inl j) (inl h) =
        right_not_met (turned_place (lower f r k)) (turned_place (upper f r k)) (turned_span s) refl (next_up f r)
        (all_turned (λ e. height_of f r <ℤ e.x) s
        (HasAll-weaker (λ e. e.y ≡ y) (λ e. height_of f r <ℤ e.y) (λ q o. omega (arith, signed_linear, h, o)) s all_at)) m.met
    by (inr l) (inl j) (inr h) = m.off_upper (on_at (upper f r k) (same_line row f.bottom (pos r) j h) between)

-- ---- from columns of one row to columns of the next
pub value_counts : (s : Span) → rise_value s ≢ pos 0
value_counts s e = grind (arith, ints)

value_rising : (s : Span) → s.a.y <ℤ s.c.y → rise_value s ≡ pos 1
value_rising s h = grind (arith, ints)

value_falling : (s : Span) → s.c.y <ℤ s.a.y → rise_value s ≡ negsuc 0
value_falling s h = grind (arith, ints)

-- the columns before both of two numbers, or from both on, are not between them
not_aside : (from from' to to' k : ℕ) → ¬ ((k < from) × (k < from')) → ¬ ((to ≤ k) × (to' ≤ k))
    → (min from from' ≤ k) × (k < max to to')
not_aside from from' to to' k before after = grind arith

-- two rows between the ends
pass_within : (s : Span) (f : Frame) (r : ℕ) (c d : Reach) → AreMetBetween s f
    → IsPassing s f ((f.bottom -ℤ pos 1) +ℤ pos r) c → IsPassing s f (f.bottom +ℤ pos r) d
    → AreMetWithin s f r (min c.first d.first) (max c.end d.end)
pass_within s f r c d between low high k l met =
    not_aside c.first d.first c.end d.end k
    (λ o. same_unmet (low.is.left k (omega (arith, o.0, low.same)) met.off_lower
    ∙ sym (high.is.left k (omega (arith, o.1, high.same)) met.off_upper)))
    (λ o. same_unmet (low.is.right k o.0 l met.off_lower ∙ sym (high.is.right k o.1 l met.off_upper)))
  where
    same_unmet : turn (lower f r k) s ≡ turn (upper f r k) s → ⊥
    same_unmet t = inner_pair_not_met (lower f r k) (upper f r k) s refl low.inner high.inner met.off_lower met.off_upper t
        (between r k l met) met.met

pass_met : (s : Span) (f : Frame) (r : ℕ) (c d : Reach) → IsPassing s f ((f.bottom -ℤ pos 1) +ℤ pos r) c
    → IsPassing s f (f.bottom +ℤ pos r) d → AreAllMet s f r (min c.first d.first) (max c.end d.end)
pass_met s f r c d low high k from to l off off' = record {
  met = up_met (lower f r k) (upper f r k) s refl low.inner high.inner off off'
      (by (below_or_not k c.end) (below_or_not k d.end));
  off_lower = off;
  off_upper = off';
}
  where
    by : (k < c.end) ⊎ (c.end ≤ k) → (k < d.end) ⊎ (d.end ≤ k) → turn (lower f r k) s ≢ turn (upper f r k) s
    by (inl a) (inl b) z = absurd (omega (arith, a, b, from, low.same, high.same))
    by (inl a) (inr b) z = value_counts s (sym (low.is.left k a off) ∙ z ∙ high.is.right k b l off')
    by (inr a) (inl b) z = value_counts s (sym (high.is.left k b off') ∙ sym z ∙ low.is.right k a l off)
    by (inr a) (inr b) z = absurd (omega (arith, a, b, to))

-- what a piece adds at a place of a row between its ends, aside of one of these, and what past it
clear : (s : Span) (f : Frame) (row x v : ℤ) (e : Place) (c d : Reach) (k : ℕ) → IsPassing s f row d → AreAt f x c → x ≡ e.x
    → rise_value s ≡ v → k < f.width → ¬ (IsOn (centre (f.left +ℤ pos k) row) s)
    → ((k < c.first) × (k < d.first)) ⊎ ((c.end ≤ k) × (d.end ≤ k)) → IsClearOf e v (centre (f.left +ℤ pos k) row) s
clear s f row x v e c d k h i j l m n o = grind (arith, signed_linear, h, i, j, l, m, n, o)

past : (s : Span) (f : Frame) (row x v : ℤ) (e : Place) (c d : Reach) (k : ℕ) → IsPassing s f row d → AreAt f x c → x ≡ e.x
    → rise_value s ≡ v → k < f.width → ¬ (IsOn (centre (f.left +ℤ pos k) row) s) → min c.first d.first ≤ k → k < max c.end d.end
    → IsPastEnd e.x v (centre (f.left +ℤ pos k) row) s
past s f row x v e c d k h is at rises l off from to = elim (below_or_not k d.end) [
  | inl b ↦
      inl (
        subst (λ (z : ℤ). z ≤ℤ column_of f k) at (is.from k (omega (arith, b, from, h.same)) l),
        h.is.left k b off ∙ rises,
      )
  | inr b ↦ inr (subst (λ (z : ℤ). column_of f k ≤ℤ z) at (is.to k (omega (arith, b, to))), h.is.right k b l off)
]

-- with a row between its ends a piece rises or falls
sides : (s : Span) (y : ℤ) (P Q : Type 0) → IsInner s.a.y s.c.y y → (s.a.y <ℤ s.c.y → P) → (s.c.y <ℤ s.a.y → Q)
    → ((s.a.y <ℤ s.c.y) × P) ⊎ ((s.c.y <ℤ s.a.y) × Q)
sides s y P Q (inl (u, v)) p q = let up : s.a.y <ℤ s.c.y = omega (arith, signed_linear, u, v) in inl (up, p up)
sides s y P Q (inr (u, v)) p q = let down : s.c.y <ℤ s.a.y = omega (arith, signed_linear, u, v) in inr (down, q down)

-- from the lower end to a row between the ends
foot_clear : (s : Span) (f : Frame) (row : ℤ) (c d : Reach) (k : ℕ) → AreAtFoot s f c → IsPassing s f row d → k < f.width
    → ¬ (IsOn (centre (f.left +ℤ pos k) row) s) → ((k < c.first) × (k < d.first)) ⊎ ((c.end ≤ k) × (d.end ≤ k))
    → IsClearOfFoot (centre (f.left +ℤ pos k) row) s
foot_clear s f row c d k foot high l off aside =
    grind (arith, signed_linear, foot, high, l, off, aside, sides, clear, value_rising, value_falling)

foot_within : (s : Span) (f : Frame) (r : ℕ) (c d : Reach) → AreMetBetween s f → IsResting s (height_below f r)
    → AreAtFoot s f c → IsPassing s f (f.bottom +ℤ pos r) d → AreMetWithin s f r (min c.first d.first) (max c.end d.end)
foot_within s f r c d between rests foot high k l met =
    not_aside c.first d.first c.end d.end k (λ o. unmet (inl o)) (λ o. unmet (inr o))
  where
    unmet : ((k < c.first) × (k < d.first)) ⊎ ((c.end ≤ k) × (d.end ≤ k)) → ⊥
    unmet aside = from_foot_not_met (lower f r k) (upper f r k) s refl (record { all = rests.0; one = rests.1 }) met.off_lower
        high.inner met.off_upper (foot_clear s f (f.bottom +ℤ pos r) c d k foot high l met.off_upper aside) (between r k l met)
        met.met

foot_all : (s : Span) (f : Frame) (r : ℕ) (c d : Reach) → IsResting s (height_below f r) → AreAtFoot s f c
    → IsPassing s f (f.bottom +ℤ pos r) d → AreAllMet s f r (min c.first d.first) (max c.end d.end)
foot_all s f r c d rests foot high k from to l off off' = record {
  met = foot_met (lower f r k) (upper f r k) s refl (record { all = rests.0; one = rests.1 }) off high.inner off'
      (sides s (height_of f r) _ _ high.inner
      (λ up. past s f row foot.x (pos 1) s.a c d k high foot.at (foot.is.rising up) (value_rising s up) l off' from to)
      (λ down. past s f row foot.x (negsuc 0) s.c c d k high foot.at (foot.is.falling (omega (arith, signed_linear, down)))
      (value_falling s down) l off' from to));
  off_lower = off;
  off_upper = off';
}
  where
    row : ℤ
    row = f.bottom +ℤ pos r

-- from a row between the ends to the upper end
head_clear : (s : Span) (f : Frame) (row : ℤ) (c d : Reach) (k : ℕ) → AreAtHead s f c → IsPassing s f row d → k < f.width
    → ¬ (IsOn (centre (f.left +ℤ pos k) row) s) → ((k < c.first) × (k < d.first)) ⊎ ((c.end ≤ k) × (d.end ≤ k))
    → IsClearOfHead (centre (f.left +ℤ pos k) row) s
head_clear s f row c d k head low l off aside =
    grind (arith, signed_linear, head, low, l, off, aside, sides, clear, value_rising, value_falling)

head_within : (s : Span) (f : Frame) (r : ℕ) (c d : Reach) → AreMetBetween s f
    → IsPassing s f ((f.bottom -ℤ pos 1) +ℤ pos r) c → IsHanging s (height_of f r) → AreAtHead s f d
    → AreMetWithin s f r (min c.first d.first) (max c.end d.end)
head_within s f r c d between low hangs head k l met =
    not_aside c.first d.first c.end d.end k (λ o. unmet (inl (o.1, o.0))) (λ o. unmet (inr (o.1, o.0)))
  where
    unmet : ((k < d.first) × (k < c.first)) ⊎ ((d.end ≤ k) × (c.end ≤ k)) → ⊥
    unmet aside = to_head_not_met (lower f r k) (upper f r k) s low.inner met.off_lower
        (head_clear s f ((f.bottom -ℤ pos 1) +ℤ pos r) d c k head low l met.off_lower aside)
        (record { all = hangs.0; one = hangs.1 }) met.off_upper (between r k l met) met.met

head_all : (s : Span) (f : Frame) (r : ℕ) (c d : Reach) → IsPassing s f ((f.bottom -ℤ pos 1) +ℤ pos r) c
    → IsHanging s (height_of f r) → AreAtHead s f d → AreAllMet s f r (min c.first d.first) (max c.end d.end)
head_all s f r c d low hangs head k from to l off off' = record {
  met = head_met (lower f r k) (upper f r k) s refl low.inner off (record { all = hangs.0; one = hangs.1 }) off'
      (sides s (height_below f r) _ _ low.inner
      (λ up. past s f row head.x (pos 1) s.c d c k low head.at (head.is.rising up) (value_rising s up) l off from' to')
      (λ down. past s f row head.x (negsuc 0) s.a d c k low head.at (head.is.falling (omega (arith, signed_linear, down)))
      (value_falling s down) l off from' to'));
  off_lower = off;
  off_upper = off';
}
  where
    row : ℤ
    row = (f.bottom -ℤ pos 1) +ℤ pos r

    from' : min d.first c.first ≤ k
    from' = omega (arith, from)

    to' : k < max d.end c.end
    to' = omega (arith, to)

-- from the lower end to the upper one, between two rows
-- these are the ends' places, in one order or the other
ends_between : (s : Span) (x y z : ℤ) → IsFootX s x → IsHeadX s y → (IsBetween s.a.x s.c.x z → IsBetween x y z)
    × (IsBetween x y z → IsBetween s.a.x s.c.x z)
ends_between s x y z foot head = grind (arith, signed_linear, foot, head)

through_within : (s : Span) (f : Frame) (r : ℕ) (c d : Reach) → AreMetBetween s f → AreAtFoot s f c → AreAtHead s f d
    → AreMetWithin s f r (min c.first d.first) (max c.end d.end)
through_within s f r c d between foot head k l met =
    grind (arith, signed_linear, between, foot, head, k, l, met, not_aside, ends_between)

through_all : (s : Span) (f : Frame) (r : ℕ) (c d : Reach) → IsResting s (height_below f r) → AreAtFoot s f c
    → IsHanging s (height_of f r) → AreAtHead s f d → AreAllMet s f r (min c.first d.first) (max c.end d.end)
through_all s f r c d rests foot hangs head k from to l off off' = record {
  met = through_met (lower f r k) (upper f r k) s refl (record { all = rests.0; one = rests.1 }) off
      (record { all = hangs.0; one = hangs.1 }) off'
      ((ends_between s foot.x head.x x foot.is head.is).1
      (grind (arith, signed_linear, before, after, below_or_not_ℤ x foot.x, below_or_not_ℤ x head.x)));
  off_lower = off;
  off_upper = off';
}
  where
    x : ℤ
    x = column_of f k

    before : x <ℤ foot.x → x <ℤ head.x → ⊥
    before a b = each (below_or_not k c.first)
      where
        each : (k < c.first) ⊎ (c.first ≤ k) → ⊥
        each (inr i) = let h = foot.at.from k i l in absurd (omega (arith, signed_linear, h, a))
        each (inl i) = let h = head.at.from k (omega (arith, from, i)) l in absurd (omega (arith, signed_linear, h, b))

    after : foot.x <ℤ x → head.x <ℤ x → ⊥
    after a b = each (below_or_not k c.end)
      where
        each : (k < c.end) ⊎ (c.end ≤ k) → ⊥
        each (inl i) = let h = foot.at.to k i in absurd (omega (arith, signed_linear, h, a))
        each (inr i) = let h = head.at.to k (omega (arith, to, i)) in absurd (omega (arith, signed_linear, h, b))

-- ---- all four
level_between : (s : Span) (f : Frame) (r : ℕ) (c d : Reach) → ¬ (IsBulge s) → IsLow s f r c → IsHigh s f r d
    → IsLevel s f r (min c.first d.first) (max c.end d.end)
level_between s f r c d plain (inl low) (inl high) =
    record { within = pass_within s f r c d (met_between s f plain) low high; all = pass_met s f r c d low high }
level_between s f r c d plain (inl low) (inr (hangs, head)) = record {
  within = head_within s f r c d (met_between s f plain) low hangs head;
  all = head_all s f r c d low hangs head;
}
level_between s f r c d plain (inr (rests, foot)) (inl high) = record {
  within = foot_within s f r c d (met_between s f plain) rests foot high;
  all = foot_all s f r c d rests foot high;
}
level_between s f r c d plain (inr (rests, foot)) (inr (hangs, head)) = record {
  within = through_within s f r c d (met_between s f plain) foot head;
  all = through_all s f r c d rests foot hangs head;
}

pub comes_from : (s : Span) (f : Frame) (r : ℕ) (c : Reach) → IsPlain s → IsLow s f r c → ComesFrom s f r c
comes_from s f r c plain low = record {
  within = elim low [ inl passes ↦ passes.is.within | inr rests ↦ rests.1.at.within ];
  level = λ d high. level_between s f r c d plain.flat low high;
}

pub goes_to : (s : Span) (f : Frame) (r : ℕ) (c : Reach) → IsHigh s f r c → GoesTo s f r c
goes_to s f r c high = record {
  within = elim high [ inl passes ↦ passes.is.within | inr hangs ↦ hangs.1.at.within ];
  level = λ d comes. comes.level c high;
}

-- ---- the levels of a band
-- the height of a row, as code holds it
pub height_kept : (row : ℤ) → IsWithin (2 ^ 16) row
    → to_z w32 (of_z w32 (to_z w32 (of_z w32 (pos 128 *ℤ to_z w32 (of_z w32 row))) +ℤ pos 64)) ≡ pos 128 *ℤ row +ℤ pos 64
height_kept row h = grind (arith, signed_linear, h)

-- a row of the plane, as code holds it
pub row_own : {x row : ℤ} → x ≡ row → IsPixelNumber x → to_z w32 (of_z w32 x) ≡ row
row_own {x} {row} e near = omega (arith, signed_linear, e, near)

-- the row below the next is this one
pub row_next : (f : Frame) (r : ℕ) → f.bottom +ℤ pos r ≡ (f.bottom -ℤ pos 1) +ℤ pos (r + 1)
row_next f r = omega (arith, signed_linear)

height_next : (f : Frame) (r : ℕ) → height_of f r ≡ height_below f (r + 1)
height_next f r = ap (λ (z : ℤ). pos 128 *ℤ z +ℤ pos 64) (row_next f r)

-- the row below the first one that is above the lower end
pub level_under : (s : Span) (f : Frame) (from first : ℕ) → from ≤ first → IsAtMostEnds s (height_below f from)
    → ((r : ℕ) → from ≤ r → r < first → IsAtMostEnds s (height_of f r)) → IsAtMostEnds s (height_below f first)
level_under s f from first l below under = elim (below_or_not from first) [
  | inl k ↦
      let same : first - 1 + 1 ≡ first = omega (arith, k) in
      subst (λ (n : ℕ). IsAtMostEnds s (height_below f n)) same
      (subst (IsAtMostEnds s) (height_next f (first - 1)) (under (first - 1) (omega (arith, k)) (omega (arith, k))))
  | inr k ↦ let e : from ≡ first = omega (arith, k, l) in subst (λ (n : ℕ). IsAtMostEnds s (height_below f n)) e below
]

-- if an end is below the row below the band, no row of the band is at or below the lower end
pub first_row : (s : Span) (f : Frame) (from first : ℕ) → from ≤ first → IsOneUnder s (height_below f from)
    → ((r : ℕ) → from ≤ r → r < first → IsAtMostEnds s (height_of f r)) → from ≡ first
first_row s f from first l one under = by (below_or_not from first)
  where
    none : IsOneUnder s (height_below f from) → IsAtMostEnds s (height_of f from) → ⊥
    none (inl l) h = let a = h.0 in absurd (omega (arith, signed, l, a))
    none (inr l) h = let a = h.1 in absurd (omega (arith, signed, l, a))

    by : (from < first) ⊎ (first ≤ from) → from ≡ first
    by (inl k) = absurd (none one (under from (omega arith) k))
    by (inr k) = omega (arith, k, l)

-- if an end is above the row above those between the ends, that is no row of the band
pub last_row : (s : Span) (f : Frame) (to end : ℕ) → end ≤ to → IsOneOver s (height_of f end)
    → (end < to → IsAtLeastEnds s (height_of f end)) → end ≡ to
last_row s f to end l one over = grind (arith, signed_linear, below_or_not end to)

-- one end below a height, and one above it
pub one_each : (s : Span) (y : ℤ) → IsOneUnder s y → IsOneOver s y → IsInner s.a.y s.c.y y
one_each s y h k = grind (arith, signed_linear)

-- no end is above a height: so none is above a higher one
pub at_least_more : (s : Span) (y z : ℤ) → y ≤ℤ z → IsAtLeastEnds s y → IsAtLeastEnds s z
at_least_more s y z l h = omega (arith, signed_linear)

pub over_row : (f : Frame) (e r : ℕ) → e < r → height_of f e ≤ℤ height_below f r
over_row f e r l = omega (arith, signed, l)

pub over_lowest : (f : Frame) (from r : ℕ) → from ≤ r → height_below f from ≤ℤ height_below f r
over_lowest f from r l = omega (arith, signed, l)

-- up to each row of a band: those up to the first between the ends, those between, that above them, and those further up
pub all_levels : (s : Span) (f : Frame) (from to : ℕ) (m : RowRange) (up : List ℕ) → IsPlain s
    → AreBetween s f from to m → ((r : ℕ) → m.first ≤ r → r < m.end → IsNotedUp s f up r) → IsNotedUp s f up m.end
    → (r : ℕ) → from ≤ r → r ≤ to → IsNotedUp s f up r
all_levels s f from to m up plain is inner top r h l = by (below_or_not r m.first) (below_same_above r m.end)
  where
    by : (r < m.first) ⊎ (m.first ≤ r) → (r < m.end) ⊎ ((r ≡ m.end) ⊎ (m.end < r))
        → IsNotedUp s f up r
    by (inl a) b = set_under s f r up plain (is.under r h a)
    by (inr a) (inl b) = inner r a b
    by (inr a) (inr (inl b)) = subst (IsNotedUp s f up) (sym b) top
    by (inr a) (inr (inr b)) = set_over s f r up plain
        (at_least_more s (height_of f m.end) (height_below f r) (over_row f m.end r b)
        (is.over m.end (omega arith) (omega (arith, b, l))))
