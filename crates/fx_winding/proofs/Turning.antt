-- A piece does not meet a segment of a column between whose rows it adds one number: `inner_pair_not_met`, and near its ends
-- `from_foot_not_met`, `to_head_not_met`. A column is a row of the exchanged piece.
-- Serves the segments that a scan by rows notes.
use Rattle.std.proofs.Common.{◌≡◌, sym, ap, ◌∙◌, ◌⊎◌, ℤ, pos, negsuc, ◌-ℤ◌, ◌≤ℤ◌, ◌<ℤ◌}
use Rattle.std.proofs.Common.{int_lt, if◌then◌else◌, Option, option_map, arith}
use Rattle.std.proofs.lemmas.Int.{ints}
use Rattle.std.proofs.Math.Logic.{⊎_swap}
use Rattle.fx_fixed.proofs.Linear.{signed_linear}
use Rattle.fx_winding.specs.Area.{Place}
use Rattle.fx_winding.specs.Turned.{turned_place, turned_span}
use Rattle.fx_winding.specs.Meets.{turn, IsWithinRow, IsTipPart, IsMet, IsBetweenEnds}
use Rattle.fx_winding.specs.Outside.{HasAll}
use Rattle.fx_winding.specs.Winding.{Span, IsBetween, IsOn}
use Rattle.fx_winding.proofs.Aside.{IsNoEnd, same_place, right_turn, left_turn, all_right, all_left, right_no_end, left_no_end}
use Rattle.fx_winding.proofs.Aside.{right_end_not_met, left_end_not_met}
use Rattle.fx_winding.proofs.Beside.{StartsFrom, EndsAt, RestsOn, HangsFrom}
use Rattle.fx_winding.proofs.Crossings.{above}
use Rattle.fx_winding.proofs.EndsOn.{off_no_end}
use Rattle.fx_winding.proofs.Sideways.{corner, corners, turned_within}

-- ---- beside all points of a piece
-- what a piece adds at a place left of all its points
pub left_of_all : (p : Place) (s : Span) → HasAll (λ e. p.x <ℤ e.x) s → turn p s ≡ above p.y s.c.y -ℤ above p.y s.a.y
left_of_all p s h = right_turn p s (all_right p.x s h) (right_no_end p s h)

-- and right of them: nothing
pub right_of_all : (p : Place) (s : Span) → HasAll (λ e. e.x <ℤ p.x) s → turn p s ≡ pos 0
right_of_all p s h = left_turn p s (all_left p.x s h) (left_no_end p s h)

-- 1 where the chord of a piece rises, -1 where it falls
abbrev pub rise_value : Span → ℤ
rise_value s = if int_lt s.a.y s.c.y then pos 1 else negsuc 0

-- in a row strictly between the ends the place adds this if it is left of all points
pub beside_turn : (p : Place) (s : Span) → IsBetweenEnds p s → HasAll (λ e. p.x <ℤ e.x) s → turn p s ≡ rise_value s
beside_turn p s i h = grind (arith, signed_linear, i, h, left_of_all, above)

-- ---- two rows strictly between the ends
corners_same : (ax ay cx cy px py qx qy : ℤ) → px ≡ qx → ((ay <ℤ py) × (py <ℤ cy)) ⊎ ((cy <ℤ py) × (py <ℤ ay))
    → ((ay <ℤ qy) × (qy <ℤ cy)) ⊎ ((cy <ℤ qy) × (qy <ℤ ay))
    → corner px py cx cy -ℤ corner px py ax ay ≡ corner qx qy cx cy -ℤ corner qx qy ax ay
corners_same ax ay cx cy px py qx qy e h k = grind (arith, ints)

-- what the piece and the exchanged one add in all is the same in both
pub same_corners : (p q : Place) (s : Span) → p.x ≡ q.x → IsBetweenEnds p s → IsBetweenEnds q s
    → corners p s.a s.c ≡ corners q s.a s.c
same_corners p q s e h k = corners_same s.a.x s.a.y s.c.x s.c.y p.x p.y q.x q.y e h k

-- what adds the same in both does so in the column
turned_inner : (p q : Place) (s : Span) → p.x ≡ q.x → IsBetweenEnds p s → IsBetweenEnds q s → ¬ (IsOn p s) → ¬ (IsOn q s)
    → turn p s ≡ turn q s → turn (turned_place p) (turned_span s) ≡ turn (turned_place q) (turned_span s)
turned_inner p q s e h k np nq t = turned_within p s h np ∙ (λ i. same_corners p q s e h k i -ℤ t i) ∙ sym (turned_within q s k nq)

-- ---- a row strictly between the ends, and one beyond
-- the place lies left of an end, where the piece adds this value, or right of it, where the piece adds nothing
abbrev pub IsClearOf : Place → ℤ → Place → Span → Type 0
IsClearOf end value q s = ((q.x <ℤ end.x) × (turn q s ≡ value)) ⊎ ((end.x <ℤ q.x) × (turn q s ≡ pos 0))

-- so of the lower end
abbrev pub IsClearOfFoot : Place → Span → Type 0
IsClearOfFoot q s = ((s.a.y <ℤ s.c.y) × IsClearOf s.a (pos 1) q s) ⊎ ((s.c.y <ℤ s.a.y) × IsClearOf s.c (negsuc 0) q s)

-- so of the upper end
abbrev pub IsClearOfHead : Place → Span → Type 0
IsClearOfHead q s = ((s.a.y <ℤ s.c.y) × IsClearOf s.c (pos 1) q s) ⊎ ((s.c.y <ℤ s.a.y) × IsClearOf s.a (negsuc 0) q s)

-- the same by numbers: an end at one, a place at another that adds a third
abbrev IsClear : ℤ → ℤ → ℤ → ℤ → Type 0
IsClear end value x t = ((x <ℤ end) × (t ≡ value)) ⊎ ((end <ℤ x) × (t ≡ pos 0))

foot_same : (ax ay cx cy px qx qy t : ℤ) → px ≡ qx → ((ay <ℤ qy) × (qy <ℤ cy)) ⊎ ((cy <ℤ qy) × (qy <ℤ ay))
    → ((ay <ℤ cy) × IsClear ax (pos 1) qx t) ⊎ ((cy <ℤ ay) × IsClear cx (negsuc 0) qx t)
    → above px cx -ℤ above px ax ≡ (corner qx qy cx cy -ℤ corner qx qy ax ay) -ℤ t
foot_same ax ay cx cy px qx qy t e i c = grind (arith, ints)

head_same : (ax ay cx cy px py t : ℤ) → ((ay <ℤ py) × (py <ℤ cy)) ⊎ ((cy <ℤ py) × (py <ℤ ay))
    → ((ay <ℤ cy) × IsClear cx (pos 1) px t) ⊎ ((cy <ℤ ay) × IsClear ax (negsuc 0) px t)
    → (corner px py cx cy -ℤ corner px py ax ay) -ℤ t ≡ pos 0
head_same ax ay cx cy px py t i c = grind (arith, ints)

-- what all points of a piece have, those of the exchanged one have
pub all_turned : (P : Place → Type 0) (s : Span) → HasAll (λ e. P (turned_place e)) s → HasAll P (turned_span s)
all_turned P s h = grind (arith, signed_linear, h)

-- a piece that rests on a row starts from its column, exchanged
starts_turned : (y : ℤ) (s : Span) → RestsOn y s → StartsFrom y (turned_span s)
starts_turned y s h = record { all = all_turned (λ e. y ≤ℤ e.x) s h.all; one = h.one }

-- and one that hangs from it ends at that
ends_turned : (y : ℤ) (s : Span) → HangsFrom y s → EndsAt y (turned_span s)
ends_turned y s h = record { all = all_turned (λ e. e.x ≤ℤ y) s h.all; one = h.one }

no_end_turned : (p : Place) (s : Span) → IsNoEnd p s → IsNoEnd (turned_place p) (turned_span s)
no_end_turned p s n = record { first = λ e. n.first (ap turned_place e); last = λ e. n.last (ap turned_place e) }

-- what an exchanged piece adds at a place off the piece, if it rests on the place's row, or hangs from it
pub turned_below : (p : Place) (s : Span) → RestsOn p.y s → ¬ (IsOn p s)
    → turn (turned_place p) (turned_span s) ≡ above p.x s.c.x -ℤ above p.x s.a.x
turned_below p s h off =
    right_turn (turned_place p) (turned_span s) (starts_turned p.y s h) (no_end_turned p s (off_no_end p s off))

pub turned_above : (p : Place) (s : Span) → HangsFrom p.y s → ¬ (IsOn p s) → turn (turned_place p) (turned_span s) ≡ pos 0
turned_above p s h off = left_turn (turned_place p) (turned_span s) (ends_turned p.y s h) (no_end_turned p s (off_no_end p s off))

-- the piece rests on the row of p
turned_foot : (p q : Place) (s : Span) → p.x ≡ q.x → RestsOn p.y s → ¬ (IsOn p s) → IsBetweenEnds q s → ¬ (IsOn q s)
    → IsClearOfFoot q s → turn (turned_place p) (turned_span s) ≡ turn (turned_place q) (turned_span s)
turned_foot p q s e h np i nq c =
    turned_below p s h np ∙ foot_same s.a.x s.a.y s.c.x s.c.y p.x q.x q.y (turn q s) e i c ∙ sym (turned_within q s i nq)

-- it hangs from the row of q
turned_head : (p q : Place) (s : Span) → IsBetweenEnds p s → ¬ (IsOn p s) → IsClearOfHead p s → HangsFrom q.y s → ¬ (IsOn q s)
    → turn (turned_place p) (turned_span s) ≡ turn (turned_place q) (turned_span s)
turned_head p q s i np c h nq =
    turned_within p s i np ∙ head_same s.a.x s.a.y s.c.x s.c.y p.x p.y (turn p s) i c ∙ sym (turned_above q s h nq)

-- ---- the segment from p up to q
-- a column between the ends has no tip
column_no_tip : (a : Place) (b : Option Place) (c p q : Place) → IsBetween a.x c.x p.x
    → ¬ (IsTipPart (turned_place a) (option_map turned_place b) (turned_place c) (turned_place p) (turned_place q))
column_no_tip a b c p q h i = grind (arith, signed_linear, h, i)

column_not_met : (p q : Place) (s : Span) → IsBetween s.a.x s.c.x p.x
    → ¬ (IsWithinRow (turned_place p) (turned_place q) (turned_place s.a))
    → ¬ (IsWithinRow (turned_place p) (turned_place q) (turned_place s.c))
    → turn (turned_place p) (turned_span s) ≡ turn (turned_place q) (turned_span s)
    → ¬ (IsMet (turned_place p) (turned_place q) (turned_span s))
column_not_met p q s h i j k l = grind (arith, signed_linear, h, i, j, k, l, column_no_tip)

-- where both rows are strictly between the ends
pub inner_pair_not_met : (p q : Place) (s : Span) → p.x ≡ q.x → IsBetweenEnds p s → IsBetweenEnds q s → ¬ (IsOn p s)
    → ¬ (IsOn q s) → turn p s ≡ turn q s → IsBetween s.a.x s.c.x p.x
    → ¬ (IsMet (turned_place p) (turned_place q) (turned_span s))
inner_pair_not_met p q s e hp hq np nq t h = column_not_met p q s h (λ k. none s.a.y s.c.y p.y q.y hp hq k.after k.before)
    (λ k. none s.c.y s.a.y p.y q.y (⊎_swap hp) (⊎_swap hq) k.after k.before) (turned_inner p q s e hp hq np nq t)
  where
    none : (a c y z : ℤ) → ((a <ℤ y) × (y <ℤ c)) ⊎ ((c <ℤ y) × (y <ℤ a)) → ((a <ℤ z) × (z <ℤ c)) ⊎ ((c <ℤ z) × (z <ℤ a))
        → y <ℤ a → a <ℤ z → ⊥
    none a c y z h i l m = omega (arith, signed_linear, h, i, l, m)

-- from the row on which the piece rests to one between its ends
pub from_foot_not_met : (p q : Place) (s : Span) → p.x ≡ q.x → RestsOn p.y s → ¬ (IsOn p s) → IsBetweenEnds q s → ¬ (IsOn q s)
    → IsClearOfFoot q s → IsBetween s.a.x s.c.x p.x → ¬ (IsMet (turned_place p) (turned_place q) (turned_span s))
from_foot_not_met p q s e h np i nq c b =
    let none = under s.a.x s.a.y s.c.x s.c.y p.x q.x q.y (turn q s) e i c in
    column_not_met p q s b (λ w. none.0 w.level w.before) (λ w. none.1 w.level w.before) (turned_foot p q s e h np i nq c)
  where
    under : (ax ay cx cy px x y t : ℤ) → px ≡ x → ((ay <ℤ y) × (y <ℤ cy)) ⊎ ((cy <ℤ y) × (y <ℤ ay))
        → ((ay <ℤ cy) × IsClear ax (pos 1) x t) ⊎ ((cy <ℤ ay) × IsClear cx (negsuc 0) x t)
        → (ax ≡ px → ay <ℤ y → ⊥) × (cx ≡ px → cy <ℤ y → ⊥)
    under ax ay cx cy px x y t e i c = (
      λ l m. omega (arith, signed_linear, e, i, c, l, m),
      λ l m. omega (arith, signed_linear, e, i, c, l, m),
    )

-- from a row between the ends to the one from which the piece hangs
pub to_head_not_met : (p q : Place) (s : Span) → IsBetweenEnds p s → ¬ (IsOn p s) → IsClearOfHead p s → HangsFrom q.y s
    → ¬ (IsOn q s) → IsBetween s.a.x s.c.x p.x → ¬ (IsMet (turned_place p) (turned_place q) (turned_span s))
to_head_not_met p q s i np c h nq b =
    let none = over s.a.x s.a.y s.c.x s.c.y p.x p.y (turn p s) i c in
    column_not_met p q s b (λ w. none.0 w.level w.after) (λ w. none.1 w.level w.after) (turned_head p q s i np c h nq)
  where
    over : (ax ay cx cy x y t : ℤ) → ((ay <ℤ y) × (y <ℤ cy)) ⊎ ((cy <ℤ y) × (y <ℤ ay))
        → ((ay <ℤ cy) × IsClear cx (pos 1) x t) ⊎ ((cy <ℤ ay) × IsClear ax (negsuc 0) x t)
        → (ax ≡ x → y <ℤ ay → ⊥) × (cx ≡ x → y <ℤ cy → ⊥)
    over ax ay cx cy x y t i c = (λ l m. omega (arith, signed_linear, i, c, l, m), λ l m. omega (arith, signed_linear, i, c, l, m))

-- no end of the piece is at a place of the same column, if it would be at the other's height
no_end_along : (p q : Place) (s : Span) → p.x ≡ q.x → (p.y ≡ s.a.y → q.y ≡ p.y) → (p.y ≡ s.c.y → q.y ≡ p.y) → IsNoEnd q s
    → IsNoEnd p s
no_end_along p q s e f g n = grind (arith, signed_linear, e, f, g, n, same_place)

-- from a row up to the one on which the piece rests
pub to_foot_not_met : (p q : Place) (s : Span) → p.x ≡ q.x → p.y ≤ℤ q.y → RestsOn q.y s → ¬ (IsOn q s)
    → ¬ (IsMet (turned_place p) (turned_place q) (turned_span s))
to_foot_not_met p q s e l h off =
    let n = off_no_end q s off in
    right_end_not_met (turned_place p) (turned_place q) (turned_span s) (sym e) l (starts_turned q.y s h)
    (no_end_turned p s (no_end_along p q s e (λ z. omega (arith, signed_linear, l, h.all.0, z))
    (λ z. omega (arith, signed_linear, l, h.all.2, z)) n)) (no_end_turned q s n)

-- and from the one from which it hangs up to another
pub from_head_not_met : (p q : Place) (s : Span) → p.x ≡ q.x → p.y ≤ℤ q.y → HangsFrom p.y s → ¬ (IsOn p s)
    → ¬ (IsMet (turned_place p) (turned_place q) (turned_span s))
from_head_not_met p q s e l h off =
    let n = off_no_end p s off in
    left_end_not_met (turned_place p) (turned_place q) (turned_span s) l (ends_turned p.y s h) (no_end_turned p s n)
    (no_end_turned q s (no_end_along q p s (sym e) (λ z. omega (arith, signed_linear, l, h.all.0, z))
    (λ z. omega (arith, signed_linear, l, h.all.2, z)) n))
