-- Tests of the relations between places and pieces: each is true exactly if the relation of the same name holds.
use Rattle.std.specs.Prelude.{ℤ, pos, ◌+ℤ◌, ◌-ℤ◌, ◌*ℤ◌, int_lt, int_le, Bool, true, false, not, ◌&&◌, ◌||◌, List, Option, Some}
use Rattle.std.specs.Prelude.{None}
use Rattle.std.specs.List.{list_any}
use Rattle.std.specs.Option.{option_map_or}
use Rattle.std.specs.Ordering.{int_eq}
use Rattle.fx_winding.specs.Area.{Place, area, gap_of}
use Rattle.fx_winding.specs.Meets.{slope, turn}
use Rattle.fx_winding.specs.Winding.{Span, weight_a, weight_b, weight_c, region_part, winding}

-- ---- on a piece

-- p is one of the numbers from a to c, in either order
abbrev pub is_between : ℤ → ℤ → ℤ → Bool
is_between a c p = (int_le a p && int_le p c) || (int_le c p && int_le p a)

-- p is on the line from a to c
abbrev pub is_on_line : Place → Place → Place → Bool
is_on_line a c p = int_eq (area a c p) (pos 0) && (is_between a.x c.x p.x && is_between a.y c.y p.y)

-- a place with these weights is on the arc
abbrev pub are_on_arc : ℤ → ℤ → ℤ → Bool
are_on_arc u v w = int_le (pos 0) u && (int_le (pos 0) v && (int_le (pos 0) w && int_eq (gap_of u v w) (pos 0)))

-- p is on the arc from a to c with the control point b, which is not on one line with them
abbrev pub is_on_curve : Place → Place → Place → Place → Bool
is_on_curve a b c p =
    not (int_eq (area a b c) (pos 0)) && are_on_arc (weight_a a b c p) (weight_b a b c p) (weight_c a b c p)

-- p lies on the side of a and c of the value at which the quadratic turns
abbrev pub is_before_turn : ℤ → ℤ → ℤ → ℤ → Bool
is_before_turn a b c p = int_le (a *ℤ c -ℤ b *ℤ b) (p *ℤ (a -ℤ pos 2 *ℤ b +ℤ c))

-- p is at least the least value that the quadratic takes
abbrev pub is_above_low : ℤ → ℤ → ℤ → ℤ → Bool
is_above_low a b c p = int_le a p || (int_le c p || (int_lt b a && (int_lt b c && is_before_turn a b c p)))

-- p is at most its greatest value
abbrev pub is_below_high : ℤ → ℤ → ℤ → ℤ → Bool
is_below_high a b c p = int_le p a || (int_le p c || (int_lt a b && (int_lt c b && is_before_turn a b c p)))

-- p is in the range of the values that the quadratic takes
abbrev pub is_in_range : ℤ → ℤ → ℤ → ℤ → Bool
is_in_range a b c p = is_above_low a b c p && is_below_high a b c p

-- p is on an arc whose three points are on one line
abbrev pub is_on_flat_arc : Place → Place → Place → Place → Bool
is_on_flat_arc a b c p =
    int_eq (area a b c) (pos 0) && (int_eq (area a b p) (pos 0) && (int_eq (area b c p) (pos 0) && (int_eq (area a c p) (pos 0)
    && (is_in_range a.x b.x c.x p.x && is_in_range a.y b.y c.y p.y))))

-- p is on the piece from a to c
abbrev pub is_on_part : Place → Option Place → Place → Place → Bool
is_on_part a None c p = is_on_line a c p
is_on_part a (Some b) c p = is_on_curve a b c p || is_on_flat_arc a b c p

-- p is on a piece
unfoldable pub is_on : Place → Span → Bool
is_on p s = is_on_part s.a s.b s.c p

-- p is on one of the pieces, or its winding number is not 0
unfoldable pub is_covered : Place → List Span → Bool
is_covered p ss = list_any (is_on p) ss || not (int_eq (winding p ss) (pos 0))

-- ---- met

-- e is on the row of p and q, strictly between them
abbrev pub is_within_row : Place → Place → Place → Bool
is_within_row p q e = int_eq e.y p.y && (int_lt p.x e.x && int_lt e.x q.x)

-- a quadratic takes the value p, which is above both its ends or below both
abbrev pub is_reached : ℤ → ℤ → ℤ → ℤ → Bool
is_reached a b c p =
    (int_lt a p && (int_lt c p && is_below_high a b c p)) || (int_lt p a && (int_lt p c && is_above_low a b c p))

-- the tip of an arc comes between p and q
abbrev pub is_tip : Place → Place → Place → Place → Place → Bool
is_tip a b c p q =
    is_reached a.y b.y c.y p.y && (int_eq (region_part a (Some b) c p) (pos 0)
    && (int_lt (pos 0) (slope a b c p) && int_lt (slope a b c q) (pos 0)))

-- a line has no tip
abbrev pub is_tip_part : Place → Option Place → Place → Place → Place → Bool
is_tip_part a None c p q = false
is_tip_part a (Some b) c p q = is_tip a b c p q

-- the piece meets the segment from p to q
unfoldable pub is_met : Place → Place → Span → Bool
is_met p q s =
    is_within_row p q s.a || (is_within_row p q s.c || (not (int_eq (turn p s) (turn q s)) || is_tip_part s.a s.b s.c p q))

-- ---- missed

-- each of a piece's points passes
abbrev pub has_all : (Place → Bool) → Span → Bool
has_all test s = test s.a && (option_map_or test s.b true && test s.c)

-- a piece is above the row of p, below it, or left of p
unfoldable pub is_missed : Place → Span → Bool
is_missed p s = has_all (λ e. int_lt p.y e.y) s || (has_all (λ e. int_lt e.y p.y) s || has_all (λ e. int_lt e.x p.x) s)
