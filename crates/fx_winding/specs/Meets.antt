-- Which pieces meet the segment between two places of a row, neither of which is on them: a stroke that passes between two
-- neighbouring centres of pixels and covers neither (Apple TrueType Reference Manual, scan conversion, rule 3).
use Rattle.std.specs.Prelude.{◌≡◌, ◌≢◌, ◌⊎◌, ◌↔◌, ℤ, pos, ◌+ℤ◌, ◌-ℤ◌, ◌*ℤ◌, ◌<ℤ◌, List, Option, Some, None}
use Rattle.fx_winding.specs.Area.{Place, area}
use Rattle.fx_winding.specs.Winding.{Span, crossing, region, region_part, winding, IsAboveLow, IsBelowHigh, IsCovered}
use Rattle.fx_winding.specs.Moves.{reversed, shifted_place, shifted}

-- what a piece adds to the winding number at p
abbrev pub turn : Place → Span → ℤ
turn p s = crossing p s +ℤ region p s

-- e is on the row of p and q, strictly between them
pub record IsWithinRow (p q e : Place) : Type 0 where
  pub level : e.y ≡ p.y
  pub after : p.x <ℤ e.x
  pub before : e.x <ℤ q.x

-- a quadratic takes the value p, which is above both its ends or below both
abbrev pub IsReached : ℤ → ℤ → ℤ → ℤ → Type 0
IsReached a b c p = ((a <ℤ p) × (c <ℤ p) × IsBelowHigh a b c p) ⊎ ((p <ℤ a) × (p <ℤ c) × IsAboveLow a b c p)

-- half of how fast the gap 4uw - v² of the areas of p with an arc's points grows along a row; the gap is above 0 within the arc's
-- parabola and below 0 outside
abbrev pub slope : Place → Place → Place → Place → ℤ
slope a b c p = pos 2 *ℤ ((b.y -ℤ c.y) *ℤ area a b p +ℤ (a.y -ℤ b.y) *ℤ area p b c) +ℤ (a.y -ℤ c.y) *ℤ area a p c

-- the tip of an arc comes between p and q: the arc reaches their row from one side and turns back; p is not in its region, and
-- along the row the gap rises at p and falls at q
pub record IsTip (a b c p q : Place) : Type 0 where
  pub reached : IsReached a.y b.y c.y p.y
  pub outside : region_part a (Some b) c p ≡ pos 0
  pub rises : pos 0 <ℤ slope a b c p
  pub falls : slope a b c q <ℤ pos 0

-- a line has no tip
abbrev pub IsTipPart : Place → Option Place → Place → Place → Place → Type 0
IsTipPart a None c p q = ⊥
IsTipPart a (Some b) c p q = IsTip a b c p q

-- the piece meets the segment from p to q: an end of it is between them; or it crosses, so that it adds one number to the winding
-- number at p and another at q; or its tip comes between them
--
--            /                                _
--     p-----/-----q     p-----a-----q     p--/--\--q     p-----------q
--          /                 /              /    \          ___
--         /                 /              /      \        /   \
--      it crosses       an end is          the tip is      not met
--                       between them       between them
abbrev pub IsMet : Place → Place → Span → Type 0
IsMet p q s = IsWithinRow p q s.a ⊎ (IsWithinRow p q s.c ⊎ (turn p s ≢ turn q s ⊎ IsTipPart s.a s.b s.c p q))

-- the law: a reversed piece meets the same segments
abbrev pub ReversalMeets : Type 0
ReversalMeets = (p q : Place) (s : Span) → IsMet p q (reversed s) ↔ IsMet p q s

-- the law: a moved piece meets the segments that the piece met, moved
abbrev pub ShiftMeets : Type 0
ShiftMeets = (x y : ℤ) (p q : Place) (s : Span)
    → IsMet (shifted_place x y p) (shifted_place x y q) (shifted x y s) ↔ IsMet p q s

-- the law: between two places that are not covered what the pieces add changes by 0 in all, so that a piece that crosses one way
-- has others that cross the other way
abbrev pub CrossingsCancel : Type 0
CrossingsCancel = (p q : Place) (ss : List Span) → ¬ (IsCovered p ss) → ¬ (IsCovered q ss) → winding p ss ≡ winding q ss

-- the row of p is strictly between the ends of a piece
abbrev pub IsBetweenEnds : Place → Span → Type 0
IsBetweenEnds p s = ((s.a.y <ℤ p.y) × (p.y <ℤ s.c.y)) ⊎ ((s.c.y <ℤ p.y) × (p.y <ℤ s.a.y))

-- the law: on a row strictly between its ends a piece meets just the segments at whose ends it adds different numbers
abbrev pub InnerMeets : Type 0
InnerMeets = (p q : Place) (s : Span) → IsBetweenEnds p s → IsMet p q s ↔ (turn p s ≢ turn q s)

-- the law: a line that passes a row strictly between its ends, at a place strictly between two others, meets the segment between
-- these
abbrev pub LinesAreMet : Type 0
LinesAreMet = (a c p q r : Place) → p.y ≡ r.y → q.y ≡ r.y → p.x <ℤ r.x → r.x <ℤ q.x → area a c r ≡ pos 0
    → ((a.y <ℤ r.y) × (r.y <ℤ c.y)) ⊎ ((c.y <ℤ r.y) × (r.y <ℤ a.y)) → IsMet p q (record { a = a; b = None; c = c })
