-- What a symmetry does to pieces: what they add, the places that they cover, and the segments that they meet.
use Rattle.std.specs.Prelude.{◌≡◌, ◌↔◌, ℤ, pos, negsuc, ◌-ℤ◌, ◌≤ℤ◌, int_lt, ◌&&◌, if◌then◌else◌, List, map}
use Rattle.std.specs.Ordering.{int_eq}
use Rattle.fx_winding.specs.Area.{Place}
use Rattle.fx_winding.specs.Turned.{turned_place, turned_span}
use Rattle.fx_winding.specs.Meets.{turn, IsMet}
use Rattle.fx_winding.specs.Outside.{AreOfOutline}
use Rattle.fx_winding.specs.Winding.{Span, IsOn, IsCovered, centre}
use Rattle.fx_symmetry.specs.Symmetries.{Symmetry, Mirror, Flip, Exchange, place_in, span_in, col_in, row_in}

-- what an end of a piece counts at p: mirrored, 1 if it is above the row of p; upside down, -1 if it is right of p in its row;
-- with the coordinates exchanged, 1 if it is above p and right of it
abbrev pub end_in : Symmetry → Place → Place → ℤ
end_in Mirror p e = if int_lt p.y e.y then pos 1 else pos 0
end_in Flip p e = if int_eq e.y p.y && int_lt p.x e.x then negsuc 0 else pos 0
end_in Exchange p e = if int_lt p.y e.y && int_lt p.x e.x then pos 1 else pos 0

-- the law of one piece: moved, it has the moved places on it. At any other place the piece and the moved one, at the moved place,
-- add in all what the piece's end counts less what its start counts. Around a closed contour these cancel
abbrev pub AddsUp : Type 0
AddsUp = (m : Symmetry) (p : Place) (s : Span) → (IsOn (place_in m p) (span_in m s) ↔ IsOn p s)
    × (¬ (IsOn p s) → turn (place_in m p) (span_in m s) ≡ (end_in m p s.c -ℤ end_in m p s.a) -ℤ turn p s)

-- the law: the moved pieces of closed contours cover the moved places. So it is all one whether the pieces right of a place are
-- counted, those left of it or those above it
abbrev pub MovesCover : Type 0
MovesCover = (m : Symmetry) (p : Place) (ss : List Span) → AreOfOutline ss
    → IsCovered (place_in m p) (map (span_in m) ss) ↔ IsCovered p ss

-- the law: they set the moved pixels
abbrev pub MovesBits : Type 0
MovesBits = (m : Symmetry) (i j : ℤ) (ss : List Span) → AreOfOutline ss
    → IsCovered (centre (col_in m i j) (row_in m i j)) (map (span_in m) ss) ↔ IsCovered (centre i j) ss

-- the law: between two places of a row, neither of which is on it, a mirrored piece meets the segment that the piece met, mirrored
abbrev pub MirrorMeets : Type 0
MirrorMeets = (p q : Place) (s : Span) → p.y ≡ q.y → ¬ (IsOn p s) → ¬ (IsOn q s)
    → IsMet (place_in Mirror q) (place_in Mirror p) (span_in Mirror s) ↔ IsMet p q s

-- the law: the same of the segment up to a place of the same column, which is one of a row with all coordinates exchanged
abbrev pub MirrorMeetsUp : Type 0
MirrorMeetsUp = (p q : Place) (s : Span) → p.x ≡ q.x → p.y ≤ℤ q.y → ¬ (IsOn p s) → ¬ (IsOn q s)
    → IsMet (turned_place (place_in Mirror p)) (turned_place (place_in Mirror q)) (turned_span (span_in Mirror s))
    ↔ IsMet (turned_place p) (turned_place q) (turned_span s)

-- the law: a piece upside down meets the segments that the piece met, upside down, in rows
abbrev pub FlipMeets : Type 0
FlipMeets = (p q : Place) (s : Span) → p.y ≡ q.y → p.x ≤ℤ q.x → ¬ (IsOn p s) → ¬ (IsOn q s)
    → IsMet (place_in Flip p) (place_in Flip q) (span_in Flip s) ↔ IsMet p q s

-- the law: and in columns
abbrev pub FlipMeetsUp : Type 0
FlipMeetsUp = (p q : Place) (s : Span) → p.x ≡ q.x → ¬ (IsOn p s) → ¬ (IsOn q s)
    → IsMet (turned_place (place_in Flip q)) (turned_place (place_in Flip p)) (turned_span (span_in Flip s))
    ↔ IsMet (turned_place p) (turned_place q) (turned_span s)
