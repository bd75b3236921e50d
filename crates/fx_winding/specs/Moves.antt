-- Pieces reversed or shifted, and what that does to the places that they cover.
use Rattle.std.specs.Prelude.{◌≡◌, ◌↔◌, ℤ, pos, ◌+ℤ◌, ◌*ℤ◌, neg_ℤ, List, map, option_map}
use Rattle.std.specs.List.Sorted.{IsPermutation}
use Rattle.fx_winding.specs.Area.{Place, place}
use Rattle.fx_winding.specs.Winding.{Span, IsOn, crossing, region, IsCovered, centre}

-- the piece from its end to its start
abbrev pub reversed : Span → Span
reversed s = record { a = s.c; b = s.b; c = s.a }

-- the law of one piece: reversed, it has the same places on it, and adds the negative of what it added
abbrev pub ReversalNegates : Type 0
ReversalNegates = (p : Place) (s : Span)
    → (IsOn p (reversed s) ↔ IsOn p s) × (crossing p (reversed s) ≡ neg_ℤ (crossing p s)) ×
    (region p (reversed s) ≡ neg_ℤ (region p s))

-- the law: the pieces reversed, in whatever order, cover the same places
abbrev pub ReversalKeepsCover : Type 0
ReversalKeepsCover = (p : Place) (ss ts : List Span) → IsPermutation (map reversed ss) ts → IsCovered p ts ↔ IsCovered p ss

-- a place moved by x to the right and by y up
abbrev pub shifted_place : ℤ → ℤ → Place → Place
shifted_place x y p = place (p.x +ℤ x) (p.y +ℤ y)

-- a piece moved so
abbrev pub shifted : ℤ → ℤ → Span → Span
shifted x y s =
    record { a = shifted_place x y s.a; b = option_map (shifted_place x y) s.b; c = shifted_place x y s.c }

-- the law: the places that moved pieces cover are those that the pieces covered, moved
abbrev pub ShiftMovesCover : Type 0
ShiftMovesCover = (x y : ℤ) (p : Place) (ss : List Span) → IsCovered (shifted_place x y p) (map (shifted x y) ss) ↔ IsCovered p ss

-- the law: pieces moved by k pixels to the right and l up, each pixel 128 units a side, set the pixels moved so
abbrev pub ShiftMovesBits : Type 0
ShiftMovesBits = (k l i j : ℤ) (ss : List Span)
    → IsCovered (centre (i +ℤ k) (j +ℤ l)) (map (shifted (pos 128 *ℤ k) (pos 128 *ℤ l)) ss) ↔ IsCovered (centre i j) ss
