-- Points that are not named, between those that are, contour by contour (Apple TrueType Reference Manual, "IUP"; OpenType, "gvar",
-- "Inferred deltas for un-referenced point numbers"). A rule says which points are named, and where a point between two named ones
-- goes.
use Rattle.std.specs.Prelude.{ℕ, zero, suc, ◌-◌, Bool, if◌then◌else◌, List, [], ◌∷◌, ◌++◌}
use Rattle.std.specs.Prelude.{reverse, take, drop, slice_index_or, slice_get, Option, Some, None, option_map}

-- a contour: the number of its first point, which follows the last one of the contour before, and the one after its last
abbrev pub first_of : List ℕ → ℕ → ℕ
first_of ends zero = 0
first_of ends (suc k) = suc (slice_index_or ends k 0)

abbrev pub contour_of : List ℕ → ℕ → Option (ℕ × ℕ)
contour_of ends k = option_map (λ end. (first_of ends k, suc end)) (slice_get ends k)

-- the first named point of a list
unfoldable pub first_named : {P : Type 0} → (P → Bool) → List P → Option P
first_named is_named [] = None
first_named is_named (p ∷ ps) = if is_named p then Some p else first_named is_named ps

-- a point between two named ones; it stays if there are none
abbrev pub between_any : {P : Type 0} → (P → P → P → P) → Option P → Option P → P → P
between_any between (Some before) (Some after) p = between before after p
between_any between (Some before) None p = p
between_any between None after p = p

-- a point of a contour, with the points before it and those after it. A contour is a cycle: backward from the point come
-- those before it and then those after it, both the last one first; forward those after it and then those before it
abbrev pub filled : {P : Type 0} → (P → Bool) → (P → P → P → P) → List P → P → List P → P
filled is_named between before p after =
    if is_named p then p
    else between_any between (first_named is_named (reverse before ++ reverse after)) (first_named is_named (after ++ before)) p

-- each point of the rest of a contour
unfoldable pub each_filled : {P : Type 0} → (P → Bool) → (P → P → P → P) → List P → List P → List P
each_filled is_named between before [] = []
each_filled is_named between before (p ∷ after) =
    filled is_named between before p after ∷ each_filled is_named between (before ++ p ∷ []) after

-- a contour
unfoldable pub contour_filled : {P : Type 0} → (P → Bool) → (P → P → P → P) → List P → List P
contour_filled is_named between points = each_filled is_named between [] points

-- a contour within the points of a glyph, by the number of its first point and the one after its last
abbrev pub part_filled : {P : Type 0} → (P → Bool) → (P → P → P → P) → Option (ℕ × ℕ) → List P → List P
part_filled is_named between (Some c) points =
    take c.0 points ++ (contour_filled is_named between (take (c.1 - c.0) (drop c.0 points)) ++ drop (c.1 - c.0) (drop c.0 points))
part_filled is_named between None points = points

-- the first n contours, each by itself; points that are in none of them stay
unfoldable pub contours_filled : {P : Type 0} → (P → Bool) → (P → P → P → P) → List ℕ → ℕ → List P → List P
contours_filled is_named between ends zero points = points
contours_filled is_named between ends (suc n) points =
    part_filled is_named between (contour_of ends n) (contours_filled is_named between ends n points)
