-- Runs of points that are not named, as the sweep finds them.
use Rattle.std.specs.Prelude.{ℕ, zero, suc, Bool, if◌then◌else◌, List, [], ◌∷◌, slice_index_or}

-- the number of points before the first named one; of all points if none is named
unfoldable pub unnamed_run : {P : Type 0} → (P → Bool) → List P → ℕ
unnamed_run is_named [] = 0
unnamed_run is_named (p ∷ ps) = if is_named p then 0 else suc (unnamed_run is_named ps)

-- the point before the one of a number; before the first one another
abbrev pub point_before : {P : Type 0} → P → ℕ → List P → P
point_before last zero points = last
point_before last (suc n) points = slice_index_or points n last
