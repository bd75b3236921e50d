-- The limits of outlines (limits of this project).
use Rattle.std.specs.Prelude.{ℕ}

-- the greatest number of component records below a root
abbrev pub max_components : ℕ
max_components = 256

-- the greatest depth of a component below its root
abbrev pub max_depth : ℕ
max_depth = 8

-- the number of places for components that a machine keeps
abbrev pub max_places : ℕ
max_places = 128

-- the most points, and the most contours, of one that is kept
abbrev pub max_kept_points : ℕ
max_kept_points = 80

-- the most bytes of one that is kept
abbrev pub max_kept_bytes : ℕ
max_kept_bytes = 512
