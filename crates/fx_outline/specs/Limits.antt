-- The limit of outlines (a limit of this project).
use Rattle.std.specs.Prelude.{ℕ}

-- the greatest number of points of an outline
abbrev pub max_points : ℕ
max_points = 16384
