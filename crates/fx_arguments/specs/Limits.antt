-- The limits of inputs (limits of this project).
use Rattle.std.specs.Prelude.{ℕ}

-- the greatest number of bytes of an input
abbrev pub max_input : ℕ
max_input = 67108864

-- the greatest number of bytes of a line of arguments
abbrev pub max_line : ℕ
max_line = 4096
