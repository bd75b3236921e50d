-- Printed characters of ASCII.
use Rattle.std.specs.Prelude.{ℕ, Bool, ◌&&◌, nat_le}

-- a printed character of ASCII, or a space
abbrev pub is_printed : ℕ → Bool
is_printed c = nat_le 32 c && nat_le c 126
