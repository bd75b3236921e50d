-- The em square in FUnits (OpenType, "head", unitsPerEm).
use Rattle.std.specs.Prelude.{ℕ, ◌≤◌, ◌||◌, nat_lt, if◌then◌else◌, Option, Some, None}

-- the least and the greatest number of FUnits in a side of the em square
abbrev pub least_units_per_em : ℕ
least_units_per_em = 16

abbrev pub greatest_units_per_em : ℕ
greatest_units_per_em = 16384

-- a valid number of FUnits in a side of the em square
pub record IsUnitsPerEm (n : ℕ) : Type 0 where
  pub least : least_units_per_em ≤ n
  pub most : n ≤ greatest_units_per_em

-- a number as that of an em square, if it is valid
abbrev pub units_per_em_of : ℕ → Option ℕ
units_per_em_of n = if nat_lt n least_units_per_em || nat_lt greatest_units_per_em n then None else Some n
