-- The sizes at which strikes are made (a limit of this project).
use Rattle.std.specs.Prelude.{ℕ, ◌≤◌, ◌==◌, ◌||◌, nat_lt, if◌then◌else◌, Option, Some, None}

-- the greatest size, in pixels per em
abbrev pub max_ppem : ℕ
max_ppem = 1024

-- a valid size in pixels per em
pub record IsPpem (n : ℕ) : Type 0 where
  pub least : 1 ≤ n
  pub most : n ≤ max_ppem

-- a number as a size, if it is valid
abbrev pub ppem_of : ℕ → Option ℕ
ppem_of n = if n == 0 || nat_lt max_ppem n then None else Some n
