-- Tables of which only the first functions are held.
use Rattle.std.specs.Prelude.{ℕ, ◌-◌, List, ◌++◌, length, replicate, Option, None}

-- a table of this size: these are its first functions, and the others are none
abbrev pub filled : {X : Type 0} → ℕ → List (Option X) → List (Option X)
filled count items = items ++ replicate (count - length items) None
