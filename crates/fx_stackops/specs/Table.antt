-- Tables of numbers, read and written at numbers that programs name.
-- Apple TrueType Reference Manual, "Storage area", "Control value table"; that a number outside reads as 0 and is counted is this
-- project's own choice.
use Rattle.std.specs.Prelude.{ℕ, ◌+◌, ℤ, pos, negsuc, Bool, false, nat_lt, if◌then◌else◌, List, ◌∷◌, ◌++◌, length, take, drop}
use Rattle.std.specs.Prelude.{slice_range, slice_index_or, slice_set, FitsSigned}
use Rattle.std.specs.List.{All}
use Rattle.std.specs.Int.{w32}

-- each has 32 bits
abbrev pub AreNumbers : List ℤ → Type 0
AreNumbers table = All (FitsSigned w32) table

-- a number names a cell of a table
abbrev pub is_inside : List ℤ → ℤ → Bool
is_inside table (pos n) = nat_lt n (length table)
is_inside table (negsuc n) = false

-- what a cell holds, 0 outside
abbrev pub read_of : List ℤ → ℤ → ℤ
read_of table (pos n) = slice_index_or table n (pos 0)
read_of table (negsuc n) = pos 0

-- a table with a number written, or as it was
abbrev pub written_of : List ℤ → ℤ → ℤ → List ℤ
written_of table (pos n) v = slice_set table n v
written_of table (negsuc n) v = table

-- a number outside is a stray
abbrev pub stray_of : List ℤ → ℤ → ℕ
stray_of table n = if is_inside table n then 0 else 1

-- the number at an index moved to the end of the part from there to another
abbrev pub rotated_of : ℕ → ℕ → List ℤ → List ℤ
rotated_of from to table =
    take from table ++ (slice_range table (from + 1) to ++ (slice_index_or table from (pos 0) ∷ drop to table))
