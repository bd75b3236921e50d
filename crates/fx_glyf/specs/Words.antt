-- What all parts of a glyph's bytes are read with (OpenType, `glyf`).
use Rattle.std.specs.Prelude.{ℕ, zero, suc, ◌+◌, List, [], ◌∷◌, length, take, drop, Option, Some, None, Bool, ◌==◌, not, nat_lt}
use Rattle.std.specs.Prelude.{if◌then◌else◌, bit_and}
use Rattle.byteorder.specs.Endian.{big_number}
use Rattle.fx_sfnt.specs.Fields.{field}

-- flags have a bit, by its mask
abbrev pub has : ℕ → ℕ → Bool
has flags mask = not (bit_and flags mask == 0)

-- the first n numbers of two bytes each
unfoldable pub words : ℕ → List ℕ → List ℕ
words zero bytes = []
words (suc n) bytes = big_number 2 bytes ∷ words n (drop 2 bytes)

-- the number of points, by the end points of contours: one more than the last, if none is below the one before it; start is the
-- number of the first contour's first point
unfoldable pub count_from : ℕ → List ℕ → Option ℕ
count_from start [] = Some start
count_from start (e ∷ es) = if nat_lt (e + 1) start then None else count_from (e + 1) es

-- a program after its length of two bytes, and the bytes after it
unfoldable pub program_of : List ℕ → Option (List ℕ × List ℕ)
program_of bytes =
    if nat_lt (length bytes) 2 then None
    else (if nat_lt (length (drop 2 bytes)) (field 2 bytes 0) then None
    else Some (take (field 2 bytes 0) (drop 2 bytes), drop (field 2 bytes 0) (drop 2 bytes)))

-- one item in front of a list that was read
abbrev pub with_front : {X : Type 0} → X → Option (List X × List ℕ) → Option (List X × List ℕ)
with_front x None = None
with_front x (Some r) = Some (x ∷ r.0, r.1)

-- the list that was read
abbrev pub list_in : {X : Type 0} → Option (List X × List ℕ) → List X
list_in None = []
list_in (Some r) = r.0
