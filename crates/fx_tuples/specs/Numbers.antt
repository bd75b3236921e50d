-- Packed point numbers (OpenType, "OpenType Font Variations Common Table Formats", "Packed point numbers").
use Rattle.std.specs.Prelude.{ℕ, zero, suc, ◌+◌, ◌-◌, ◌*◌, ◌%◌, List, [], ◌∷◌, length, drop, slice_index, Option, Some, None}
use Rattle.std.specs.Prelude.{option_and_then}
use Rattle.std.specs.Prelude.{Bool, false, ◌==◌, nat_lt, nat_le, if◌then◌else◌}
use Rattle.fx_sfnt.specs.Fields.{field}
use Rattle.fx_glyf.specs.Words.{with_front}

-- the state of reading numbers: how many of the run are left, whether they take two bytes each, the number before, and the bytes
-- that follow
pub record NumberCursor : Type 0 where
  pub again : ℕ
  pub is_wide : Bool
  pub number : ℕ
  pub bytes : List ℕ

abbrev pub state : ℕ → Bool → ℕ → List ℕ → NumberCursor
state again is_wide number bytes = record { again = again; is_wide = is_wide; number = number; bytes = bytes }

-- a run begins where the one before it ends. Its first byte says how many numbers it has, one more than the low seven bits, and by
-- its high bit whether they take two bytes each. There is none of more numbers than `most`
unfoldable pub run_from : ℕ → ℕ → List ℕ → Option NumberCursor
run_from most number [] = None
run_from most number (head ∷ rest) =
    if nat_lt most (head % 128 + 1) then None
    else Some (record { again = head % 128 + 1; is_wide = nat_le 128 head; number = number; bytes = rest })

unfoldable pub opened : ℕ → NumberCursor → Option NumberCursor
opened most c = if c.again == 0 then run_from most c.number c.bytes else Some c

-- a number is the one before it, and what the bytes say
abbrev pub moved : NumberCursor → ℕ → List ℕ → NumberCursor
moved c by rest = record { again = c.again - 1; is_wide = c.is_wide; number = c.number + by; bytes = rest }

-- the next number of a run, of two bytes and of one
abbrev pub wide : NumberCursor → Option NumberCursor
wide c = if nat_lt (length c.bytes) 2 then None else Some (moved c (field 2 c.bytes 0) (drop 2 c.bytes))

abbrev pub narrow : NumberCursor → Option NumberCursor
narrow c = if nat_lt (length c.bytes) 1 then None else Some (moved c (slice_index c.bytes 0) (drop 1 c.bytes))

unfoldable pub advanced : NumberCursor → Option NumberCursor
advanced c = if c.is_wide then wide c else narrow c

unfoldable pub next_number : ℕ → NumberCursor → Option NumberCursor
next_number most c = option_and_then advanced (opened most c)

-- `left` numbers, and the bytes after them
unfoldable pub numbers_from : ℕ → NumberCursor → Option (List ℕ × List ℕ)
numbers_from zero c = Some ([], c.bytes)
numbers_from (suc left) c = option_and_then (λ d. with_front d.number (numbers_from left d)) (next_number (suc left) c)

-- before the first number
abbrev pub start : List ℕ → NumberCursor
start bytes = record { again = 0; is_wide = false; number = 0; bytes = bytes }

-- how many numbers there are, in one byte or, if its high bit is set, in two; 0 means all points
unfoldable pub count_of : List ℕ → Option (ℕ × List ℕ)
count_of [] = None
count_of (b ∷ rest) = if nat_lt b 128 then Some (b, rest) else wide_count (b % 128) rest where
  wide_count : ℕ → List ℕ → Option (ℕ × List ℕ)
  wide_count high [] = None
  wide_count high (low ∷ rest) = Some (high * 256 + low, rest)

-- the numbers at the front of bytes; none if they are all
abbrev pub numbers_of : List ℕ → Option (List ℕ × List ℕ)
numbers_of bytes = option_and_then (λ c. numbers_from c.0 (start c.1)) (count_of bytes)
