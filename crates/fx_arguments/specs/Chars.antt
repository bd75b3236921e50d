-- The characters of a list. Commas separate its items: a number of one to six hexadecimal digits, or two such with '-' between
-- them.
use Rattle.std.specs.Prelude.{ℕ, zero, suc, ◌+◌, ◌-◌, ◌*◌, ◌==◌, ◌&&◌, nat_lt, nat_le, List, [], ◌∷◌, ◌++◌, length, Option, Some}
use Rattle.std.specs.Prelude.{None, option_map, option_and_then, if◌then◌else◌}
use Rattle.std.specs.List.{position_or_len, before_first, after_first}
use Rattle.hex.specs.Hex.{hex_digit_value}
use Rattle.fx_request.specs.Limits.{max_characters}
use Rattle.fx_arguments.specs.Parts.{parts_of}

-- the number that hexadecimal digits write after the digits of n
unfoldable pub number_after : ℕ → List ℕ → Option ℕ
number_after n [] = Some n
number_after n (digit ∷ digits) = option_and_then (λ value. number_after (n * 16 + value) digits) (hex_digit_value digit)

-- the number of one to six digits
unfoldable pub number_of : List ℕ → Option ℕ
number_of text = if nat_lt 0 (length text) && nat_le (length text) 6 then number_after 0 text else None

-- two numbers, if the second is not below the first
abbrev pub pair_of : Option ℕ → Option ℕ → Option (ℕ × ℕ)
pair_of low high = option_and_then (λ l. option_and_then (λ h. if nat_le l h then Some (l, h) else None) high) low

-- the first and the last number of an item
unfoldable pub range_of : List ℕ → Option (ℕ × ℕ)
range_of item =
    if nat_lt (position_or_len (λ b. b == 45) item) (length item)
    then pair_of (number_of (before_first (λ b. b == 45) item)) (number_of (after_first (λ b. b == 45) item))
    else pair_of (number_of item) (number_of item)

-- `count` numbers, from low on
unfoldable pub numbers_from : ℕ → ℕ → List ℕ
numbers_from low zero = []
numbers_from low (suc count) = low ∷ numbers_from (low + 1) count

-- all numbers from one to the other
abbrev pub numbers_between : ℕ × ℕ → List ℕ
numbers_between range = numbers_from range.0 (range.1 - range.0 + 1)

-- the numbers of all items, in their order
unfoldable pub numbers_of_items : List (List ℕ) → Option (List ℕ)
numbers_of_items [] = Some []
numbers_of_items (item ∷ items) =
    option_and_then (λ range. option_map (λ more. numbers_between range ++ more) (numbers_of_items items)) (range_of item)

-- at most max_characters of them
abbrev pub few : List ℕ → Option (List ℕ)
few numbers = if nat_le (length numbers) max_characters then Some numbers else None

-- the items of a list; an empty text has none
abbrev pub items_of : List ℕ → List (List ℕ)
items_of [] = []
items_of (b ∷ text) = parts_of 44 (b ∷ text)

-- the numbers of a list, in their order; none if its form is wrong
unfoldable pub numbers_of_list : List ℕ → Option (List ℕ)
numbers_of_list text = option_and_then few (numbers_of_items (items_of text))
