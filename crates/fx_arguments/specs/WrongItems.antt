-- Which item of a list of characters is wrong, and why.
use Rattle.std.specs.Prelude.{ℕ, ◌==◌, ◌&&◌, Bool, nat_lt, nat_le, List, [], ◌∷◌, length, Option, Some, None, is_some, unwrap_or}
use Rattle.std.specs.Prelude.{if◌then◌else◌}
use Rattle.std.specs.Borrow.{Bor}
use Rattle.std.specs.List.{after_first, before_first, list_all, position_or_len}
use Rattle.hex.specs.Hex.{hex_digit_value}
use Rattle.fx_request.specs.Limits.{max_code}
use Rattle.fx_arguments.specs.Chars.{items_of, number_of, range_of}
use Rattle.fx_arguments.specs.declared.wrong_items.ItemFault.{ItemFault}
use Rattle.fx_arguments.specs.declared.wrong_items.ItemFault.TheVariants.{NoNumber, TooLong, Falls, TooHigh}

abbrev pub is_digit : ℕ → Bool
is_digit byte = is_some (hex_digit_value byte)

-- hexadecimal digits alone, and at least one
abbrev pub is_digits : List ℕ → Bool
is_digits text = nat_lt 0 (length text) && list_all is_digit text

-- why a text is no number of at most six digits
abbrev pub fault_of_number : List ℕ → Option ItemFault
fault_of_number text = if is_some (number_of text) then None else (if is_digits text then Some TooLong else Some NoNumber)

-- the first of two faults; with none, the second number is below the first
abbrev pub fault_of_ends : Option ItemFault → Option ItemFault → ItemFault
fault_of_ends (Some fault) high = fault
fault_of_ends None high = unwrap_or high Falls

-- why an item is no range
abbrev pub fault_of_range : List ℕ → ItemFault
fault_of_range item =
    if nat_lt (position_or_len (λ b. b == 45) item) (length item)
    then fault_of_ends (fault_of_number (before_first (λ b. b == 45) item)) (fault_of_number (after_first (λ b. b == 45) item))
    else fault_of_ends None (fault_of_number item)

-- why an item is wrong: it is no range, or goes above the greatest code point
abbrev pub fault_by_range : List ℕ → Option (ℕ × ℕ) → Option ItemFault
fault_by_range item None = Some (fault_of_range item)
fault_by_range item (Some range) = if nat_le range.1 max_code then None else Some TooHigh

abbrev pub fault_of_item : List ℕ → Option ItemFault
fault_of_item item = fault_by_range item (range_of item)

-- the first wrong item among these, and why
abbrev pub first_by : List ℕ → Option ItemFault → Option (List ℕ × ItemFault) → Option (List ℕ × ItemFault)
first_by item None later = later
first_by item (Some fault) later = Some (item, fault)

abbrev pub first_wrong : List (List ℕ) → Option (List ℕ × ItemFault)
first_wrong [] = None
first_wrong (item ∷ items) = first_by item (fault_of_item item) (first_wrong items)

-- the first item of a list that is wrong, and why
abbrev pub wrong_item_of : List ℕ → Option (List ℕ × ItemFault)
wrong_item_of text = first_wrong (items_of text)

abbrev pub seen_item : Bor (List ℕ) × ItemFault → List ℕ × ItemFault
seen_item found = (found.0.now, found.1)
