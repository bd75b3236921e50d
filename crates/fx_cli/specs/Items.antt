-- What is said of a list of characters that is wrong.
use Rattle.std.specs.Prelude.{ℕ, ◌==◌, ◌&&◌, not, nat_lt, List, [], ◌∷◌, ◌++◌, codes, length, Option, Some, None, is_some, unwrap_or}
use Rattle.std.specs.Prelude.{if◌then◌else◌}
use Rattle.std.specs.List.{after_first, before_first}
use Rattle.std.specs.Option.{option_or}
use Rattle.fx_arguments.specs.WrongItems.{wrong_item_of}
use Rattle.fx_arguments.specs.declared.wrong_items.ItemFault.{ItemFault}
use Rattle.fx_arguments.specs.declared.wrong_items.ItemFault.TheVariants.{NoNumber, TooLong, Falls, TooHigh}
use Rattle.fx_words.specs.Parts.{Text, after_start}
use Rattle.fx_front.specs.Lines.{shown_text}

abbrev pub fault_said : ItemFault → Text
fault_said NoNumber = codes "' in the list is no hexadecimal number or range"
fault_said TooLong = codes "' in the list has a number of more than six digits"
fault_said TooHigh = codes "' in the list is above 10FFFF"
fault_said Falls = codes "' in the list ends before it begins"

-- a number without `0x` or `U+` before it
abbrev pub without_mark : Text → Text
without_mark text = unwrap_or
    (option_or (option_or (option_or (after_start (codes "0x") text) (after_start (codes "0X") text))
    (after_start (codes "U+") text)) (after_start (codes "u+") text)) text

-- the hyphen (45) of a range
abbrev pub hyphen_of : Text → Text
hyphen_of [] = []
hyphen_of (b ∷ high) = codes "-"

-- which number or range is meant, if these are right
abbrev pub right_said : Text → Text → List ℕ
right_said low high = shown_text (codes ", but ") ++ (shown_text low ++ (shown_text (hyphen_of high)
    ++ (shown_text high ++ shown_text (codes " is"))))

abbrev pub range_said : Text → Text → List ℕ
range_said low high =
    if nat_lt 0 (length low) && (not (is_some (wrong_item_of low)) && not (is_some (wrong_item_of high)))
    then right_said low high
    else []

abbrev pub number_said : Text → List ℕ
number_said item =
    range_said (without_mark (before_first (λ b. b == 45) item)) (without_mark (after_first (λ b. b == 45) item))

-- the number that is meant by what is none
abbrev pub meant_said : ItemFault → Text → List ℕ
meant_said NoNumber item = number_said item
meant_said fault item = []

abbrev pub one_item_said : ItemFault → Text → List ℕ
one_item_said fault item =
    shown_text (codes "'") ++ (shown_text item ++ (shown_text (fault_said fault) ++ meant_said fault item))

-- an item without bytes is a comma too many
abbrev pub no_item_said : ItemFault → List ℕ
no_item_said NoNumber = shown_text (codes "the list has a comma too many")
no_item_said fault = one_item_said fault []

abbrev pub item_said : ItemFault → Text → List ℕ
item_said fault [] = no_item_said fault
item_said fault (b ∷ item) = one_item_said fault (b ∷ item)

abbrev pub found_said : Option (Text × ItemFault) → List ℕ
found_said None = shown_text (codes "the list has more than 65,536 numbers")
found_said (Some found) = item_said found.1 found.0

-- what is wrong first with a list that is refused; if no item is, it has too many numbers
abbrev pub wrong_item_said : Text → List ℕ
wrong_item_said list = found_said (wrong_item_of list)
