-- The advice on a list of characters that is wrong.
use Rattle.std.specs.Prelude.{ℕ, ◌==◌, ◌&&◌, ◌||◌, not, nat_lt, Bool, List, [], ◌++◌, codes, Option, Some, None, is_some}
use Rattle.std.specs.Prelude.{if◌then◌else◌}
use Rattle.std.specs.Char.{to_ascii_lowercase}
use Rattle.std.specs.List.{find, list_any, slice_split}
use Rattle.fx_words.specs.Parts.{Text, has}
use Rattle.fx_words.specs.Sets.{list_of}
use Rattle.fx_front.specs.Lines.{shown_text, shown_with}
use Rattle.fx_front.specs.Places.{is_named}
use Rattle.fx_front.specs.Meant.{question, set_meant_by, words_of}

-- the items between the commas of a list
abbrev pub items_of : Text → List Text
items_of list = slice_split (λ b. b == 44) list

-- a byte outside ASCII, or a letter from g to z in either case, but `u` (117) and `x` (120), which come before numbers
abbrev pub is_letter : ℕ → Bool
is_letter byte =
    (nat_lt 102 (to_ascii_lowercase byte) && nat_lt (to_ascii_lowercase byte) 123
    && not (to_ascii_lowercase byte == 117 || to_ascii_lowercase byte == 120)) || nat_lt 127 byte

-- an item that looks like a word or a letter, and not like numbers
abbrev pub is_word : Text → Bool
is_word item = list_any is_letter item

abbrev pub first_word : List Text → Option Text
first_word items = find is_word items

-- the first item that is the name of a set
abbrev pub first_set : List Text → Option Text
first_set items = find (λ item. is_some (list_of item)) items

-- what takes a list of names or letters
abbrev pub set_said : Option Text → Option Text → List ℕ
set_said (Some name) word = shown_with (codes "; --set % takes that set") name
set_said None (Some word) = shown_text (
    codes "; --set takes sets by name, and strike --text of the package python3-mkstrike takes letters"
    )
set_said None None = []

abbrev pub names_said : Text → List Text → List ℕ
names_said list items =
    if has (words_of (codes "all *")) list then shown_text (codes "; --all takes all characters of the font")
    else set_said (first_set items) (first_word items)

-- no set of characters has this name
abbrev pub unknown_set_said : Text → List ℕ
unknown_set_said name =
    shown_with (codes "no set of characters has the name '%';") name
    ++ (question (set_meant_by name) ++ shown_text (codes " 'mkstrike help sets' lists the sets"))

-- the first wrong item of a list
abbrev pub wrong_said : (Text → List ℕ) → Text → Text → List Text → List ℕ
wrong_said wrong_item list advice items =
    wrong_item list ++ (shown_with (codes ": %; the letter A is 41") advice ++ names_said list items)

-- what is wrong with a list: an unknown name, or else its first wrong item
abbrev pub items_said : (Text → List ℕ) → Option Text → Text → Text → List Text → List ℕ
items_said wrong_item None list advice items = wrong_said wrong_item list advice items
items_said wrong_item (Some name) list advice items = unknown_set_said name

-- the first word of a list, if `--set` is among the words and the list stands for it
abbrev pub unknown_set : Bool → List Text → Option Text
unknown_set is_set items = if is_set then first_word items else None

-- what is wrong with a list of characters, or with one
abbrev pub list_said : (Text → List ℕ) → Bool → Option Text → Option Text → Text → List ℕ
list_said wrong_item is_make listed None advice = shown_text advice
list_said wrong_item is_make listed (Some list) advice =
    if not is_make
    then shown_with (codes "--char takes one hexadecimal number up to 10FFFF, not '%'; the letter A is 41") list
    else items_said wrong_item (unknown_set (is_named listed list) (items_of list)) list advice (items_of list)
