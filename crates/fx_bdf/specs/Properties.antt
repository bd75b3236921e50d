-- The properties of a strike: lines of a word for the property's name, followed by either an integer or a string surrounded by
-- quotation marks (BDF 2.1, global font information, STARTPROPERTIES).
use Rattle.std.specs.Prelude.{◌≡◌, ℕ, ◌+◌, ◌^◌, ◌≤◌, ℤ, pos, negsuc, Bool, true, ◌==◌, ◌&&◌, ◌||◌, not, nat_lt, nat_le, if◌then◌else◌}
use Rattle.std.specs.Prelude.{List, [], ◌∷◌, ◌++◌, map, length, codes, slice_index, Option, Some, None}
use Rattle.std.specs.List.{flat_map, list_all, list_any}
use Rattle.std.specs.Str.{bytes_eq}
use Rattle.std.specs.Fmt.{signed_decimal}
use Rattle.fx_fixed.specs.Lines.{text_of}
use Rattle.fx_bdf.specs.Printed.{is_printed}
use Rattle.fx_bdf.specs.declared.property.Property.{Property}
use Rattle.fx_bdf.specs.declared.property.Value.{Value}
use Rattle.fx_bdf.specs.declared.property.Value.TheVariants.{Number, Text}

-- a property's value: an integer, or a string
pub data ValueView : Type 0 where
  number : ℤ → ValueView
  text : List ℕ → ValueView

-- a property beside FONT_ASCENT and FONT_DESCENT
pub record PropertyView : Type 0 where
  pub name : List ℕ
  pub value : ValueView

-- what the code holds of it
abbrev pub seen_value : Value → ValueView
seen_value (Number n) = number n
seen_value (Text t) = text t.now

abbrev pub seen_property : Property → PropertyView
seen_property p = record { name = p.name.now; value = seen_value p.value }

abbrev pub seen_properties : List Property → List PropertyView
seen_properties properties = map seen_property properties

-- ---- its line

-- a string between quotation marks (34); an internal one is indicated by two in a row
abbrev pub doubled : ℕ → List ℕ
doubled c = if c == 34 then 34 ∷ 34 ∷ [] else c ∷ []

unfoldable pub quoted : List ℕ → List ℕ
quoted string = 34 ∷ (flat_map doubled string ++ 34 ∷ [])

abbrev pub value_text : ValueView → List ℕ
value_text (number n) = signed_decimal n
value_text (text string) = quoted string

-- the line of a property
abbrev pub property_text : PropertyView → List ℕ
property_text p = text_of ((p.name ∷ value_text p.value ∷ []) ∷ [])

-- ---- which are good (limits of this project)

-- the greatest number of properties beside FONT_ASCENT and FONT_DESCENT
abbrev pub most_properties : ℕ
most_properties = 64

-- the greatest number of bytes of a name, and of a string: with all its quotation marks doubled its line is shorter than 65,535
-- bytes, which is BDF's limit
abbrev pub longest_word : ℕ
longest_word = 64

abbrev pub longest_string : ℕ
longest_string = 32000

-- A to Z
abbrev pub is_letter : ℕ → Bool
is_letter c = nat_le 65 c && nat_le c 90

-- 0 to 9
abbrev pub is_digit : ℕ → Bool
is_digit c = nat_le 48 c && nat_le c 57

-- a letter, a digit or an underscore (95)
abbrev pub is_word_part : ℕ → Bool
is_word_part c = is_letter c || (is_digit c || c == 95)

-- a name that each strike has; or a word that means something else in that block: ENDPROPERTIES ends it, and a COMMENT may stand
-- anywhere (BDF 2.1)
unfoldable pub is_reserved : List ℕ → Bool
is_reserved name = bytes_eq name (codes "FONT_ASCENT") || (bytes_eq name (codes "FONT_DESCENT") ||
    (bytes_eq name (codes "ENDPROPERTIES") || bytes_eq name (codes "COMMENT")))

-- letters, digits and underscores, a letter first, and not reserved
unfoldable pub is_word : List ℕ → Bool
is_word name = nat_lt 0 (length name) &&
    (nat_le (length name) longest_word && (list_all is_word_part name && (is_letter (slice_index name 0) &&
    not (is_reserved name))))

-- printed characters and spaces
unfoldable pub is_string : List ℕ → Bool
is_string string = nat_le (length string) longest_string && list_all is_printed string

-- an integer of 32 bits with sign
abbrev pub is_integer : ℤ → Bool
is_integer (pos n) = nat_lt n (2 ^ 31)
is_integer (negsuc n) = nat_lt n (2 ^ 31)

abbrev pub is_value : ValueView → Bool
is_value (number n) = is_integer n
is_value (text string) = is_string string

-- one of properties has a name
abbrev pub is_taken : List PropertyView → List ℕ → Bool
is_taken properties name = list_any (λ p. bytes_eq p.name name) properties

-- a property that is good by itself, and after others: they leave it room and its name
unfoldable pub may_follow : List PropertyView → PropertyView → Bool
may_follow before p = nat_lt (length before) most_properties &&
    (is_word p.name && (is_value p.value && not (is_taken before p.name)))

-- the index of the first property that may not follow those before it
unfoldable pub first_bad_after : List PropertyView → List PropertyView → Option ℕ
first_bad_after before [] = None
first_bad_after before (p ∷ ps) = if may_follow before p then first_bad_after (before ++ p ∷ []) ps else Some (length before)

abbrev pub first_bad : List PropertyView → Option ℕ
first_bad properties = first_bad_after [] properties

-- all are good
abbrev pub AreProperties : List PropertyView → Type 0
AreProperties properties = first_bad properties ≡ None

-- ---- whose lines are short

-- the greatest number of properties that a strike has beside the given ones
abbrev pub most_more : ℕ
most_more = 12

-- a name and a value that are short
abbrev pub is_short_value : ValueView → Bool
is_short_value (number n) = is_integer n
is_short_value (text string) = nat_le (length string) longest_string

abbrev pub is_line : PropertyView → Bool
is_line p = nat_le (length p.name) longest_word && is_short_value p.value

-- properties whose lines can be written: few, and each with a short name and a short value
pub record AreLines (properties : List PropertyView) : Type 0 where
  pub few : length properties ≤ most_properties + most_more
  pub short : list_all is_line properties ≡ true
