-- The properties that arguments ask for: each NAME=VALUE.
use Rattle.std.specs.Prelude.{ℤ, Bool, false, ◌==◌, ◌&&◌, nat_lt, [], ◌∷◌, length, Option, Some, None, option_map}
use Rattle.std.specs.Prelude.{if◌then◌else◌}
use Rattle.std.specs.List.{list_all, position_or_len, before_first, after_first}
use Rattle.std.specs.Char.{digit_value}
use Rattle.std.specs.Str.Parse.{signed_digits_value, without_leading_sign}
use Rattle.clap.specs.Walk.{Text}
use Rattle.fx_bdf.specs.Properties.{PropertyView, ValueView, is_integer, number, text}

-- a text without the quotation mark (34) at its end
unfoldable pub before_mark : Text → Option Text
before_mark [] = None
before_mark (c ∷ []) = if c == 34 then Some [] else None
before_mark (c ∷ d ∷ cs) = option_map (λ front. c ∷ front) (before_mark (d ∷ cs))

-- the text between a quotation mark at the start and one at the end
unfoldable pub between_marks : Text → Option Text
between_marks [] = None
between_marks (c ∷ cs) = if c == 34 then before_mark cs else None

-- the first byte is a plus (43)
abbrev pub has_plus : Text → Bool
has_plus [] = false
has_plus (c ∷ cs) = c == 43

-- a whole number of 32 bits in decimal digits, perhaps a minus before them
unfoldable pub whole_of : Text → Option ℤ
whole_of value =
    let ds = without_leading_sign value in
    if has_plus value then None
    else (if nat_lt 0 (length ds) && (list_all (λ d. nat_lt (digit_value d) 10) ds && is_integer (signed_digits_value 10 value))
    then Some (signed_digits_value 10 value) else None)

-- a number, or the text itself
abbrev pub number_or_text : Text → Option ℤ → ValueView
number_or_text value (Some n) = number n
number_or_text value None = text value

-- the text between marks, or a number, or the text itself
abbrev pub marked_or_not : Text → Option Text → ValueView
marked_or_not value (Some string) = text string
marked_or_not value None = number_or_text value (whole_of value)

abbrev pub value_of : Text → ValueView
value_of value = marked_or_not value (between_marks value)

-- a name, and a value after the first `=` (61)
unfoldable pub property_of : Text → Option PropertyView
property_of given =
    if nat_lt (position_or_len (λ b. b == 61) given) (length given)
    then Some (record {
      name = before_first (λ b. b == 61) given;
      value = value_of (after_first (λ b. b == 61) given);
    }) else None
