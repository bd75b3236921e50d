-- The properties that the X logical font description has of a font, as far as a strike's name, its size and its glyphs settle them
-- (X Logical Font Description Conventions 1.5, FontName and font properties).
use Rattle.std.specs.Prelude.{ℕ, zero, suc, ◌*◌, ℤ, pos, Bool, true, ◌==◌, ◌&&◌, not, if◌then◌else◌, unsigned_abs}
use Rattle.std.specs.Prelude.{List, [], ◌∷◌, ◌++◌, map, filter, length, codes, slice_index}
use Rattle.std.specs.List.{after_first, before_first, count_by, list_all, list_any, sum_by}
use Rattle.std.specs.Ordering.{int_eq}
use Rattle.fx_fixed.specs.Numbers.{near_of}
use Rattle.fx_bdf.specs.declared.summary.Summary.{Summary}
use Rattle.fx_bdf.specs.Glyphs.{Glyph}
use Rattle.fx_bdf.specs.Properties.{PropertyView, number, text, is_taken}

-- ---- what its glyphs settle

-- all are one
abbrev pub are_one : List ℤ → Bool
are_one [] = true
are_one (n ∷ ns) = list_all (λ m. int_eq m n) ns

-- SPACING: monospaced if all advances are one
abbrev pub is_monospaced : List Glyph → Bool
is_monospaced glyphs = are_one (map (λ g. g.dwidth) glyphs)

-- AVERAGE_WIDTH: the mean of the absolute values of the widths in tenths of pixels; 0 of no glyph
abbrev pub mean_of : ℕ → ℕ → ℤ
mean_of total count = if count == 0 then pos 0 else near_of (pos (10 * total)) (pos count)

abbrev pub average_width : List Glyph → ℤ
average_width glyphs = mean_of (sum_by (λ g. unsigned_abs g.dwidth) glyphs) (length glyphs)

-- one of the glyphs is of a code point
abbrev pub has_code : ℕ → List Glyph → Bool
has_code code glyphs = list_any (λ g. g.code == code) glyphs

-- all of it, with whether the replacement character, U+FFFD, and the space, U+0020, are there
abbrev pub summary_of : List Glyph → Summary
summary_of glyphs = record {
  is_monospaced = is_monospaced glyphs;
  average_width = average_width glyphs;
  has_replacement = has_code 65533 glyphs;
  has_space = has_code 32 glyphs;
}

-- ---- what its name settles

-- a hyphen
abbrev pub is_hyphen : ℕ → Bool
is_hyphen c = c == 45

-- a name of 14 fields with a hyphen before each, as a FontName is
abbrev pub is_font_name : List ℕ → Bool
is_font_name name = slice_index name 0 == 45 && (count_by is_hyphen name == 14)

-- such a name from field n on; what is before the first hyphen is field 0
abbrev pub fields_from : ℕ → List ℕ → List ℕ
fields_from zero name = name
fields_from (suc n) name = fields_from n (after_first is_hyphen name)

-- field n of such a name; of another name this instead
unfoldable pub part_of : ℕ → List ℕ → List ℕ → List ℕ
part_of n instead name = if is_font_name name then before_first is_hyphen (fields_from n name) else instead

-- ---- the properties

abbrev pub string_property : List ℕ → List ℕ → PropertyView
string_property name string = record { name = name; value = text string }

abbrev pub number_property : List ℕ → ℤ → PropertyView
number_property name n = record { name = name; value = number n }

-- M or P
abbrev pub spacing : Bool → List ℕ
spacing monospaced = if monospaced then codes "M" else codes "P"

-- fields 2, 3 and 4 of a FontName; of another name it is the name, Medium, and R, upright
abbrev pub name_properties : List ℕ → List PropertyView
name_properties name =
    string_property (codes "FAMILY_NAME") (part_of 2 name name)
    ∷ string_property (codes "WEIGHT_NAME") (part_of 3 (codes "Medium") name)
    ∷ string_property (codes "SLANT") (part_of 4 (codes "R") name)
    ∷ []

-- pixels, tenths of points, and dots an inch: a point is 1/72 of an inch
abbrev pub size_properties : ℕ → List PropertyView
size_properties ppem =
    number_property (codes "PIXEL_SIZE") (pos ppem)
    ∷ number_property (codes "POINT_SIZE") (pos (10 * ppem))
    ∷ number_property (codes "RESOLUTION_X") (pos 72)
    ∷ number_property (codes "RESOLUTION_Y") (pos 72)
    ∷ []

abbrev pub width_properties : Summary → List PropertyView
width_properties summary =
    string_property (codes "SPACING") (spacing summary.is_monospaced)
    ∷ number_property (codes "AVERAGE_WIDTH") summary.average_width
    ∷ []

-- code points of Unicode
abbrev pub charset_properties : List PropertyView
charset_properties =
    string_property (codes "CHARSET_REGISTRY") (codes "ISO10646")
    ∷ string_property (codes "CHARSET_ENCODING") (codes "1")
    ∷ []

-- the character that stands for those that the strike lacks: the replacement character, failing it the space, failing it none
abbrev pub default_properties : Bool → Bool → List PropertyView
default_properties replacement space =
    if replacement then number_property (codes "DEFAULT_CHAR") (pos 65533) ∷ []
    else (if space then number_property (codes "DEFAULT_CHAR") (pos 32) ∷ [] else [])

-- all of them
abbrev pub x11_properties : List ℕ → ℕ → Summary → List PropertyView
x11_properties name ppem summary =
    name_properties name
    ++ (size_properties ppem
    ++ (width_properties summary
    ++ (charset_properties ++ default_properties summary.has_replacement summary.has_space)))

-- properties before given ones; those whose names the given ones have are left out
unfoldable pub before_given : List PropertyView → List PropertyView → List PropertyView
before_given more given = filter (λ p. not (is_taken given p.name)) more ++ given

-- the properties of a strike beside FONT_ASCENT and FONT_DESCENT: the given ones, and those of X11 before them if it has them
abbrev pub all_properties : Bool → List ℕ → ℕ → Summary → List PropertyView → List PropertyView
all_properties x11 name ppem summary given =
    if x11 then before_given (x11_properties name ppem summary) given else given
