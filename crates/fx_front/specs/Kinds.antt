-- What kind of file it is, by its first bytes.
use Rattle.std.specs.Prelude.{ℕ, ◌==◌, ◌||◌, nat_eq, Bool, List, [], ◌∷◌, codes, map, Option, Some, None, if◌then◌else◌}
use Rattle.std.specs.Char.{is_ascii_hexdigit}
use Rattle.std.specs.List.{list_all, starts_with}
use Rattle.std.specs.Option.{option_or}
use Rattle.fx_words.specs.Parts.{Text}
use Rattle.fx_words.specs.Sets.{Table}
use Rattle.fx_front.specs.declared.kinds.TheConstants.{KINDS}
use Rattle.fx_front.specs.declared.packages.TheConstants.{PACKAGES}

-- the advice in the first row whose bytes begin these
abbrev pub kind_among : Table → List ℕ → Option Text
kind_among [] start = None
kind_among (row ∷ rows) start = if starts_with nat_eq start row.0 then Some row.1 else kind_among rows start

-- a hexadecimal digit or a blank
abbrev pub is_hexadecimal : ℕ → Bool
is_hexadecimal byte = is_ascii_hexdigit byte || (byte == 32 || (byte == 13 || byte == 10))

-- the advice on a file that begins so: by a row, or if it looks like hexadecimal text
abbrev pub kind_of : Table → List ℕ → Option Text
kind_of rows [] = Some (codes "the file is empty: give a TrueType font")
kind_of rows (byte ∷ start) = option_or (kind_among rows (byte ∷ start))
    (if list_all is_hexadecimal (byte ∷ start) then Some (codes "the file may be hexadecimal text: if so, add --hex") else None)

-- the same by the rows of docs/REFUSALS.md
unfoldable pub known_kind : List ℕ → Option Text
known_kind start = kind_of (map (λ row. (row.0.now, row.1.now)) KINDS) start

-- what to install if a font of this name is not there, by the folder that it is in
unfoldable pub package_of : Text → Option Text
package_of name = kind_among (map (λ row. (row.0.now, row.1.now)) PACKAGES) name
