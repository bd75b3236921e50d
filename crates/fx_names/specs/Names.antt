-- The names of a font: the record of a name's number, and its text as UTF-8.
-- OpenType, "name": "Naming table header", "Name records", "Platform IDs". Which record goes first is own.
use Rattle.std.specs.Prelude.{ℕ, ◌+◌, ◌*◌, ◌%◌, List, [], ◌∷◌, length, take, drop, find, codes, Option, None, option_map, Bool, ◌==◌}
use Rattle.std.specs.Prelude.{◌||◌, ◌&&◌, nat_lt, nat_le, if◌then◌else◌}
use Rattle.std.specs.Char.{is_ascii}
use Rattle.std.specs.Option.{option_or}
use Rattle.std.specs.List.{list_all}
use Rattle.fx_sfnt.specs.Fields.{field}
use Rattle.fx_sfnt.specs.Tables.{Face, records, table_or_empty}
use Rattle.fx_names.specs.Text.{utf8_of}
use Rattle.fx_names.specs.declared.kinds.RecordKind.{RecordKind}
use Rattle.fx_names.specs.declared.kinds.RecordKind.TheVariants.{English, Unicode, Windows, Macintosh}

-- the name records (platformID, encodingID, languageID, nameID, length, stringOffset), each with what follows it
abbrev pub name_records : List ℕ → List (List ℕ)
name_records table = records 12 (field 2 table 2) (drop 6 table)

-- a record is of a kind: Windows with English of the United States; Unicode; Windows with any language; Macintosh Roman
abbrev pub is_of_kind : RecordKind → List ℕ → Bool
is_of_kind English entry = field 2 entry 0 == 3 && field 2 entry 4 == 0x409
is_of_kind Unicode entry = field 2 entry 0 == 0
is_of_kind Windows entry = field 2 entry 0 == 3
is_of_kind Macintosh entry = field 2 entry 0 == 1 && field 2 entry 2 == 0

-- where a record's string begins: its stringOffset, from the table's storageOffset on
abbrev pub start_of : List ℕ → List ℕ → ℕ
start_of table entry = field 2 table 4 + field 2 entry 10

-- a record's string lies in the table, and is not empty
abbrev pub is_inside : List ℕ → List ℕ → Bool
is_inside table entry = nat_lt 0 (field 2 entry 8) && nat_le (start_of table entry + field 2 entry 8) (length table)

-- a record's string
abbrev pub string_of : List ℕ → List ℕ → List ℕ
string_of table entry = take (field 2 entry 8) (drop (start_of table entry) table)

-- a string can be read: whole code units of 16 bits; or, of Macintosh, ASCII alone
abbrev pub is_text : RecordKind → List ℕ → Bool
is_text Macintosh string = list_all is_ascii string
is_text _ string = length string % 2 == 0

-- the text of a string, as UTF-8
abbrev pub text_of : RecordKind → List ℕ → List ℕ
text_of Macintosh string = string
text_of _ string = utf8_of string

-- a record is one of a kind, for a name's number, whose string can be read
abbrev pub is_name : RecordKind → ℕ → List ℕ → List ℕ → Bool
is_name kind id table entry =
    (field 2 entry 6 == id && is_of_kind kind entry) && (is_inside table entry && is_text kind (string_of table entry))

-- the text of the first such record
abbrev pub name_by : List ℕ → ℕ → RecordKind → Option (List ℕ)
name_by table id kind =
    option_map (λ entry. text_of kind (string_of table entry)) (find (is_name kind id table) (name_records table))

-- that of the first kind that has one
abbrev pub name_by_first : List ℕ → ℕ → List RecordKind → Option (List ℕ)
name_by_first table id [] = None
name_by_first table id (kind ∷ more) = option_or (name_by table id kind) (name_by_first table id more)

-- the kinds, in order of preference
abbrev pub kinds : List RecordKind
kinds = English ∷ Unicode ∷ Windows ∷ Macintosh ∷ []

-- the name of a number in the bytes of `name`; none if the table ends before its records do
unfoldable pub name_in : List ℕ → ℕ → Option (List ℕ)
name_in table id =
    if nat_lt (length table) 6 || nat_lt (length table) (6 + 12 * field 2 table 2) then None else name_by_first table id kinds

-- the name of a number of a font; none if it has no table `name`
abbrev pub name_of : Face → ℕ → Option (List ℕ)
name_of face id = name_in (table_or_empty face (codes "name")) id
