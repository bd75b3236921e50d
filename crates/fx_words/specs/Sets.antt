-- Sets of characters by name.
use Rattle.std.specs.Prelude.{◌==◌, ◌||◌, List, [], ◌∷◌, ◌++◌, codes, Option, Some, None, false, is_some, map, unwrap_or}
use Rattle.std.specs.Prelude.{if◌then◌else◌}
use Rattle.std.specs.Borrow.{Bor}
use Rattle.std.specs.Char.{to_ascii_lowercase}
use Rattle.std.specs.List.{join_by, slice_split}
use Rattle.std.specs.Str.{bytes_eq}
use Rattle.fx_words.specs.Parts.{Text, has, list_values, value_in}

-- a table of two columns
abbrev pub Table : Type 0
Table = List (Text × Text)

abbrev pub rows_of : List (Bor Text × Bor Text) → Table
rows_of rows = map (λ row. (row.0.now, row.1.now)) rows

-- the second column in the first row that has a key in the first
abbrev pub value_of : Table → Text → Option Text
value_of [] key = None
value_of (row ∷ rows) key = if bytes_eq row.0 key then Some row.1 else value_of rows key

-- each set: its name, and its characters as a list of hexadecimal numbers and ranges
unfoldable pub sets : Table
sets =
    (codes "ascii", codes "20-7e") ∷
    (codes "latin-1", codes "20-7e,a0-ff") ∷
    (codes "latin-9", codes "20-7e,a0-a3,a5,a7,a9-b3,b5-b7,b9-bb,bf-ff,152-153,160-161,178,17d-17e,20ac") ∷ (
      codes "wgl4",
      codes "20-7e,a0-17f,192,1fa-1ff,2c6-2c7,2c9,2d8-2dd,37e,384-38a,38c,38e-3a1,3a3-3ce,401-40c,40e-44f,451-45c,"
          ++ codes "45e-45f,490-491,1e80-1e85,1ef2-1ef3,2013-2015,2017-201e,2020-2022,2026,2030,2032-2033,2039-203a,203c,203e,"
          ++ codes "2044,207f,20a3-20a4,20a7,20ac,2105,2113,2116,2122,2126,212e,215b-215e,2190-2195,21a8,2202,2206,220f,"
          ++ codes "2211-2212,2215,2219-221a,221e-221f,2229,222b,2248,2260-2261,2264-2265,2302,2310,2320-2321,2500,2502,250c,"
          ++ codes "2510,2514,2518,251c,2524,252c,2534,253c,2550-256c,2580,2584,2588,258c,2590-2593,25a0-25a1,25aa-25ac,25b2,"
          ++ codes "25ba,25bc,25c4,25ca-25cb,25cf,25d8-25d9,25e6,263a-263c,2640,2642,2660,2663,2665-2666,266a-266b,fb01-fb02",
    ) ∷ (
      codes "greek",
      codes "20-7e,a0,a3,a6-a9,ab-ad,b0-b3,b7,bb,bd,37a,384-386,388-38a,38c,38e-3a1,3a3-3ce,2015,2018-2019,20ac,20af",
    ) ∷
    (codes "cyrillic", codes "20-7e,a0,a7,ad,401-40c,40e-44f,451-45c,45e-45f,2116") ∷
    (codes "box", codes "2500-257f") ∷
    (codes "blocks", codes "2580-259f") ∷
    (codes "braille", codes "2800-28ff") ∷ (
      codes "cp437",
      codes "20-7e,a0-a3,a5,a7,aa-ac,b0-b2,b5-b7,ba-bd,bf,c4-c7,c9,d1,d6,dc,df-e2,e4-ef,f1-f4,f6-f7,f9-fc,ff,192,393,398,"
          ++ codes "3a3,3a6,3a9,3b1,3b4-3b5,3c0,3c3-3c4,3c6,2022,203c,207f,20a7,2190-2195,21a8,2219-221a,221e-221f,2229,2248,"
          ++ codes "2261,2264-2265,2302,2310,2320-2321,2500,2502,250c,2510,2514,2518,251c,2524,252c,2534,253c,2550-256c,2580,"
          ++ codes "2584,2588,258c,2590-2593,25a0,25ac,25b2,25ba,25bc,25c4,25cb,25d8-25d9,263a-263c,2640,2642,2660,2663,"
          ++ codes "2665-2666,266a-266b",
    ) ∷ (
      codes "koi8-r",
      codes "20-7e,a0,a9,b0,b2,b7,f7,401,410-44f,451,2219-221a,2248,2264-2265,2320-2321,2500,2502,250c,2510,2514,2518,"
          ++ codes "251c,2524,252c,2534,253c,2550-256c,2580,2584,2588,258c,2590-2593,25a0",
    ) ∷
    (codes "latin-extended-a", codes "100-17f") ∷
    (codes "greek-block", codes "370-3ff") ∷
    (codes "cyrillic-block", codes "400-4ff") ∷
    (codes "hebrew", codes "590-5ff") ∷
    (codes "arabic", codes "600-6ff") ∷
    (codes "thai", codes "e00-e7f") ∷
    (codes "punctuation", codes "2000-206f") ∷
    (codes "currency", codes "20a0-20cf") ∷
    (codes "arrows", codes "2190-21ff") ∷
    (codes "math", codes "2200-22ff") ∷
    (codes "shapes", codes "25a0-25ff") ∷
    (codes "kana", codes "3040-30ff") ∷
    (codes "han", codes "4e00-9fff") ∷
    (codes "hangul", codes "ac00-d7a3") ∷
    (codes "powerline", codes "e0a0-e0a2,e0b0-e0b3") ∷ []

-- other names of sets, and their names there
unfoldable pub other_names : Table
other_names =
    (codes "us-ascii", codes "ascii") ∷ (codes "latin1", codes "latin-1") ∷ (codes "iso8859-1", codes "latin-1") ∷
    (codes "iso-8859-1", codes "latin-1") ∷ (codes "latin9", codes "latin-9") ∷ (codes "iso8859-15", codes "latin-9") ∷
    (codes "iso-8859-15", codes "latin-9") ∷ (codes "iso8859-7", codes "greek") ∷ (codes "iso-8859-7", codes "greek") ∷
    (codes "iso8859-5", codes "cyrillic") ∷ (codes "iso-8859-5", codes "cyrillic") ∷ (codes "boxes", codes "box") ∷
    (codes "ibm437", codes "cp437") ∷ (codes "koi8r", codes "koi8-r") ∷ (codes "latin-a", codes "latin-extended-a") ∷
    (codes "cjk", codes "han") ∷ []

abbrev pub first_name : Text → Text
first_name name = unwrap_or (value_of other_names name) name

-- the list of a set of this name, in letters of either case
unfoldable pub list_of : Text → Option Text
list_of name = value_of sets (first_name (map to_ascii_lowercase name))

-- a set's name stands for its list, and anything else for itself
abbrev pub meant : Text → Text
meant part = unwrap_or (list_of part) part

-- a list with the names of sets replaced, part by part between its commas
abbrev pub listed : Text → Text
listed names = join_by (λ list. list) (codes ",") (map meant (slice_split (λ b. b == 44) names))

-- the list that the values of `--set` and `--chars` stand for together, if `--set` is among the words
abbrev pub lists_in : List Text → Option Text
lists_in words = if has words (codes "--set") || is_some (value_in (codes "--set") words)
    then Some (listed (join_by (λ value. value) (codes ",") (list_values false words))) else None
