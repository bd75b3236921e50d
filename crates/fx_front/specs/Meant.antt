-- Which word an unknown one may mean, and what to use in its place.
use Rattle.std.specs.Prelude.{ℕ, ◌==◌, ◌&&◌, ◌||◌, nat_lt, nat_eq, List, [], ◌∷◌, ◌++◌, codes, fold, length, map, Option, Some, None, unwrap_or}
use Rattle.std.specs.Prelude.{if◌then◌else◌}
use Rattle.std.specs.Char.{to_ascii_lowercase}
use Rattle.std.specs.List.{flat_map, slice_split}
use Rattle.std.specs.Str.{chars}
use Rattle.strsim.specs.Edits.{levenshtein_row}
use Rattle.fx_words.specs.Parts.{Text, has, has_hyphen}
use Rattle.fx_words.specs.Sets.{Table, sets, value_of}
use Rattle.fx_front.specs.Lines.{shown_text, shown_with}
use Rattle.fx_front.specs.declared.meant.TheConstants.{COMMANDS, INSTEAD, OPTIONS, USUAL}

-- the words of a text with spaces between them
abbrev pub words_of : Text → List Text
words_of text = slice_split (λ b. b == 32) text

-- the second column of the first row that has the word in its first; if there are `words`, the second must be one of them
abbrev pub usual_for : Table → Text → Text → Option Text
usual_for [] word words = None
usual_for (row ∷ rows) word words =
    if has (words_of row.0) word && (length words == 0 || has (words_of words) row.1)
    then Some row.1 else usual_for rows word words

-- what to use in place of an option of other programs
unfoldable pub instead_of : Text → Option Text
instead_of option = usual_for (map (λ row. (row.0.now, row.1.now)) INSTEAD) option []

-- the least number of letters to put in, take out or change that makes one word of another
abbrev pub distance : Text → Text → ℕ
distance word each = levenshtein_row nat_eq (chars word) (chars each) (length (chars each))

-- the words with the least distance so far, and that distance
abbrev pub nearer : Text → ℕ × List Text → Text → ℕ × List Text
nearer word found each =
    if nat_lt (distance word each) found.0 then (distance word each, each ∷ [])
    else (if distance word each == found.0 && nat_lt (distance word each) 3 then (found.0, found.1 ++ each ∷ []) else found)

-- the words with the least distance, if that is at most two
abbrev pub nearest : Text → List Text → List Text
nearest word words = (fold (nearer word) (3, []) words).1

-- the question which of these words is meant, if there are any
abbrev pub or_others : List Text → List ℕ
or_others words = flat_map (λ other. shown_with (codes " or '%'") other) words

abbrev pub asked : Text → List Text → List ℕ
asked word others = shown_with (codes " did you mean '%'") word ++ (or_others others ++ shown_text (codes "?"))

abbrev pub question : List Text → List ℕ
question [] = []
question (word ∷ words) = asked word words

-- a usual name of an option of other programs decides, or else the fewest letters that differ; a short option is too little to tell
abbrev pub meant_in : Option Text → Text → Text → List Text
meant_in (Some usual) word words = usual ∷ []
meant_in None word words =
    if nat_lt (length word) 5 && has_hyphen word then [] else nearest (map to_ascii_lowercase word) (words_of words)

abbrev pub meant_among : Text → Text → List Text
meant_among word words = meant_in (usual_for (map (λ row. (row.0.now, row.1.now)) USUAL) word words) word words

-- the options of a command, or the commands, that a word may mean
unfoldable pub meant_by : Text → Text → List Text
meant_by word command =
    meant_among word (unwrap_or (value_of (map (λ row. (row.0.now, row.1.now)) OPTIONS) command) COMMANDS.now)

-- the sets of characters that a name may mean; a short name is too little to tell
unfoldable pub set_meant_by : Text → List Text
set_meant_by name = if nat_lt (length name) 4 then [] else nearest (map to_ascii_lowercase name) (map (λ row. row.0) sets)
