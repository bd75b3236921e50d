-- What a command line asks for.
use Rattle.std.specs.Prelude.{ℕ, ◌&&◌, ◌||◌, nat_lt, Bool, false, List, [], ◌∷◌, codes, slice_get, Option, Some, None}
use Rattle.std.specs.Prelude.{if◌then◌else◌}
use Rattle.std.specs.Fmt.{decimal}
use Rattle.std.specs.Option.{option_or}
use Rattle.std.specs.Str.{bytes_eq}
use Rattle.fx_words.specs.Parts.{Text, has, text_in, value_in}
use Rattle.fx_front.specs.Places.{is_named}
use Rattle.fx_front.specs.declared.asked.Asked.{Asked}
use Rattle.fx_front.specs.declared.asked.Asked.TheVariants as held

-- help, of a command if one is named; the version; what a refusal means, by its number or its name; or a run
pub data AskedView : Type 0 where
  help : Option Text → AskedView
  version : AskedView
  refusal : Text → AskedView
  run : AskedView

abbrev pub seen_asked : Asked → AskedView
seen_asked (held.Help command) = help (text_in command)
seen_asked held.Version = version
seen_asked (held.Refusal word) = refusal word.now
seen_asked held.Run = run

-- the commands that take a font
unfoldable pub commands : List Text
commands = codes "make" ∷ codes "show" ∷ codes "outline" ∷ codes "dump" ∷ codes "trace" ∷ codes "faces" ∷ []

abbrev pub first_of : List Text → Option Text
first_of [] = None
first_of (word ∷ words) = Some word

-- a word looks like a refusal's number or name: it begins with a digit (48 to 57) or a capital letter (65 to 90)
abbrev pub names_refusal : Text → Bool
names_refusal [] = false
names_refusal (b ∷ word) = (nat_lt 47 b && nat_lt b 58) || (nat_lt 64 b && nat_lt b 91)

-- `explain` with a refusal's number or name alone after it asks for that; any other words for a run
abbrev pub asked_by_explain : Text → List Text → AskedView
asked_by_explain word (named ∷ []) = if bytes_eq word (codes "explain") && names_refusal named then refusal named else run
asked_by_explain word rest = run

-- what a first word asks for, with these words after it. A command with `-h` or `--help` after it asks for its help
abbrev pub asked_by_word : Text → List Text → AskedView
asked_by_word word rest =
    if has (codes "--version" ∷ codes "-V" ∷ []) word then version
    else (if has (codes "--help" ∷ codes "-h" ∷ codes "help" ∷ []) word then help (first_of rest)
    else (if has commands word && (has rest (codes "-h") || has rest (codes "--help")) then help (Some word)
    else asked_by_explain word rest))

-- what words ask for, the program's name first. Without arguments a terminal gets help
abbrev pub asked_by : List Text → Bool → AskedView
asked_by (name ∷ word ∷ rest) is_terminal = asked_by_word word rest
asked_by words is_terminal = if is_terminal then help None else run

-- the words name a glyph by its number
abbrev pub names_glyph : List Text → Option ℕ → Bool
names_glyph words None = false
names_glyph words (Some glyph) =
    is_named (option_or (value_in (codes "--glyph") words) (value_in (codes "--of") words)) (decimal glyph)

-- the words are only explained: the first is `explain`
abbrev pub is_explained : List Text → Bool
is_explained words = is_named (slice_get words 1) (codes "explain")

-- the first word, or the one after `explain`, if it is a command that takes a font
abbrev pub command_among : Option Text → Option Text
command_among None = None
command_among (Some word) = if has commands word then Some word else None

abbrev pub command_in : List Text → Option Text
command_in words = command_among (slice_get words (if is_explained words then 2 else 1))

-- the font's name; none for standard input
abbrev pub font_of : Option Text → Option Text
font_of None = None
font_of (Some name) = if bytes_eq name (codes "-") then None else Some name
