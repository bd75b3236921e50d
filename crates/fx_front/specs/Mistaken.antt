-- The advice after a wrong command line.
use Rattle.std.specs.Prelude.{ℕ, ◌&&◌, ◌||◌, ◌-◌, not, nat_eq, Bool, List, [], ◌∷◌, ◌++◌, codes, drop, length, take, Option, Some, None, unwrap_or}
use Rattle.std.specs.Prelude.{if◌then◌else◌}
use Rattle.std.specs.List.{ends_with, starts_with}
use Rattle.std.specs.Str.{bytes_eq, trim_end}
use Rattle.fx_words.specs.Parts.{PartsView, Text, after_start, has_byte, has_hyphen, is_path}
use Rattle.fx_front.specs.Lines.{shown_text, shown_with}
use Rattle.fx_front.specs.Meant.{instead_of, meant_by, question}

-- what is before an end in a text
abbrev pub before_end : Text → Text → Option Text
before_end end text = if ends_with nat_eq text end then Some (take (length text - length end) text) else None

-- one text is somewhere in another
abbrev pub has_text : Text → Text → Bool
has_text part [] = starts_with nat_eq [] part
has_text part (b ∷ text) = starts_with nat_eq (b ∷ text) part || has_text part text

-- further advice on a wrong value of `--ppem`, which ends with `'`
abbrev pub about_value : Option Text → Text
about_value None = []
about_value (Some value) =
    if has_text (codes "pt") value then codes "; pixels are points times the resolution, divided by 72"
    else (if has_byte 120 value && not (starts_with nat_eq value (codes "0x"))
    then codes "; strike --cell of the package python3-mkstrike makes cells of one size"
    else (if has_byte 44 value || has_byte 45 value
    then codes "; strike --size of the package python3-mkstrike makes several"
    else []))

abbrev pub about_ppem : Text → Text
about_ppem wrong = about_value (after_start (codes "--ppem takes a whole number from 1 to 1024, not '") wrong)

-- what is wrong; if `--set` is among the words, it stands for `--chars`
abbrev pub renamed : Option Text → Option Text → Text → List ℕ
renamed (Some listed) (Some rest) wrong = shown_text (codes "--set") ++ shown_text rest
renamed listed rest wrong = shown_text wrong

abbrev pub mistake_said : Option Text → Text → List ℕ
mistake_said listed wrong = renamed listed (after_start (codes "--chars") wrong) wrong

-- a word too many: which one names the font
abbrev pub font_said : Option Text → Text → List ℕ
font_said None wrong = []
font_said (Some font) wrong =
    if starts_with nat_eq wrong (codes "one word too many") then shown_with (codes ": '%' names the font") font else []

-- what to use in place of an unknown option, or which one it may mean
abbrev pub instead_said : Option Text → Text → Text → List ℕ
instead_said (Some instead) option command = shown_with (codes " %;") instead
instead_said None option command = question (meant_by option command)

abbrev pub named_instead : Text → Text → List ℕ
named_instead option command = instead_said (instead_of option) option command

-- another mistake
abbrev pub other_said : PartsView → Text → List ℕ
other_said parts wrong =
    mistake_said parts.listed wrong
    ++ (shown_text (about_ppem wrong) ++ (font_said parts.font wrong ++ shown_text (codes ";")))

-- an unknown option
abbrev pub unknown_said : Text → Text → Text → List ℕ
unknown_said option command wrong =
    shown_with (codes "%;") wrong ++ named_instead (unwrap_or (before_end (codes "'") option) option) command

-- an unknown option, or another mistake
abbrev pub option_said : Option Text → PartsView → Text → Text → List ℕ
option_said (Some option) parts command wrong =
    if bytes_eq option (codes "-o'") then shown_text (codes "-o takes the name of a file, and is given once;")
    else unknown_said option command wrong
option_said None parts command wrong = other_said parts wrong

-- the line that says what is wrong with the words of a command, and further advice
abbrev pub wrong_said : PartsView → Text → Text → List ℕ
wrong_said parts command wrong =
    option_said (after_start (codes "unknown option '") wrong) parts command wrong
    ++ shown_with (codes " 'mkstrike help %' shows how it is written") command

-- which command an unknown word may mean
abbrev pub command_meant : Text → List ℕ
command_meant word =
    if bytes_eq word (codes "version") then shown_text (codes " did you mean '--version'?") else question (meant_by word [])

abbrev pub unknown_command_said : Text → List ℕ
unknown_command_said word = shown_with (codes "unknown command '%';") word
    ++ (command_meant word ++ shown_text (codes " 'mkstrike help' lists the commands"))

-- what is wrong with the name of a command
abbrev pub command_said : Text → List ℕ
command_said word =
    if has_hyphen word
    then shown_with (
    codes "the first word is the command, make, show, outline, dump, trace, faces, explain, or help, not '%'; 'mkstrike help' "
    ++ codes "shows how it is written"
    ) word
    else (if is_path word
    then shown_text (codes "the first word is the command: 'mkstrike make --ppem 16 --set ascii FONT' makes a strike")
    else unknown_command_said word)

-- the line of what is wrong with the words of a command
abbrev pub line_said : (List Text → Text) → PartsView → Text → List Text → List ℕ
line_said wrong parts command words = wrong_said parts command (trim_end (wrong words))

-- the words after the program's name, and the first of them if it is a command that takes a font
abbrev pub words_said : (List Text → Text) → PartsView → Option Text → List Text → List ℕ
words_said wrong parts command [] = shown_text (
    codes "without arguments the first line of the input is the command line, and it is wrong; 'mkstrike help' shows how it "
    ++ codes "is written"
    )
words_said wrong parts None (word ∷ words) = command_said word
words_said wrong parts (Some command) (word ∷ words) = line_said wrong parts command (word ∷ words)

-- after a wrong command line
abbrev pub usage_said : (List Text → Text) → PartsView → Option Text → List ℕ
usage_said wrong parts command = words_said wrong parts command (drop 1 parts.words)
