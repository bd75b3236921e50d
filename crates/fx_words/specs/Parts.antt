-- The words of a command line, parted a word at a time: the font, the output, and the words for the program.
use Rattle.std.specs.Prelude.{◌≡◌, ℕ, ◌==◌, ◌&&◌, ◌||◌, not, Bool, true, false, nat_eq, nat_lt, List, [], ◌∷◌, ◌++◌, map, length, codes}
use Rattle.std.specs.Prelude.{drop, Option, Some, None, is_some, if◌then◌else◌}
use Rattle.std.specs.List.{after_first, before_first, fold, list_any, position_or_len, starts_with}
use Rattle.std.specs.Option.{option_or}
use Rattle.std.specs.Str.{bytes_eq}
use Rattle.std.specs.Borrow.{Bor}
use Rattle.fx_words.specs.declared.parts.Parts.{Parts}
use Rattle.fx_words.specs.declared.parts.WordKind.{WordKind}
use Rattle.fx_words.specs.declared.parts.WordKind.TheVariants.{Output, JoinedOutput, Names, Name, Missing, Characters, JoinedCharacters, Dropout, Valued, Flag}
use Rattle.fx_words.specs.declared.parts.Next.{Next}
use Rattle.fx_words.specs.declared.parts.Next.TheVariants as next

abbrev pub Text : Type 0
Text = List ℕ

-- the words for the program, the font, the output, whether all missing characters are named, and what the next word may be; and
-- whether the command is `make`, and, if `--set` is among the words, the list that the values of `--set` and `--chars` stand for
pub record PartsView : Type 0 where
  pub words : List Text
  pub font : Option Text
  pub output : Option Text
  pub names_all : Bool
  pub next : Next
  pub is_make : Bool
  pub listed : Option Text

abbrev pub texts : List (Bor Text) → List Text
texts words = map (λ word. word.now) words

abbrev pub text_in : Option (Bor Text) → Option Text
text_in None = None
text_in (Some word) = Some word.now

abbrev pub seen : Parts → PartsView
seen parts = record {
  words = texts parts.words.items;
  font = text_in parts.font;
  output = text_in parts.output;
  names_all = parts.names_all;
  next = parts.next;
  is_make = parts.is_make;
  listed = text_in parts.listed;
}

-- ---- words

abbrev pub has_byte : ℕ → Text → Bool
has_byte byte text = nat_lt (position_or_len (λ b. b == byte) text) (length text)

-- begins with a hyphen
abbrev pub has_hyphen : Text → Bool
has_hyphen [] = false
has_hyphen (b ∷ text) = b == 45

-- what begins with a hyphen is an option, and so is a word without bytes, which names nothing
abbrev pub is_option : Text → Bool
is_option [] = true
is_option (b ∷ text) = b == 45

-- what follows a beginning in a text
abbrev pub after_start : Text → Text → Option Text
after_start start text = if starts_with nat_eq text start then Some (drop (length start) text) else None

-- a word with a dot or a slash looks like a file's name, and is no value of `--dropout`
abbrev pub is_path : Text → Bool
is_path word = has_byte 46 word || has_byte 47 word

-- `-oNAME`, and `-o=NAME`
abbrev pub has_joined_output : Text → Bool
has_joined_output word = has_byte 111 word && bytes_eq (before_first (λ b. b == 111) word) (codes "-")

abbrev pub without_equals : Text → Text
without_equals name = if has_byte 61 name && bytes_eq (before_first (λ b. b == 61) name) [] then after_first (λ b. b == 61) name
    else name

abbrev pub joined_output : Text → Text
joined_output word = without_equals (after_first (λ b. b == 111) word)

-- the value in `OPTION=VALUE`
abbrev pub joined_value : Text → Text → Option Text
joined_value option word =
    if has_byte 61 word && bytes_eq (before_first (λ b. b == 61) word) option then Some (after_first (λ b. b == 61) word) else None

-- the value in `--set=NAMES` or `--chars=LIST`
abbrev pub joined_list : Text → Option Text
joined_list word = option_or (joined_value (codes "--set") word) (joined_value (codes "--chars") word)

-- whether a word is among words
abbrev pub has : List Text → Text → Bool
has words word = list_any (λ each. bytes_eq each word) words

-- the value of an option among words: what follows its `=`, or else the next word
abbrev pub value_after : Text → Bool → List Text → Option Text
value_after option is_next [] = None
value_after option true (word ∷ words) = Some word
value_after option false (word ∷ words) = option_or (joined_value option word) (value_after option (bytes_eq word option) words)

abbrev pub value_in : Text → List Text → Option Text
value_in option words = value_after option false words

abbrev pub values_of : Option Text → List Text
values_of None = []
values_of (Some value) = value ∷ []

-- the values of `--set` and `--chars` among words: what follows `=`, or else the next word
abbrev pub list_values : Bool → List Text → List Text
list_values is_next [] = []
list_values true (word ∷ words) = word ∷ list_values false words
list_values false (word ∷ words) = values_of (joined_list word)
    ++ list_values (has (codes "--set" ∷ codes "--chars" ∷ []) word) words

-- the options that take the next word as their value
unfoldable pub valued : List Text
valued =
    codes "--ppem" ∷ codes "--chars" ∷ codes "--name" ∷ codes "--property" ∷ codes "--refused" ∷ codes "--face"
    ∷ codes "--char" ∷ codes "--glyph" ∷ codes "--of" ∷ []

-- the kind of a word that is no value
abbrev pub other_kind : Bool → Text → WordKind
other_kind has_list word =
    if has_list && is_some (joined_list word) then JoinedCharacters
    else (if has_joined_output word then JoinedOutput
    else (if has valued word then Valued else (if is_option word then Flag else Name)))

abbrev pub kind_of : Bool → Bool → Text → WordKind
kind_of is_make has_list word =
    if bytes_eq word (codes "-o") then Output
    else (if bytes_eq word (codes "-") then Name
    else (if bytes_eq word (codes "--") then Names
    else (if bytes_eq word (codes "--dropout") then Dropout
    else (if is_make && bytes_eq word (codes "--missing") then Missing
    else (if has_list && (bytes_eq word (codes "--set") || bytes_eq word (codes "--chars")) then Characters
    else other_kind has_list word)))))

-- ---- steps

-- the word is for the program
abbrev pub kept : PartsView → Text → Next → PartsView
kept parts word next = record parts { words = parts.words ++ word ∷ []; next = next }

-- a name: the first is the font's
abbrev pub named_by : Option Text → PartsView → Text → Next → PartsView
named_by None parts word next = record parts { font = Some word; next = next }
named_by (Some font) parts word next = kept parts word next

-- the output; the program refuses a second one
abbrev pub put_by : Option Text → PartsView → Text → PartsView
put_by None parts word = record parts { output = Some word; next = next.Any }
put_by (Some output) parts word = kept (kept parts (codes "-o") next.Any) word next.Any

-- a word that is no value
abbrev pub first_by : WordKind → PartsView → Text → PartsView
first_by Output parts word = record parts { next = next.Output }
first_by JoinedOutput parts word = put_by parts.output parts (joined_output word)
first_by Names parts word = record parts { next = next.Name }
first_by Name parts word = named_by parts.font parts word next.Any
first_by Missing parts word = record parts { names_all = true; next = next.Any }
first_by Characters parts word = record parts { next = next.Characters }
first_by JoinedCharacters parts word = record parts { next = next.Any }
first_by Dropout parts word = kept parts word next.Dropout
first_by Valued parts word = kept parts word next.Value
first_by Flag parts word = kept parts word next.Any

abbrev pub first : PartsView → Text → PartsView
first parts word = first_by (kind_of parts.is_make (is_some parts.listed) word) parts word

-- the next word. After `-o` it is the name of the output; if it is none, `-o` is for the program, which refuses it. So is `--chars`
-- if a list has no value
abbrev pub step_by : Next → PartsView → Text → PartsView
step_by next.Any parts word = first parts word
step_by next.Value parts word = if has_hyphen word then first parts word else kept parts word next.Any
step_by next.Characters parts word = if has_hyphen word then first (kept parts (codes "--chars") next.Any) word
    else record parts { next = next.Any }
step_by next.Dropout parts word = if has_hyphen word || is_path word then first parts word else kept parts word next.Any
step_by next.Output parts word =
    if bytes_eq word (codes "-") || not (is_option word) then put_by parts.output parts word
    else first (kept parts (codes "-o") next.Any) word
step_by next.Name parts word = named_by parts.font parts word next.Name

abbrev pub step : PartsView → Text → PartsView
step parts word = step_by parts.next parts word

-- the program gets the list that `--set` and `--chars` stand for, if there is one
abbrev pub with_list : Option Text → PartsView → PartsView
with_list None parts = parts
with_list (Some list) parts = kept (kept parts (codes "--chars") next.Any) list next.Any

-- no word is left: the list is for the program, and so is an `-o` without a name; an option without its value ends the words
abbrev pub end_by : Next → PartsView → PartsView
end_by next.Output parts = with_list parts.listed (kept parts (codes "-o") next.Any)
end_by next.Characters parts = kept parts (codes "--chars") next.Any
end_by next.Value parts = parts
end_by next parts = with_list parts.listed parts

abbrev pub end : PartsView → PartsView
end parts = end_by parts.next parts

-- before the first word
abbrev pub start_of : List Text → Bool → Option Text → PartsView
start_of before is_make listed = record {
  words = before;
  font = None;
  output = None;
  names_all = false;
  next = next.Any;
  is_make = is_make;
  listed = listed;
}

-- all words
abbrev pub parts_of : List Text → Bool → Option Text → List Text → PartsView
parts_of before is_make listed words = end (fold step (start_of before is_make listed) words)

-- the law: after words that name neither, FONT and `-o FILE` set the font and the output, and change nothing else before the end
abbrev pub NamesAreApart : Type 0
NamesAreApart = (parts : PartsView) (font output : Text) → parts.font ≡ None → parts.output ≡ None → parts.next ≡ next.Any
    → kind_of parts.is_make (is_some parts.listed) font ≡ Name → is_option output ≡ false
    → end (fold step parts (font ∷ codes "-o" ∷ output ∷ [])) ≡ end (record parts { font = Some font; output = Some output })
