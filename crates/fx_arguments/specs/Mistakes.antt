-- The line that says what is wrong first with the arguments of a command line.
use Rattle.std.specs.Prelude.{◌≡◌, ℕ, zero, suc, ◌==◌, not, Bool, false, List, [], ◌∷◌, ◌++◌, length, take, drop, codes}
use Rattle.std.specs.Prelude.{slice_index_or, Option, Some, None, is_some, Result, Ok, Err, if◌then◌else◌}
use Rattle.std.specs.List.{before_first}
use Rattle.clap.specs.Walk.{Row, Text}
use Rattle.fx_request.specs.declared.refusal.Refusal.TheVariants.{OutOfMemory}
use Rattle.fx_arguments.specs.declared.fault.Fault.TheVariants.{Early}
use Rattle.fx_arguments.specs.declared.said.Said.{Said}
use Rattle.fx_arguments.specs.declared.said.Said.TheVariants.{MessageLine, Stopped}
use Rattle.fx_arguments.specs.declared.verb.Verb.{Verb}
use Rattle.fx_arguments.specs.Arguments.{asked_for, is_command, rows_by, verb_of}
use Rattle.fx_arguments.specs.Commands.{CommandView}
use Rattle.fx_arguments.specs.Wrong.{WrongView, malformed, said, wrong}

-- the line, or out of memory
abbrev pub IsSaid : Said → Text → Type 0
IsSaid (MessageLine line) text = line.items ≡ text
IsSaid (Stopped fault) text = fault ≡ Early OutOfMemory

-- a result is the value or the line that is due, or out of memory
abbrev pub SaysUnless : {A B : Type 0} → (A → B) → Result A Said → Result B Text → Type 0
SaysUnless view (Ok x) due = due ≡ Ok (view x)
SaysUnless view (Err (MessageLine line)) due = due ≡ Err line.items
SaysUnless view (Err (Stopped fault)) due = fault ≡ Early OutOfMemory

-- a command takes these words, its name first
abbrev pub is_taken : Verb → List Text → Bool
is_taken verb words = is_some (rows_by verb words)

-- the number of words of the longest beginning that the command takes, of at most n words
unfoldable pub taken_words : Verb → List Text → ℕ → ℕ
taken_words verb words zero = 0
taken_words verb words (suc n) = if is_taken verb (take (suc n) words) then suc n else taken_words verb words n

-- an option's name, before `=` (61)
abbrev pub name_in : Text → Text
name_in word = before_first (λ b. b == 61) word

-- the first byte is a hyphen (45)
abbrev pub has_hyphen : Text → Bool
has_hyphen [] = false
has_hyphen (b ∷ word) = b == 45

-- an option lacks its value: no word follows it, or a word that begins with a hyphen
abbrev pub value_said : Text → Text → Text
value_said word next =
    if has_hyphen next
    then said (word ∷ codes " takes a value; one that begins with '-' is given as " ∷ word ∷ codes "=" ∷ next ∷ [])
    else said (word ∷ codes " takes a value" ∷ [])

-- why the command does not take an option with a value after words that it takes: the option has none, or was given before
abbrev pub option_said : Verb → List Text → Text → Text → Text
option_said verb before word next =
    if is_taken verb (before ++ word ∷ codes "0" ∷ []) then value_said word next
    else said (word ∷ codes " is given twice" ∷ [])

-- why the command does not take a word after words that it takes. Alone it might, or with a value; else the word is no option,
-- or an option without a value
unfoldable pub word_said : Verb → Text → List Text → Text → Text → Text
word_said verb name before word next =
    if is_taken verb (name ∷ word ∷ []) then said (codes "'" ∷ word ∷ codes "' is given twice" ∷ [])
    else (if is_taken verb (name ∷ word ∷ codes "0" ∷ [])
    then option_said verb before word next
    else (if not (has_hyphen word) then said (codes "one word too many, '" ∷ word ∷ codes "'" ∷ [])
    else (if is_taken verb (name ∷ name_in word ∷ []) then said (name_in word ∷ codes " takes no value" ∷ [])
    else said (codes "unknown option '" ∷ name_in word ∷ codes "'" ∷ []))))

-- why the command does not take the word after the longest beginning that it takes
abbrev pub words_said : Verb → List Text → Text
words_said verb words =
    let n = taken_words verb words (length words) in
    word_said verb (slice_index_or words 0 []) (take n words)
    (slice_index_or (drop n words) 0 []) (slice_index_or (drop n words) 1 [])

-- what the words of a command with options ask for, its name first; or what is wrong first
abbrev pub asked_in : Verb → List Text → Option (List Row) → Result CommandView WrongView
asked_in verb words None = Err (wrong (words_said verb words))
asked_in verb words (Some rows) = asked_for verb rows

unfoldable pub asked_by : Verb → List Text → Result CommandView WrongView
asked_by verb words = asked_in verb words (rows_by verb words)

-- the line that says what is wrong; malformed characters have none
abbrev pub explained : {A : Type 0} → Result A WrongView → Result (Unit {0}) Text
explained (Ok x) = Ok tt
explained (Err (wrong text)) = Err text
explained (Err malformed) = Ok tt

-- there is no command of this name
abbrev pub command_said : List Text → Text
command_said [] = said (codes "the command is missing" ∷ [])
command_said (word ∷ words) = said (codes "unknown command '" ∷ word ∷ codes "'" ∷ [])

-- the arguments of a command line after the program's name: nothing is wrong, or the line that says what is wrong first
abbrev pub checked_by : Option Verb → List Text → Result (Unit {0}) Text
checked_by (Some verb) words = explained (asked_by verb words)
checked_by None words = if is_command (codes "explain") words then Ok tt else Err (command_said words)

abbrev pub checked : List Text → Result (Unit {0}) Text
checked words = checked_by (verb_of words) words

-- the line, which has no bytes if nothing is wrong
abbrev pub line_of : Result (Unit {0}) Text → Text
line_of (Ok _) = []
line_of (Err line) = line
