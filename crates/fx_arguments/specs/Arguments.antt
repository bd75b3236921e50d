-- What the arguments of a command line ask for.
use Rattle.std.specs.Prelude.{ℕ, ◌^◌, Bool, true, false, List, [], ◌∷◌, map, length, codes, Option, Some, None, unwrap_or, option_map}
use Rattle.std.specs.Prelude.{if◌then◌else◌, nat_lt, ◌&&◌, ◌||◌, not, Result, Ok, Err}
use denote.Ref.{Bor}
use Rattle.std.specs.Prelude.{fold}
use Rattle.std.specs.List.{list_all, list_any}
use Rattle.std.specs.Str.{bytes_eq}
use Rattle.std.specs.Char.{digit_value}
use Rattle.std.specs.Str.Parse.{digits_value, without_leading_plus}
use Rattle.clap.specs.Walk.{Row, Rule, Text, all_of, first_of}
use Rattle.clap.specs.Simple.{App, new_app, new_rule, with_rule, matches_of}
use Rattle.clap.specs.Faults.{fault_of}
use Rattle.clap.specs.Kinds.{Kinds}
use Rattle.clap.specs.declared.builder.action.ArgAction.TheVariants.{Append, Set, SetTrue}
use Rattle.fx_fixed.specs.Chain.{◌>>=◌, map_chain, map_ok, wanted}
use Rattle.fx_bdf.specs.Properties.{PropertyView}
use Rattle.fx_machine.specs.declared.program.FontProgram.{FontProgram}
use Rattle.fx_machine.specs.declared.program.FontProgram.TheVariants.{Fpgm, Prep, Glyph}
use Rattle.fx_request.specs.declared.request.Choice.{Choice}
use Rattle.fx_request.specs.declared.request.Choice.TheVariants.{Character, Number}
use Rattle.fx_request.specs.declared.request.Dropout.{Dropout}
use Rattle.fx_request.specs.declared.request.Dropout.TheVariants.{Off, Left, Near, Font}
use Rattle.fx_request.specs.declared.request.Mode.{Mode}
use Rattle.fx_request.specs.declared.request.OnRefused.{OnRefused}
use Rattle.fx_request.specs.declared.request.OnRefused.TheVariants.{Stop, LeaveOut, Unhinted}
use Rattle.fx_arguments.specs.declared.command.Show.{Show}
use Rattle.fx_request.specs.declared.request.TraceSubject.{TraceSubject}
use Rattle.fx_request.specs.declared.request.TraceSubject.TheVariants as traced
use Rattle.fx_arguments.specs.declared.verb.Verb.{Verb}
use Rattle.fx_arguments.specs.declared.verb.Verb.TheVariants as verbs
use Rattle.fx_arguments.specs.Chars.{number_of, numbers_of_list}
use Rattle.fx_arguments.specs.Properties.{property_of}
use Rattle.fx_arguments.specs.Wrong.{WrongView, malformed, not_taken, says}
use Rattle.fx_arguments.specs.Commands.{CharacterChoiceView, CommandView, TaskView, faces, listed, listing, mapped, outline, picture, strike, trace}

-- an option `--id VALUE`
abbrev pub option_rule : Text → Rule
option_rule id = record (new_rule id) { long = Some id; action = Some Set }

-- an option `--id VALUE` that may be given many times
abbrev pub many_rule : Text → Rule
many_rule id = record (new_rule id) { long = Some id; action = Some Append }

-- a flag `--id`
abbrev pub flag_rule : Text → Rule
flag_rule id = record (new_rule id) { long = Some id; action = Some SetTrue }

-- an option `--id=VALUE`; `--id` alone means this value
abbrev pub choice_rule : Text → Text → Rule
choice_rule id value = record (new_rule id) {
  long = Some id;
  action = Some Set;
  range = Some (record { start_inclusive = 0; end_inclusive = 1 });
  missing = value ∷ [];
}

-- the option `--dropout`
abbrev pub dropout_rule : Rule
dropout_rule = choice_rule (codes "dropout") (codes "left")

-- the option `--careful`
abbrev pub careful_rule : Rule
careful_rule = flag_rule (codes "careful")

-- the command `make` with its options
unfoldable pub make_app : App
make_app = fold with_rule (new_app (codes "make"))
    (option_rule (codes "ppem") ∷ option_rule (codes "chars") ∷ option_rule (codes "name") ∷ many_rule (codes "property") ∷
    flag_rule (codes "x11") ∷ option_rule (codes "refused") ∷ flag_rule (codes "unhinted") ∷ dropout_rule ∷ careful_rule ∷
    option_rule (codes "face") ∷ flag_rule (codes "hex") ∷ flag_rule (codes "all") ∷ [])

-- the command `show` with its options
unfoldable pub show_app : App
show_app = fold with_rule (new_app (codes "show"))
    (option_rule (codes "ppem") ∷ option_rule (codes "char") ∷ option_rule (codes "glyph") ∷ flag_rule (codes "unhinted") ∷
    dropout_rule ∷ careful_rule ∷ option_rule (codes "face") ∷ flag_rule (codes "hex") ∷ [])

-- the command `outline` with its options
unfoldable pub outline_app : App
outline_app = fold with_rule (new_app (codes "outline"))
    (option_rule (codes "ppem") ∷ option_rule (codes "char") ∷ option_rule (codes "glyph") ∷ flag_rule (codes "unhinted") ∷
    careful_rule ∷ option_rule (codes "face") ∷ flag_rule (codes "hex") ∷ [])

-- the command `dump` with its options
unfoldable pub dump_app : App
dump_app = fold with_rule (new_app (codes "dump"))
    (option_rule (codes "of") ∷ option_rule (codes "face") ∷ flag_rule (codes "hex") ∷ [])

-- the command `trace` with its options
unfoldable pub trace_app : App
trace_app = fold with_rule (new_app (codes "trace"))
    (option_rule (codes "ppem") ∷ option_rule (codes "char") ∷ option_rule (codes "glyph") ∷ option_rule (codes "of") ∷
    careful_rule ∷ option_rule (codes "face") ∷ flag_rule (codes "hex") ∷ [])

-- the command `faces` with its option
unfoldable pub faces_app : App
faces_app = fold with_rule (new_app (codes "faces")) (flag_rule (codes "hex") ∷ [])

abbrev pub app_for : Verb → App
app_for verbs.Make = make_app
app_for verbs.Show = show_app
app_for verbs.Outline = outline_app
app_for verbs.Dump = dump_app
app_for verbs.Trace = trace_app
app_for verbs.Faces = faces_app

-- ---- what is asked for

-- arguments as texts
abbrev pub texts : List (Bor Text) → List Text
texts arguments = map (λ argument. argument.now) arguments

-- a whole number in decimal digits, below 2 to the number of bits
unfoldable pub unsigned_of : ℕ → Text → Option ℕ
unsigned_of bits text =
    let ds = without_leading_plus text in
    if nat_lt 0 (length ds) && (list_all (λ d. nat_lt (digit_value d) 10) ds && nat_lt (digits_value 10 ds) (2 ^ bits))
    then Some (digits_value 10 ds) else None

-- a whole number from 0 to 65,535
abbrev pub size_of : Text → Option ℕ
size_of text = unsigned_of 16 text

abbrev pub is_true : Option Text → Bool
is_true None = false
is_true (Some text) = bytes_eq text (codes "true")

-- a flag was given
abbrev pub is_given : Text → List Row → Bool
is_given id rows = is_true (first_of id rows)

-- which pixels drop-out control sets, by its name
abbrev pub named_dropout : Text → Option Dropout
named_dropout text =
    if bytes_eq text (codes "left") then Some Left else (if bytes_eq text (codes "near") then Some Near
    else (if bytes_eq text (codes "font") then Some Font else None))

-- drop-out control is off unless `--dropout` was given
abbrev pub dropout_by : Option Text → Result Dropout WrongView
dropout_by None = Ok Off
dropout_by (Some text) = wanted (named_dropout text) (not_taken (codes "--dropout takes left, near or font") text)

-- a character that takes too much work is refused if `--careful` was given
abbrev pub is_careful : List Row → Bool
is_careful rows = is_given (codes "careful") rows

-- how outlines become pixels: the font's programs run unless `--unhinted` was given
abbrev pub mode_by : List Row → Result Mode WrongView
mode_by rows = do
  dropout ← dropout_by (first_of (codes "dropout") rows)
  Ok (record { hinting = not (is_given (codes "unhinted") rows); dropout = dropout; careful = is_careful rows })

-- a size that is required
abbrev pub size_by : Option Text → Result ℕ WrongView
size_by None = Err (says (codes "--ppem is missing"))
size_by (Some text) = wanted (size_of text) (not_taken (codes "--ppem takes a whole number from 1 to 1024") text)

-- the number of a face, counted from 0; 0 if it is not given
abbrev pub face_by : Option Text → Result ℕ WrongView
face_by None = Ok 0
face_by (Some text) = wanted (unsigned_of 32 text) (not_taken (codes "--face takes a whole number, counted from 0") text)

-- what becomes of refused characters, by its name
abbrev pub named_refused : Text → Option OnRefused
named_refused text = if bytes_eq text (codes "stop") then Some Stop else (if bytes_eq text (codes "leave-out") then Some LeaveOut
    else (if bytes_eq text (codes "unhinted") then Some Unhinted else None))

-- the first one refuses the strike unless something else is asked for
abbrev pub refused_by : Option Text → Result OnRefused WrongView
refused_by None = Ok Stop
refused_by (Some text) = wanted (named_refused text) (not_taken (codes "--refused takes stop, leave-out or unhinted") text)

-- characters are asked for by a list, or all of the font's map by a flag, and not both
abbrev pub one_way : Bool → Option Text → Result (Unit {0}) WrongView
one_way true None = Ok tt
one_way false (Some list) = Ok tt
one_way true (Some list) = Err (says (codes "--chars and --all can't be given together"))
one_way false None = Err (says (codes "--chars or --all is missing"))

-- the characters of a list; without one all of the font's map
abbrev pub characters_by : Option Text → Result CharacterChoiceView WrongView
characters_by None = Ok mapped
characters_by (Some list) = map_ok listed (wanted (numbers_of_list list) malformed)

-- properties, each KEY=VALUE
abbrev pub property_by : Text → Result PropertyView WrongView
property_by given = wanted (property_of given) (not_taken (codes "--property takes KEY=VALUE") given)

abbrev pub properties_by : List Text → Result (List PropertyView) WrongView
properties_by given = map_chain property_by given

-- what becomes of refused characters, the number of the face, and how outlines become pixels
abbrev pub manner_by : List Row → Result (OnRefused × ℕ × Mode) WrongView
manner_by rows = do
  refused ← refused_by (first_of (codes "refused") rows)
  face ← face_by (first_of (codes "face") rows)
  mode ← mode_by rows
  Ok (refused, face, mode)

-- what the values of `make`'s options ask for: the size is required, and a list or `--all`
abbrev pub make_by : List Row → Result CommandView WrongView
make_by rows = do
  ppem ← size_by (first_of (codes "ppem") rows)
  _ ← one_way (is_given (codes "all") rows) (first_of (codes "chars") rows)
  properties ← properties_by (unwrap_or (all_of (codes "property") rows) [])
  manner ← manner_by rows
  chars ← characters_by (first_of (codes "chars") rows)
  Ok (record {
    task = strike (record {
      ppem = ppem;
      chars = chars;
      name = unwrap_or (first_of (codes "name") rows) (codes "strike");
      properties = properties;
      x11 = is_given (codes "x11") rows;
      mode = manner.2;
      on_refused = manner.0;
    });
    face = manner.1;
    hex = is_given (codes "hex") rows;
  })

-- how a glyph is chosen: by a character or by its number, and not by both
abbrev pub choice_by : Option Text → Option Text → Result Choice WrongView
choice_by (Some character) None = map_ok Character (wanted (number_of character) malformed)
choice_by None (Some number) =
    map_ok Number (wanted (size_of number) (not_taken (codes "--glyph takes a whole number from 0 to 65535") number))
choice_by None None = Err (says (codes "--char or --glyph is missing"))
choice_by (Some character) (Some number) = Err (says (codes "--char and --glyph can't be given together"))

-- the picture of a glyph, or its outline
abbrev pub shown_as : Bool → Show → TaskView
shown_as false show = picture show
shown_as true show = outline show

-- what the values of `show`'s or `outline`'s options ask for: the size and the choice are required
abbrev pub glyph_by : Bool → List Row → Result CommandView WrongView
glyph_by is_outline rows = do
  face ← face_by (first_of (codes "face") rows)
  ppem ← size_by (first_of (codes "ppem") rows)
  mode ← mode_by rows
  choice ← choice_by (first_of (codes "char") rows) (first_of (codes "glyph") rows)
  Ok (record {
    task = shown_as is_outline (record { ppem = ppem; choice = choice; mode = mode });
    face = face;
    hex = is_given (codes "hex") rows;
  })

-- a program's name: `fpgm`, `prep`, or the number of a glyph
abbrev pub which_of : Text → Option FontProgram
which_of text = if bytes_eq text (codes "fpgm") then Some Fpgm else (if bytes_eq text (codes "prep") then Some Prep
    else option_map Glyph (size_of text))

-- a program by its name
abbrev pub program_by : Text → Result FontProgram WrongView
program_by name = wanted (which_of name) (not_taken (codes "--of takes fpgm, prep or the number of a glyph") name)

-- what the values of `dump`'s options ask for: the program's name is required
abbrev pub dump_by : List Row → Result CommandView WrongView
dump_by rows = do
  name ← wanted (first_of (codes "of") rows) (says (codes "--of is missing"))
  what ← program_by name
  face ← face_by (first_of (codes "face") rows)
  Ok (record { task = listing what; face = face; hex = is_given (codes "hex") rows })

-- what is traced: a glyph, or a program by its name, and not both
abbrev pub traced_by : Option Text → Option Text → Option Text → Result TraceSubject WrongView
traced_by None None None = Err (says (codes "--char, --glyph or --of is missing"))
traced_by (Some character) number None = map_ok traced.Glyph (choice_by (Some character) number)
traced_by None (Some number) None = map_ok traced.Glyph (choice_by None (Some number))
traced_by None None (Some name) = map_ok traced.Program (program_by name)
traced_by (Some character) number (Some name) = Err (says (codes "--of can't be given with --char or --glyph"))
traced_by None (Some number) (Some name) = Err (says (codes "--of can't be given with --char or --glyph"))

-- what the values of `trace`'s options ask for
abbrev pub trace_by : List Row → Result CommandView WrongView
trace_by rows = do
  face ← face_by (first_of (codes "face") rows)
  ppem ← size_by (first_of (codes "ppem") rows)
  traced ← traced_by (first_of (codes "char") rows) (first_of (codes "glyph") rows) (first_of (codes "of") rows)
  Ok (record {
    task = trace (record { ppem = ppem; traced = traced; careful = is_careful rows });
    face = face;
    hex = is_given (codes "hex") rows;
  })

-- what the value of `faces`'s option asks for: all faces of the file, so none is chosen
abbrev pub faces_by : List Row → Result CommandView WrongView
faces_by rows = Ok (record { task = faces; face = 0; hex = is_given (codes "hex") rows })

abbrev pub asked_for : Verb → List Row → Result CommandView WrongView
asked_for verbs.Make = make_by
asked_for verbs.Show = glyph_by false
asked_for verbs.Outline = glyph_by true
asked_for verbs.Dump = dump_by
asked_for verbs.Trace = trace_by
asked_for verbs.Faces = faces_by

-- ---- the words

-- an argument that has only hyphens
abbrev pub is_bare : Text → Bool
is_bare argument = bytes_eq argument (codes "-") || bytes_eq argument (codes "--")

-- clap names a fault
abbrev pub is_some_kind : Kinds → Bool
is_some_kind [] = false
is_some_kind (kind ∷ kinds) = true

-- the values that words give the options of a command, its name first, by clap
unfoldable pub rows_by : Verb → List Text → Option (List Row)
rows_by verb words = if list_any is_bare words || is_some_kind (fault_of (app_for verb) words) then None
    else Some (matches_of (app_for verb) words)

-- the first word is the name
abbrev pub is_command : Text → List Text → Bool
is_command name [] = false
is_command name (word ∷ words) = bytes_eq word name

-- the command with options that the first word names
abbrev pub verb_named : Text → Option Verb
verb_named name = if bytes_eq name (codes "make") then Some verbs.Make else (if bytes_eq name (codes "show") then Some verbs.Show
    else (if bytes_eq name (codes "outline") then Some verbs.Outline else (if bytes_eq name (codes "dump") then Some verbs.Dump
    else (if bytes_eq name (codes "trace") then Some verbs.Trace else (if bytes_eq name (codes "faces") then Some verbs.Faces
    else None)))))

abbrev pub verb_of : List Text → Option Verb
verb_of [] = None
verb_of (word ∷ words) = verb_named word
