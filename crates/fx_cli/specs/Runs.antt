-- What a run of the program does.
use Rattle.std.specs.Prelude.{◌≡◌, ◌⊎◌, ◌+◌, ◌<◌, ◌≤◌, ℕ, Bool, true, false, nat_lt, List, [], ◌∷◌, ◌++◌, length, codes, Option}
use Rattle.std.specs.Prelude.{Some, None, Result, Ok, Err}
use Rattle.std.specs.List.{flat_map}
use Rattle.clap.specs.Walk.{Text}
use Rattle.std.specs.Str.{IsUtf8}
use Rattle.std.specs.Io.KnownBytes.{Consumes, IsAtEnd, Keeps}
use Rattle.std.specs.declared.io.ErrorKind.{ErrorKind}
use Rattle.std.specs.declared.io.ErrorKind.TheVariants as kind
use Rattle.fx_fixed.specs.Changes.{Change}
use Rattle.fx_request.specs.declared.refusal.Refusal.{Refusal}
use Rattle.fx_request.specs.declared.refusal.Refusal.TheVariants.{BadChars, BadHex, InputTooLarge, OutOfMemory, ReadFailed}
use Rattle.fx_request.specs.declared.refusal.Refusal.TheVariants.{WriteFailed}
use Rattle.fx_fixed.specs.Wrote.{Wrote}
use Rattle.fx_sfnt.specs.Collections.{FontFileView, face_in}
use Rattle.fx_machine.specs.declared.program.FontProgram.{FontProgram}
use Rattle.fx_request.specs.declared.request.Report.{Report}
use Rattle.fx_strike.specs.Title.{Title}
use Rattle.fx_request.specs.declared.notice.Notice.{Notice}
use Rattle.fx_request.specs.Notices.{AreTold}
use Rattle.fx_strike.specs.Strike.{Plan, opened_of, plan_of}
use Rattle.fx_views.specs.Choices.{choice_of, opened_choice_of}
use Rattle.fx_views.specs.Outlines.{Outlines, outlined_of}
use Rattle.fx_strike.specs.Headline.{Leaves, notices_of}
use Rattle.fx_views.specs.Listings.{Lists, program_of}
use Rattle.fx_views.specs.Traces.{TellsTrace, trace_of}
use Rattle.fx_arguments.specs.Limits.{max_input, max_line}
use Rattle.fx_arguments.specs.declared.done.Done.{Done}
use Rattle.fx_arguments.specs.declared.done.Done.TheVariants.{Strike, Picture, Outline, Listing, Trace, Faces, Explanation}
use Rattle.fx_arguments.specs.declared.fault.Fault.{Fault}
use Rattle.fx_arguments.specs.declared.fault.Fault.TheVariants.{Usage, Early, Late}
use Rattle.fx_arguments.specs.CommandLine.{command_of}
use Rattle.fx_arguments.specs.Commands.{CharacterChoiceView, CommandView, MakeView, TaskView, explanation, faces, listed, listing, mapped, outline, picture}
use Rattle.fx_arguments.specs.Commands.{strike, trace}
use Rattle.fx_arguments.specs.declared.command.Show.{Show}
use Rattle.fx_arguments.specs.declared.command.Trace as asked
use Rattle.fx_arguments.specs.Lines.{Tells, notice_line, outcome_line, status_of}
use Rattle.fx_cli.specs.Faces.{faces_of}
use Rattle.fx_cli.specs.Mapped.{mapped_of}
use Rattle.fx_cli.specs.Pictures.{Shows}
use Rattle.fx_cli.specs.Seen.{Sees, unseen}
use Rattle.fx_cli.specs.Watch.{Knows}
use Rattle.fx_cli.specs.declared.watch.Watch.{Watch}
use Rattle.fx_front.specs.declared.facts.Facts.{Facts}
use Rattle.fx_words.specs.Parts.{PartsView}
use Rattle.fx_arguments.specs.Input.{bytes_of_hex, line_of, rest_of, arguments_of_line}

-- there are arguments after the program's name
abbrev pub has_arguments : List Text → Bool
has_arguments arguments = nat_lt 1 (length arguments)

-- the program's name
abbrev pub called : List Text → Text
called [] = codes "mkstrike"
called (program ∷ arguments) = program

-- the input's first line was read completely
abbrev pub HasLine : List ℕ → Option (List ℕ) → Type 0
HasLine got left = (length (line_of got) < length got) ⊎ IsAtEnd left

-- the arguments of a run: what it was given, or if nothing was given, the words of the input's first line, a text of at most
-- max_line bytes
abbrev pub AreArgumentsBy : Bool → List Text → List ℕ → Option (List ℕ) → List Text → Type 0
AreArgumentsBy true given got left arguments = arguments ≡ given
AreArgumentsBy false given got left arguments =
    HasLine got left × IsUtf8 (line_of got) × (length (line_of got) ≤ max_line) ×
    (arguments ≡ called given ∷ arguments_of_line (line_of got))

abbrev pub AreArguments : List Text → List ℕ → Option (List ℕ) → List Text → Type 0
AreArguments given got left arguments = AreArgumentsBy (has_arguments given) given got left arguments

-- the text of the font: the input, or what follows its first line
abbrev pub text_by : Bool → List ℕ → List ℕ
text_by true got = got
text_by false got = rest_of got

abbrev pub text_of : List Text → List ℕ → List ℕ
text_of given got = text_by (has_arguments given) got

-- the bytes of the font
abbrev pub font_bytes : Bool → List ℕ → Option (List ℕ)
font_bytes true text = bytes_of_hex text
font_bytes false text = Some text

-- what a strike is called
abbrev pub title : MakeView → Title
title make = record { name = make.name; properties = make.properties; x11 = make.x11 }

-- the strike that is asked for of these characters, or the first cause why there is none
abbrev pub strike_for : MakeView → List ℕ → FontFileView → Result Plan Refusal
strike_for make chars font = plan_of font make.ppem (title make) chars make.mode make.on_refused

-- what a call that makes the strike of these characters leaves of the sink, and what it told of refused ones
abbrev pub StrikeLeaves : MakeView → List ℕ → FontFileView → Change → List Notice → Result Report Refusal → Type 0
StrikeLeaves make chars font sink told answer =
    Leaves (opened_of font make.ppem (title make) chars) (strike_for make chars font) sink answer
    × AreTold (notices_of (strike_for make chars font)) told answer

-- the sink is as it was
abbrev pub IsSpared : Change → Type 0
IsSpared sink = Keeps sink.bytes_before sink.bytes × (sink.faults ≡ sink.faults_before)

-- there was no memory for the characters of the font's map: nothing was written or told
abbrev pub NoRoom : Change → List Notice → Result Report Refusal → Type 0
NoRoom sink told answer = (answer ≡ Err OutOfMemory) × IsSpared sink × (told ≡ [])

-- the same for the requested characters
abbrev pub LeavesBy : CharacterChoiceView → MakeView → FontFileView → Change → List Notice → Result Report Refusal → Type 0
LeavesBy (listed chars) make font sink told answer = StrikeLeaves make chars font sink told answer
LeavesBy mapped make font sink told answer =
    StrikeLeaves make (mapped_of font) font sink told answer ⊎ NoRoom sink told answer

abbrev pub MakeLeaves : MakeView → FontFileView → Change → List Notice → Result Report Refusal → Type 0
MakeLeaves make font sink told answer = LeavesBy make.chars make font sink told answer

-- what a call that shows a glyph leaves of it
abbrev pub ShowLeaves : Show → FontFileView → Change → Result (Unit {0}) Refusal → Type 0
ShowLeaves show font sink answer =
    Shows (opened_choice_of font show.ppem show.choice) (choice_of font show.ppem show.choice show.mode) sink answer

-- what a call that writes the outline of a glyph leaves of it
abbrev pub OutlineLeaves : Show → FontFileView → Change → Result (Unit {0}) Refusal → Type 0
OutlineLeaves show font sink answer =
    Outlines (opened_choice_of font show.ppem show.choice) (outlined_of font show.ppem show.choice show.mode) sink answer

-- what a call that lists a program leaves of it
abbrev pub ListingLeaves : FontProgram → FontFileView → Change → Result (Unit {0}) Refusal → Type 0
ListingLeaves what font sink answer =
    Lists (program_of font what) sink answer

-- what a call that writes the trace of programs leaves of it
abbrev pub TraceLeaves : asked.Trace → FontFileView → Change → Result Bool Refusal → Type 0
TraceLeaves programs font sink answer = TellsTrace (trace_of font programs.ppem programs.traced programs.careful) sink answer

-- what a call that writes the lines of faces leaves of it: all of them, or their first n bytes and one fault; or the cause, and the
-- sink is as it was
abbrev pub FacesLeaveBy : Result (List ℕ) Refusal → Change → Result (Unit {0}) Refusal → Type 0
FacesLeaveBy lines sink (Ok _) = (text : List ℕ) × (lines ≡ Ok text) × Wrote sink text (Ok tt)
FacesLeaveBy lines sink (Err (WriteFailed n)) =
    (text : List ℕ) × (lines ≡ Ok text) × Wrote sink text (Err (record { 0 = n }))
FacesLeaveBy lines sink (Err refusal) = (lines ≡ Err refusal) × IsSpared sink

abbrev pub FacesLeave : FontFileView → Change → Result (Unit {0}) Refusal → Type 0
FacesLeave font sink answer = FacesLeaveBy (faces_of font.bytes) sink answer

-- what a call that writes a line leaves of it
abbrev pub LineLeaves : List ℕ → Change → Result (Unit {0}) Refusal → Type 0
LineLeaves line sink (Ok _) = Wrote sink line (Ok tt)
LineLeaves line sink (Err (WriteFailed n)) = Wrote sink line (Err (record { 0 = n }))
LineLeaves line sink (Err refusal) = ⊥

-- what a task leaves of the sink, from a font: its strike, the picture or the outline of a glyph, the listing of a program, the
-- trace of programs, or the faces of its file; or a line, whatever the font is; and what it told of refused characters. Only a
-- strike tells of any
abbrev pub TaskLeaves : TaskView → FontFileView → Change → List Notice → Result Done Refusal → Type 0
TaskLeaves (strike make) font sink told (Ok (Strike report)) = MakeLeaves make font sink told (Ok report)
TaskLeaves (strike make) font sink told (Err refusal) = MakeLeaves make font sink told (Err refusal)
TaskLeaves (picture show) font sink told (Ok Picture) = ShowLeaves show font sink (Ok tt) × (told ≡ [])
TaskLeaves (picture show) font sink told (Err refusal) = ShowLeaves show font sink (Err refusal) × (told ≡ [])
TaskLeaves (outline show) font sink told (Ok Outline) = OutlineLeaves show font sink (Ok tt) × (told ≡ [])
TaskLeaves (outline show) font sink told (Err refusal) = OutlineLeaves show font sink (Err refusal) × (told ≡ [])
TaskLeaves (trace programs) font sink told (Ok (Trace there)) = TraceLeaves programs font sink (Ok there) × (told ≡ [])
TaskLeaves (trace programs) font sink told (Err refusal) = TraceLeaves programs font sink (Err refusal) × (told ≡ [])
TaskLeaves (listing what) font sink told (Ok Listing) = ListingLeaves what font sink (Ok tt) × (told ≡ [])
TaskLeaves (listing what) font sink told (Err refusal) = ListingLeaves what font sink (Err refusal) × (told ≡ [])
TaskLeaves faces font sink told (Ok Faces) = FacesLeave font sink (Ok tt) × (told ≡ [])
TaskLeaves faces font sink told (Err refusal) = FacesLeave font sink (Err refusal) × (told ≡ [])
TaskLeaves (explanation line) font sink told (Ok Explanation) = LineLeaves line sink (Ok tt) × (told ≡ [])
TaskLeaves (explanation line) font sink told (Err refusal) = LineLeaves line sink (Err refusal) × (told ≡ [])
TaskLeaves task font sink told (Ok done) = ⊥

-- the arguments are valid, the source was read to its end without a fault, the sink has what results from that font and request,
-- and the watch saw that font
pub record Completes (given : List Text) (source sink : Change) (told : List Notice) (watch : Watch) (answer : Result Done Refusal)
    : Type 0 where
  pub input : List ℕ
  pub read : Consumes source.bytes_before source.bytes input
  pub whole : IsAtEnd source.bytes
  pub fits : length input ≤ max_input
  pub quiet : source.faults ≡ source.faults_before
  pub arguments : List Text
  pub are : AreArguments given input source.bytes arguments
  pub command : CommandView
  pub asks : command_of arguments ≡ Ok command
  pub font : List ℕ
  pub decoded : font_bytes command.hex (text_of given input) ≡ Some font
  pub leaves : TaskLeaves command.task (face_in font command.face) sink told answer
  pub seen : Sees command (face_in font command.face) answer watch.names_all watch.font

-- the arguments are invalid
abbrev pub IsUsageBy : Bool → List Text → List ℕ → Option (List ℕ) → Type 0
IsUsageBy true given got left = command_of given ≡ Err Usage
IsUsageBy false given got left =
    (max_line < length (line_of got))
    ⊎ (HasLine got left
    × (¬ (IsUtf8 (line_of got)) ⊎ (command_of (called given ∷ arguments_of_line (line_of got)) ≡ Err Usage)))

-- the source is as it was
abbrev pub IsUnread : Change → Type 0
IsUnread source = (source.bytes ≡ source.bytes_before) × (source.faults ≡ source.faults_before)

-- nothing was read if arguments were given; else at most max_line + 1 bytes, the first line and what came with it, without a
-- fault
abbrev pub IsReadForArguments : Bool → List ℕ → Change → Type 0
IsReadForArguments true got source = IsUnread source
IsReadForArguments false got source = (length got ≤ max_line + 1) × (source.faults ≡ source.faults_before)

-- P holds for what the arguments ask for, or for why they are refused
abbrev pub Asks : List Text → List ℕ → Option (List ℕ) → (Result CommandView Fault → Type 0) → Type 0
Asks given got left P = (arguments : List Text) × AreArguments given got left arguments × P (command_of arguments)

-- why a run stopped before it came to that
abbrev pub IsReason : List Text → List ℕ → Change → Fault → Type 0
IsReason given got source Usage =
    IsUsageBy (has_arguments given) given got source.bytes × IsReadForArguments (has_arguments given) got source
IsReason given got source (Early BadChars) =
    Asks given got source.bytes (λ asked. asked ≡ Err (Early BadChars)) × IsReadForArguments (has_arguments given) got source
IsReason given got source (Early ReadFailed) = source.faults ≡ source.faults_before + 1
IsReason given got source (Early BadHex) =
    IsAtEnd source.bytes × Asks given got source.bytes (λ asked. (command : CommandView) × (asked ≡ Ok command)
    × (font_bytes command.hex (text_of given got) ≡ None))
IsReason given got source (Early InputTooLarge) = max_input < length got
IsReason given got source (Early OutOfMemory) = Unit {0}
IsReason given got source _ = ⊥

-- the sink is as it was, nothing was told of characters, no font was seen, and the reason is a true one
pub record Stops (given : List Text) (source sink : Change) (told : List Notice) (watch : Watch) (fault : Fault) : Type 0 where
  pub got : List ℕ
  pub read : Consumes source.bytes_before source.bytes got
  pub spared : IsSpared sink
  pub silent : told ≡ []
  pub unseen : watch.font ≡ unseen
  pub reason : IsReason given got source fault

-- how a run ends
abbrev pub Ends : List Text → Change → Change → List Notice → Watch → Result Done Fault → Type 0
Ends given source sink told watch (Ok done) = Completes given source sink told watch (Ok done)
Ends given source sink told watch (Err (Late refusal)) = Completes given source sink told watch (Err refusal)
Ends given source sink told watch (Err fault) = Stops given source sink told watch fault

-- a run on the words for the program, its name first: how it ended, its status, and its lines for people. Each refused character
-- that did not stop the strike has a line, and the last line says how the run ended. And what a front learns of how it ended, and
-- of the font that it read
pub record Runs (parts : PartsView) (source sink err : Change) (status : ℕ) (facts : Facts) : Type 0 where
  pub outcome : Result Done Fault
  pub notices : List Notice
  pub ends : Ends parts.words source sink notices (record { font = facts.font; names_all = parts.names_all }) outcome
  pub told : status ≡ status_of outcome
  pub lines : Tells (flat_map notice_line notices ++ outcome_line outcome) err
  pub knows : Knows outcome facts

-- how a run ends if the system gives no arguments: memory ran out, or an argument is not text
abbrev pub unread_outcome : ErrorKind → Result Done Fault
unread_outcome kind.OutOfMemory = Err (Early OutOfMemory)
unread_outcome _ = Err Usage
