-- What a command line asks for.
use Rattle.std.specs.Prelude.{◌≡◌, ℕ, Bool, List, Result, Err}
use Rattle.clap.specs.Walk.{Text}
use Rattle.fx_bdf.specs.Properties.{PropertyView, seen_properties}
use Rattle.fx_machine.specs.declared.program.FontProgram.{FontProgram}
use Rattle.fx_request.specs.declared.request.Mode.{Mode}
use Rattle.fx_request.specs.declared.request.OnRefused.{OnRefused}
use Rattle.fx_request.specs.declared.request.Request.{Request}
use Rattle.fx_request.specs.declared.refusal.Refusal.TheVariants.{BadChars, OutOfMemory}
use Rattle.fx_arguments.specs.declared.command.CharacterChoice.{CharacterChoice}
use Rattle.fx_arguments.specs.declared.command.CharacterChoice.TheVariants.{Listed, All}
use Rattle.fx_arguments.specs.declared.command.Command.{Command}
use Rattle.fx_arguments.specs.declared.command.Make.{Make}
use Rattle.fx_arguments.specs.declared.command.Show.{Show}
use Rattle.fx_arguments.specs.declared.command.Task.{Task}
use Rattle.fx_arguments.specs.declared.command.Trace as held
use Rattle.fx_arguments.specs.declared.command.Task.TheVariants.{Strike, Picture, Outline, Listing, Trace, Faces, Explanation}
use Rattle.fx_arguments.specs.declared.fault.Fault.{Fault}
use Rattle.fx_arguments.specs.declared.fault.Fault.TheVariants.{Usage, Early}

-- the characters of a strike: a list, or all of the font's map
pub data CharacterChoiceView : Type 0 where
  listed : List ℕ → CharacterChoiceView
  mapped : CharacterChoiceView

-- a strike: its size, its characters, its name, its properties, whether X11's are added, how outlines become pixels, and what
-- happens to refused characters
pub record MakeView : Type 0 where
  pub ppem : ℕ
  pub chars : CharacterChoiceView
  pub name : Text
  pub properties : List PropertyView
  pub x11 : Bool
  pub mode : Mode
  pub on_refused : OnRefused

-- a strike, the picture or the outline of a glyph, the listing of a program, the trace of programs, the faces of the file, or a
-- line that explains what is wrong with arguments
pub data TaskView : Type 0 where
  strike : MakeView → TaskView
  picture : Show → TaskView
  outline : Show → TaskView
  listing : FontProgram → TaskView
  trace : held.Trace → TaskView
  faces : TaskView
  explanation : List ℕ → TaskView

-- a task, the face of the font file that it is for, and whether the file is hexadecimal text
pub record CommandView : Type 0 where
  pub task : TaskView
  pub face : ℕ
  pub hex : Bool

-- the program's own values as these
abbrev pub seen_characters : CharacterChoice → CharacterChoiceView
seen_characters (Listed chars) = listed chars.items
seen_characters All = mapped

abbrev pub seen_make : Make → MakeView
seen_make make = record {
  ppem = make.ppem;
  chars = seen_characters make.chars;
  name = make.name.now;
  properties = seen_properties make.properties.items;
  x11 = make.x11;
  mode = make.mode;
  on_refused = make.on_refused;
}

-- what a request asks for, with these characters in place of its own
abbrev pub seen_request : CharacterChoiceView → Request → MakeView
seen_request chars request = record {
  ppem = request.ppem;
  chars = chars;
  name = request.title.name.now;
  properties = seen_properties request.title.properties.now;
  x11 = request.title.x11;
  mode = request.mode;
  on_refused = request.on_refused;
}

abbrev pub seen_task : Task → TaskView
seen_task (Strike make) = strike (seen_make make)
seen_task (Picture show) = picture show
seen_task (Outline show) = outline show
seen_task (Listing what) = listing what
seen_task (Trace programs) = trace programs
seen_task Faces = faces
seen_task (Explanation line) = explanation line.items

abbrev pub seen : Command → CommandView
seen command = record { task = seen_task command.task; face = command.face; hex = command.hex }

-- a fault is true: memory ran out, or the usage fault or the malformed characters are due
abbrev pub Refuses : {Y : Type 0} → Fault → Result Y Fault → Type 0
Refuses (Early OutOfMemory) due = Unit {0}
Refuses (Early BadChars) due = due ≡ Err (Early BadChars)
Refuses Usage due = due ≡ Err Usage
Refuses _ due = ⊥
