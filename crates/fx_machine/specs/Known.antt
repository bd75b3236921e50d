-- What a machine of a font at a size knows, and what becomes of a glyph's program.
-- Apple TrueType Reference Manual, "Instructing Fonts": the font program, the control value program, glyph programs.
use Rattle.std.specs.Prelude.{◌≡◌, ℕ, ℤ, ◌+◌, pos, List, [], ◌++◌, codes, Option, None, Result, Ok, Err, true, false, replicate}
use Rattle.fx_fixed.specs.Chain.{◌>>=◌, map_fault}
use Rattle.fx_sfnt.specs.Tables.{Face, table_or_empty}
use Rattle.fx_zone.specs.Figures.{Figure, empty_figure}
use Rattle.fx_fixed.specs.Places.{origin}
use Rattle.fx_zone.specs.Points.{resting}
use Rattle.fx_scale.specs.declared.scale.Scale.{Scale}
use Rattle.fx_scale.specs.Scaling.{scale_of}
use Rattle.fx_scale.specs.Controls.{control_values}
use Rattle.fx_gstate.specs.States.{default_state}
use Rattle.fx_stackops.specs.Store.{StoreView}
use Rattle.fx_machine.specs.Limits.{STEP_LIMIT, function_count_of, room_of}
use Rattle.fx_machine.specs.Definitions.{Defined}
use Rattle.fx_machine.specs.declared.program.Program.{Program}
use Rattle.fx_machine.specs.declared.program.Program.TheVariants.{Font, Prep, Glyph}
use Rattle.fx_machine.specs.declared.halt.Halt.{Halt}
use Rattle.fx_machine.specs.declared.halt.MachineFault.{MachineFault}
use Rattle.fx_machine.specs.declared.halt.MachineFault.TheVariants.{Halted, OutOfMemory}
use Rattle.fx_machine.specs.declared.ran.Ran.{Ran}
use Rattle.fx_machine.specs.declared.usage.Usage.{Usage}
use Rattle.fx_machine.specs.declared.state.State.{State}
use Rattle.fx_machine.specs.declared.prepared.Prepared.{Prepared}
use Rattle.fx_machine.specs.Machine.{answer_of}
use Rattle.fx_machine.specs.Table.{row_at}
use Rattle.fx_machine.specs.Configs.{answered}
use Rattle.fx_machine.specs.Events.{Event, events_of}
use Rattle.fx_zone.specs.Figures.{HasShape}
use Rattle.fx_machine.specs.Prepared.{begun, glyph_end, glyph_events, ran_of, stack_if, strays_of}

-- the font, the size, what prep left, and what fpgm and prep used up
pub record Known : Type 0 where
  pub face : Face
  pub ppem : ℕ
  pub prepared : Prepared
  pub prelude : Usage

-- what is seen of a machine: what it knows, and the stack that its last program left, the deepest number first; none if that halted
pub record MachineView : Type 0 where
  pub known : Known
  pub final_stack : Option (List ℤ)

-- the bytes of a font's programs, and of a glyph's
abbrev pub texts_of : Face → List ℕ → Program → List ℕ
texts_of face code Font = table_or_empty face (codes "fpgm")
texts_of face code Prep = table_or_empty face (codes "prep")
texts_of face code Glyph = code

-- ---- what the programs of a font leave

-- the control values: each entry of `cvt ` scaled
abbrev pub controls_of : Face → Scale → List ℤ
controls_of face scale = control_values scale (table_or_empty face (codes "cvt "))

-- an empty stack, storage cells of 0, the control values
abbrev pub first_store : Face → Scale → StoreView
first_store face scale = record {
  stack = [];
  room = room_of face.maxp.max_stack_elements;
  storage = replicate face.maxp.max_storage (pos 0);
  cvt = controls_of face scale;
  strays = 0;
}

-- the twilight zone: points at (0, 0), without contours
abbrev pub twilight_of : ℕ → Figure
twilight_of n = record { points = replicate n (resting origin false); ends = [] }

-- no function and no opcode is defined
abbrev pub nothing_defined : Face → Defined
nothing_defined face = record {
  functions = replicate (function_count_of face.maxp.max_function_defs) None;
  opcodes = replicate 256 None;
}

-- the state that fpgm begins with
abbrev pub first_state : Face → Scale → State
first_state face scale = record {
  store = first_store face scale;
  zones = record { twilight = twilight_of face.maxp.max_twilight_points; glyph = empty_figure; strays = 0 };
  graphics = default_state;
  definitions = nothing_defined face;
  flags = record { no_programs = false; default_state = false };
  scale = scale;
  preparing = false;
}

-- the state that prep begins with, after fpgm
abbrev pub second_state : State → State
second_state s = record s { store = record s.store { stack = [] }; graphics = default_state; preparing = true }

-- what prep left
abbrev pub prepared_from : State → Prepared
prepared_from s = record {
  storage = s.store.storage;
  cvt = s.store.cvt;
  twilight = s.zones.twilight;
  graphics = begun s.flags s.graphics;
  definitions = s.definitions;
  flags = s.flags;
}

-- fpgm runs from a state, then prep: what they use up, and the state then
unfoldable pub prelude_of : (Program → List ℕ) → State → Result (Usage × State) Halt
prelude_of texts s = do
  first ← answered texts 0 Font (answer_of (row_at texts) STEP_LIMIT Font s)
  second ← answered texts 0 Prep (answer_of (row_at texts) STEP_LIMIT Prep (second_state first.1))
  Ok (record { steps = first.0 + second.0; strays = strays_of second.1 }, second.1)

-- what a watcher sees of both: prep begins only if fpgm finished
abbrev pub prep_events : (Program → List ℕ) → Result (ℕ × State) Halt → List Event
prep_events texts (Ok first) = events_of texts 0 STEP_LIMIT Prep (second_state first.1)
prep_events texts (Err halt) = []

unfoldable pub prelude_events : (Program → List ℕ) → State → List Event
prelude_events texts s =
    events_of texts 0 STEP_LIMIT Font s ++ prep_events texts (answered texts 0 Font (answer_of (row_at texts) STEP_LIMIT Font s))

-- those of a font at a size
unfoldable pub font_ran : Face → ℕ → Result (Usage × State) MachineFault
font_ran face ppem = map_fault Halted (prelude_of (texts_of face []) (first_state face (scale_of face ppem)))

-- the machine of a font at a size: fpgm runs, then prep; or the first halt
unfoldable pub machine_of : Face → ℕ → Result Known MachineFault
machine_of face ppem = do
  ran ← font_ran face ppem
  Ok (record { face = face; ppem = ppem; prepared = prepared_from ran.1; prelude = ran.0 })

-- what a watcher sees of fpgm and prep
unfoldable pub machine_events : Face → ℕ → List Event
machine_events face ppem = prelude_events (texts_of face []) (first_state face (scale_of face ppem))

-- and the stack that prep leaves, the deepest number first
unfoldable pub final_stack_of : Face → ℕ → Result (Option (List ℤ)) MachineFault
final_stack_of face ppem = do
  ran ← font_ran face ppem
  Ok (stack_if true ran.1.store.stack)

-- what code returns, with the state that it left
abbrev pub with_state : Result Usage Halt → State → Result (Usage × State) Halt
with_state (Ok ran) s = Ok (ran, s)
with_state (Err halt) s = Err halt

-- a fault that code returns is the one that is due, or out of memory
abbrev pub Fails : {Y : Type 0} → MachineFault → Result Y MachineFault → Type 0
Fails OutOfMemory due = Unit {0}
Fails fault due = due ≡ Err fault

-- what is seen if memory does not run out, and nothing if it does
abbrev pub seen_by : {Y : Type 0} → Result Y MachineFault → List Event → List Event
seen_by (Err OutOfMemory) events = []
seen_by (Err (Halted halt)) events = events
seen_by (Ok y) events = events

-- ---- what becomes of the program of a glyph on its points

-- the program of glyph g: the instructions executed and the state then; or a halt
unfoldable pub glyph_run : Known → ℕ → List ℕ → Figure → Result (ℕ × State) Halt
glyph_run known g code glyph = glyph_end (texts_of known.face code) g known.prepared (scale_of known.face known.ppem)
    (room_of known.face.maxp.max_stack_elements) glyph

-- what a watcher sees of it
unfoldable pub glyph_run_events : Known → ℕ → List ℕ → Figure → List Event
glyph_run_events known g code glyph = glyph_events (texts_of known.face code) g known.prepared (scale_of known.face known.ppem)
    (room_of known.face.maxp.max_stack_elements) glyph

-- what is told of it
unfoldable pub glyph_ran : Known → ℕ → List ℕ → Figure → Result (Ran × Figure) Halt
glyph_ran known g code glyph = ran_of (glyph_run known g code glyph)

-- it keeps the number of points and the contours
abbrev pub GlyphsKeepShape : Type 0
GlyphsKeepShape = (known : Known) (g : ℕ) (code : List ℕ) (glyph : Figure) (r : Ran × Figure)
    → glyph_ran known g code glyph ≡ Ok r
    → HasShape glyph r.1

-- what fpgm and prep used up has no part in it
abbrev pub GlyphsDependOnPrepared : Type 0
GlyphsDependOnPrepared = (a b : Known) → a.face ≡ b.face → a.ppem ≡ b.ppem → a.prepared ≡ b.prepared
    → (g : ℕ) (code : List ℕ) (glyph : Figure) → glyph_ran a g code glyph ≡ glyph_ran b g code glyph
