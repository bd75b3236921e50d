-- The state that programs of glyphs begin with, and what becomes of them.
-- Apple TrueType Reference Manual, "Instructing Fonts": the control value program, glyph programs; INSTCTRL.
use Rattle.std.specs.Prelude.{◌≡◌, ℕ, ◌+◌, ℤ, Bool, true, false, if◌then◌else◌, List, [], length, reverse, Option, Some, None}
use Rattle.std.specs.Prelude.{Result, Ok, Err}
use Rattle.fx_zone.specs.Figures.{Figure}
use Rattle.fx_scale.specs.declared.scale.Scale.{Scale}
use Rattle.fx_gstate.specs.declared.state.GState.{GState}
use Rattle.fx_gstate.specs.States.{default_state}
use Rattle.fx_gstate.specs.Scan.{wish_of}
use Rattle.fx_fixed.specs.Numbers.{counted}
use Rattle.fx_machine.specs.declared.program.Program.{Program}
use Rattle.fx_machine.specs.declared.program.Program.TheVariants.{Glyph}
use Rattle.fx_machine.specs.declared.state.State.{State}
use Rattle.fx_machine.specs.declared.state.InstructControl.{InstructControl}
use Rattle.fx_machine.specs.declared.prepared.Prepared.{Prepared}
use Rattle.fx_machine.specs.declared.halt.Halt.{Halt}
use Rattle.fx_machine.specs.declared.ran.Ran.{Ran}
use Rattle.fx_machine.specs.Limits.{STEP_LIMIT}
use Rattle.fx_machine.specs.Machine.{answer_of}
use Rattle.fx_machine.specs.Table.{row_at}
use Rattle.fx_machine.specs.Configs.{answered}
use Rattle.fx_machine.specs.Events.{Event, events_of}
use Rattle.fx_zone.specs.Figures.{HasShape}

-- what of a graphics state programs of glyphs take over: all but vectors, reference points, zone pointers, loop and round state,
-- which are at their defaults
abbrev pub carried : GState → GState
carried g = record default_state {
  auto_flip = g.auto_flip;
  cut_in = g.cut_in;
  minimum_distance = g.minimum_distance;
  single_width = g.single_width;
  single_width_cut_in = g.single_width_cut_in;
  delta_base = g.delta_base;
  delta_shift = g.delta_shift;
  scan_control = g.scan_control;
  scan_type = g.scan_type;
}

-- the graphics state that a program of a glyph begins with: as prep left it, or the default state
abbrev pub begun : InstructControl → GState → GState
begun flags g = if flags.default_state then default_state else carried g

-- the state that a program of a glyph begins with, on these points
abbrev pub started : Prepared → Scale → ℕ → Figure → State
started p scale room glyph = record {
  store = record { stack = []; room = room; storage = p.storage; cvt = p.cvt; strays = 0 };
  zones = record { twilight = p.twilight; glyph = glyph; strays = 0 };
  graphics = p.graphics;
  definitions = p.definitions;
  flags = p.flags;
  scale = scale;
  preparing = false;
}

-- what a program with a glyph's number comes to: the instructions executed and the state then; or a halt
unfoldable pub glyph_end : (Program → List ℕ) → ℕ → Prepared → Scale → ℕ → Figure → Result (ℕ × State) Halt
glyph_end texts g p scale room glyph =
    answered texts g Glyph (answer_of (row_at texts) STEP_LIMIT Glyph (started p scale room glyph))

-- what a watcher sees of it
unfoldable pub glyph_events : (Program → List ℕ) → ℕ → Prepared → Scale → ℕ → Figure → List Event
glyph_events texts g p scale room glyph = events_of texts g STEP_LIMIT Glyph (started p scale room glyph)

-- how many strays a run has counted: outside the storage area and the control values, and outside the zones
abbrev pub strays_of : State → ℕ
strays_of s = counted (s.store.strays + s.zones.strays)

-- what is told of it: the points then, the instructions executed, the strays, and what was asked of drop-out control; or the halt
abbrev pub ran_of : Result (ℕ × State) Halt → Result (Ran × Figure) Halt
ran_of (Ok r) = Ok (
  record { usage = record { steps = r.0; strays = strays_of r.1 }; wish = wish_of r.1.graphics },
  r.1.zones.glyph,
)
ran_of (Err halt) = Err halt

-- the stack of a program that ended well, the deepest number first; none if it halted
abbrev pub stack_if : Bool → List ℤ → Option (List ℤ)
stack_if true stack = Some (reverse stack)
stack_if false stack = None

-- the stack that it leaves
abbrev pub stack_after : Result (ℕ × State) Halt → Option (List ℤ)
stack_after (Ok r) = stack_if true r.1.store.stack
stack_after (Err halt) = None

-- a state has tables of the sizes of prep's
pub record Fits (p : Prepared) (s : State) : Type 0 where
  pub storage : length s.store.storage ≡ length p.storage
  pub cvt : length s.store.cvt ≡ length p.cvt
  pub functions : length s.definitions.functions ≡ length p.definitions.functions
  pub opcodes : length s.definitions.opcodes ≡ length p.definitions.opcodes
  pub twilight : HasShape p.twilight s.zones.twilight

-- what code returns, with the points that it left
abbrev pub with_zone : Result Ran Halt → Figure → Result (Ran × Figure) Halt
with_zone (Ok ran) glyph = Ok (ran, glyph)
with_zone (Err halt) glyph = Err halt
