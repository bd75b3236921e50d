-- Traces: the text of what programs did, and how they ended (own).
use Rattle.std.specs.Prelude.{◌≡◌, ℕ, ◌+◌, ◌<◌, nat_eq, Bool, true, false, if◌then◌else◌, List, [], ◌∷◌, ◌++◌, length, take, codes}
use Rattle.std.specs.Prelude.{Option, Some, None, Result, Ok, Err}
use Rattle.std.specs.Io.KnownBytes.{Appends}
use Rattle.std.specs.List.{flat_map}
use Rattle.fx_fixed.specs.Changes.{Change}
use Rattle.fx_fixed.specs.Chain.{map_fault}
use Rattle.fx_fixed.specs.Texts.{after}
use Rattle.fx_sfnt.specs.Tables.{Face, table_or_empty}
use Rattle.fx_scale.specs.Scaling.{scale_of}
use Rattle.fx_machine.specs.declared.program.FontProgram.{FontProgram}
use Rattle.fx_machine.specs.declared.program.FontProgram.TheVariants as program
use Rattle.fx_machine.specs.Events.{Event, Begins, Executed}
use Rattle.fx_machine.specs.declared.program.Program.TheVariants.{Font}
use Rattle.fx_machine.specs.declared.halt.Halt.{Halt}
use Rattle.fx_machine.specs.declared.state.State.{State}
use Rattle.fx_machine.specs.Configs.{answered}
use Rattle.fx_machine.specs.Known.{Known, first_state, machine_of, machine_events, texts_of}
use Rattle.fx_machine.specs.Limits.{STEP_LIMIT}
use Rattle.fx_machine.specs.Machine.{answer_of}
use Rattle.fx_machine.specs.Table.{row_at}
use Rattle.fx_hint.specs.declared.component.ComponentOf.{ComponentOf}
use Rattle.fx_hint.specs.declared.fault.HintFault.{HintFault}
use Rattle.fx_hint.specs.declared.fault.HintFault.TheVariants.{Halted}
use Rattle.fx_hint.specs.Programmed.{hinting_of}
use Rattle.fx_hint.specs.Outlines.{outline_with, of_machine}
use Rattle.fx_hint.specs.Runs.{runs_of}
use Rattle.fx_hint.specs.Watched.{RunEvent, events_for, run_events}
use Rattle.fx_trace.specs.declared.fault.TraceFault.{TraceFault}
use Rattle.fx_trace.specs.declared.fault.TraceFault.TheVariants.{Cause, WriteFailed, OutOfMemory}
use Rattle.fx_trace.specs.declared.wanted.TracedPrograms.{TracedPrograms}
use Rattle.fx_trace.specs.declared.wanted.TracedPrograms.TheVariants.{Fpgm, Prep, Each}
use Rattle.fx_trace.specs.Snapshots.{SnapshotView, snapshot_of}
use Rattle.fx_trace.specs.Lines.{begin_text, line_text}

-- ---- the text of events

-- whether a program that begins is one that is wanted
abbrev pub is_wanted : TracedPrograms → FontProgram → Bool
is_wanted Fpgm program.Fpgm = true
is_wanted Prep program.Prep = true
is_wanted Each p = true
is_wanted _ _ = false

-- the lines of an event of a program that runs for a component or a root, by the state before it, if lines are written
abbrev pub told_by : TracedPrograms → Option ComponentOf → Option SnapshotView → Event → List ℕ
told_by wanted component before (Begins program s) = if is_wanted wanted program then begin_text component program else []
told_by wanted component None (Executed program code address calls s) = []
told_by wanted component (Some before) (Executed program code address calls s) = line_text program code address before s

abbrev pub told_of : TracedPrograms → Option SnapshotView → RunEvent → List ℕ
told_of wanted before x = told_by wanted x.component before x.event

-- the state after it, if lines are written then
abbrev pub kept_by : TracedPrograms → Option SnapshotView → Event → Option SnapshotView
kept_by wanted before (Begins program s) = if is_wanted wanted program then Some (snapshot_of s) else None
kept_by wanted None (Executed program code address calls s) = None
kept_by wanted (Some before) (Executed program code address calls s) = Some (snapshot_of s)

abbrev pub kept_after : TracedPrograms → Option SnapshotView → RunEvent → Option SnapshotView
kept_after wanted before x = kept_by wanted before x.event

-- the lines of events in turn: those of the programs that are wanted, from where each begins
abbrev pub lines_after : TracedPrograms → Option SnapshotView → List RunEvent → List ℕ
lines_after wanted before [] = []
lines_after wanted before (x ∷ xs) = told_of wanted before x ++ lines_after wanted (kept_after wanted before x) xs

unfoldable pub trace_text : TracedPrograms → List RunEvent → List ℕ
trace_text wanted events = lines_after wanted None events

-- ---- traces

-- a text, and how the programs ended
pub record Trace : Type 0 where
  pub text : List ℕ
  pub end : Result (Unit {0}) HintFault

-- whether there was a fault, and which
abbrev pub end_of : {Y : Type 0} → Result Y HintFault → Result (Unit {0}) HintFault
end_of (Ok y) = Ok tt
end_of (Err fault) = Err fault

-- the lines of a program of these bytes: one without bytes does not begin, and has none
abbrev pub if_there : List ℕ → List ℕ → List ℕ
if_there code text = if nat_eq (length code) 0 then [] else text

-- the lines of `fpgm` or of `prep` at a size
abbrev pub prelude_text : Face → ℕ → TracedPrograms → List ℕ
prelude_text face ppem wanted = trace_text wanted (events_for None (machine_events face ppem))

-- what `fpgm` comes to
abbrev pub fpgm_run : Face → ℕ → Result (ℕ × State) Halt
fpgm_run face ppem = answered (texts_of face []) 0 Font
    (answer_of (row_at (texts_of face [])) STEP_LIMIT Font (first_state face (scale_of face ppem)))

-- that of `fpgm`, which ends with it: what `prep` comes to is not told
unfoldable pub fpgm_trace : Face → ℕ → Trace
fpgm_trace face ppem = record {
  text = if_there (table_or_empty face (codes "fpgm")) (prelude_text face ppem Fpgm);
  end = end_of (map_fault Halted (fpgm_run face ppem));
}

-- that of `prep`, which runs after `fpgm`: if `fpgm` halts, there is no line
unfoldable pub prep_trace : Face → ℕ → Trace
prep_trace face ppem = record {
  text = if_there (table_or_empty face (codes "prep")) (prelude_text face ppem Prep);
  end = end_of (map_fault of_machine (machine_of face ppem));
}

-- the trace of a glyph by what `prep` left: the programs of the glyph and of its components, in the order in which they run
unfoldable pub glyph_trace : Known → Face → ℕ → ℕ → Trace
glyph_trace known face ppem g = record {
  text = trace_text Each (flat_map (run_events known) (runs_of (hinting_of known) face (scale_of face ppem) g));
  end = end_of (outline_with (hinting_of known) face ppem g);
}

-- ---- what a call that writes a trace returns and leaves

-- the programs ended without a fault, their trace was written, and the writer counted no fault
pub record IsTraced (trace : Trace) (change : Change) : Type 0 where
  pub end : trace.end ≡ Ok tt
  pub written : Appends change.bytes_before change.bytes trace.text
  pub quiet : change.faults ≡ change.faults_before

-- the programs ended with this fault, the trace until then was written, and the writer counted no fault
pub record IsTracedUntil (trace : Trace) (change : Change) (fault : HintFault) : Type 0 where
  pub end : trace.end ≡ Err fault
  pub written : Appends change.bytes_before change.bytes trace.text
  pub quiet : change.faults ≡ change.faults_before

-- out of memory: a beginning of the trace was written, and the writer counted no fault
pub record IsTracedSome (trace : Trace) (change : Change) : Type 0 where
  pub count : ℕ
  pub written : Appends change.bytes_before change.bytes (take count trace.text)
  pub quiet : change.faults ≡ change.faults_before

-- the writer failed: exactly the first k bytes of the trace were written, the writer counted one fault, and n is k, or the greatest
-- number of 64 bits if k is above it
pub record IsTracedTo (trace : Trace) (change : Change) (n : ℕ) : Type 0 where
  pub count : ℕ
  pub short : count < length trace.text
  pub told : n ≡ after 0 count
  pub written : Appends change.bytes_before change.bytes (take count trace.text)
  pub fault : change.faults ≡ change.faults_before + 1

-- all of it, by the result
abbrev pub Traces : Trace → Change → Result (Unit {0}) TraceFault → Type 0
Traces trace change (Ok _) = IsTraced trace change
Traces trace change (Err (Cause fault)) = IsTracedUntil trace change fault
Traces trace change (Err OutOfMemory) = IsTracedSome trace change
Traces trace change (Err (WriteFailed n)) = IsTracedTo trace change n
