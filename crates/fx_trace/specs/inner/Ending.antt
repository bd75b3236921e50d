-- How a trace ends.
use Rattle.std.specs.Prelude.{◌≡◌, ℕ, List, [], ◌++◌, Result, Ok, Err}
use Rattle.std.specs.List.{flat_map}
use Rattle.fx_machine.specs.declared.halt.Halt.{Halt}
use Rattle.fx_machine.specs.declared.program.FontProgram.{FontProgram}
use Rattle.fx_machine.specs.declared.program.FontProgram.TheVariants.{Prep}
use Rattle.fx_machine.specs.Known.{Known}
use Rattle.fx_hint.specs.Runs.{ProgramRun}
use Rattle.fx_hint.specs.Watched.{RunEvent, run_events, WatchesAll}
use Rattle.fx_hint.specs.declared.fault.HintFault.{HintFault}
use Rattle.fx_hint.specs.declared.fault.HintFault.TheVariants as hint
use Rattle.fx_trace.specs.declared.fault.Stop.{Stop}
use Rattle.fx_trace.specs.declared.fault.Stop.TheVariants as stop
use Rattle.fx_trace.specs.Traces.{Trace}
use Rattle.fx_trace.specs.declared.fault.TraceFault.{TraceFault}
use Rattle.fx_trace.specs.declared.fault.TraceFault.TheVariants.{Cause, WriteFailed, OutOfMemory}

-- lines, after which programs ended so
abbrev pub ended : List ℕ → Result (Unit {0}) HintFault → Trace
ended text end = record { text = text; end = end }

-- how `fpgm` ended, by how `fpgm` and `prep` did: `prep` runs only if `fpgm` ended well
abbrev pub fpgm_end_at : FontProgram → Halt → Result (Unit {0}) HintFault
fpgm_end_at Prep halt = Ok tt
fpgm_end_at _ halt = Err (hint.Halted halt)

abbrev pub fpgm_end : Result (Unit {0}) HintFault → Result (Unit {0}) HintFault
fpgm_end (Err (hint.Halted halt)) = fpgm_end_at halt.during halt
fpgm_end end = end

-- what a trace returns once its text was written, by how the programs ended
abbrev pub ended_by : Result (Unit {0}) HintFault → Result (Unit {0}) TraceFault
ended_by (Ok u) = Ok u
ended_by (Err hint.OutOfMemory) = Err OutOfMemory
ended_by (Err fault) = Err (Cause fault)

-- by what became of its text, and of the programs
abbrev pub result_of : Result (Unit {0}) Stop → Result (Unit {0}) HintFault → Result (Unit {0}) TraceFault
result_of (Ok u) end = ended_by end
result_of (Err (stop.WriterFailed n)) end = Err (WriteFailed n)
result_of (Err stop.OutOfMemory) end = Err OutOfMemory

-- unless memory ran out, no program is left to run
abbrev pub NoneLeft : {A : Type 0} → Result A HintFault → List ProgramRun → Type 0
NoneLeft (Err hint.OutOfMemory) others = Unit {0}
NoneLeft r others = others ≡ []

-- a watcher saw these programs in turn, or if memory ran out the first of them
abbrev pub Ran : {W A : Type 0} → (W → RunEvent → W → Type 0) → Known → List ProgramRun → W → W → Result A HintFault → Type 0
Ran Sees known runs was now end =
    (some : List ProgramRun) × (others : List ProgramRun) × (some ++ others ≡ runs)
    × WatchesAll Sees was (flat_map (run_events known) some) now × NoneLeft end others
