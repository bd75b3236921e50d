-- The text of a trace, until it stops.
use Rattle.std.specs.Prelude.{◌≡◌, ℕ, ◌+◌, List, Option, Result, Ok, Err, OnOk}
use Rattle.fx_fixed.specs.Texts.{TextView, Adds}
use Rattle.fx_fixed.specs.declared.sink.WriteFailed.{WriteFailed}
use Rattle.fx_hint.specs.Watched.{RunEvent}
use Rattle.fx_trace.specs.declared.fault.Stop.{Stop}
use Rattle.fx_trace.specs.declared.fault.Stop.TheVariants.{WriterFailed, OutOfMemory}
use Rattle.fx_trace.specs.declared.wanted.TracedPrograms.{TracedPrograms}
use Rattle.fx_trace.specs.Snapshots.{SnapshotView}
use Rattle.fx_trace.specs.Traces.{told_of, kept_after}

-- it stops when its writer fails, or when memory for what a trace keeps runs out
abbrev pub Halts : Stop → ℕ → ℕ → ℕ → Type 0
Halts (WriterFailed k) n faults_before faults = (k ≡ n) × (faults ≡ faults_before + 1)
Halts OutOfMemory n faults_before faults = faults ≡ faults_before

-- a writer's fault, as what stops it
abbrev pub stop_of : Result (Unit {0}) WriteFailed → Result (Unit {0}) Stop
stop_of (Ok u) = Ok u
stop_of (Err fault) = Err (WriterFailed fault.0)

-- a text on its way to its sink, and whether it stopped
pub record TraceTextView : Type 0 where
  pub text : TextView
  pub outcome : Result (Unit {0}) Stop

-- one that has not stopped
abbrev pub unstopped : TextView → TraceTextView
unstopped text = record { text = text; outcome = Ok tt }

-- one that stops so, if it has not stopped before
abbrev pub stopped_by : Stop → Result (Unit {0}) Stop → Result (Unit {0}) Stop
stopped_by stop (Ok u) = Err stop
stopped_by stop (Err first) = Err first

abbrev pub stopped : Stop → TraceTextView → TraceTextView
stopped stop was = record { text = was.text; outcome = stopped_by stop was.outcome }

-- bytes were added, or the text stopped; one that had stopped stays as it was
abbrev pub SaysBy : Result (Unit {0}) Stop → TraceTextView → TraceTextView → List ℕ → Type 0
SaysBy (Ok u) was now bytes = Adds Halts was.text now.text bytes now.outcome
SaysBy (Err stop) was now bytes = now ≡ was

-- the same as a record, so that a proof finds its arguments
pub record Says (was now : TraceTextView) (bytes : List ℕ) : Type 0 where
  pub by : SaysBy was.outcome was now bytes

-- the lines of an event are said, and what is kept is the state after it, unless the text stopped
abbrev pub Tells : TracedPrograms → TraceTextView → Option SnapshotView → RunEvent → TraceTextView → Option SnapshotView → Type 0
Tells wanted was before x now next = Says was now (told_of wanted before x) × OnOk now.outcome (next ≡ kept_after wanted before x)

-- what becomes of a tracer at an event, by its parts
abbrev pub Sees : {W : Type 0} → (W → TracedPrograms) → (W → TraceTextView) → (W → Option SnapshotView) → W → RunEvent → W → Type 0
Sees wanted text before was x now =
    Tells (wanted was) (text was) (before was) x (text now) (before now) × (wanted now ≡ wanted was)
