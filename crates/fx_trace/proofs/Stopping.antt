-- A text that stops before anything is added is said to have stopped: `begin_stops`, `line_stops`.
-- It serves the tracer.
use Rattle.std.proofs.Common.{◌≡◌, ℕ, ◌<◌, List, length, Option, Result, Ok, Err, OnOk, refl, sym, ap, ◌∙◌, subst, arith, length-append}
use Rattle.std.proofs.KnownBytes.{Appends-nil}
use Rattle.fx_fixed.specs.Texts.{TextView, Adds}
use Rattle.fx_machine.specs.declared.program.FontProgram.{FontProgram}
use Rattle.fx_machine.specs.declared.program.FontProgram.TheVariants.{Fpgm, Prep, Glyph}
use Rattle.fx_machine.specs.declared.state.State.{State}
use Rattle.fx_hint.specs.declared.component.ComponentOf.{ComponentOf}
use Rattle.fx_trace.specs.declared.fault.Stop.{Stop}
use Rattle.fx_trace.specs.declared.fault.Stop.TheVariants as stop
use Rattle.fx_trace.specs.Lines.{begin_text, line_text}
use Rattle.fx_trace.specs.Snapshots.{SnapshotView}
use Rattle.fx_trace.specs.inner.Telling.{Halts, TraceTextView, Says, SaysBy, stopped, stopped_by}

-- memory runs out before anything is added
stops_first : {was : TextView} {text : List ℕ} → 0 < length text → Adds Halts was was text (Err stop.OutOfMemory)
stops_first {was} {text} some = record {
  same = refl;
  outcome = (0, omega (arith, some, length-append was.waiting text), Appends-nil was.held, refl);
}

stops : {was now : TraceTextView} (bytes : List ℕ) → 0 < length bytes → now ≡ stopped stop.OutOfMemory was → Says was now bytes
stops {was} bytes some e =
    record { by = subst (λ (t : TraceTextView). SaysBy was.outcome was t bytes) (sym e) (by was.outcome refl) }
  where
    by : (r : Result (Unit {0}) Stop) → was.outcome ≡ r → SaysBy r was (stopped stop.OutOfMemory was) bytes
    by (Ok u) d = subst (λ q. Adds Halts was.text was.text bytes (stopped_by stop.OutOfMemory q)) (sym d) (stops_first some)
    by (Err first) d =
        ap (λ (q : Result (Unit {0}) Stop). record { text = was.text; outcome = q }) (ap (stopped_by stop.OutOfMemory) d ∙ sym d)

begin_some : (component : Option ComponentOf) (program : FontProgram) → 0 < length (begin_text component program)
unfolding begin_text
begin_some component Fpgm = omega arith
begin_some component Prep = omega arith
begin_some component (Glyph g) = omega arith

line_some : (program : FontProgram) (code : List ℕ) (address : ℕ) (was : SnapshotView) (s : State)
    → 0 < length (line_text program code address was s)
unfolding line_text
line_some Fpgm code address was s = omega arith
line_some Prep code address was s = omega arith
line_some (Glyph g) code address was s = omega arith

pub begin_stops : {was now : TraceTextView} (component : Option ComponentOf) (program : FontProgram)
    → now ≡ stopped stop.OutOfMemory was → Says was now (begin_text component program)
begin_stops component program = stops (begin_text component program) (begin_some component program)

pub line_stops : {text next : TraceTextView} (program : FontProgram) (code : List ℕ) (address : ℕ) (was : SnapshotView) (s : State)
    → next ≡ stopped stop.OutOfMemory text → Says text next (line_text program code address was s)
line_stops program code address was s =
    stops (line_text program code address was s) (line_some program code address was s)

-- then nothing has to be kept
pub none_kept : (P : Type 0) (was now : TraceTextView) → now ≡ stopped stop.OutOfMemory was → OnOk now.outcome P
none_kept P was now e = subst (λ (t : TraceTextView). OnOk t.outcome P) (sym e) (by was.outcome)
  where
    by : (r : Result (Unit {0}) Stop) → OnOk (stopped_by stop.OutOfMemory r) P
    by (Ok u) = tt
    by (Err first) = tt
