-- Traces of a font's programs, and what a call that writes one leaves.
use Rattle.std.specs.Prelude.{◌≡◌, ℕ, ◌+◌, ◌<◌, ◌&&◌, if◌then◌else◌, Bool, true, false, List, [], length, take, Option, Some, None}
use Rattle.std.specs.Prelude.{Result, Ok, Err, IfOk, IfErr, IsErrOf}
use Rattle.std.specs.Io.KnownBytes.{Appends}
use Rattle.fx_fixed.specs.Chain.{map_fault}
use Rattle.fx_fixed.specs.Texts.{after}
use Rattle.fx_machine.specs.Known.{Known, machine_of}
use Rattle.fx_hint.specs.declared.fault.HintFault.{HintFault}
use Rattle.fx_trace.specs.declared.fault.TraceFault.{TraceFault}
use Rattle.fx_trace.specs.declared.fault.TraceFault.TheVariants as trace
use Rattle.fx_trace.specs.Traces.{Trace, fpgm_trace, prep_trace, glyph_trace}
use Rattle.fx_machine.specs.declared.program.FontProgram.TheVariants as program
use Rattle.fx_request.specs.declared.request.TraceSubject.{TraceSubject}
use Rattle.fx_request.specs.declared.request.TraceSubject.TheVariants.{Program, Glyph}
use Rattle.fx_request.specs.declared.refusal.Refusal.TheVariants.{TooMuchWork, WriteFailed, OutOfMemory}
use Rattle.fx_request.specs.Faults.{of_machine}
use Rattle.fx_views.specs.Choices.{chosen_glyph, opened_choice_of}
use Rattle.fx_strike.specs.Faults.{of_hint}
use Rattle.fx_strike.specs.declared.opened.Opened.{Opened}
use Rattle.fx_strike.specs.Strike.{Opening, opened_at, FontFileView, Refusal}
use Rattle.fx_strike.specs.Numbered.{is_work_over}
use Rattle.fx_strike.specs.Headline.{HasToName, Change}

-- ---- the trace

-- a text, and how it ends: whether there was something to trace, or the refusal after its last line
pub record EndedTrace : Type 0 where
  pub text : List ℕ
  pub end : Result Bool Refusal

-- nothing was traced
abbrev pub untold : Result Bool Refusal → EndedTrace
untold end = record { text = []; end = end }

-- how programs ended, as a refusal
abbrev pub end_with : Result (Unit {0}) HintFault → Result Bool Refusal
end_with (Ok _) = Ok true
end_with (Err fault) = Err (of_hint fault)

abbrev pub told_by : Trace → EndedTrace
told_by trace = record { text = trace.text; end = end_with trace.end }

-- by what `prep` left the trace of a glyph; without one, since the font lacks the character, nothing was traced
abbrev pub told_with : Opened → Option ℕ → Known → EndedTrace
told_with opened None known = untold (Ok false)
told_with opened (Some glyph) known = told_by (glyph_trace known opened.font opened.ppem glyph)

-- `fpgm` and `prep` run before it, without a line; a halt of theirs comes first, also if there is no glyph
abbrev pub told_from : Opened → Option ℕ → Result Known Refusal → EndedTrace
told_from opened glyph (Ok known) = told_with opened glyph known
told_from opened glyph (Err refusal) = untold (Err refusal)

abbrev pub told_of : Opened → Option ℕ → EndedTrace
told_of opened glyph = told_from opened glyph (map_fault of_machine (machine_of opened.font opened.ppem))

-- the trace of an opened font
abbrev pub told_in : Opened → TraceSubject → EndedTrace
told_in opened (Program program.Fpgm) = told_by (fpgm_trace opened.font opened.ppem)
told_in opened (Program program.Prep) = told_by (prep_trace opened.font opened.ppem)
told_in opened (Program (program.Glyph g)) = told_of opened (Some g)
told_in opened (Glyph choice) = told_of opened (chosen_glyph opened.map choice)

-- the glyph whose programs are traced, if it is one
abbrev pub glyph_traced : Opened → TraceSubject → Option ℕ
glyph_traced opened (Program program.Fpgm) = None
glyph_traced opened (Program program.Prep) = None
glyph_traced opened (Program (program.Glyph g)) = Some g
glyph_traced opened (Glyph choice) = chosen_glyph opened.map choice

-- the programs do more work than they may, if work is bounded
abbrev pub is_trace_over : Opened → TraceSubject → Bool → Bool
is_trace_over opened traced careful = careful && is_work_over opened (glyph_traced opened traced)

-- the same trace, but none if the programs do more work than they may
abbrev pub told_within : Opened → TraceSubject → Bool → EndedTrace
told_within opened traced careful =
    if is_trace_over opened traced careful then untold (Err TooMuchWork) else told_in opened traced

-- the size, the font and its character map, and for a character its code point
abbrev pub opening_for : FontFileView → ℕ → TraceSubject → Opening
opening_for file ppem (Program _) = opened_at file ppem
opening_for file ppem (Glyph choice) = opened_choice_of file ppem choice

abbrev pub told_after : Opening → TraceSubject → Bool → EndedTrace
told_after (Ok opened) traced careful = told_within opened traced careful
told_after (Err refusal) traced careful = untold (Err refusal)

-- the trace of a font file at a size, or the first cause why there is none
unfoldable pub trace_of : FontFileView → ℕ → TraceSubject → Bool → EndedTrace
trace_of file ppem traced careful = told_after (opening_for file ppem traced) traced careful

-- ---- what a call that writes a trace leaves

-- the programs ended so, all of their trace was written, and the writer counted no fault
pub record IsTold (told : EndedTrace) (change : Change) (end : Result Bool Refusal) : Type 0 where
  pub is : told.end ≡ end
  pub written : Appends change.bytes_before change.bytes told.text
  pub quiet : change.faults ≡ change.faults_before

-- out of memory: a beginning of the trace was written, and the writer counted no fault
pub record IsToldSome (told : EndedTrace) (change : Change) : Type 0 where
  pub count : ℕ
  pub written : Appends change.bytes_before change.bytes (take count told.text)
  pub quiet : change.faults ≡ change.faults_before

-- the writer failed: exactly the first bytes of the trace were written, the writer counted one fault, and n is their number, or the
-- greatest number of 64 bits if there are more
pub record IsToldTo (told : EndedTrace) (change : Change) (n : ℕ) : Type 0 where
  pub count : ℕ
  pub short : count < length told.text
  pub number : n ≡ after 0 count
  pub written : Appends change.bytes_before change.bytes (take count told.text)
  pub fault : change.faults ≡ change.faults_before + 1

-- all of it
pub record TellsTrace (told : EndedTrace) (change : Change) (result : Result Bool Refusal) : Type 0 where
  -- the programs ended well, or the font lacks the character; the trace was written
  pub text : IfOk result (λ there. IsTold told change (Ok there))
  -- the first cause was named after the lines until then
  pub cause : IfErr result (λ refusal. HasToName refusal → IsTold told change (Err refusal))
  -- a beginning of the trace was written
  pub memory : IsErrOf result OutOfMemory → IsToldSome told change
  -- exactly the first bytes of the trace were written
  pub writer : (n : ℕ) → IsErrOf result (WriteFailed n) → IsToldTo told change n

-- what a trace returns, as a refusal
abbrev pub refused_as : Result (Unit {0}) TraceFault → Result Bool Refusal
refused_as (Ok u) = Ok true
refused_as (Err (trace.Cause fault)) = Err (of_hint fault)
refused_as (Err (trace.WriteFailed n)) = Err (WriteFailed n)
refused_as (Err trace.OutOfMemory) = Err OutOfMemory
