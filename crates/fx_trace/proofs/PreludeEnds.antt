-- How `fpgm` ended follows from how `fpgm` and `prep` did: `fpgm_given`, `fpgm_ended`.
-- It serves `trace_fpgm` and `trace_prep`.
use Rattle.std.proofs.Common.{◌≡◌, ℕ, ◌+◌, List, [], Result, Ok, Err, refl, sym, ap, ◌∙◌, subst}
use Rattle.fx_fixed.specs.Chain.{◌>>=◌, map_fault, GivesUnless}
use Rattle.fx_fixed.specs.Changes.{Change}
use Rattle.fx_sfnt.specs.Tables.{Face}
use Rattle.fx_scale.specs.Scaling.{scale_of}
use Rattle.fx_machine.specs.declared.program.Program.{Program}
use Rattle.fx_machine.specs.declared.program.Program.TheVariants as program
use Rattle.fx_machine.specs.declared.program.FontProgram.{FontProgram}
use Rattle.fx_machine.specs.declared.program.FontProgram.TheVariants.{Fpgm, Prep, Glyph}
use Rattle.fx_machine.specs.declared.halt.Halt.{Halt}
use Rattle.fx_machine.specs.declared.halt.MachineFault.{MachineFault}
use Rattle.fx_machine.specs.declared.halt.MachineFault.TheVariants as machine
use Rattle.fx_machine.specs.declared.state.State.{State}
use Rattle.fx_machine.specs.declared.usage.Usage.{Usage}
use Rattle.fx_machine.specs.Configs.{answered}
use Rattle.fx_machine.specs.Known.{Known, first_state, font_ran, machine_of, prelude_of, prepared_from, second_state, texts_of}
use Rattle.fx_machine.specs.Known as known_
use Rattle.fx_machine.specs.Limits.{STEP_LIMIT}
use Rattle.fx_machine.specs.Machine.{answer_of}
use Rattle.fx_machine.specs.Prepared.{strays_of}
use Rattle.fx_machine.specs.Runs.{Verdict, Finished, Halted, Exhausted}
use Rattle.fx_machine.specs.Table.{row_at}
use Rattle.fx_hint.specs.declared.fault.HintFault.{HintFault}
use Rattle.fx_hint.specs.declared.fault.HintFault.TheVariants as hint
use Rattle.fx_hint.specs.Faults as faults_
use Rattle.fx_hint.specs.Outlines.{of_machine}
use Rattle.fx_trace.specs.declared.fault.Stop.{Stop}
use Rattle.fx_trace.specs.declared.fault.Stop.TheVariants as stop
use Rattle.fx_trace.specs.Traces.{Trace, Traces, end_of, fpgm_run}
use Rattle.fx_trace.specs.inner.Ending.{ended, fpgm_end, fpgm_end_at, result_of}

-- ---- both ended as the machine did

pub machine_given : {A : Type 0} (view : A → Known) (made : Result A MachineFault) (due : Result Known MachineFault)
    → GivesUnless known_.Fails view made due
    → GivesUnless faults_.Fails (λ (u : Unit {0}). u) (end_of (map_fault of_machine made)) (end_of (map_fault of_machine due))
machine_given view (Ok m) due v = ap (λ (r : Result Known MachineFault). end_of (map_fault of_machine r)) v
machine_given view (Err machine.OutOfMemory) due v = tt
machine_given view (Err (machine.Halted halt)) due v = ap (λ (r : Result Known MachineFault). end_of (map_fault of_machine r)) v

-- ---- `fpgm` ended as its run did

module _ (face : Face) (ppem : ℕ) where
  abbrev texts : Program → List ℕ
  texts = texts_of face []

  abbrev known_from : Usage × State → Known
  known_from ran = record { face = face; ppem = ppem; prepared = prepared_from ran.1; prelude = ran.0 }

  -- what both used up, and how they ended, by what comes of `fpgm` and by the verdicts on `prep`
  abbrev prelude_by : Result (ℕ × State) Halt → (State → Verdict) → Result (Usage × State) Halt
  prelude_by first second = do
    one ← first
    two ← answered texts 0 program.Prep (second one.1)
    Ok (record { steps = one.0 + two.0; strays = strays_of two.1 }, two.1)

  abbrev both : Result (ℕ × State) Halt → (State → Verdict) → Result Known MachineFault
  both first second = do
    ran ← map_fault machine.Halted (prelude_by first second)
    Ok (known_from ran)

  by_prep : (steps : ℕ) (s : State) (second : State → Verdict) (v : Verdict) → second s ≡ v
      → fpgm_end (end_of (map_fault of_machine (both (Ok (steps, s)) second))) ≡ Ok tt
  by_prep steps s second (Finished n t) e = rw e refl
  by_prep steps s second (Halted cause w p) e = rw e refl
  by_prep steps s second (Exhausted w p) e = rw e refl

  by_fpgm : (v : Verdict) (second : State → Verdict)
      → fpgm_end (end_of (map_fault of_machine (both (answered texts 0 program.Font v) second)))
      ≡ end_of (map_fault hint.Halted (answered texts 0 program.Font v))
  by_fpgm (Finished steps s) second = by_prep steps s second (second s) refl
  by_fpgm (Halted cause w p) second = refl
  by_fpgm (Exhausted w p) second = refl

  fpgm_end_is : fpgm_end (end_of (map_fault of_machine (machine_of face ppem)))
      ≡ end_of (map_fault hint.Halted (fpgm_run face ppem))
  unfolding machine_of font_ran prelude_of
  fpgm_end_is =
      by_fpgm (answer_of (row_at texts) STEP_LIMIT program.Font (first_state face (scale_of face ppem)))
      (λ s. answer_of (row_at texts) STEP_LIMIT program.Prep (second_state s))

  pub fpgm_given : (e : Result (Unit {0}) HintFault)
      → GivesUnless faults_.Fails (λ (u : Unit {0}). u) e (end_of (map_fault of_machine (machine_of face ppem)))
      → GivesUnless faults_.Fails (λ (u : Unit {0}). u) (fpgm_end e) (end_of (map_fault hint.Halted (fpgm_run face ppem)))
  fpgm_given (Ok u) v = sym fpgm_end_is ∙ ap fpgm_end v
  fpgm_given (Err (hint.Halted halt)) v = by_program halt.during (sym fpgm_end_is ∙ ap fpgm_end v)
    where
      by_program : (during : FontProgram) → end_of (map_fault hint.Halted (fpgm_run face ppem)) ≡ fpgm_end_at during halt
          → GivesUnless faults_.Fails (λ (u : Unit {0}). u) (fpgm_end_at during halt)
          (end_of (map_fault hint.Halted (fpgm_run face ppem)))
      by_program Prep e = e
      by_program Fpgm e = e
      by_program (Glyph g) e = e
  fpgm_given (Err hint.OutOfMemory) v = tt
  fpgm_given (Err f) v = sym fpgm_end_is ∙ ap fpgm_end v

-- ---- what is left

-- the lines are those of a trace that ended so
pub told_by_end : (trace : Trace) (text : List ℕ) (change : Change) (told : Result (Unit {0}) Stop)
    (end : Result (Unit {0}) HintFault) → text ≡ trace.text → GivesUnless faults_.Fails (λ (u : Unit {0}). u) end trace.end
    → Traces (ended text end) change (result_of told end) → Traces trace change (result_of told end)
told_by_end trace text change told end e v h =
    let P : List ℕ → Type 0 = λ t. Traces (ended t end) change (result_of told end) in by_end told end v (subst P e h)
  where
    by_end : (told : Result (Unit {0}) Stop) (end : Result (Unit {0}) HintFault)
        → GivesUnless faults_.Fails (λ (u : Unit {0}). u) end trace.end
        → Traces (ended trace.text end) change (result_of told end) → Traces trace change (result_of told end)
    by_end (Ok u) (Ok w) v h = record { end = v; written = h.written; quiet = h.quiet }
    by_end (Ok u) (Err hint.OutOfMemory) v h = record { count = h.count; written = h.written; quiet = h.quiet }
    by_end (Ok u) (Err f) v h = record { end = v; written = h.written; quiet = h.quiet }
    by_end (Err (stop.WriterFailed n)) end v h =
        record { count = h.count; short = h.short; told = h.told; written = h.written; fault = h.fault }
    by_end (Err stop.OutOfMemory) end v h = record { count = h.count; written = h.written; quiet = h.quiet }

-- a halt of `prep` is not told
pub fpgm_ended : (text : List ℕ) (change : Change) (told : Result (Unit {0}) Stop) (end : Result (Unit {0}) HintFault)
    → Traces (ended text end) change (result_of told end)
    → Traces (ended text (fpgm_end end)) change (result_of told (fpgm_end end))
fpgm_ended text change (Ok u) (Ok w) h = h
fpgm_ended text change (Ok u) (Err (hint.Halted halt)) h = by_program halt.during
  where
    by_program : (during : FontProgram)
        → Traces (ended text (fpgm_end_at during halt)) change (result_of (Ok u) (fpgm_end_at during halt))
    by_program Prep = record { end = refl; written = h.written; quiet = h.quiet }
    by_program Fpgm = h
    by_program (Glyph g) = h
fpgm_ended text change (Ok u) (Err f) h = h
fpgm_ended text change (Err (stop.WriterFailed n)) end h =
    record { count = h.count; short = h.short; told = h.told; written = h.written; fault = h.fault }
fpgm_ended text change (Err stop.OutOfMemory) end h = record { count = h.count; written = h.written; quiet = h.quiet }
