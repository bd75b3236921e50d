-- Programs that were watched leave their traces: `prelude_traced`, `glyph_traced`.
-- It serves `run_told` and `trace_glyph`.
use Rattle.std.proofs.Common.{◌≡◌, ℕ, List, [], ◌++◌, Option, Result, Ok, Err, OnOk, None, refl, sym, ap, ◌∙◌, append-nil, subst}
use Rattle.std.specs.Borrow.{GName}
use Rattle.std.specs.List.{flat_map}
use Rattle.fx_fixed.specs.Chain.{map_fault, GivesUnless}
use Rattle.fx_fixed.specs.Texts.{Adds, begun}
use Rattle.fx_sfnt.specs.Tables.{Face}
use Rattle.fx_scale.specs.Scaling.{scale_of}
use Rattle.fx_machine.specs.declared.halt.MachineFault.{MachineFault}
use Rattle.fx_machine.specs.declared.halt.MachineFault.TheVariants as machine
use Rattle.fx_machine.specs.Known.{Known, machine_events, seen_by}
use Rattle.fx_hint.specs.declared.fault.HintFault.{HintFault}
use Rattle.fx_hint.specs.declared.fault.HintFault.TheVariants as hint
use Rattle.fx_hint.specs.Faults as faults_
use Rattle.fx_hint.specs.Programmed.{hinting_of}
use Rattle.fx_hint.specs.Outlines.{outline_with, of_machine}
use Rattle.fx_hint.specs.Runs.{ProgramRun, runs_of, HasRun}
use Rattle.fx_hint.specs.Watched.{RunEvent, events_for, run_events, runs_joined, WatchesAll}
use Rattle.fx_trace.specs.declared.fault.Stop.{Stop}
use Rattle.fx_trace.specs.declared.fault.TraceFault.{TraceFault}
use Rattle.fx_trace.specs.Snapshots.{SnapshotView}
use Rattle.fx_trace.specs.declared.wanted.TracedPrograms.{TracedPrograms}
use Rattle.fx_trace.specs.declared.wanted.TracedPrograms.TheVariants.{Each}
use Rattle.fx_trace.specs.Traces.{Trace, Traces, lines_after, trace_text, end_of, prelude_text, glyph_trace}
use Rattle.fx_trace.specs.inner.Ending.{ended, result_of, NoneLeft, Ran}
use Rattle.fx_trace.specs.inner.Telling.{TraceTextView, Halts, Says, Sees, unstopped}
use Rattle.fx_trace.proofs.Telling.{told, lines_joined, kept_after_all}
use Rattle.fx_trace.proofs.Finishing.{traced, IsWhole}
use Rattle.fx_trace.proofs.Texts.{says_then, says_text}

-- ---- the writer's last state

pub moved_to : (trace : Trace) (held : Option (List ℕ)) (faults : ℕ) (r : Result (Unit {0}) TraceFault) {new now : Option (List ℕ)}
    {count counted : ℕ}
    → Traces trace (record { bytes_before = held; bytes = now; faults_before = faults; faults = counted }) r
    → new ≡ now → count ≡ counted
    → Traces trace (record { bytes_before = held; bytes = new; faults_before = faults; faults = count }) r
moved_to trace held faults r h e f = rw (e, f) h

-- ---- the programs of a glyph

pub seen_runs : {S A : Type 0} (Leads : S → List ProgramRun → S
    → Type 0) (x y : S) (r : Result A HintFault) (runs : List ProgramRun)
    → HasRun Leads x y r runs
    → (some : List ProgramRun) × (others : List ProgramRun) × (some ++ others ≡ runs) × Leads x some y × NoneLeft r others
seen_runs Leads x y (Ok v) runs l = (runs, [], append-nil runs, l, refl)
seen_runs Leads x y (Err hint.OutOfMemory) runs s = (s.0, s.1.0, s.1.1, s.2, tt)
seen_runs Leads x y (Err e) runs l = (runs, [], append-nil runs, l, refl)

none_by_end : {A : Type 0} (r : Result A HintFault) (others : List ProgramRun) → NoneLeft r others → NoneLeft (end_of r) others
none_by_end (Ok v) others n = n
none_by_end (Err hint.OutOfMemory) others n = tt
none_by_end (Err e) others n = n

end_given : {A B : Type 0} (view : A → B) (r : Result A HintFault) (due : Result B HintFault)
    → GivesUnless faults_.Fails view r due → GivesUnless faults_.Fails (λ (u : Unit {0}). u) (end_of r) (end_of due)
end_given view (Ok x) due v = ap end_of v
end_given view (Err hint.OutOfMemory) due v = tt
end_given view (Err f) due v = ap end_of v

pub ends_so : {A B : Type 0} (view : A → B) (r : Result A HintFault) (due : Result B HintFault) (e : Result (Unit {0}) HintFault)
    → e ≡ end_of r → GivesUnless faults_.Fails view r due → GivesUnless faults_.Fails (λ (u : Unit {0}). u) e (end_of due)
ends_so view r due e i v =
    let P : Result (Unit {0}) HintFault → Type 0 = λ q. GivesUnless faults_.Fails (λ (u : Unit {0}). u) q (end_of due) in
    subst P (sym i) (end_given view r due v)

pub ran_so : {W A : Type 0} (Sees : W → RunEvent → W → Type 0) (known : Known) (was now : W) (r : Result A HintFault)
    (e : Result (Unit {0}) HintFault) (runs some others : List ProgramRun) → e ≡ end_of r → some ++ others ≡ runs
    → WatchesAll Sees was (flat_map (run_events known) some) now → NoneLeft r others → Ran Sees known runs was now e
ran_so Sees known was now r e runs some others i j w n =
    let P : Result (Unit {0}) HintFault → Type 0 = λ q. NoneLeft q others in
    (some, others, j, w, subst P (sym i) (none_by_end r others n))

module _ {W : Type 0} (wanted : W → TracedPrograms) (text : W → TraceTextView) (before : W → Option SnapshotView)
    (sink : GName) (held : Option (List ℕ)) (faults : ℕ) (was now : W) (last : TraceTextView) (told_last : Result (Unit {0}) Stop)
    (begins : text was ≡ unstopped (begun sink held faults)) (off : before was ≡ None) (ends : Says (text now) last [])
    (outcome : told_last ≡ last.outcome) (complete : OnOk told_last (last.text.waiting ≡ [])) where
  -- what was added, when the text ended
  added : (w : TracedPrograms) (es : List RunEvent) → wanted was ≡ w → WatchesAll (Sees wanted text before) was es now
      → Adds Halts (begun sink held faults) last.text (lines_after w None es) told_last × OnOk told_last (last.text.waiting ≡ [])
  added w es e seen =
      let P : TraceTextView → TracedPrograms → Option SnapshotView → Type 0 = λ t v b. Says t last (lines_after v b es) in
      let a : P (text was) (wanted was) (before was) =
      says_text (append-nil (lines_after (wanted was) (before was) es))
      (says_then (told wanted text before was now es seen) ends) in
      let b : P (text was) (wanted was) None = subst (λ (o : Option SnapshotView). P (text was) (wanted was) o) off a in
      let c : P (text was) w None = subst (λ (v : TracedPrograms). P (text was) v None) e b in
      let d : P (unstopped (begun sink held faults)) w None = subst (λ (t : TraceTextView). P t w None) begins c in
      let Q : Result (Unit {0}) Stop → Type 0 = λ q. Adds Halts (begun sink held faults) last.text (lines_after w None es) q in
      (subst Q (sym outcome) d.by, complete)

  -- the sink is the same
  pub same_sink : (w : TracedPrograms) (es : List RunEvent) → wanted was ≡ w
      → WatchesAll (Sees wanted text before) was es now → last.text.sink ≡ sink
  same_sink w es e seen = (added w es e seen).0.same

  module _ (known : Known) (face : Face) (ppem g : ℕ) where
    abbrev due : Trace
    due = glyph_trace known face ppem g

    abbrev runs : List ProgramRun
    runs = runs_of (hinting_of known) face (scale_of face ppem) g

    abbrev lines : List ProgramRun → List ℕ
    lines some = lines_after Each None (flat_map (run_events known) some)

    abbrev more : List ProgramRun → List ProgramRun → List ℕ
    more some others =
        lines_after Each (kept_after_all Each None (flat_map (run_events known) some)) (flat_map (run_events known) others)

    first : (some others : List ProgramRun) → some ++ others ≡ runs → lines some ++ more some others ≡ due.text
    unfolding glyph_trace trace_text
    first some others e =
        lines_joined Each None (flat_map (run_events known) some) (flat_map (run_events known) others)
        ∙ ap (λ (es : List RunEvent). lines_after Each None es)
        (sym (runs_joined (run_events known) some others) ∙ ap (λ (rs : List ProgramRun). flat_map (run_events known) rs) e)

    end_is : due.end ≡ end_of (outline_with (hinting_of known) face ppem g)
    unfolding glyph_trace
    end_is = refl

    none_more : (some others : List ProgramRun) → others ≡ [] → more some others ≡ []
    none_more some others e = rw e refl

    whole : (some others : List ProgramRun) (e : some ++ others ≡ runs) (end : Result (Unit {0}) HintFault) → NoneLeft end others
        → GivesUnless faults_.Fails (λ (u : Unit {0}). u) end (end_of (outline_with (hinting_of known) face ppem g))
        → IsWhole due sink held faults last.text (lines some) (more some others) (first some others e) end
    whole some others e (Ok u) n v = (none_more some others n, end_is ∙ v)
    whole some others e (Err hint.OutOfMemory) n v = tt
    whole some others e (Err f) n v = (none_more some others n, end_is ∙ v)

    pub glyph_traced : wanted was ≡ Each → (end : Result (Unit {0}) HintFault)
        → (ran : Ran (Sees wanted text before) known runs was now end)
        → GivesUnless faults_.Fails (λ (u : Unit {0}). u) end (end_of (outline_with (hinting_of known) face ppem g))
        → Traces due (record { bytes_before = held; bytes = last.text.held; faults_before = faults; faults = last.text.faults })
        (result_of told_last end)
    glyph_traced w end ran v =
        traced due sink held faults last.text (lines ran.0) (more ran.0 ran.1) (first ran.0 ran.1 ran.2) told_last end
        (added Each (flat_map (run_events known) ran.0) w ran.3) (whole ran.0 ran.1 ran.2 end ran.4 v)

  -- ---- `fpgm` and `prep`

  module _ (face : Face) (ppem : ℕ) (w : TracedPrograms) where
    abbrev all : List ℕ
    all = lines_after w None (events_for None (machine_events face ppem))

    text_is : all ≡ prelude_text face ppem w
    unfolding trace_text
    text_is = refl

    pub prelude_traced : {A : Type 0} → wanted was ≡ w → (made : Result A MachineFault)
        → WatchesAll (Sees wanted text before) was (events_for None (seen_by made (machine_events face ppem))) now
        → Traces (ended (prelude_text face ppem w) (end_of (map_fault of_machine made)))
        (record { bytes_before = held; bytes = last.text.held; faults_before = faults; faults = last.text.faults })
        (result_of told_last (end_of (map_fault of_machine made)))
    prelude_traced e (Ok m) seen =
        traced (ended (prelude_text face ppem w) (Ok tt)) sink held faults last.text all []
        (append-nil all ∙ text_is) told_last (Ok tt)
        (added w (events_for None (machine_events face ppem)) e seen) (refl, refl)
    prelude_traced e (Err machine.OutOfMemory) seen =
        traced (ended (prelude_text face ppem w) (Err hint.OutOfMemory)) sink held faults last.text [] all text_is told_last
        (Err hint.OutOfMemory) (added w [] e seen) tt
    prelude_traced e (Err (machine.Halted halt)) seen =
        traced (ended (prelude_text face ppem w) (Err (hint.Halted halt))) sink held faults last.text all []
        (append-nil all ∙ text_is) told_last (Err (hint.Halted halt))
        (added w (events_for None (machine_events face ppem)) e seen) (refl, refl)
