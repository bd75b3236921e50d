-- After `fpgm` and `prep` a machine is the one that the definition gives (`machine_is`), or they halted (`machine_fails`).
-- Control values are numbers of 32 bits; the tables that hold what programs leave have the sizes of the first state's.
use Rattle.std.proofs.Common.{◌≡◌, ℕ, ◌+◌, List, [], length, Bool, true, false, if◌then◌else◌, map, Result, Ok, Err, FitsSigned, inl, inr}
use Rattle.std.proofs.Common.{◌∙◌, sym, ap, subst, refl}
use Rattle.std.proofs.lemmas.Bool.{cases_Bool}
use Rattle.std.proofs.lemmas.List.{length-replicate}
use Rattle.std.specs.List.{All}
use Rattle.std.proofs.lemmas.List.Elements.{All-map}
use Rattle.fx_fixed.proofs.Rounding.{wrapped_of_is_wrapped}
use Rattle.fx_fixed.specs.Chain.{GivesUnless, map_fault}
use Rattle.fx_gstate.specs.declared.state.GState.{GState}
use Rattle.fx_gstate.specs.States.{default_state}
use Rattle.fx_pointops.specs.Zones.{HasShapes}
use Rattle.fx_sfnt.specs.Tables.{Face, table_or_empty}
use Rattle.fx_scale.specs.declared.scale.Scale.{Scale}
use Rattle.fx_scale.specs.Scaling.{scale_of}
use Rattle.fx_scale.specs.Controls.{control_value, control_values}
use Rattle.fx_stackops.specs.Table.{AreNumbers}
use Rattle.fx_machine.specs.declared.program.Program.{Program}
use Rattle.fx_machine.specs.declared.program.Program.TheVariants.{Font, Prep}
use Rattle.fx_machine.specs.declared.halt.Halt.{Halt}
use Rattle.fx_machine.specs.declared.halt.MachineFault.{MachineFault}
use Rattle.fx_machine.specs.declared.halt.MachineFault.TheVariants.{Halted, OutOfMemory}
use Rattle.fx_machine.specs.declared.prepared.Prepared.{Prepared}
use Rattle.fx_machine.specs.Prepared.{Fits, carried, stack_if, strays_of}
use Rattle.fx_machine.specs.Shapes.{HasSizes}
use Rattle.fx_machine.specs.Blocks.{IsOfFont, sizes_of}
use Rattle.fx_machine.specs.Programs.{texts}
use Rattle.fx_machine.specs.declared.usage.Usage.{Usage}
use Rattle.fx_machine.specs.declared.state.State.{State}
use Rattle.fx_machine.specs.Machine.{answer_of}
use Rattle.fx_machine.specs.Table.{row_at}
use Rattle.fx_machine.specs.Configs.{answered}
use Rattle.fx_machine.specs.Events.{Event, Watches, events_of}
use Rattle.fx_machine.proofs.Watched.{seen_both, stays_seeing}
use Rattle.fx_machine.specs.Limits.{STEP_LIMIT}
use Rattle.fx_machine.specs.Known.{Fails, first_state, second_state, prepared_from, prelude_of, prelude_events, prep_events}
use Rattle.fx_machine.specs.Known.{machine_of, font_ran, final_stack_of, MachineView, with_state, machine_events, seen_by}
use Rattle.fx_machine.specs.Known.{controls_of}
use Rattle.std.specs.Int.{w32}
use Rattle.std.specs.Prelude.{codes}

all_numbers : (s : Scale) (bytes : List ℕ) (ks : List ℕ) → All (FitsSigned w32) (map (control_value s bytes) ks)
all_numbers s bytes ks = All-map (FitsSigned w32) (control_value s bytes) ks (λ k d h. (wrapped_of_is_wrapped _).fits)

pub controls_are_numbers : (s : Scale) (bytes : List ℕ) → AreNumbers (control_values s bytes)
unfolding control_values
controls_are_numbers s bytes = all_numbers s bytes _

-- ---- fpgm, then prep

module _ (texts : Program → List ℕ) (g : ℕ) (s t : State) (n : ℕ) (eg : g ≡ 0)
    (h : Ok (n, t) ≡ answered texts g Font (answer_of (row_at texts) STEP_LIMIT Font s)) where
  pub prep_ends : (m steps x : ℕ) (u : State) → steps ≡ n + m → x ≡ strays_of u
      → Ok (m, u) ≡ answered texts g Prep (answer_of (row_at texts) STEP_LIMIT Prep (second_state t))
      → Ok (record { steps = steps; strays = x }, u) ≡ prelude_of texts s
  unfolding prelude_of
  prep_ends m steps x u j i k =
      let first = rw eg at h in
      let second = rw eg at k in
      rw (← first, ← second, i, j) refl

  pub prep_halts : (u : State) (r : Result Usage Halt) (e d : Halt) → r ≡ Err e → e ≡ d
      → Err d ≡ answered texts g Prep (answer_of (row_at texts) STEP_LIMIT Prep (second_state t))
      → with_state r u ≡ prelude_of texts s
  unfolding prelude_of
  prep_halts u r e d i j k =
      let first = rw eg at h in
      let second = rw eg at k in
      rw (← first, ← second, i, j) refl

-- fpgm halted, and prep does not run
pub prep_unrun : (texts : Program → List ℕ) (g : ℕ) → g ≡ 0 → (s u : State) (r : Result Usage Halt) (e d : Halt) → r ≡ Err e → e ≡ d
    → Err d ≡ answered texts g Font (answer_of (row_at texts) STEP_LIMIT Font s) → with_state r u ≡ prelude_of texts s
unfolding prelude_of
prep_unrun texts g eg s u r e d i j k = let first = rw eg at k in rw (← first, i, j) refl

-- ---- what a watcher sees of both

module _ {W : Type 0} (Sees : W → Event → W → Type 0) (texts : Program → List ℕ) (g : ℕ) (s : State) (eg : g ≡ 0) where
  watched_both : (was mid now : W) (r : Result (ℕ × State) Halt)
      → r ≡ answered texts g Font (answer_of (row_at texts) STEP_LIMIT Font s)
      → Watches Sees was (events_of texts g STEP_LIMIT Font s) mid → Watches Sees mid (prep_events texts r) now
      → Watches Sees was (prelude_events texts s) now
  unfolding prelude_events
  watched_both was mid now r e h k =
      let h' = rw eg at h in
      let e' = rw eg at e in
      rw (← e') (seen_both Sees was mid now _ _ h' k)

  -- fpgm halted
  pub prep_unseen : (was mid : W) (halt : Halt) → Err halt ≡ answered texts g Font (answer_of (row_at texts) STEP_LIMIT Font s)
      → Watches Sees was (events_of texts g STEP_LIMIT Font s) mid → Watches Sees was (prelude_events texts s) mid
  prep_unseen was mid halt e h = watched_both was mid mid (Err halt) e h refl

  -- the same of a run that its watcher may have stopped
  pub prep_stopped : (stops : W → Bool) (no_more : (w : W) → stops w ≡ true → (x : Event) → Sees w x w) (was mid : W) (halt : Halt)
      → (stops mid ≡ false → Err halt ≡ answered texts g Font (answer_of (row_at texts) STEP_LIMIT Font s))
      → Watches Sees was (events_of texts g STEP_LIMIT Font s) mid → Watches Sees was (prelude_events texts s) mid
  unfolding prelude_events
  prep_stopped stops no_more was mid halt e h = elim (cases_Bool (stops mid)) [
    | inl t ↦ seen_both Sees was mid mid _ _ (rw eg at h) (stays_seeing Sees mid _ (no_more mid t))
    | inr f ↦ prep_unseen was mid halt (e f) h
  ]

  -- it finished
  pub prep_seen : (was mid now : W) (n : ℕ) (t : State)
      → Ok (n, t) ≡ answered texts g Font (answer_of (row_at texts) STEP_LIMIT Font s)
      → Watches Sees was (events_of texts g STEP_LIMIT Font s) mid
      → Watches Sees mid (events_of texts g STEP_LIMIT Prep (second_state t)) now
      → Watches Sees was (prelude_events texts s) now
  prep_seen was mid now n t e h k = watched_both was mid now (Ok (n, t)) e h (rw eg at k)

-- ---- what they come to

module _ (texts : Program → List ℕ) (s t : State) (e : s ≡ t) where
  pub run_halts : {A : Type 0} (view : A → Usage × State) (r : Result A MachineFault) (x : MachineFault) (d : Halt) → r ≡ Err x
      → x ≡ Halted d → Err d ≡ prelude_of texts s → GivesUnless Fails view r (map_fault Halted (prelude_of texts t))
  run_halts view r x d i j k = let h = rw e at k in rw (i, j, ← h) refl

  pub run_ends : (ran : Usage) (u : State) → Ok (ran, u) ≡ prelude_of texts s
      → map_fault Halted (prelude_of texts t) ≡ Ok (ran, u)
  run_ends ran u k = let h = rw e at k in rw (← h) refl

  module _ {W : Type 0} (Sees : W → Event → W → Type 0) (was now : W) where
    pub run_seen : Watches Sees was (prelude_events texts s) now → Watches Sees was (prelude_events texts t) now
    run_seen k = rw e at k

    pub halt_seen : {A : Type 0} (r : Result A MachineFault) (x : MachineFault) (d : Halt) → r ≡ Err x → x ≡ Halted d
        → Watches Sees was (prelude_events texts s) now → Watches Sees was (seen_by r (prelude_events texts t)) now
    halt_seen r x d i j k = let h = run_seen k in rw (i, j) h

-- ---- a machine

module _ (face : Face) (ppem : ℕ) (scale : Scale) (a b c : List ℕ) (n : ℕ)
    (ez : scale ≡ scale_of face ppem)
    (ea : a ≡ table_or_empty face (codes "fpgm")) (eb : b ≡ table_or_empty face (codes "prep")) (ec : c ≡ []) where
  abbrev these : Program → List ℕ
  these = texts (record { font = a; prep = b; glyph = c; number = n })

  abbrev due : Result (Usage × State) MachineFault
  due = map_fault Halted (prelude_of these (first_state face scale))

  same_run : (x : Result (Usage × State) MachineFault) → due ≡ x → font_ran face ppem ≡ x
  unfolding font_ran
  same_run x k = rw (ea, eb, ec, ez) at k

  pub machine_fails : (r : Result MachineView MachineFault) (x d : MachineFault) → r ≡ Err x → x ≡ d → Fails d due
      → GivesUnless Fails (λ m. m.known) r (machine_of face ppem)
  unfolding machine_of
  machine_fails r x OutOfMemory i j k = rw (i, j) tt
  machine_fails r x (Halted d) i j k = let e = same_run (Err (Halted d)) k in rw (i, j, e) refl

  pub stack_fails : (r : Result MachineView MachineFault) (x d : MachineFault) → r ≡ Err x → x ≡ d → Fails d due
      → GivesUnless Fails (λ m. m.final_stack) r (final_stack_of face ppem)
  unfolding final_stack_of
  stack_fails r x OutOfMemory i j k = rw (i, j) tt
  stack_fails r x (Halted d) i j k = let e = same_run (Err (Halted d)) k in rw (i, j, e) refl

  pub machine_is : (ran : Usage) (t : State) (p : Prepared) → t.scale ≡ scale → p ≡ prepared_from t → due ≡ Ok (ran, t)
      → machine_of face ppem ≡ Ok (record { face = face; ppem = t.scale.ppem; prepared = p; prelude = ran })
  unfolding machine_of
  machine_is ran t p i j k =
      let e = same_run (Ok (ran, t)) k in
      let z : t.scale.ppem ≡ ppem = rw (i, ez) refl in
      rw (z, j, e) refl

  pub stack_is : (ran : Usage) (t : State) → due ≡ Ok (ran, t) → final_stack_of face ppem ≡ Ok (stack_if true t.store.stack)
  unfolding final_stack_of
  stack_is ran t k = let e = same_run (Ok (ran, t)) k in rw e refl

  module _ {W : Type 0} (Sees : W → Event → W → Type 0) (was now : W) where
    pub seen_made : Watches Sees was (prelude_events these (first_state face scale)) now
        → Watches Sees was (machine_events face ppem) now
    unfolding machine_events
    seen_made k = rw (ea, eb, ec, ez) at k

    abbrev seen_then : Type 0 → MachineFault → Type 0
    seen_then A d = let first : Result A MachineFault = Err d in
        Watches Sees was (seen_by first (prelude_events these (first_state face scale))) now

    pub seen_failed : (A : Type 0) (r : Result MachineView MachineFault) (x d : MachineFault) → r ≡ Err x → x ≡ d → seen_then A d
        → Watches Sees was (seen_by r (machine_events face ppem)) now
    seen_failed A r x OutOfMemory i j k = rw (i, j) k
    seen_failed A r x (Halted d) i j k = let e = seen_made k in rw (i, j) e

-- ---- what it knows

carried_then : (default : Bool) (g : GState) → carried (if default then default_state else carried g)
    ≡ (if default then default_state else carried g)
carried_then true g = refl
carried_then false g = refl

pub first_of_font : (face : Face) (ppem : ℕ) (scale : Scale) (t : State) (p : Prepared) → scale ≡ scale_of face ppem
    → HasShapes (first_state face scale).zones t.zones → HasSizes (first_state face scale) t → p ≡ prepared_from t
    → IsOfFont face ppem p
first_of_font face ppem scale t p z h k e = record {
  sizes = ap sizes_of e ∙ (λ i. record {
    storage = (k.store.storage ∙ length-replicate _ _) i;
    cvt = (k.store.cvt ∙ ap (λ s. length (controls_of face s)) z) i;
    twilight = (h.twilight.points ∙ length-replicate _ _) i;
    functions = (k.functions ∙ length-replicate _ _) i;
    opcodes = k.opcodes i;
  });
  ends = ap (λ q. q.twilight.ends) e ∙ h.twilight.ends;
  carried = ap (λ q. carried q.graphics) e ∙ carried_then t.flags.default_state t.graphics ∙ sym (ap (λ q. q.graphics) e);
}

pub first_fits : (t : State) (p : Prepared) → p ≡ prepared_from t → Fits p t
first_fits t p e = record {
  storage = ap (λ q. length q.storage) (sym e);
  cvt = ap (λ q. length q.cvt) (sym e);
  functions = ap (λ q. length q.definitions.functions) (sym e);
  opcodes = ap (λ q. length q.definitions.opcodes) (sym e);
  twilight = record { points = ap (λ q. length q.twilight.points) (sym e); ends = ap (λ q. q.twilight.ends) (sym e) };
}

pub first_known : (face : Face) (ppem : ℕ) (scale : Scale) (t : State) (p : Prepared) → scale ≡ scale_of face ppem
    → HasShapes (first_state face scale).zones t.zones → HasSizes (first_state face scale) t → p ≡ prepared_from t
    → (t.scale ≡ scale_of face t.scale.ppem) × IsOfFont face t.scale.ppem p
first_known face ppem scale t p z h k e =
    let size : t.scale.ppem ≡ ppem = ap (λ s. s.ppem) k.scale ∙ ap (λ s. s.ppem) z in
    let P : ℕ → Type 0 = λ n. (t.scale ≡ scale_of face n) × IsOfFont face n p in
    subst P (sym size) (k.scale ∙ z, first_of_font face ppem scale t p z h k e)
