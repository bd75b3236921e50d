-- The loop returns what the definition gives: at the end (`finished_here`), a halt (`halted_here`) or the limit (`limit_from`).
-- It serves the run of a program.
use Rattle.std.proofs.Common.{◌≡◌, ◌≢◌, ◌≤◌, ℕ, suc, ◌+◌, ◌-◌, ◌<◌, List, [], ◌∷◌, length, reverse, Result, Ok, Err, inl, inr, refl, subst, ◌∙◌}
use Rattle.std.proofs.Common.{arith}
use Rattle.std.proofs.lemmas.Bool.{eq-eqb, cases_lt, lt-ltb, le-ltb}
use Rattle.std.proofs.lemmas.Bool.Decides.{eqb_tells, leb_tells}
use Rattle.std.proofs.lemmas.List.{length-reverse}
use Rattle.fx_code.specs.Chain.{next_address}
use Rattle.fx_machine.specs.declared.program.Program.{Program}
use Rattle.fx_machine.specs.declared.halt.Cause.{Cause}
use Rattle.fx_machine.specs.declared.halt.Cause.TheVariants.{StepLimit, StrayEnd, CodeEnd}
use Rattle.fx_machine.specs.declared.calls.OpenCall.{OpenCall}
use Rattle.fx_machine.specs.declared.state.State.{State}
use Rattle.fx_machine.specs.declared.halt.Halt.{Halt}
use Rattle.fx_machine.specs.declared.action.Action.{Action}
use Rattle.fx_machine.specs.declared.action.Action.TheVariants.{Went, Called, Returned}
use Rattle.fx_machine.specs.Effects.{Ends}
use Rattle.fx_machine.specs.Runs.{Exhausted}
use Rattle.fx_machine.specs.Limits.{CALL_LIMIT}
use Rattle.fx_machine.specs.Machine.{Config, config, Move, Finishes, Stops, Moves, moved_by, answer_from, answer_of}
use Rattle.fx_machine.specs.Table.{row_at, row_in, settled}
use Rattle.fx_machine.specs.Configs.{answered, halt_at}
use Rattle.fx_machine.proofs.Steps.{go_none, go_one, go_finishes, Takes}
use Rattle.fx_machine.specs.Events.{steps_from}
use Rattle.fx_machine.proofs.Reading.{row_cut}
use Rattle.fx_machine.proofs.Stepping.{none_left, none_after_end, none_after_halt, left_events, no_events}

module _ (texts : Program
    → List ℕ) (g : ℕ) (start : Program) (left n : ℕ) (items : List OpenCall) (w : Program) (p : ℕ) (now : State)
  where
    -- what is answered from here
    abbrev From : Result (ℕ × State) Halt
    From = answered texts g start (answer_from (row_at texts) left n (config (reverse items) w p now))

    at_end : p ≡ length (texts w) → row_at texts w p now ≡ Ends
    unfolding row_in
    at_end e = rw (eq-eqb p (length (texts w)) e) refl

    no_calls : (K : List OpenCall) → length K ≡ 0 → moved_by Ends K w ≡ Finishes
    no_calls [] z = refl
    no_calls (g ∷ K) z = absurd (omega arith)

    ends_only : (K : List OpenCall) → moved_by Ends K w ≡ Finishes → length K ≡ 0
    ends_only [] e = refl
    ends_only (g ∷ K) e = absurd cc

    some_calls : (K : List OpenCall) → 0 < length K → moved_by Ends K w ≡ Stops StrayEnd
    some_calls [] z = absurd (omega arith)
    some_calls (g ∷ K) z = refl

    pub finished_here : p ≡ length (texts w) → length items ≡ 0 → Ok (n, now) ≡ From
    finished_here e z =
        let t : Takes (row_at texts) (reverse items) w p now Finishes =
        record { is = rw (at_end e) (no_calls (reverse items) (rw length-reverse z)) } in
        rw (go_finishes (row_at texts) left n (reverse items) w p now t) refl

    pub halted_from : (cause : Cause) → 0 < left → moved_by (row_at texts w p now) (reverse items) w ≡ Stops cause
        → Err (halt_at texts g start w p cause) ≡ From
    halted_from cause lt m =
        let e : left ≡ suc (left - 1) = omega arith in
        rw (e, go_one (row_at texts) (left - 1) n (reverse items) w p now (Stops cause) (record { is = m })) refl

    pub stray_here : 0 < left → p ≡ length (texts w) → 0 < length items
        → Err (halt_at texts g start w p StrayEnd) ≡ From
    stray_here lt e z = halted_from StrayEnd lt (rw (at_end e) (some_calls (reverse items) (rw length-reverse z)))

    -- past the end the bytes are cut
    pub cut_here : 0 < left → p ≢ length (texts w) → length (texts w) ≤ p → Err (halt_at texts g start w p CodeEnd) ≡ From
    cut_here lt apart past = halted_from CodeEnd lt (rw (← row_cut w p now (texts w) apart past) refl)

    -- what comes of an instruction that is there is not the end
    not_finished : (r : Result (Action × State) Cause) (K : List OpenCall) → moved_by (settled r) K w ≡ Finishes → ⊥
    not_finished (Err c) K e = absurd cc
    not_finished (Ok (Went q, t)) K e = absurd cc
    not_finished (Ok (Called k f next, t)) K e = elim (cases_lt (length K) CALL_LIMIT) [
      | inl l ↦ absurd (let x = rw (lt-ltb (length K) CALL_LIMIT l) at e in cc)
      | inr l ↦ absurd (let x = rw (le-ltb (length K) CALL_LIMIT l) at e in cc)
    ]
    not_finished (Ok (Returned, t)) [] e = absurd cc
    not_finished (Ok (Returned, t)) (g ∷ K) e = absurd cc

    limit_by : (K : List OpenCall) (m : Move) → moved_by (row_at texts w p now) K w ≡ m → (m ≡ Finishes → ⊥)
        → answer_from (row_at texts) 0 n (config K w p now) ≡ Exhausted w p
    limit_by K Finishes e none = absurd (none refl)
    limit_by K (Stops c) e none = go_none (row_at texts) n K w p now (Stops c) (record { is = e })
    limit_by K (Moves d) e none = go_none (row_at texts) n K w p now (Moves d) (record { is = e })

    finishes_only : (K : List OpenCall) → moved_by (row_at texts w p now) K w ≡ Finishes → (p ≡ length (texts w)) × (length K ≡ 0)
    unfolding row_in
    finishes_only K e = elim (eqb_tells p (length (texts w))) [
      | inl x ↦ (x.1, ends_only K (rw x.0 at e))
      | inr x ↦ elim (leb_tells (next_address (texts w) p) (length (texts w))) [
        | inl y ↦ absurd (not_finished _ K (rw (x.0, y.0) at e))
        | inr y ↦ absurd (let z = rw (x.0, y.0) at e in cc)
      ]
    ]

    pub limit_from : left ≡ 0 → (p ≡ length (texts w) → length items ≡ 0 → ⊥)
        → Err (halt_at texts g start w p StepLimit) ≡ From
    limit_from e none =
        rw (
          e,
          limit_by (reverse items) (moved_by (row_at texts w p now) (reverse items) w) refl
              (λ f. let x = finishes_only (reverse items) f in none x.0 (rw length-reverse at x.1)),
        ) refl

    -- ---- what is left for a watcher

    abbrev Nothing : Type 0
    Nothing = left_events texts g left (config (reverse items) w p now) ≡ []

    unseen_by : (K : List OpenCall) → row_at texts w p now ≡ Ends → steps_from (row_at texts) left (config K w p now) ≡ []
    unseen_by [] e = none_after_end (row_at texts) left [] w p now (rw e refl)
    unseen_by (f ∷ K) e = none_after_halt (row_at texts) left (f ∷ K) w p now StrayEnd (rw e refl)

    pub unseen_halt : (cause : Cause) → moved_by (row_at texts w p now) (reverse items) w ≡ Stops cause → Nothing
    unseen_halt cause m = no_events texts g left (config (reverse items) w p now)
        (none_after_halt (row_at texts) left (reverse items) w p now cause m)

    -- nothing is left at the end of a program or past it
    pub unseen_past : length (texts w) ≤ p → Nothing
    unseen_past past = elim (eqb_tells p (length (texts w))) [
      | inl x ↦ no_events texts g left (config (reverse items) w p now) (unseen_by (reverse items) (at_end x.1))
      | inr x ↦ unseen_halt CodeEnd (rw (← row_cut w p now (texts w) x.1 past) refl)
    ]

    pub unseen_limit : left ≡ 0 → Nothing
    unseen_limit e =
        no_events texts g left (config (reverse items) w p now) (rw e (none_left (row_at texts) (reverse items) w p now))

    -- nothing is left where a run ends
    pub unseen_end : (0 < left → length (texts w) ≤ p) → Nothing
    unseen_end past = elim (cases_lt 0 left) [
      | inl some ↦ unseen_past (past some)
      | inr none ↦ unseen_limit (omega (arith, none))
    ]

-- ---- what is answered from here is due

module _ (texts : Program → List ℕ) (g : ℕ) (start : Program) (limit : ℕ) (first now : State) (left n : ℕ)
    (items : List OpenCall) (w : Program) (p : ℕ)
    (h : answer_of (row_at texts) limit start first ≡ answer_from (row_at texts) left n (config (reverse items) w p now))
  where
    abbrev Due : Result (ℕ × State) Halt
    Due = answered texts g start (answer_of (row_at texts) limit start first)

    pub halted_here : (cause : Cause) → 0 < left → moved_by (row_at texts w p now) (reverse items) w ≡ Stops cause
        → Err (halt_at texts g start w p cause) ≡ Due
    halted_here cause lt m = rw h (halted_from texts g start left n items w p now cause lt m)

    pub stepped : (d : Config) → 0 < left → moved_by (row_at texts w p now) (reverse items) w ≡ Moves d
        → answer_of (row_at texts) limit start first ≡ answer_from (row_at texts) (left - 1) (n + 1) d
    stepped d lt m =
        let e : suc (left - 1) ≡ left = omega arith in
        let q : n + 1 ≡ suc n = omega arith in
        rw q (h ∙ subst (λ k. answer_from (row_at texts) k n (config (reverse items) w p now) ≡ answer_from (row_at texts)
        (left - 1) (suc n) d) e (go_one (row_at texts) (left - 1) n (reverse items) w p now (Moves d) (record { is = m })))
