-- An instruction that moves a run is the next of those it executes (`one_step`); none comes after the last (`none_after_end`).
-- It serves the loop of `run`, and the laws of what a watcher sees.
use Rattle.std.proofs.Common.{◌≡◌, ℕ, zero, suc, ◌-◌, ◌<◌, List, [], ◌∷◌, length, reverse, map, refl, arith}
use Rattle.std.proofs.lemmas.List.{length-reverse}
use Rattle.fx_machine.specs.declared.program.Program.{Program}
use Rattle.fx_machine.specs.declared.halt.Cause.{Cause}
use Rattle.fx_machine.specs.declared.calls.OpenCall.{OpenCall}
use Rattle.fx_machine.specs.declared.state.State.{State}
use Rattle.fx_machine.specs.Effects.{Effect}
use Rattle.fx_machine.specs.Machine.{Config, config, Finishes, Stops, Moves, moved_by}
use Rattle.fx_machine.specs.Programs.{named}
use Rattle.fx_machine.specs.Table.{row_at}
use Rattle.fx_machine.specs.Events.{Event, Begins, Executed, steps_from, executed, events_of}

module _ (row : Program → ℕ → State → Effect) where
  pub none_left : (K : List OpenCall) (w : Program) (p : ℕ) (s : State) → steps_from row 0 (config K w p s) ≡ []
  unfolding steps_from
  none_left K w p s = refl

  pub none_after_end : (left : ℕ) (K : List OpenCall) (w : Program) (p : ℕ) (s : State) → moved_by (row w p s) K w ≡ Finishes
      → steps_from row left (config K w p s) ≡ []
  unfolding steps_from
  none_after_end zero K w p s e = refl
  none_after_end (suc left) K w p s e = rw e refl

  pub none_after_halt : (left : ℕ) (K : List OpenCall) (w : Program) (p : ℕ) (s : State) (c : Cause)
      → moved_by (row w p s) K w ≡ Stops c → steps_from row left (config K w p s) ≡ []
  unfolding steps_from
  none_after_halt zero K w p s c e = refl
  none_after_halt (suc left) K w p s c e = rw e refl

  pub one_step : (left : ℕ) (K : List OpenCall) (w : Program) (p : ℕ) (s : State) (d : Config) → moved_by (row w p s) K w ≡ Moves d
      → steps_from row (suc left) (config K w p s) ≡ record { program = w; address = p; to = d } ∷ steps_from row left d
  unfolding steps_from
  one_step left K w p s d e = rw e refl

-- ---- the events

module _ (texts : Program → List ℕ) (g : ℕ) where
  -- the events of what is left
  pub left_events : ℕ → Config → List Event
  left_events left c = map (executed texts g) (steps_from (row_at texts) left c)

  pub events_begin : (limit : ℕ) (w : Program) (s : State) (items : List OpenCall) → items ≡ []
      → events_of texts g limit w s ≡ Begins (named g w) s ∷ left_events limit (config (reverse items) w 0 s)
  unfolding events_of left_events
  events_begin limit w s items none = rw none refl

  pub no_events : (left : ℕ) (c : Config) → steps_from (row_at texts) left c ≡ [] → left_events left c ≡ []
  unfolding left_events
  no_events left c e = rw e refl

  pub one_event : (left : ℕ) (K : List OpenCall) (w : Program) (p : ℕ) (s : State) (items : List OpenCall) (v : Program) (q : ℕ)
      (t : State) (count : ℕ) → count ≡ length items → 0 < left
      → moved_by (row_at texts w p s) K w ≡ Moves (config (reverse items) v q t)
      → left_events left (config K w p s)
      ≡ Executed (named g w) (texts w) p count t ∷ left_events (left - 1) (config (reverse items) v q t)
  unfolding left_events
  one_event zero K w p s items v q t count ec lt m = absurd (omega (arith, lt))
  one_event (suc left) K w p s items v q t count ec lt m =
      let e : suc left - 1 ≡ left = omega arith in
      rw (ec, e, one_step (row_at texts) left K w p s (config (reverse items) v q t) m, length-reverse items) refl
