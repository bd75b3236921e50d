-- What a watcher sees of programs: which one begins, and each instruction that was executed.
-- Apple TrueType Reference Manual, "Instructing Fonts" (the execution of programs); events are own.
use Rattle.std.specs.Prelude.{◌≡◌, ◌⊎◌, ℕ, zero, suc, Bool, true, false, List, [], ◌∷◌, length, map, slice_get, Some}
use Rattle.fx_machine.specs.declared.program.Program.{Program}
use Rattle.fx_machine.specs.declared.program.FontProgram.{FontProgram}
use Rattle.fx_machine.specs.declared.state.State.{State}
use Rattle.fx_machine.specs.Effects.{Effect}
use Rattle.fx_machine.specs.Runs.{Runs, At, Open, Faulted, Verdict, Finished, Halted, Exhausted}
use Rattle.fx_machine.specs.Machine.{Config, config, Move, Finishes, Stops, Moves, moved_by, answer_of}
use Rattle.fx_machine.specs.Programs.{named}
use Rattle.fx_machine.specs.Table.{row_at}

-- an instruction that was executed: its program and address, and what it led to
pub record Step : Type 0 where
  pub program : Program
  pub address : ℕ
  pub to : Config

-- the instructions from a move on, by those after it
abbrev pub steps_by : (Config → List Step) → Program → ℕ → Move → List Step
steps_by after w p Finishes = []
steps_by after w p (Stops cause) = []
steps_by after w p (Moves to) = record { program = w; address = p; to = to } ∷ after to

module _ (row : Program → ℕ → State → Effect) where
  -- the instructions that are executed, if `left` more may be
  unfoldable pub steps_from : ℕ → Config → List Step
  steps_from zero c = []
  steps_from (suc left) (config K w p s) = steps_by (λ to. steps_from left to) w p (moved_by (row w p s) K w)

  -- those of a program, if at most `limit` may be executed
  abbrev pub steps_of : ℕ → Program → State → List Step
  steps_of limit w s = steps_from limit (config [] w 0 s)

-- an event: a program begins in this state; or the instruction at an address of a program with these bytes was executed, and
-- then so
-- many calls are open, in this state
pub data Event : Type 0 where
  Begins : (program : FontProgram) (s : State) → Event
  Executed : (program : FontProgram) (code : List ℕ) (address : ℕ) (calls : ℕ) (s : State) → Event

abbrev pub executed_to : FontProgram → List ℕ → ℕ → Config → Event
executed_to name code p (config K w q s) = Executed name code p (length K) s

abbrev pub executed : (Program → List ℕ) → ℕ → Step → Event
executed texts g x = executed_to (named g x.program) (texts x.program) x.address x.to

-- the events of a program that is started
unfoldable pub events_of : (Program → List ℕ) → ℕ → ℕ → Program → State → List Event
events_of texts g limit w s = Begins (named g w) s ∷ map (executed texts g) (steps_of (row_at texts) limit w s)

-- what becomes of a watcher that sees these events in turn, by what becomes of it at each
abbrev pub Watches : {W : Type 0} → (W → Event → W → Type 0) → W → List Event → W → Type 0
Watches Sees was [] now = now ≡ was
Watches {W} Sees was (x ∷ xs) now = (next : W) × Sees was x next × Watches Sees next xs now

-- the state that an event leaves
abbrev pub state_at : Event → State
state_at (Begins program s) = s
state_at (Executed program code address calls s) = s

-- a watcher that sees these events in turn stops the program at one of them, and the program is left in the state after that event:
-- it executed nothing more
abbrev pub StopsIn : {W : Type 0} → (W → Event → W → Type 0) → (W → Bool) → W → List Event → State → W → Type 0
StopsIn Sees stops was [] s now = ⊥
StopsIn {W} Sees stops was (x ∷ xs) s now = (next : W) × Sees was x next
    × (((stops next ≡ true) × (now ≡ next) × (s ≡ state_at x)) ⊎ ((stops next ≡ false) × StopsIn Sees stops next xs s now))

-- what never stops a program needs no more than this
pub never : {A : Type 0} → false ≡ true → A
never e = absurd cc

-- ---- laws

module _ (row : Program → ℕ → State → Effect) (limit : ℕ) (w : Program) (s : State) where
  -- the run of n instructions leads to a configuration
  abbrev pub LeadsTo : ℕ → Config → Type 0
  LeadsTo n (config K v p t) = Runs row w (At 0) 0 s n t (Open v p)

  -- how many instructions a verdict speaks of
  abbrev pub Counts : ℕ → Verdict → Type 0
  Counts m (Finished n t) = m ≡ n
  Counts m (Halted cause v p) = (u : State) × Runs row w (At 0) 0 s m u (Faulted cause v p)
  Counts m (Exhausted v p) = m ≡ limit

-- counted from 0, the instruction of number k is the one before which the run of k instructions is cut off, and the run of one
-- instruction more leads to what it led to
abbrev pub StepsAreRuns : Type 0
StepsAreRuns = (row : Program → ℕ → State → Effect) (limit : ℕ) (w : Program) (s : State) (k : ℕ) (x : Step)
    → slice_get (steps_of row limit w s) k ≡ Some x
    → ((u : State) × Runs row w (At 0) 0 s k u (Open x.program x.address)) × LeadsTo row limit w s (suc k) x.to

-- there are as many as the answer counts
abbrev pub StepsAreCounted : Type 0
StepsAreCounted = (row : Program → ℕ → State → Effect) (limit : ℕ) (w : Program) (s : State)
    → Counts row limit w s (length (steps_of row limit w s)) (answer_of row limit w s)
