-- The answer of a program as a function, beside the relation of Runs: the machine with its open calls, one instruction at a time.
use Rattle.std.specs.Prelude.{◌≡◌, ℕ, zero, suc, nat_lt, if◌then◌else◌, List, [], ◌∷◌, length}
use Rattle.fx_machine.specs.declared.program.Program.{Program}
use Rattle.fx_machine.specs.declared.definitions.Function.{Function}
use Rattle.fx_machine.specs.declared.halt.Cause.{Cause}
use Rattle.fx_machine.specs.declared.halt.Cause.TheVariants.{CallDepth, StrayEnd}
use Rattle.fx_machine.specs.declared.calls.OpenCall.{OpenCall}
use Rattle.fx_machine.specs.declared.state.State.{State}
use Rattle.fx_machine.specs.Effects.{Effect, Ends, Fails, Goes, Calls, Returns}
use Rattle.fx_machine.specs.Runs.{Verdict, Finished, Halted, Exhausted, Answer}
use Rattle.fx_machine.specs.Limits.{CALL_LIMIT}

-- the open calls, the innermost first, the address that the machine has reached, and its state
pub data Config : Type 0 where
  config : (calls : List OpenCall) (program : Program) (address : ℕ) (s : State) → Config

-- before some turns of a function
abbrev pub turned : ℕ → Function → ℕ → List OpenCall → Program → State → Config
turned zero f next K w s = config K w next s
turned (suc k) f next K w s = config (record { function = f; left = k; program = w; next = next } ∷ K) f.program f.address s

-- what comes of an instruction
pub data Move : Type 0 where
  Finishes : Move
  Stops : (cause : Cause) → Move
  Moves : (to : Config) → Move

-- what comes of an effect, within these open calls in a program
abbrev pub moved_by : Effect → List OpenCall → Program → Move
moved_by Ends [] w = Finishes
moved_by Ends (g ∷ K) w = Stops StrayEnd
moved_by (Fails cause) K w = Stops cause
moved_by (Goes address s) K w = Moves (config K w address s)
moved_by (Calls turns f next s) K w = if nat_lt (length K) CALL_LIMIT then Moves (turned turns f next K w s) else Stops CallDepth
moved_by (Returns s) [] w = Stops StrayEnd
moved_by (Returns s) (g ∷ K) w = Moves (turned g.left g.function g.next K g.program s)

-- the verdict at a move, by what comes after it
abbrev pub verdict_by : (Config → Verdict) → ℕ → Program → ℕ → State → Move → Verdict
verdict_by after n w p s Finishes = Finished n s
verdict_by after n w p s (Stops cause) = Halted cause w p
verdict_by after n w p s (Moves to) = after to

-- the verdict if no more instruction may be executed
abbrev pub verdict_at_limit : ℕ → Program → ℕ → State → Move → Verdict
verdict_at_limit n w p s Finishes = Finished n s
verdict_at_limit n w p s (Stops cause) = Exhausted w p
verdict_at_limit n w p s (Moves to) = Exhausted w p

module _ (row : Program → ℕ → State → Effect) where
  -- the verdict if `left` more instructions may be executed, after n
  unfoldable pub answer_from : ℕ → ℕ → Config → Verdict
  answer_from zero n (config K w p s) = verdict_at_limit n w p s (moved_by (row w p s) K w)
  answer_from (suc left) n (config K w p s) = verdict_by (λ to. answer_from left (suc n) to) n w p s (moved_by (row w p s) K w)

  -- the answer of a program, if at most `limit` instructions may be executed
  abbrev pub answer_of : ℕ → Program → State → Verdict
  answer_of limit w s = answer_from limit 0 (config [] w 0 s)

-- ---- laws

-- a program has one answer
abbrev pub AnswerIsOne : Type 0
AnswerIsOne = (row : Program → ℕ → State → Effect) (limit : ℕ) (w : Program) (s : State) (v v' : Verdict) → Answer row limit w s v
    → Answer row limit w s v' → v ≡ v'

-- and answer_of gives it
abbrev pub AnswerOfIsAnswer : Type 0
AnswerOfIsAnswer =
    (row : Program → ℕ → State → Effect) (limit : ℕ) (w : Program) (s : State) → Answer row limit w s (answer_of row limit w s)
