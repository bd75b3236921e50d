-- Runs of programs, in big steps: the run of a function is a part of the run that calls it.
-- (Apple TrueType Reference Manual, "Instructing Fonts", and CALL, LOOPCALL, FDEF, IDEF.)
use Rattle.std.specs.Prelude.{◌≡◌, ℕ, suc, ◌+◌, ◌<◌, ◌≤◌}
use Rattle.fx_machine.specs.declared.program.Program.{Program}
use Rattle.fx_machine.specs.declared.definitions.Function.{Function}
use Rattle.fx_machine.specs.declared.halt.Cause.{Cause}
use Rattle.fx_machine.specs.declared.halt.Cause.TheVariants.{CallDepth, StrayEnd}
use Rattle.fx_machine.specs.declared.state.State.{State}
use Rattle.fx_machine.specs.Effects.{Effect, Ends, Fails, Goes, Calls, Returns}
use Rattle.fx_machine.specs.Limits.{CALL_LIMIT}

-- how a run ends; an open one is cut off before a named address
pub data How : Type 0 where
  Ended : How
  Returned : How
  Faulted : (cause : Cause) (program : Program) (address : ℕ) → How
  Open : (program : Program) (address : ℕ) → How

-- a run that does not give control back to its caller
abbrev pub IsLast : How → Type 0
IsLast Returned = ⊥
IsLast _ = Unit {0}

-- where a run starts: at an address, or before some more turns of a function, after which it continues at an address
pub data Start : Type 0 where
  At : (address : ℕ) → Start
  Turns : (turns : ℕ) (function : Function) (next : ℕ) → Start

-- what becomes of a program: it finished after some instructions in a state, halted at an address, or used up its instructions
-- there
pub data Verdict : Type 0 where
  Finished : (steps : ℕ) (s : State) → Verdict
  Halted : (cause : Cause) (program : Program) (address : ℕ) → Verdict
  Exhausted : (program : Program) (address : ℕ) → Verdict

-- `row`: what the instruction at an address of a program does in a state.
module _ (row : Program → ℕ → State → Effect) where
  -- A run of a program's bytes from a start, at a number of open calls and in a state:
  -- how many instructions it executes, the state then, and how it ends.
  pub data Runs : Program → Start → ℕ → State → ℕ → State → How → Type 0 where
    -- it may be cut off before any address
    open_at : {w : Program} {p d : ℕ} {s : State} → Runs w (At p) d s 0 s (Open w p)
    -- the end of the bytes
    ends : {w : Program} {p : ℕ} {s : State} → row w p s ≡ Ends → Runs w (At p) 0 s 0 s Ended
    ends_inside : {w : Program} {p d : ℕ} {s : State} → row w p s ≡ Ends → Runs w (At p) (suc d) s 0 s (Faulted StrayEnd w p)
    -- an instruction that faults is not counted
    fails : {w : Program} {p d : ℕ} {s : State} {c : Cause} → row w p s ≡ Fails c → Runs w (At p) d s 0 s (Faulted c w p)
    -- any other counts one, before the rest
    goes : {w : Program} {p d n q : ℕ} {s t u : State} {how : How} → row w p s ≡ Goes q t → Runs w (At q) d t n u how
        → Runs w (At p) d s (suc n) u how
    -- the end of a function
    returns : {w : Program} {p d : ℕ} {s t : State} → row w p s ≡ Returns t → Runs w (At p) (suc d) s 1 t Returned
    returns_outside : {w : Program} {p : ℕ} {s t : State} → row w p s ≡ Returns t → Runs w (At p) 0 s 0 s (Faulted StrayEnd w p)
    -- a call counts one, before its turns
    calls : {w : Program} {p d n k next : ℕ} {f : Function} {s t u : State} {how : How} → row w p s ≡ Calls k f next t
        → d < CALL_LIMIT → Runs w (Turns k f next) d t n u how → Runs w (At p) d s (suc n) u how
    too_deep : {w : Program} {p d k next : ℕ} {f : Function} {s t : State} → row w p s ≡ Calls k f next t → CALL_LIMIT ≤ d
        → Runs w (At p) d s 0 s (Faulted CallDepth w p)
    -- no more turns
    done : {w : Program} {d n next : ℕ} {f : Function} {s u : State} {how : How} → Runs w (At next) d s n u how
        → Runs w (Turns 0 f next) d s n u how
    -- a turn: a run of the function in its own bytes that returns, and then the other turns
    turn : {w : Program} {d m n k next : ℕ} {f : Function} {s t u : State} {how : How}
        → Runs f.program (At f.address) (suc d) s m t Returned → Runs w (Turns k f next) d t n u how
        → Runs w (Turns (suc k) f next) d s (m + n) u how
    -- a turn that does not return is the last
    last_turn : {w : Program} {d m k next : ℕ} {f : Function} {s t : State} {how : How}
        → Runs f.program (At f.address) (suc d) s m t how → IsLast how → Runs w (Turns (suc k) f next) d s m t how

  -- A program's answer, if at most `limit` instructions may be executed.
  pub data Answer (limit : ℕ) (w : Program) (s : State) : Verdict → Type 0 where
    finished : {n : ℕ} {u : State} → n ≤ limit → Runs w (At 0) 0 s n u Ended → Answer limit w s (Finished n u)
    faulted : {n : ℕ} {u : State} {c : Cause} {v : Program} {p : ℕ} → n < limit → Runs w (At 0) 0 s n u (Faulted c v p)
        → Answer limit w s (Halted c v p)
    -- else it stops at the address before which the run of the limit is open
    stopped : {u : State} {v : Program} {p : ℕ}
        → ((n : ℕ) (t : State) → n ≤ limit → Runs w (At 0) 0 s n t Ended → ⊥)
        → ((n : ℕ) (t : State) (c : Cause) (x : Program) (q : ℕ) → n < limit → Runs w (At 0) 0 s n t (Faulted c x q) → ⊥)
        → Runs w (At 0) 0 s limit u (Open v p)
        → Answer limit w s (Exhausted v p)
