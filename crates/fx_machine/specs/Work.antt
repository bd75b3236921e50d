-- How much work programs do. A caller may bound it; the measure is this project's own.
-- Apple TrueType Reference Manual, "Instruction set", says which instructions visit more than the numbers that they take.
use Rattle.std.specs.Prelude.{◌≡◌, ℕ, ◌+◌, ◌-◌, ◌≤◌, ◌++◌, Bool, true, ◌||◌, ◌&&◌, ◌==◌, nat_le, if◌then◌else◌, List, [], ◌∷◌, length, Option, Some}
use Rattle.std.specs.Prelude.{None, is_none}
use Rattle.std.proofs.Common.{refl}
use Rattle.std.specs.Bool.{then_some}
use Rattle.fx_code.specs.Chain.{opcode_at}
use Rattle.fx_code.specs.Opcodes.{IF, ELSE, FDEF, IDEF}
use Rattle.fx_machine.specs.declared.state.State.{State}
use Rattle.fx_machine.specs.declared.work.Trail.{Trail}
use Rattle.fx_machine.specs.declared.work.WorkBudget.{WorkBudget}
use Rattle.fx_machine.specs.Events.{Event, Begins, Executed, Watches, StopsIn, state_at}

-- what a program takes over when it begins: the storage area, the control values and the twilight zone
abbrev pub taken_over : State → ℕ
taken_over s = length s.store.storage + length s.store.cvt + length s.zones.twilight.points

-- IUP, SHC, SHZ, FLIPRGON, FLIPRGOFF: the rows that visit the points of a zone
abbrev pub visits_zone : ℕ → Bool
visits_zone op = op == 0x30 || op == 0x31 || nat_le 0x34 op && nat_le op 0x37 || op == 0x81 || op == 0x82

-- the points of both zones for these, the numbers on the stack for MINDEX, and nothing for the others
abbrev pub visited : ℕ → State → ℕ
visited op s =
    if visits_zone op then length s.zones.glyph.points + length s.zones.twilight.points
    else if op == 0x26 then length s.store.stack
    else 0

-- IF, ELSE, FDEF, IDEF: the rows that may search for where they continue
abbrev pub searches : ℕ → Bool
searches op = op == IF || op == ELSE || op == FDEF || op == IDEF

-- the bytes between an instruction that may have searched and the next one
abbrev pub searched : Option ℕ → ℕ → ℕ
searched (Some from) address = address - from - 1
searched None address = 0

-- how far two numbers are apart
abbrev pub apart : ℕ → ℕ → ℕ
apart m n = (m - n) + (n - m)

-- The work of an event. A program that begins counts 1 and what it takes over. An instruction counts 1, the numbers by which the
-- stack grew or shrank, what it visited, and the bytes that the instruction before it searched.
unfoldable pub work_of : Trail → Event → ℕ
work_of t (Begins program s) = 1 + taken_over s
work_of t (Executed program code address calls s) =
    1 + apart t.depth (length s.store.stack) + visited (opcode_at code address) s + searched t.searched_from address

-- what is remembered of it
unfoldable pub trail_after : Event → Trail
trail_after (Begins program s) = record { depth = length s.store.stack; searched_from = None }
trail_after (Executed program code address calls s) = record {
  depth = length s.store.stack;
  searched_from = then_some (searches (opcode_at code address)) address;
}

-- the work of events in turn
unfoldable pub work_from : Trail → List Event → ℕ
work_from t [] = 0
work_from t (x ∷ xs) = work_of t x + work_from (trail_after x) xs

-- ---- a budget

-- what is left after some work; none if it was more than was left
abbrev pub paid : ℕ → Option ℕ → Option ℕ
paid work (Some left) = if nat_le work left then Some (left - work) else None
paid work None = None

-- a budget after an event; one that is spent stays as it is
abbrev pub budget_after : Event → Option ℕ → WorkBudget → WorkBudget
budget_after x None b = b
budget_after x (Some left) b = record { left = paid (work_of b.trail x) b.left; trail = trail_after x }

-- one that is spent sees no more
pub spent_stays : (left : Option ℕ) (b : WorkBudget) → is_none left ≡ true → (x : Event) → b ≡ budget_after x left b
spent_stays None b e x = refl
spent_stays (Some left) b e x = absurd cc

-- ---- laws

-- a budget sees events in turn
abbrev pub Budgets : WorkBudget → List Event → WorkBudget → Type 0
Budgets = Watches (λ was x now. now ≡ budget_after x was.left was)

-- it is spent exactly if their work is more than was left, and has the rest else
abbrev pub BudgetsArePaid : Type 0
BudgetsArePaid = (b : WorkBudget) (events : List Event) (now : WorkBudget) → Budgets b events now
    → now.left ≡ paid (work_from b.trail events) b.left

-- of these events programs came to the last one in this state, and no further; what they did before it was within what a budget had
pub record IsCutOff (b : WorkBudget) (had : ℕ) (events : List Event) (s : State) : Type 0 where
  pub before : List Event
  pub last : Event
  pub after : List Event
  pub all : events ≡ before ++ (last ∷ after)
  pub state : s ≡ state_at last
  pub within : work_from b.trail before ≤ had

-- a budget that stops programs does so at the first event that it can't pay for
abbrev pub BudgetsStopInTime : Type 0
BudgetsStopInTime = (b : WorkBudget) (had : ℕ) (events : List Event) (s : State) (now : WorkBudget) → b.left ≡ Some had
    → StopsIn (λ was x now. now ≡ budget_after x was.left was) (λ c. is_none c.left) b events s now → IsCutOff b had events s
