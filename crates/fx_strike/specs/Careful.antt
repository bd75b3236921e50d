-- Characters that take too much work, which a careful strike refuses. The measure and the limits are this project's own.
use Rattle.std.specs.Prelude.{ℕ, ◌+◌, ◌-◌, ◌^◌, nat_lt, min, Bool, true, if◌then◌else◌, List, [], ◌∷◌, ◌++◌}
use Rattle.std.specs.Prelude.{Option, Some, None, codes, length}
use Rattle.fx_sfnt.specs.Tables.{Face, table_or_empty}
use Rattle.fx_machine.specs.Known.{Known, machine_events}
use Rattle.fx_machine.specs.Work.{work_from}
use Rattle.fx_machine.specs.declared.work.WorkBudget.{WorkBudget}
use Rattle.fx_hint.specs.Bounded.{left_after}
use Rattle.fx_strike.specs.Characters.{Mapped}
pub use Rattle.fx_strike.specs.declared.census.Budget.{Budget}

-- ---- limits

-- the most work that the programs of a character may do, and `fpgm` and `prep` together
abbrev pub character_work : ℕ
character_work = 2 ^ 20

-- the most work that its drawing may be
abbrev pub character_drawing : ℕ
character_drawing = 2 ^ 20

-- what each character of a call adds to the work that programs may do
abbrev pub programs_share : ℕ
programs_share = 2 ^ 15

-- and to that of drawing
abbrev pub drawing_share : ℕ
drawing_share = 2 ^ 15

-- the most that is saved of either: more than a call of all characters adds
abbrev pub most_saved : ℕ
most_saved = 2 ^ 32

-- the budget that a call begins with: as much of either as eight characters may take
abbrev pub first_budget : Budget
first_budget = record { programs = 2 ^ 23; drawing = 2 ^ 23 }

-- a budget with the shares of one character more
abbrev pub filled : Budget → Budget
filled b =
    record { programs = min (b.programs + programs_share) most_saved; drawing = min (b.drawing + drawing_share) most_saved }

-- ---- programs

-- so much work may be done
abbrev pub so_much : ℕ → WorkBudget
so_much work = record { left = Some work; trail = record { depth = 0; searched_from = None } }

-- what the programs of a glyph and of its components leave of so much work; none if they do more. Without a machine none runs
abbrev pub programs_left : Option Known → Face → ℕ → ℕ → ℕ → Option ℕ
programs_left None face ppem glyph work = Some work
programs_left (Some known) face ppem glyph work = left_after known (so_much work) face ppem glyph

-- the bytes of `fpgm` and `prep`
abbrev pub prelude_size : Face → ℕ
prelude_size face = length (table_or_empty face (codes "fpgm")) + length (table_or_empty face (codes "prep"))

-- `fpgm` and `prep` do more work than they may. Their bytes count too, whatever runs of them
unfoldable pub is_font_over : Face → ℕ → Bool
is_font_over face ppem =
    nat_lt character_work (prelude_size face + work_from (so_much character_work).trail (machine_events face ppem))

-- ---- the characters of a call

-- what the programs of a character may take, and its drawing
abbrev pub programs_for : Budget → ℕ
programs_for b = min b.programs character_work

abbrev pub drawing_for : Budget → ℕ
drawing_for b = min b.drawing character_drawing

-- A character is over the bounds or not, and leaves this of the budget. One that would take more than it may takes all of that.
-- Its drawing is so much work
abbrev pub after_drawing : ℕ → Budget → Bool × Budget
after_drawing work b = (nat_lt (drawing_for b) work, record b { drawing = b.drawing - min (drawing_for b) work })

-- its programs leave so much of what they may take; only then it is drawn
abbrev pub after_programs : Option ℕ → ℕ → Budget → Bool × Budget
after_programs None work b = (true, record b { programs = b.programs - programs_for b })
after_programs (Some left) work b = after_drawing work (record b { programs = b.programs - (programs_for b - left) })

-- by what the programs of a glyph leave of so much work, and by the work of a character's drawing
module _ (programs : ℕ → ℕ → Option ℕ) (drawing : Mapped → ℕ) where
  -- a character by itself, which adds its shares first
  unfoldable pub weighed : Mapped → Budget → Bool × Budget
  weighed m b = after_programs (programs m.glyph (programs_for (filled b))) (drawing m) (filled b)

  -- the code points of those that are over, in order
  unfoldable pub over_in : List Mapped → Budget → List ℕ
  over_in [] b = []
  over_in (m ∷ ms) b = (if (weighed m b).0 then m.code ∷ [] else []) ++ over_in ms (weighed m b).1
