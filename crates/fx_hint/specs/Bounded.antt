-- The outline of a glyph whose programs have a budget of work.
use Rattle.std.specs.Prelude.{ℕ, List, Option, Some, None, is_none, if◌then◌else◌, Result, Ok, Err}
use Rattle.std.specs.List.{flat_map}
use Rattle.fx_fixed.specs.Chain.{map_ok}
use Rattle.fx_sfnt.specs.Tables.{Face}
use Rattle.fx_scale.specs.Scaling.{scale_of}
use Rattle.fx_machine.specs.Events.{Event}
use Rattle.fx_machine.specs.Known.{Known}
use Rattle.fx_machine.specs.Work.{work_from, paid}
use Rattle.fx_machine.specs.declared.work.WorkBudget.{WorkBudget}
use Rattle.fx_hint.specs.declared.fault.HintFault.{HintFault}
use Rattle.fx_hint.specs.declared.fault.HintFault.TheVariants.{OutOfMemory}
use Rattle.fx_hint.specs.Outlines.{GlyphOutlineView, outline_with}
use Rattle.fx_hint.specs.Programmed.{hinting_of, hinted_events}
use Rattle.fx_hint.specs.Runs.{ProgramRun, runs_of}

-- what is to be seen of programs in turn
abbrev pub events_in : Known → List ProgramRun → List Event
events_in known runs = flat_map (λ run. hinted_events known run.g run.code run.made) runs

-- what a budget has left after the programs of a glyph and of its components; none if their work is more than it had
unfoldable pub left_after : Known → WorkBudget → Face → ℕ → ℕ → Option ℕ
left_after known b face ppem g =
    paid (work_from b.trail (events_in known (runs_of (hinting_of known) face (scale_of face ppem) g))) b.left

-- the outline; none if the work of its programs is more than the budget has
unfoldable pub outline_within : Known → WorkBudget → Face → ℕ → ℕ → Result (Option GlyphOutlineView) HintFault
outline_within known b face ppem g =
    if is_none (left_after known b face ppem g) then Ok None
    else map_ok Some (outline_with (hinting_of known) face ppem g)

-- what holds beside a fault, unless it is out of memory
abbrev pub IfCaused : HintFault → Type 0 → Type 0
IfCaused OutOfMemory fact = Unit {0}
IfCaused _ fact = fact

-- what holds beside a result, unless memory ran out
abbrev pub UnlessMemory : {A : Type 0} → Result A HintFault → Type 0 → Type 0
UnlessMemory (Ok x) fact = fact
UnlessMemory (Err fault) fact = IfCaused fault fact
