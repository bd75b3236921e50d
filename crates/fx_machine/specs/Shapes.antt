-- What no instruction changes: how many points there are, and the contours.
use Rattle.std.specs.Prelude.{◌≡◌, length, ℕ}
use Rattle.fx_stackops.specs.Store.{HasSizes as StoreHasSizes}
use Rattle.fx_pointops.specs.Zones.{HasShapes}
use Rattle.fx_machine.specs.declared.program.Program.{Program}
use Rattle.fx_machine.specs.declared.state.State.{State}
use Rattle.fx_machine.specs.Runs.{Verdict, Finished}
use Rattle.fx_machine.specs.Machine.{answer_of}
use Rattle.fx_machine.specs.Table.{row_at}
use Rattle.std.specs.Prelude.{List}

-- as much room, tables of the same sizes, and the same scale
pub record HasSizes (s t : State) : Type 0 where
  pub store : StoreHasSizes s.store t.store
  pub functions : length t.definitions.functions ≡ length s.definitions.functions
  pub opcodes : length t.definitions.opcodes ≡ length s.definitions.opcodes
  pub scale : t.scale ≡ s.scale

-- what a program finishes with has the shapes that it began with
abbrev pub FinishesAlike : State → Verdict → Type 0
FinishesAlike s (Finished steps t) = HasShapes s.zones t.zones
FinishesAlike s _ = Unit {0}

abbrev pub RunsKeepShapes : Type 0
RunsKeepShapes =
    (texts : Program → List ℕ) (limit : ℕ) (w : Program) (s : State) → FinishesAlike s (answer_of (row_at texts) limit w s)
