-- The pairs of a delta instruction, as code pops them.
use Rattle.std.specs.Prelude.{ℕ, ◌*◌, ℤ, List, ◌∷◌, reverse, take, drop}
use Rattle.fx_gstate.specs.declared.deltas.DeltaForm.{DeltaForm}
use Rattle.fx_gstate.specs.declared.state.GState.{GState}
use Rattle.fx_gstate.specs.Deltas.{each_pair}
use Rattle.fx_stackops.specs.Store.{StoreView, with_stack}
use Rattle.fx_stackops.specs.Rows.{control_delta}

-- one pair of a stack
abbrev pub pair_from : (ℤ → ℤ → StoreView → StoreView) → List ℤ → StoreView → StoreView
pair_from steps (number ∷ argument ∷ rest) s = steps number argument (with_stack rest s)
pair_from steps _ s = s

unfoldable pub control_pair : DeltaForm → GState → ℕ → StoreView → StoreView
control_pair form g ppem s = pair_from (control_delta form g ppem) s.stack s

-- n pairs
unfoldable pub control_pairs : DeltaForm → GState → ℕ → ℕ → StoreView → StoreView
control_pairs form g ppem n s =
    each_pair (control_delta form g ppem) (reverse (reverse (take (2 * n) s.stack))) (with_stack (drop (2 * n) s.stack) s)
