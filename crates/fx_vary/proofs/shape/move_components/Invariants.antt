use Rattle.std.proofs.Common.{◌≡◌, ◌++◌, length}
use Rattle.std.specs.Prelude.{option_map}
use Rattle.fx_vary.specs.Shape.{component_moved, all_moved}
use Rattle.fx_vary.proofs.shape.move_components.Given as goal

-- the components that are left, moved, are the rest of the whole list
abbrev pub invariant-components : goal.invariant-components
invariant-components l =
    option_map (λ qs. l.list.items ++ qs) (all_moved component_moved l.xs l.ys (length l.list.items) l.component-iterator)
    ≡ all_moved component_moved l.xs l.ys 0 l.composite.components
