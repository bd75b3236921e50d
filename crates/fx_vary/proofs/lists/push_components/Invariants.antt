use Rattle.std.proofs.Common.{◌≡◌, ◌++◌, map}
use Rattle.fx_vary.specs.Shape.{blank}
use Rattle.fx_vary.proofs.lists.push_components.Given as goal

-- with a point for each component that is left, the list is the whole one
abbrev pub invariant-components : goal.invariant-components
invariant-components l =
    l.list.items ++ map (λ _. blank) l._component-iterator ≡ l.initial.list.items ++ map (λ _. blank) l.composite.components
