-- Places of a list, some of them empty.
use Rattle.std.specs.Prelude.{List, [], ◌∷◌, Option, Some, None}
use Rattle.fx_hint.specs.declared.below.Waiting.{Waiting}

-- what lies in the places
abbrev pub present : List (Option Waiting) → List Waiting
present [] = []
present (None ∷ places) = present places
present (Some w ∷ places) = w ∷ present places
