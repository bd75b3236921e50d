-- Texts cut at a separator.
use Rattle.std.specs.Prelude.{◌==◌, ℕ, List, [], Option, Some, None}
use Rattle.std.specs.List.{slice_split}

-- the parts between the separators
abbrev pub parts_of : ℕ → List ℕ → List (List ℕ)
parts_of separator text = slice_split (λ b. b == separator) text

-- the parts of what is left of a text, if anything is
abbrev pub left_parts : ℕ → Option (List ℕ) → List (List ℕ)
left_parts separator None = []
left_parts separator (Some text) = parts_of separator text
