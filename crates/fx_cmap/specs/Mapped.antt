-- All characters of a map.
use Rattle.std.specs.Prelude.{ℕ, zero, suc, ◌==◌, List, [], ◌∷◌, ◌++◌, if◌then◌else◌}
use Rattle.fx_cmap.specs.Lookup.{glyph_for}
use Rattle.fx_cmap.specs.declared.mapping.Mapping.{Mapping}

-- the character codes below n that have a glyph, in rising order
unfoldable pub mapped_below : Mapping → ℕ → List ℕ
mapped_below map zero = []
mapped_below map (suc n) = if glyph_for map n == 0 then mapped_below map n else mapped_below map n ++ n ∷ []
