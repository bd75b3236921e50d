-- What the tuples of bytes add to points.
-- OpenType, "OpenType Font Variations Common Table Formats", "Tuple variation store"; "gvar", "GlyphVariationData".
use Rattle.std.specs.Prelude.{ℕ, List, [], ◌∷◌, Result, Ok, Bool}
use Rattle.fx_fixed.specs.Chain.{◌>>=◌}
use Rattle.fx_tuples.specs.declared.fault.TupleFault.{TupleFault}
use Rattle.fx_tuples.specs.Tuples.{TupleSettingView}
use Rattle.fx_tuples.specs.Stores.{store_of}
use Rattle.fx_moves.specs.declared.point.GivenPoint.{GivenPoint}
use Rattle.fx_moves.specs.Moves.{tuples_added}

-- the tuples that begin at an offset of the bytes, one after the other
unfoldable pub store_added : TupleSettingView → List ℕ → Bool → List ℕ → ℕ → List GivenPoint → Result (List GivenPoint) TupleFault
store_added s ends second bytes at points = do
  t ← store_of bytes at
  tuples_added s ends second t.numbers t.count t.cursor points

-- the tuples of a glyph; without data it has none
unfoldable pub glyph_added : TupleSettingView → List ℕ → Bool → List ℕ → List GivenPoint → Result (List GivenPoint) TupleFault
glyph_added s ends second [] points = Ok points
glyph_added s ends second (b ∷ bytes) points = store_added s ends second (b ∷ bytes) 0 points
