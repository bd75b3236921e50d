-- What the definitions imply: how a font's glyphs are at a place.
use Rattle.std.specs.Prelude.{◌≡◌, ℕ, ◌≤◌, ℤ, pos, ◌-ℤ◌, unsigned_abs, true, List, [], ◌∷◌, Result, Ok, Err}
use Rattle.std.specs.List.{All}
use Rattle.fx_sfnt.specs.declared.records.Metrics.{Metrics}
use Rattle.fx_glyf.specs.declared.point.GlyphPoint.{GlyphPoint}
use Rattle.fx_glyf.specs.declared.component.Component.{Component}
use Rattle.fx_glyf.specs.declared.glyph.Glyph.{Glyph}
use Rattle.fx_glyf.specs.declared.glyph.Glyph.TheVariants.{Empty, Simple, Composite}
use Rattle.fx_glyf.specs.Components.{has_offsets}
use Rattle.fx_tuples.specs.declared.fault.TupleFault.{TupleFault}
use Rattle.fx_tuples.specs.Regions.{whole}
use Rattle.fx_tuples.specs.Tuples.{TupleSettingView}
use Rattle.fx_tuples.specs.Stores.{TupleStoreView, store_of}
use Rattle.fx_moves.specs.declared.point.GivenPoint.{GivenPoint}
use Rattle.fx_moves.specs.Giving.{moved_by}
use Rattle.fx_moves.specs.Adding.{added}
use Rattle.fx_moves.specs.Laws.{NoneCounts}
use Rattle.fx_vary.specs.Gvar.{glyph_data_of}
use Rattle.fx_vary.specs.Instance.{InstanceView, setting_of}
use Rattle.fx_vary.specs.Settling.{whole_move, has_16_bits}
use Rattle.fx_vary.specs.Shape.{ShapeView, own_shape, shape_in, x_min_of}

-- a tuple that counts 1 moves a point that it names by exactly its delta, if no other tuple moves it
abbrev pub MovesByDelta : Type 0
MovesByDelta = (d : ℤ) (p : GivenPoint) → p.sum ≡ pos 0 → whole_move (added (pos whole) (moved_by d p)).sum ≡ d

-- coordinates that a font can have
abbrev pub IsPoint : GlyphPoint → Type 0
IsPoint p = (has_16_bits p.x ≡ true) × (has_16_bits p.y ≡ true)

abbrev pub IsComponent : Component → Type 0
IsComponent c = has_offsets c ≡ true → (has_16_bits c.args.0 ≡ true) × (has_16_bits c.args.1 ≡ true)

abbrev pub IsInFont : Glyph → Type 0
IsInFont Empty = Unit {0}
IsInFont (Simple s) = All IsPoint s.points
IsInFont (Composite c) = All IsComponent c.components

-- none of the tuples of a glyph's bytes counts, as far as they can be read
abbrev pub StoreRests : TupleSettingView → Result TupleStoreView TupleFault → Type 0
StoreRests s (Ok t) = NoneCounts s t.numbers t.count t.cursor
StoreRests s (Err f) = Unit {0}

abbrev pub NoneCountsIn : TupleSettingView → List ℕ → Type 0
NoneCountsIn s [] = Unit {0}
NoneCountsIn s (b ∷ bytes) = StoreRests s (store_of (b ∷ bytes) 0)

-- where none of its tuples counts, a glyph that has no fault is as in the font
abbrev pub RestsWhereNoneCounts : Type 0
RestsWhereNoneCounts =
    (i : InstanceView) (g : ℕ) (m : Metrics) (glyph : Glyph) (shape : ShapeView)
    → IsInFont glyph
    → unsigned_abs (x_min_of glyph -ℤ m.lsb) ≤ 65535
    → m.advance_width ≤ 65535
    → NoneCountsIn (setting_of i) (glyph_data_of i.gvar g)
    → shape_in i g m glyph ≡ Ok shape
    → shape ≡ own_shape m glyph
