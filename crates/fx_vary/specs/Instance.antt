-- A font at a place (OpenType, "gvar").
use Rattle.std.specs.Prelude.{ℕ, ℤ, List, length, codes, Result, Ok, Bool, not}
use Rattle.fx_fixed.specs.Chain.{◌>>=◌, refuse, wanted}
use Rattle.fx_sfnt.specs.Tables.{Face, table_in}
use Rattle.fx_tuples.specs.declared.fault.TupleFault.{TupleFault}
use Rattle.fx_tuples.specs.Tuples.{TupleSettingView}
use Rattle.fx_vary.specs.declared.fault.GvarFault.{GvarFault}
use Rattle.fx_vary.specs.declared.fault.GvarFault.TheVariants.{NoGvar, BadGvar}
use Rattle.fx_moves.specs.declared.point.GivenPoint.{GivenPoint}
use Rattle.fx_vary.specs.Gvar.{is_gvar, shared_tuples_of, glyph_data_of}
use Rattle.fx_moves.specs.Stores.{glyph_added}

-- a font at a place: the bytes of `gvar`, and a coordinate for each axis
pub record InstanceView : Type 0 where
  pub gvar : List ℕ
  pub place : List ℤ

-- the font at a place with a coordinate for each axis, or the fault of `gvar`
unfoldable pub instance_of : Face → List ℤ → Result InstanceView GvarFault
instance_of face place = do
  gvar ← wanted (table_in face (codes "gvar")) NoGvar
  _ ← refuse (not (is_gvar (length place) face.maxp.num_glyphs gvar)) BadGvar
  Ok (record { gvar = gvar; place = place })

-- what the tuples of a glyph are read with
abbrev pub setting_of : InstanceView → TupleSettingView
setting_of i = record { shared = shared_tuples_of (length i.place) i.gvar; place = i.place }

-- what a glyph's tuples add to a coordinate of its points
abbrev pub points_added : InstanceView → ℕ → List ℕ → Bool → List GivenPoint → Result (List GivenPoint) TupleFault
points_added i g ends second points = glyph_added (setting_of i) ends second (glyph_data_of i.gvar g) points
