-- The control values of a font at a place (OpenType, "cvar").
use Rattle.std.specs.Prelude.{ℕ, zero, suc, ◌*◌, ◌/◌, ℤ, List, [], ◌∷◌, length, codes, Option, Some, None, Result, Ok, false}
use Rattle.std.specs.Prelude.{not, nat_lt, ◌==◌}
use Rattle.fx_fixed.specs.Chain.{◌>>=◌, refuse, wanted, map_fault}
use Rattle.fx_sfnt.specs.Fields.{field, signed_field}
use Rattle.fx_sfnt.specs.Tables.{Face, table_in, table_or_empty}
use Rattle.fx_tuples.specs.declared.fault.TupleFault.{TupleFault}
use Rattle.fx_tuples.specs.declared.fault.TupleFault.TheVariants.{BadVersion, HeaderShort}
use Rattle.fx_vary.specs.declared.fault.ShapeFault.{ShapeFault}
use Rattle.fx_vary.specs.declared.fault.ShapeFault.TheVariants.{BadCvar}
use Rattle.fx_moves.specs.declared.point.GivenPoint.{GivenPoint}
use Rattle.fx_moves.specs.Stores.{store_added}
use Rattle.fx_vary.specs.Settling.{settled}
use Rattle.fx_vary.specs.Shape.{blank, all_moved}

-- what the tuples of `cvar` add to control values: they have no contours, one coordinate, and no shared tuples
-- (OpenType, "cvar", "cvar header")
unfoldable pub controls_added : List ℤ → List ℕ → List GivenPoint → Result (List GivenPoint) TupleFault
controls_added place cvar points = do
  _ ← refuse (nat_lt (length cvar) 8) HeaderShort
  _ ← refuse (not (field 4 cvar 0 == 0x00010000)) BadVersion
  store_added (record { shared = []; place = place }) [] false cvar 4 points

-- the same of a font that may lack the table
unfoldable pub any_added : List ℤ → Option (List ℕ) → List GivenPoint → Result (List GivenPoint) ShapeFault
any_added place None points = Ok points
any_added place (Some cvar) points = map_fault (λ _. BadCvar) (controls_added place cvar points)

-- the n entries of `cvt ` from one on, in FUnits
unfoldable pub entries_from : List ℕ → ℕ → ℕ → List ℤ
entries_from cvt k zero = []
entries_from cvt k (suc n) = signed_field cvt (2 * k) ∷ entries_from cvt (suc k) n

-- a control value, by its sum
abbrev pub control_moved : ℤ → ℤ → ℤ → Option ℤ
control_moved sum _ value = settled value sum

-- a sum for each entry; a last odd byte is no entry
abbrev pub no_sums : ℕ → List GivenPoint
no_sums zero = []
no_sums (suc n) = blank ∷ no_sums n

-- the control values in whole FUnits, by the bytes of `cvt ` and of `cvar`, if there is one
unfoldable pub controls_by : List ℤ → List ℕ → Option (List ℕ) → Result (List ℤ) ShapeFault
controls_by place cvt cvar = do
  sums ← any_added place cvar (no_sums (length cvt / 2))
  wanted (all_moved control_moved sums sums 0 (entries_from cvt 0 (length cvt / 2))) BadCvar

-- those of a font at a place
unfoldable pub controls_of : Face → List ℤ → Result (List ℤ) ShapeFault
controls_of face place = controls_by place (table_or_empty face (codes "cvt ")) (table_in face (codes "cvar"))
