-- FUnits at a size (OpenType, "TrueType fundamentals": scaling a glyph outline).
use Rattle.std.specs.Prelude.{ℕ, ℤ, pos, ◌*◌, ◌*ℤ◌}
use Rattle.fx_fixed.specs.Numbers.{near_of, wrapped_of}
use Rattle.fx_sfnt.specs.Tables.{Face}
use Rattle.fx_scale.specs.declared.scale.Scale.{Scale}

-- v FUnits at a size: v * ppem * 64 / unitsPerEm, rounded
abbrev pub scaled_of : ℤ → ℕ → ℕ → ℤ
scaled_of v ppem units_per_em = wrapped_of (near_of (v *ℤ pos (ppem * 64)) (pos units_per_em))

-- v FUnits at a scale
abbrev pub scaled_by : Scale → ℤ → ℤ
scaled_by s v = scaled_of v s.ppem s.units_per_em

-- a font's scale at a size
abbrev pub scale_of : Face → ℕ → Scale
scale_of face ppem =
    record { ppem = ppem; units_per_em = face.head.units_per_em; ascender = face.hhea.ascender; descender = face.hhea.descender }
