-- Distances in 26.6: sizes, signs, the single width and the minimum distance.
-- Apple TrueType Reference Manual, MDRP, MIRP, SSW, SMD. Sizes and negatives are taken modulo 2 ^ 32.
use Rattle.std.specs.Prelude.{◌/◌, ◌%◌, ◌==◌, ℕ, ℤ, pos, neg_ℤ, int_lt, if◌then◌else◌, unsigned_abs}
use Rattle.fx_fixed.specs.Numbers.{wrapped_of, difference_of}
use Rattle.fx_gstate.specs.declared.state.GState.{GState}
use Rattle.fx_gstate.specs.Rounding.{rounded_of}
use Rattle.fx_pointops.specs.declared.distances.Relative.{Relative}

-- the size of a distance, and its negative
abbrev pub size_of : ℤ → ℤ
size_of d = wrapped_of (pos (unsigned_abs d))

abbrev pub negative_of : ℤ → ℤ
negative_of d = wrapped_of (neg_ℤ d)

-- a width on the side of o (0 counts as positive)
abbrev pub on_side_of : ℤ → ℤ → ℤ
on_side_of o width = if int_lt o (pos 0) then negative_of width else width

-- the single width in place of a distance whose size is nearer to it than its cut-in
unfoldable pub single_of : GState → ℤ → ℤ
single_of g o =
    if int_lt (size_of (difference_of (size_of o) g.single_width)) g.single_width_cut_in
    then on_side_of o g.single_width
    else o

-- at least the minimum distance, on the side of o
abbrev pub at_least : GState → ℤ → ℤ → ℤ
at_least g o d =
    if int_lt o (pos 0)
    then (if int_lt (negative_of g.minimum_distance) d then negative_of g.minimum_distance else d)
    else (if int_lt d g.minimum_distance then g.minimum_distance else d)

-- what the bits a, b, c, d, e of MDRP and MIRP say, the highest first: a (10) sets rp0, b (08) keeps the minimum distance, c (04)
-- rounds, and in MIRP looks at the cut-in; d and e (02, 01), the kind of distance for the engine's compensation, do nothing
abbrev pub relative_of : ℕ → Relative
relative_of opcode = record {
  sets_rp0 = opcode / 16 % 2 == 1;
  keeps_minimum = opcode / 8 % 2 == 1;
  rounds = opcode / 4 % 2 == 1;
}

-- a distance rounded if the row rounds; and at least the minimum, on the side of o, if the row keeps it
abbrev pub rounded_by : GState → Relative → ℤ → ℤ
rounded_by g how d = if how.rounds then rounded_of g.round_state d else d

abbrev pub kept_by : GState → Relative → ℤ → ℤ → ℤ
kept_by g how o d = if how.keeps_minimum then at_least g o d else d
