-- The delta of a point that a tuple does not name (OpenType, "gvar", "Inferred deltas for un-referenced point numbers").
use Rattle.std.specs.Prelude.{Bool, ℤ, pos, ◌+ℤ◌, ◌-ℤ◌, ◌*ℤ◌, int_lt, int_le, unsigned_abs, if◌then◌else◌}
use Rattle.std.specs.Ordering.{int_eq}
use Rattle.fx_axes.specs.Rounding.{near_up_of}
use Rattle.fx_moves.specs.declared.inferring.Named.{Named}
use Rattle.fx_moves.specs.declared.point.GivenPoint.{GivenPoint}

-- 1.0 of deltas, which count 1 / 65536
abbrev pub one : ℤ
one = pos 65536

-- the delta of a coordinate between two others in proportion, rounded to the nearest 1 / 65536, halves up
unfoldable pub in_proportion_of : ℤ → Named → Named → ℤ
in_proportion_of x lo hi =
    lo.delta *ℤ one +ℤ near_up_of ((x -ℤ lo.at) *ℤ (hi.delta -ℤ lo.delta) *ℤ one) (unsigned_abs (hi.at -ℤ lo.at))

-- the delta of a coordinate by two others, of which lo is the lower: the other's where it is not between, else in proportion
abbrev pub inferred_between : ℤ → Named → Named → ℤ
inferred_between x lo hi =
    if int_le x lo.at then lo.delta *ℤ one
    else if int_le hi.at x then hi.delta *ℤ one
    else in_proportion_of x lo hi

-- the delta of a coordinate by those of the named points before and after it. If these have one coordinate, it is their delta if
-- that is the same, and else 0
abbrev pub inferred_of : ℤ → Named → Named → ℤ
inferred_of x before after =
    if int_eq before.at after.at then (if int_eq before.delta after.delta then before.delta *ℤ one else pos 0)
    else if int_lt before.at after.at then inferred_between x before after
    else inferred_between x after before

-- whether a tuple names a point
abbrev pub is_named : GivenPoint → Bool
is_named p = p.named

-- its coordinate, and the delta that the tuple gives it
abbrev pub given : GivenPoint → Named
given p = record { at = p.at; delta = p.delta }

-- a point between two named ones
unfoldable pub between : GivenPoint → GivenPoint → GivenPoint → GivenPoint
between before after p = record p { moved = inferred_of p.at (given before) (given after) }
