-- The rows that move points by control values. The control value v is handed in by the rows of fx_machine/specs/PointRows, which
-- take the operands and set the reference points.
-- Apple TrueType Reference Manual, MIAP, MIRP. Each gives the zones.
use Rattle.std.specs.Prelude.{ℤ, pos, int_lt, Bool, ◌&&◌, not, if◌then◌else◌}
use Rattle.fx_fixed.specs.Numbers.{difference_of}
use Rattle.fx_zone.specs.declared.point.ZonePoint.{ZonePoint}
use Rattle.fx_zone.specs.Points.{laid}
use Rattle.fx_gstate.specs.declared.state.GState.{GState}
use Rattle.fx_gstate.specs.Rounding.{rounded_of}
use Rattle.fx_gstate.specs.Vectors.{place_along}
use Rattle.fx_pointops.specs.declared.distances.Relative.{Relative}
use Rattle.fx_pointops.specs.declared.zones.Zones.{Zones}
use Rattle.fx_pointops.specs.Zones.{is_twilight, is_same_zone, point_at, counting_two, on_point}
use Rattle.fx_pointops.specs.ShiftPoint.{moved_by}
use Rattle.fx_pointops.specs.Measure.{along, original_of}
use Rattle.fx_pointops.specs.Distances.{size_of, negative_of, single_of, kept_by}
use Rattle.fx_pointops.specs.Direct.{laid_from_rp, moved_to_distance}

-- two distances are further apart than the control value cut-in
abbrev pub is_cut_off : GState → ℤ → ℤ → Bool
is_cut_off g v o = int_lt g.cut_in (size_of (difference_of v o))

-- 3E-3F MIAP[a], Move Indirect Absolute Point: p n ->
-- p, of zp0, moves to the control value v of number n; with 1 (a: rounds and looks at the cut-in) to v as the round state rounds
-- it, or to its own coordinate rounded if v is further from that than the cut-in. If zp0 is the twilight zone p is laid at v first.
-- The machine sets rp0, rp1.
abbrev pub laid_along : GState → ℤ → ZonePoint → ZonePoint
laid_along g v q = if is_twilight g.zp0 then laid (place_along g.freedom v) q else q

unfoldable pub aimed_of : GState → Bool → ℤ → ℤ → ℤ
aimed_of g rounds v c = if rounds then rounded_of g.round_state (if is_cut_off g v c then c else v) else v

unfoldable pub moved_to_coordinate : GState → Bool → ℤ → ZonePoint → ZonePoint
moved_to_coordinate g rounds v q = moved_by g (difference_of (aimed_of g rounds v (along g q.cur)) (along g q.cur)) q

unfoldable pub miap_of : GState → Bool → ℤ → ℤ → Zones → Zones
miap_of g rounds p v z = on_point (λ q. moved_to_coordinate g rounds v (laid_along g v q)) g.zp0 p z

-- E0-FF MIRP[abcde], Move Indirect Relative Point: p n ->
-- p, of zp1, moves to the distance v from rp0, of zp0. v is the control value of number n, or the single width if that is near; if
-- auto flip is on it has the sign of the original distance. With bit c (rounds and looks at the cut-in), if zp0 and zp1 are one
-- zone, the original distance takes its place if v is further from it than the cut-in; then it is rounded. With bit b (keeps the
-- minimum distance) it is at least the minimum distance. If zp1 is the twilight zone p is laid at v from rp0 first. The machine
-- sets rp1, rp2, and with bit a (sets rp0) rp0.

-- auto flip: the control value on the side of the original distance
abbrev pub is_one_negative : ℤ → ℤ → Bool
is_one_negative o v = if int_lt o (pos 0) then not (int_lt v (pos 0)) else int_lt v (pos 0)

abbrev pub auto_flipped : GState → ℤ → ℤ → ℤ
auto_flipped g o v = if g.auto_flip && is_one_negative o v then negative_of v else v

abbrev pub cut_in_by : GState → ℤ → ℤ → ℤ
cut_in_by g o v = if is_same_zone g.zp0 g.zp1 && is_cut_off g v o then o else v

unfoldable pub controlled_of : GState → Relative → ℤ → ℤ → ℤ
controlled_of g how o v = kept_by g how o (if how.rounds then rounded_of g.round_state (cut_in_by g o v) else v)

-- the distance that it moves to, of the original one o and a control value v
unfoldable pub mirp_distance_of : GState → Relative → ℤ → ℤ → ℤ
mirp_distance_of g how o v = controlled_of g how o (auto_flipped g o v)

abbrev pub moved_to_control : GState → Relative → ℤ → ℤ → Zones → Zones
moved_to_control g how p v z = moved_to_distance g p (mirp_distance_of g how (original_of g g.zp1 p g.zp0 g.rp0 z) v) z

unfoldable pub mirp_of : GState → Relative → ℤ → ℤ → Zones → Zones
mirp_of g how p v z =
    moved_to_control g how p (single_of g v)
    (laid_from_rp g p (place_along g.freedom (single_of g v)) (counting_two (point_at g.zp1 p z) (point_at g.zp0 g.rp0 z) z))
