-- Untouched points between touched ones (Apple TrueType Reference Manual, "IUP").
use Rattle.std.specs.Prelude.{ℤ, ◌+ℤ◌, ◌-ℤ◌, ◌*ℤ◌, int_lt, int_le, Bool, if◌then◌else◌, length}
use Rattle.fx_between.specs.Contours.{contours_filled}
use Rattle.fx_fixed.specs.Numbers.{near_of, wrapped_of}
use Rattle.fx_fixed.specs.Places.{coordinate_of}
use Rattle.fx_fixed.specs.declared.places.Place.{Place}
use Rattle.fx_fixed.specs.declared.places.Axis.{Axis}
use Rattle.fx_fixed.specs.declared.places.Axis.TheVariants.{X, Y}
use Rattle.fx_zone.specs.declared.point.ZonePoint.{ZonePoint}
use Rattle.fx_zone.specs.Points.{moved}
use Rattle.fx_zone.specs.Figures.{Figure}

-- a place with another coordinate along an axis
abbrev pub with_coordinate : Axis → ℤ → Place → Place
with_coordinate X v place = record place { x = v }
with_coordinate Y v place = record place { y = v }

-- a point's original and current coordinate along an axis, and whether it is touched along it
abbrev pub org : Axis → ZonePoint → ℤ
org axis p = coordinate_of axis p.org

abbrev pub cur : Axis → ZonePoint → ℤ
cur axis p = coordinate_of axis p.cur

abbrev pub is_touched : Axis → ZonePoint → Bool
is_touched X p = p.touched_x
is_touched Y p = p.touched_y

-- an original coordinate o, moved as another one was
abbrev pub moved_with : ℤ → ℤ → ℤ → ℤ
moved_with o its_org its_cur = wrapped_of (o +ℤ (its_cur -ℤ its_org))

-- o in proportion between two others, lo and hi
unfoldable pub in_proportion : ℤ → ℤ → ℤ → ℤ → ℤ → ℤ
in_proportion o lo_org lo_cur hi_org hi_cur =
    wrapped_of (lo_cur +ℤ near_of ((o -ℤ lo_org) *ℤ (hi_cur -ℤ lo_cur)) (hi_org -ℤ lo_org))

-- where o goes, between lo and hi: with lo if it was not above it, with hi if it was not below it, else in proportion
unfoldable pub coordinate_between : ℤ → ℤ → ℤ → ℤ → ℤ → ℤ
coordinate_between o lo_org lo_cur hi_org hi_cur =
    if int_le o lo_org then moved_with o lo_org lo_cur
    else if int_le hi_org o then moved_with o hi_org hi_cur
    else in_proportion o lo_org lo_cur hi_org hi_cur

-- a point between two others, lo and hi: one coordinate changes
abbrev pub placed_along : Axis → ℤ → ℤ → ℤ → ℤ → ZonePoint → ZonePoint
placed_along axis lo_org lo_cur hi_org hi_cur p =
    moved (with_coordinate axis (coordinate_between (org axis p) lo_org lo_cur hi_org hi_cur) p.cur) p

abbrev pub placed : Axis → ZonePoint → ZonePoint → ZonePoint → ZonePoint
placed axis lo hi p = placed_along axis (org axis lo) (cur axis lo) (org axis hi) (cur axis hi) p

-- a point between the touched points before and after it: lo is the one with the lesser original coordinate, the one
-- before if they are equal
unfoldable pub between : Axis → ZonePoint → ZonePoint → ZonePoint → ZonePoint
between axis before after p =
    if int_lt (org axis after) (org axis before) then placed axis after before p else placed axis before after p

-- all contours of a figure
unfoldable pub figure_interpolated : Axis → Figure → Figure
figure_interpolated axis f =
    record f { points = contours_filled (is_touched axis) (between axis) f.ends (length f.ends) f.points }
