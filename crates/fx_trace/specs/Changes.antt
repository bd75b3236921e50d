-- What an instruction changed, as text (own): each part of the state that differs, with its value before and after.
use Rattle.std.specs.Prelude.{ℕ, suc, ◌==◌, ℤ, pos, negsuc, Bool, false, ◌&&◌, if◌then◌else◌, Option, Some, None, List, [], ◌∷◌, ◌++◌, codes}
use Rattle.std.specs.List.{flat_map}
use Rattle.std.specs.Ordering.{int_eq}
use Rattle.std.specs.Cmp.Lexicographic.{pointwise}
use Rattle.std.specs.Fmt.{decimal, signed_decimal}
use Rattle.fx_fixed.specs.declared.places.Place.{Place}
use Rattle.fx_gstate.specs.declared.rounding.RoundState.{RoundState}
use Rattle.fx_gstate.specs.declared.rounding.RoundState.TheVariants.{ToGrid, ToHalfGrid, ToDoubleGrid, DownToGrid, UpToGrid, Off, Super}
use Rattle.fx_gstate.specs.declared.scan.ScanType.{ScanType}
use Rattle.fx_gstate.specs.declared.scan.ScanType.TheVariants.{Leftmost, Nearest}
use Rattle.fx_gstate.specs.declared.scan.ScanType.TheVariants as dropout
use Rattle.fx_gstate.specs.declared.state.GState.{GState}
use Rattle.fx_gstate.specs.declared.zones.ZonePointer.{ZonePointer}
use Rattle.fx_gstate.specs.declared.zones.ZonePointer.TheVariants.{Twilight, Glyph}
use Rattle.fx_zone.specs.declared.point.ZonePoint.{ZonePoint}
use Rattle.fx_machine.specs.declared.state.InstructControl.{InstructControl}
use Rattle.fx_trace.specs.declared.values.TraceValue.{TraceValue}
use Rattle.fx_trace.specs.declared.values.TraceValue.TheVariants.{Number, Count, Pair, Round}

-- ---- values

-- a round state, by its name
abbrev pub round_name : RoundState → List ℕ
round_name ToGrid = codes "grid"
round_name ToHalfGrid = codes "half-grid"
round_name ToDoubleGrid = codes "double-grid"
round_name DownToGrid = codes "down"
round_name UpToGrid = codes "up"
round_name Off = codes "off"
round_name (Super grid) = codes "super"

-- pieces, one after another
abbrev pub joined : List (List ℕ) → List ℕ
joined = flat_map (λ (piece : List ℕ). piece)

-- a value after a space; two coordinates have a comma
abbrev pub value_text : TraceValue → List ℕ
value_text (Number n) = joined (codes " " ∷ signed_decimal n ∷ [])
value_text (Count n) = joined (codes " " ∷ decimal n ∷ [])
value_text (Pair x y) = joined (codes " " ∷ signed_decimal x ∷ codes "," ∷ signed_decimal y ∷ [])
value_text (Round state) = joined (codes " " ∷ round_name state ∷ [])

abbrev pub is_same : TraceValue → TraceValue → Bool
is_same (Number a) (Number b) = int_eq a b
is_same (Count a) (Count b) = a == b
is_same (Pair a b) (Pair x y) = int_eq a x && int_eq b y
is_same (Round a) (Round b) = pointwise ◌==◌ (round_name a) (round_name b)
is_same _ _ = false

-- ---- changes

-- `; `, what changed, by its name and numbers, and its value before and after; nothing if that is the same
unfoldable pub change : List ℕ → List TraceValue → TraceValue → TraceValue → List ℕ
change name numbers was now =
    if is_same was now then []
    else joined (codes "; " ∷ name ∷ []) ++ (flat_map value_text numbers ++ flat_map value_text (was ∷ now ∷ []))

-- what a function says of the entries of two lists, one after another, numbered from n on
unfoldable pub each_from : {A : Type 0} → (ℕ → A → A → List ℕ) → ℕ → List A → List A → List ℕ
each_from f n [] ys = []
each_from f n (x ∷ xs) [] = []
each_from f n (x ∷ xs) (y ∷ ys) = f n x y ++ each_from f (suc n) xs ys

abbrev pub bit_of : Bool → TraceValue
bit_of b = Number (pos (if b then 1 else 0))

-- the entry of a number in the storage area or in the control value table
abbrev pub cell_change : List ℕ → ℕ → ℤ → ℤ → List ℕ
cell_change name n was now = change name (Count n ∷ []) (Number was) (Number now)

abbrev pub coordinates_of : Place → TraceValue
coordinates_of p = Pair p.x p.y

-- the point of a number in a zone: its current place, its original place, whether it is touched along x and y, and whether it is on
-- the curve
unfoldable pub point_change : ℕ → ℕ → ZonePoint → ZonePoint → List ℕ
point_change zone n was now =
    let of = Count zone ∷ Count n ∷ [] in
    change (codes "point") of (coordinates_of was.cur) (coordinates_of now.cur)
    ++ (change (codes "original") of (coordinates_of was.org) (coordinates_of now.org)
    ++ (change (codes "touched-x") of (bit_of was.touched_x) (bit_of now.touched_x)
    ++ (change (codes "touched-y") of (bit_of was.touched_y) (bit_of now.touched_y)
    ++ change (codes "on-curve") of (bit_of was.on) (bit_of now.on))))

-- ---- settings

-- a setting, by its name, and its value
pub record SettingView : Type 0 where
  pub name : List ℕ
  pub value : TraceValue

abbrev pub setting : List ℕ → TraceValue → SettingView
setting name value = record { name = name; value = value }

abbrev pub setting_change : SettingView → SettingView → List ℕ
setting_change was now = change was.name [] was.value now.value

-- a vector, in 2.14
abbrev pub axes_of : ℤ × ℤ → TraceValue
axes_of v = Pair v.0 v.1

abbrev pub zone_of : ZonePointer → TraceValue
zone_of Twilight = Number (pos 0)
zone_of Glyph = Number (pos 1)

-- whether drop-out control is on; -1 before the first SCANCTRL
abbrev pub scan_control_of : Option Bool → TraceValue
scan_control_of None = Number (negsuc 0)
scan_control_of (Some on) = bit_of on

-- the least type of SCANTYPE that asks for this drop-out control
abbrev pub scan_type_of : ScanType → TraceValue
scan_type_of Leftmost = Number (pos 0)
scan_type_of dropout.Off = Number (pos 2)
scan_type_of Nearest = Number (pos 4)

-- the graphics state, and what INSTCTRL set
abbrev pub settings_of : GState → InstructControl → List SettingView
settings_of g flags =
    setting (codes "rp0") (Number g.rp0) ∷ setting (codes "rp1") (Number g.rp1) ∷ setting (codes "rp2") (Number g.rp2)
    ∷ setting (codes "zp0") (zone_of g.zp0) ∷ setting (codes "zp1") (zone_of g.zp1) ∷ setting (codes "zp2") (zone_of g.zp2)
    ∷ setting (codes "auto-flip") (bit_of g.auto_flip) ∷ setting (codes "cut-in") (Number g.cut_in)
    ∷ setting (codes "minimum-distance") (Number g.minimum_distance) ∷ setting (codes "single-width") (Number g.single_width)
    ∷ setting (codes "single-width-cut-in") (Number g.single_width_cut_in) ∷ setting (codes "delta-base") (Number g.delta_base)
    ∷ setting (codes "delta-shift") (Number (pos g.delta_shift)) ∷ setting (codes "scan-control") (scan_control_of g.scan_control)
    ∷ setting (codes "scan-type") (scan_type_of g.scan_type) ∷ setting (codes "freedom") (axes_of g.freedom)
    ∷ setting (codes "projection") (axes_of g.projection) ∷ setting (codes "dual") (axes_of g.dual)
    ∷ setting (codes "loop") (Count g.loop_count) ∷ setting (codes "round") (Round g.round_state)
    ∷ setting (codes "no-programs") (bit_of flags.no_programs) ∷ setting (codes "default-state") (bit_of flags.default_state) ∷ []
