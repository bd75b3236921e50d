-- What programs ask of drop-out control.
-- Apple TrueType Reference Manual, SCANCTRL, SCANTYPE. No glyph is rotated or stretched here.
use Rattle.std.specs.Prelude.{ℕ, ◌/◌, ◌%◌, ◌==◌, nat_lt, nat_le, ℤ, pos, Bool, true, false, ◌&&◌, ◌||◌, if◌then◌else◌, unsigned_abs}
use Rattle.std.specs.Prelude.{Option, Some, None}
use Rattle.std.specs.Ordering.{int_eq}
use Rattle.std.specs.Int.{int_rem_euclid}
use Rattle.fx_gstate.specs.declared.scan.ScanType.{ScanType}
use Rattle.fx_gstate.specs.declared.scan.ScanType.TheVariants.{Off, Leftmost, Nearest}
use Rattle.fx_gstate.specs.declared.state.GState.{GState}
use Rattle.fx_gstate.specs.Rounding.{low_byte}

-- ---- SCANCTRL

-- the low word of a stack number: bits 0 to 7 are a threshold in pixels per em, bits 8 to 13 are flags
abbrev pub low_word : ℤ → ℕ
low_word n = unsigned_abs (int_rem_euclid n (pos 65536))

-- bit 8: on up to the threshold, if no other flag turns it off. Bits 9 and 10 are for rotated and stretched glyphs
abbrev pub is_asked : ℤ → ℕ → Bool
is_asked n ppem = low_word n / 0x0100 % 2 == 1 && nat_le ppem (low_byte n)

-- bit 11: off above the threshold; bit 12: off unless the glyph is rotated; bit 13: off unless it is stretched
abbrev pub is_blocked : ℤ → ℕ → Bool
is_blocked n ppem = low_word n / 0x0800 % 2 == 1 && nat_lt (low_byte n) ppem || low_word n / 0x1000 % 2 == 1
    || low_word n / 0x2000 % 2 == 1

-- whether it is on then: always with the threshold 255, never with 0; if no flag says so it is as before
unfoldable pub scan_control_of : ℤ → ℕ → Bool → Bool
scan_control_of n ppem before =
    if low_byte n == 255 then true
    else if low_byte n == 0 then false
    else if is_blocked n ppem then false
    else if is_asked n ppem then true
    else before

-- ---- SCANTYPE

-- types 0 and 1 are simple, 4 and 5 smart, 2, 3 and 6 to 8 turn it off. Types 1 and 5 leave stubs out, which no text defines: here
-- they keep them
unfoldable pub scan_type_of : ℤ → Option ScanType
scan_type_of n =
    if int_eq n (pos 0) || int_eq n (pos 1) then Some Leftmost
    else if int_eq n (pos 4) || int_eq n (pos 5) then Some Nearest
    else if int_eq n (pos 2) || int_eq n (pos 3) || int_eq n (pos 6) || int_eq n (pos 7) || int_eq n (pos 8) then Some Off
    else None

-- ---- both

-- what a program asked for: nothing without SCANCTRL; if that turned it on, what the type says
abbrev pub wish_by : Option Bool → ScanType → Option ScanType
wish_by None kind = None
wish_by (Some false) kind = Some Off
wish_by (Some true) kind = Some kind

abbrev pub wish_of : GState → Option ScanType
wish_of g = wish_by g.scan_control g.scan_type
