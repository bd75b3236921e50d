-- How far a tuple counts (OpenType, "OpenType Font Variations Overview", "Algorithm for interpolation of instance values").
use Rattle.std.specs.Prelude.{ℕ, zero, suc, ◌*◌, ◌^◌, ℤ, pos, ◌-ℤ◌, int_lt, int_le, unsigned_abs, ◌||◌, ◌&&◌, if◌then◌else◌}
use Rattle.std.specs.Prelude.{Bool, true, false, List, slice_index_or}
use Rattle.std.specs.Ordering.{int_eq}
use Rattle.std.specs.Int.{int_min, int_max}
use Rattle.fx_sfnt.specs.Fields.{signed_field}
use Rattle.fx_fixed.specs.Numbers.{near_size}
use Rattle.fx_tuples.specs.declared.regions.Tent.{Tent}

-- the peak is not between the begin and the end; 0 is between them; the peak is 0 or where the coordinate is
abbrev pub is_disordered : Tent → Bool
is_disordered t = int_lt t.peak t.start || int_lt t.end t.peak

abbrev pub straddles : Tent → Bool
straddles t = int_lt t.start (pos 0) && int_lt (pos 0) t.end

abbrev pub is_at_peak : Tent → ℤ → Bool
is_at_peak t v = int_eq t.peak (pos 0) || int_eq v t.peak

-- a tuple counts fully along an axis: at the peak, and where the axis does not matter
abbrev pub counts_fully : Tent → ℤ → Bool
counts_fully t v = is_at_peak t v || (is_disordered t || straddles t)

-- how far a tuple counts along an axis whose normalized coordinate is v, as a numerator and a denominator: not at all outside of
-- its tent, fully at the peak, and in proportion between
unfoldable pub factor_of : Tent → ℤ → ℕ × ℕ
factor_of t v =
    if counts_fully t v then (1, 1)
    else if int_le v t.start then (0, 1)
    else if int_le t.end v then (0, 1)
    else if int_lt v t.peak then (unsigned_abs (v -ℤ t.start), unsigned_abs (t.peak -ℤ t.start))
    else (unsigned_abs (t.end -ℤ v), unsigned_abs (t.end -ℤ t.peak))

-- 1.0 of scalars, which count 1 / 2 ^ 42: those of up to three axes whose peaks are -1 or 1 are exact
abbrev pub whole : ℕ
whole = 2 ^ 42

-- a scalar times a factor, rounded to the nearest 1 / 2 ^ 42, halves up
unfoldable pub scaled_of : ℕ → ℕ × ℕ → ℕ
scaled_of s f = near_size (s * f.0) f.1

-- a tuple's tent along an axis, by its bytes: peaks alone, or peaks, starts and ends. A tent without a start and an end goes
-- from 0
-- to its peak
abbrev pub tent_of : Bool → List ℕ → List ℕ → List ℕ → ℕ → Tent
tent_of true peaks starts ends k = record {
  start = signed_field starts (2 * k);
  peak = signed_field peaks
      (2 * k);
  end = signed_field ends (2 * k);
}
tent_of false peaks starts ends k =
    let peak = signed_field peaks (2 * k) in record { start = int_min peak (pos 0); peak = peak; end = int_max peak (pos 0) }

-- how far a tuple counts along the first axes, each a tent and a coordinate, one after the other
unfoldable pub scalar_of : (ℕ → Tent) → List ℤ → ℕ → ℕ
scalar_of tents coordinates zero = whole
scalar_of tents coordinates (suc k) = scaled_of (scalar_of tents coordinates k) (factor_of (tents k)
    (slice_index_or coordinates k (pos 0)))
