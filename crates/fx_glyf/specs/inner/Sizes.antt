-- How many bytes the deltas of points take, by their flags (OpenType, `glyf`, simple glyph table).
use Rattle.std.specs.Prelude.{◌≡◌, ℕ, ◌+◌, ◌-◌, ◌≤◌, drop, List, [], ◌∷◌, Option, option_map, if◌then◌else◌}
use Rattle.fx_glyf.specs.Words.{has}
use Rattle.fx_glyf.specs.Points.{x_short_vector, y_short_vector, x_is_same_or_positive_x_short_vector}
use Rattle.fx_glyf.specs.Points.{y_is_same_or_positive_y_short_vector, flags_from, start}

-- the bytes of a delta with this flag; short and same are the masks of the coordinate
unfoldable pub delta_size : ℕ → ℕ → ℕ → ℕ
delta_size short same flag = if has flag short then 1 else (if has flag same then 0 else 2)

-- the bytes of the deltas of points with these flags
unfoldable pub deltas_size : ℕ → ℕ → List ℕ → ℕ
deltas_size short same [] = 0
deltas_size short same (f ∷ fs) = delta_size short same f + deltas_size short same fs

-- the bytes of both deltas of a point with this flag
abbrev pub AreSizes : ℕ → ℕ → ℕ → Type 0
AreSizes flag x y = (x ≡ delta_size x_short_vector x_is_same_or_positive_x_short_vector flag)
    × (y ≡ delta_size y_short_vector y_is_same_or_positive_y_short_vector flag)

-- the bytes of the x deltas, the bytes of the y deltas, and what follows the flags
pub record Measure : Type 0 where
  pub xs : ℕ
  pub ys : ℕ
  pub rest : List ℕ

-- the measure of flags that were read, after x and y deltas of xs and ys bytes
abbrev pub measured_on : ℕ → ℕ → Option (List ℕ × List ℕ) → Option Measure
measured_on xs ys = option_map (λ fs. record {
  xs = xs + deltas_size x_short_vector x_is_same_or_positive_x_short_vector fs.0;
  ys = ys + deltas_size y_short_vector y_is_same_or_positive_y_short_vector fs.0;
  rest = fs.1;
})

-- the measure of the flags of `count` points
abbrev pub measured_of : ℕ → List ℕ → Option Measure
measured_of count bytes = measured_on 0 0 (flags_from count (start bytes))

-- the first n of these bytes are flags that stand alone, whose deltas take x and y bytes: with the flags after them they give the
-- measure of all, of as many points or more
abbrev pub Measured : List ℕ → ℕ → ℕ → ℕ → ℕ → Type 0
Measured bytes most n x y = (left xs ys : ℕ) → most ≤ left
    → measured_on (xs + x) (ys + y) (flags_from (left - n) (start (drop n bytes)))
    ≡ measured_on xs ys (flags_from left (start bytes))
