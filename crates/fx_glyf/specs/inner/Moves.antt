-- One coordinate of a point after another (OpenType, `glyf`, simple glyph table).
use Rattle.std.specs.Prelude.{ℕ, ◌+◌, ◌%◌, List, Option, option_map}

-- a coordinate moved by a delta that was read, modulo 2 ^ 16, with the bytes after the delta
abbrev pub moved_by : ℕ → Option (ℕ × List ℕ) → Option (ℕ × List ℕ)
moved_by at = option_map (λ d. ((at + d.0) % 65536, d.1))
