-- Codes in a list of bytes, for the contracts of `Codes`.
use Rattle.std.specs.Prelude.{ℕ, ◌+◌, ◌*◌, List, map, Bool, if◌then◌else◌}
use Rattle.std.specs.List.{range_with_len}
use Rattle.fx_sfnt.specs.Fields.{field}

-- the number of bytes of a code
abbrev pub width : Bool → ℕ
width is_wide = if is_wide then 4 else 2

-- the codes of n bytes each, from an offset on, each `stride` bytes after the one before it
abbrev pub codes_at : ℕ → List ℕ → ℕ → ℕ → ℕ → List ℕ
codes_at n bytes first stride count = map (λ k. field n bytes (first + stride * k)) (range_with_len 0 count)
