-- The first six words of a block, and what lies after them.
use Rattle.std.specs.Prelude.{ℕ, ◌/◌, ◌%◌, ◌^◌, ◌==◌, ◌&&◌, nat_le, if◌then◌else◌, Bool, List, length, drop, slice_index, Option, Some, None}
use Rattle.fx_machine.specs.Words.{bit_of}
use Rattle.mkstrike_c.specs.Prepared.{block_form}

-- words begin as those of a block for a font at a size
abbrev pub has_origin : List ℕ → ℕ → ℕ → Bool → List ℕ → Bool
has_origin file face ppem hinting ws = slice_index ws 0 == block_form && slice_index ws 1 == face && slice_index ws 2 == ppem
    && slice_index ws 3 == bit_of hinting && slice_index ws 4 == length file / 2 ^ 32 && slice_index ws 5 == length file % 2 ^ 32

-- and the words after those
unfoldable pub after_origin : List ℕ → ℕ → ℕ → Bool → List ℕ → Option (List ℕ)
after_origin file face ppem hinting ws =
    if nat_le 6 (length ws) && has_origin file face ppem hinting ws then Some (drop 6 ws) else None
