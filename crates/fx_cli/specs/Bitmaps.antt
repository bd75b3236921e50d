-- The bitmaps that a font has of its own, by size: `EBLC`, or Apple's `bloc`, whose beginning is the same.
use Rattle.std.specs.Prelude.{ℕ, zero, suc, ◌==◌, ◌&&◌, ◌||◌, nat_lt, Bool, false, List, codes, drop, slice_index, length, Option, Some, None, unwrap_or}
use Rattle.std.specs.Option.{option_or}
use Rattle.fx_sfnt.specs.Fields.{number_at}
use Rattle.fx_sfnt.specs.Tables.{Face, table_in}

-- one of n records is of a size (ppemX). A record has 48 bytes, and its size in the 45th
abbrev pub has_record : ℕ → List ℕ → ℕ → Bool
has_record zero records ppem = false
has_record (suc n) records ppem =
    nat_lt 47 (length records) && (slice_index records 44 == ppem || has_record n (drop 48 records) ppem)

-- the records are after the first eight bytes, of which the last four have their number
abbrev pub has_size : List ℕ → ℕ → Bool
has_size table ppem = has_record (unwrap_or (number_at 4 table 4) 0) (drop 8 table) ppem

abbrev pub has_size_in : Option (List ℕ) → ℕ → Bool
has_size_in None ppem = false
has_size_in (Some table) ppem = has_size table ppem

abbrev pub has_bitmaps : Face → ℕ → Bool
has_bitmaps font ppem = has_size_in (option_or (table_in font (codes "EBLC")) (table_in font (codes "bloc"))) ppem
