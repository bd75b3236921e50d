-- Which subtable is taken of a font that has several, in words of its encoding records.
-- OpenType, "cmap", "Encoding records and encodings": platforms, encodings and formats. Which of them goes first is own.
use Rattle.std.specs.Prelude.{◌≡◌, ℕ, List, [], ◌∷◌, ◌++◌, drop, true, Option, IsSome, ◌⊎◌}
use Rattle.std.specs.List.{Contains}
use Rattle.fx_sfnt.specs.Fields.{field}
use Rattle.fx_sfnt.specs.Tables.{records}
use Rattle.fx_cmap.specs.declared.candidates.Candidate.{Candidate}
use Rattle.fx_cmap.specs.declared.candidates.Format.{Format}
use Rattle.fx_cmap.specs.declared.candidates.Format.TheVariants.{Four, Twelve}
use Rattle.fx_cmap.specs.Lookup.{is_record_of, first_subtable_of, chosen_of, candidates}

-- ---- kinds of subtables

-- all of Unicode for Windows: format 12 of platform 3, encoding 10
abbrev pub windows_whole : Candidate
windows_whole = record { format = Twelve; platform = 3; low = 10; high = 10 }

-- all of Unicode: format 12 of platform 0, encodings 0 to 6
abbrev pub unicode_whole : Candidate
unicode_whole = record { format = Twelve; platform = 0; low = 0; high = 6 }

-- the basic plane for Windows: format 4 of platform 3, encoding 1
abbrev pub windows_basic : Candidate
windows_basic = record { format = Four; platform = 3; low = 1; high = 1 }

-- the basic plane: format 4 of platform 0, encodings 0 to 3
abbrev pub unicode_basic : Candidate
unicode_basic = record { format = Four; platform = 0; low = 0; high = 3 }

-- symbols for Windows: format 4 of platform 3, encoding 0
abbrev pub windows_symbols : Candidate
windows_symbols = record { format = Four; platform = 3; low = 0; high = 0 }

-- ---- laws

-- a font has a subtable of a kind, whatever records stand before its own
pub record Has (cmap : List ℕ) (kind : Candidate) : Type 0 where
  pub entry : List ℕ
  pub there : Contains (records 8 (field 2 cmap 2) (drop 4 cmap)) entry
  pub is : is_record_of kind cmap entry ≡ true

-- the subtable that is taken is the first one of its kind, which is one of these
abbrev pub IsFirstOf : List ℕ → Option (Format × ℕ) → List Candidate → Type 0
IsFirstOf cmap taken [] = ⊥
IsFirstOf cmap taken (kind ∷ kinds) =
    (IsSome (first_subtable_of cmap kind) × (taken ≡ first_subtable_of cmap kind)) ⊎ IsFirstOf cmap taken kinds

-- a subtable of a kind is passed over for those of these kinds alone, and for an earlier one of its own
abbrev pub GivesWayTo : List Candidate → Candidate → Type 0
GivesWayTo better kind = (cmap : List ℕ) → Has cmap kind → IsFirstOf cmap (chosen_of cmap candidates) (better ++ kind ∷ [])
