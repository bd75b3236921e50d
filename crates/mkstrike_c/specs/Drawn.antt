-- What a call from C that makes many characters returns and leaves. `old` and `new` are the caller's buffers before and after.
use Rattle.std.specs.Prelude.{◌≡◌, ℕ, ◌+◌, pos, Bool, true, false, List, [], ◌∷◌, length, take, drop, Option, Some, None, unwrap_or}
use Rattle.std.specs.Prelude.{Result, Ok, Err}
use Rattle.std.specs.List.{flat_map, count_by}
use Rattle.fx_bdf.specs.Glyphs as bits
use Rattle.fx_request.specs.declared.refusal.Refusal.{Refusal}
use Rattle.fx_request.specs.Refusals.{number_of}
use Rattle.fx_request.specs.declared.request.OnRefused.TheVariants.{Stop}
use Rattle.fx_strike.specs.Strike.{Sketch, Setting, bounded_for, one_among}
use Rattle.fx_strike.specs.Headline.{IsOneOf}
use Rattle.mkstrike_c.specs.declared.glyph.GlyphInfo.{GlyphInfo}
use Rattle.mkstrike_c.specs.declared.gathered.Placed.{Placed}
use Rattle.mkstrike_c.specs.declared.gathered.Drawn.{Drawn}
use Rattle.mkstrike_c.specs.declared.refused.Refused.{Refused}
use Rattle.mkstrike_c.specs.Pixels.{row_bytes}
use Rattle.mkstrike_c.specs.Refused.{at_character, refused_of}
use Rattle.mkstrike_c.specs.Shown.{info_of, status_of}

-- what became of a character: its glyph was made, or the font lacks it; or it was refused
abbrev pub Outcome : Type 0
Outcome = Result (Option bits.Glyph) Refusal

-- that is due: the glyph of its sketch, or none; or its first cause
abbrev pub IsOutcomeOf : Result (Option Sketch) Refusal → Outcome → Type 0
IsOutcomeOf due (Ok made) = IsOneOf due made
IsOutcomeOf due (Err refusal) = due ≡ Err refusal

-- one for each character
abbrev pub AreOutcomesOf : Setting → List ℕ → List Outcome → Type 0
AreOutcomesOf setting [] [] = Unit {0}
AreOutcomesOf setting (c ∷ cs) (o ∷ os) = IsOutcomeOf (one_among setting c) o × AreOutcomesOf setting cs os
AreOutcomesOf setting _ _ = ⊥

-- a glyph was made; the font lacks the character; it was refused
abbrev pub is_made : Outcome → Bool
is_made (Ok (Some g)) = true
is_made _ = false

abbrev pub is_missing : Outcome → Bool
is_missing (Ok None) = true
is_missing _ = false

abbrev pub is_refused : Outcome → Bool
is_refused (Err r) = true
is_refused _ = false

-- the bytes of a character's pixels; none if no glyph was made
abbrev pub pixels_of : Bool → Outcome → List ℕ
pixels_of packed (Ok (Some g)) = flat_map (row_bytes packed) g.rows
pixels_of packed _ = []

-- the bytes of all pixels, one character after the other
abbrev pub all_pixels : Bool → List Outcome → List ℕ
all_pixels packed outcomes = flat_map (pixels_of packed) outcomes

-- the numbers of a character; all are 0 if no glyph was made
abbrev pub info_in : Bool → Outcome → GlyphInfo
info_in packed (Ok (Some g)) = info_of packed g
info_in packed _ =
    record { width = 0; height = 0; left = pos 0; bottom = pos 0; stride = 0; dwidth = pos 0; swidth = pos 0 }

-- what an entry says of a character: as a call for it alone
abbrev pub status_in : Outcome → ℕ
status_in (Ok made) = status_of made
status_in (Err refusal) = number_of refusal

-- the entry of a character whose pixels begin at an offset
abbrev pub entry_of : Bool → ℕ → Outcome → Placed
entry_of packed offset outcome = record { glyph = info_in packed outcome; status = status_in outcome; offset = offset }

-- the entries of characters: the pixels of each begin where those of the one before it end
abbrev pub entries_from : Bool → ℕ → List Outcome → List Placed
entries_from packed offset [] = []
entries_from packed offset (o ∷ os) =
    entry_of packed offset o ∷ entries_from packed (offset + length (pixels_of packed o)) os

-- what is told of characters: the bytes of all pixels, and how many were made, are missing and were refused
abbrev pub drawn_of : Bool → List Outcome → Drawn
drawn_of packed outcomes = record {
  bytes = length (all_pixels packed outcomes);
  glyphs = count_by is_made outcomes;
  missing = count_by is_missing outcomes;
  refused = count_by is_refused outcomes;
}

-- the fields of a character that was refused, with its index and its code point
abbrev pub refused_in : ℕ → ℕ → Outcome → Option Refused
refused_in index code (Ok made) = None
refused_in index code (Err refusal) = Some (at_character index code (refused_of refusal))

-- those of the first such character, of characters whose first has this index
abbrev pub first_refused : ℕ → List ℕ → List Outcome → Option Refused
first_refused index (c ∷ cs) (Ok made ∷ os) = first_refused (index + 1) cs os
first_refused index (c ∷ cs) (Err refusal ∷ os) = refused_in index c (Err refusal)
first_refused index _ _ = None

-- as much of a list as fits stands at the front of a buffer, and what lies after it is as it was
pub record HasFront {A : Type 0} (whole old new : List A) : Type 0 where
  pub front : take (length whole) new ≡ take (length old) whole
  pub rest : drop (length whole) new ≡ drop (length whole) old

-- a setting is due; these are the entries of the characters made in it as those of one call, their pixels and their counts, and the
-- fields of the first that was refused; if none was, the caller's are as they were
pub record AreDrawn (packed : Bool) (due : Result Setting Refusal) (codes : List ℕ) (old_entries new_entries : List Placed)
    (old new : List ℕ) (drawn : Drawn) (old_refused new_refused : Refused) : Type 0
  where
    pub setting : Setting
    pub outcomes : List Outcome
    pub is : due ≡ Ok setting
    pub are : AreOutcomesOf (bounded_for setting Stop codes) codes outcomes
    pub entries : HasFront (entries_from packed 0 outcomes) old_entries new_entries
    pub pixels : HasFront (all_pixels packed outcomes) old new
    pub drawn_is : drawn ≡ drawn_of packed outcomes
    pub refused_is : new_refused ≡ unwrap_or (first_refused 0 codes outcomes) old_refused
