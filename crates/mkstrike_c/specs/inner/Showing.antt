-- One glyph, in memory.
use Rattle.std.specs.Prelude.{◌≡◌, ℕ, Bool, List, Option, Some, None, Result, Ok, Err}
use Rattle.fx_bdf.specs.Glyphs as bits
use Rattle.fx_request.specs.declared.refusal.Refusal.{Refusal}
use Rattle.fx_strike.specs.Strike.{Sketch}
use Rattle.fx_strike.specs.Headline.{IsOneOf}
use Rattle.mkstrike_c.specs.declared.glyph.GlyphInfo.{GlyphInfo}
use Rattle.mkstrike_c.specs.Shown.{HasPixels, info_of}

-- a glyph that is due was found
abbrev pub FindsById : Result (Option Sketch) Refusal → Option bits.Glyph → Type 0
FindsById due found = (glyph : bits.Glyph) × (found ≡ Some glyph) × IsOneOf due (Some glyph)

-- the numbers and the pixels of a glyph were told; of none nothing was
abbrev pub IsTold : Bool → Option bits.Glyph → List ℕ → List ℕ → GlyphInfo → GlyphInfo → ℕ → Type 0
IsTold packed (Some g) old new old_info info result = (result ≡ 0) × (info ≡ info_of packed g) × HasPixels packed g old new
IsTold packed None old new old_info info result = (result ≡ 1) × (new ≡ old) × (info ≡ old_info)

-- words were taken for a block, and with what they say a value was found that is the one due, or a refusal that is the reason
abbrev pub IsFoundBy : {A : Type 0} → (A → Type 0) → (Refusal → Type 0) → Option (Result A Refusal) → Type 0
IsFoundBy IsDue IsWhy None = ⊥
IsFoundBy IsDue IsWhy (Some (Ok found)) = IsDue found
IsFoundBy IsDue IsWhy (Some (Err refusal)) = IsWhy refusal
