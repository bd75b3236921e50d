-- What is gathered of the glyphs so far, for the properties of X11.
use Rattle.std.specs.Prelude.{◌≡◌, ℕ, ◌+◌, ℤ, unsigned_abs, Bool, true, ◌==◌, ◌&&◌, ◌||◌, List, map, slice_get, Option, Some, None}
use Rattle.std.specs.Prelude.{unwrap_or}
use Rattle.std.specs.List.{sum_by}
use Rattle.std.specs.Ordering.{int_eq}
use Rattle.fx_bdf.specs.declared.summary.Summary.{Summary}
use Rattle.fx_bdf.specs.Glyphs.{Glyph}
use Rattle.fx_bdf.specs.X11.{has_code, is_monospaced, mean_of}
use Rattle.fx_strike.specs.declared.gathered.Gathered.{Gathered}

-- an advance is the first one, or there is none before it
abbrev pub agrees : Option ℤ → ℤ → Bool
agrees None dwidth = true
agrees (Some first) dwidth = int_eq dwidth first

-- one glyph more, of a code point and with an advance
abbrev pub gathered_with : Gathered → ℕ → ℤ → Gathered
gathered_with old code dwidth = record {
  total = old.total + unsigned_abs dwidth;
  first = Some (unwrap_or old.first dwidth);
  is_monospaced = old.is_monospaced && agrees old.first dwidth;
  has_replacement = old.has_replacement || code == 65533;
  has_space = old.has_space || code == 32;
}

-- all of these glyphs
pub record IsGatheredOf (glyphs : List Glyph) (gathered : Gathered) : Type 0 where
  pub total : gathered.total ≡ sum_by (λ g. unsigned_abs g.dwidth) glyphs
  pub first : gathered.first ≡ slice_get (map (λ g. g.dwidth) glyphs) 0
  pub monospaced : gathered.is_monospaced ≡ is_monospaced glyphs
  pub replacement : gathered.has_replacement ≡ has_code 65533 glyphs
  pub space : gathered.has_space ≡ has_code 32 glyphs

-- what they settle, if they are as many as this
abbrev pub summary_with : Gathered → ℕ → Summary
summary_with gathered count = record {
  is_monospaced = gathered.is_monospaced;
  average_width = mean_of gathered.total count;
  has_replacement = gathered.has_replacement;
  has_space = gathered.has_space;
}
