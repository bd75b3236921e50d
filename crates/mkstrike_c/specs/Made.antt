-- What a call from C that makes a strike returns and leaves. `old` and `new` are the caller's buffer before and after.
use Rattle.std.specs.Prelude.{◌≡◌, ◌⊎◌, ℕ, false, List, [], length, take, drop, Option, Some, Result, Ok}
use Rattle.fx_bdf.specs.Glyphs.{Glyph}
use Rattle.fx_bdf.specs.Text.{is_name}
use Rattle.fx_request.specs.declared.refusal.Refusal.{Refusal}
use Rattle.fx_request.specs.declared.request.Report.{Report}
use Rattle.fx_strike.specs.Title.{Title}
use Rattle.fx_strike.specs.Strike.{Plan, AreGlyphsOf, strike_text}
use Rattle.fx_strike.specs.Headline.{IsReportOf}
use Rattle.mkstrike_c.specs.declared.making.Told.{Told}
use Rattle.mkstrike_c.specs.Modes.{is_x11}

-- the strike exists, and this is its text
pub record IsTextOf (strike : Result Plan Refusal) (text : List ℕ) (report : Report) : Type 0 where
  pub plan : Plan
  pub glyphs : List Glyph
  pub is : strike ≡ Ok plan
  pub drawn : AreGlyphsOf plan.sketches glyphs
  pub text_is : text ≡ strike_text plan glyphs
  pub counted : IsReportOf plan report

-- a sink holds the strike's text
abbrev pub HoldsText : Result Plan Refusal → Option (List ℕ) → Report → Type 0
HoldsText strike held report = (text : List ℕ) × (held ≡ Some text) × IsTextOf strike text report

-- the same name; or both are none
abbrev pub AreNamesAlike : List ℕ → List ℕ → Type 0
AreNamesAlike a b = (b ≡ a) ⊎ ((is_name a ≡ false) × (is_name b ≡ false))

-- what a strike of C is called: it has no properties beside FONT_ASCENT and FONT_DESCENT, and those of X11 if the mode says so
abbrev pub called : ℕ → List ℕ → Title
called mode name = record { name = name; properties = []; x11 = is_x11 mode }

-- what C is told of a strike
abbrev pub told_of : List ℕ → Report → Told
told_of text report = record {
  bytes = length text;
  glyphs = report.glyphs;
  missing = report.missing;
  strays = report.usage.strays;
  steps = report.usage.steps;
}

-- the strike exists; as much of its text as fits stands at the front of the caller's buffer, and what lies after it is as it was
pub record IsMade (strike : Result Plan Refusal) (old new : List ℕ) (told : Told) : Type 0 where
  pub text : List ℕ
  pub report : Report
  pub is : IsTextOf strike text report
  pub told_is : told ≡ told_of text report
  pub front : take (length text) new ≡ take (length old) text
  pub rest : drop (length text) new ≡ drop (length text) old
