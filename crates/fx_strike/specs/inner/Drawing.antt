-- What the steps on the way to a character's glyph return.
use Rattle.std.specs.Prelude.{◌≤◌, Option, Result, Ok, Err}
use Rattle.fx_strike.specs.Strike.{Sketch, IsGlyphOf, Fate, Glyph, max_code, Refusal, Fails}
use Rattle.fx_strike.specs.declared.fate.Fate.TheVariants.{Drawn, Unhinted, LeftOut}
use Rattle.fx_strike.specs.Headline.{IsOneOf}
use Rattle.fx_strike.specs.Numbered.{IsDrawnOf}

-- a value of which this holds; or a refusal that is due, or out of memory
abbrev pub IfDue : {A B : Type 0} → (A → Type 0) → Result B Refusal → Result A Refusal → Type 0
IfDue Holds due (Ok made) = Holds made
IfDue Holds due (Err refusal) = Fails refusal due

-- the glyph of a sketch that is due
abbrev pub Draws : Result Sketch Refusal → Result Glyph Refusal → Type 0
Draws due result = IfDue (IsDrawnOf due) due result

-- one character that is due
abbrev pub Finds : Result (Option Sketch) Refusal → Result (Option Glyph) Refusal → Type 0
Finds due result = IfDue (IsOneOf due) due result

-- a sketch can be drawn: its code point is within the limit, and it has a glyph
pub record CanBeDrawn (sketch : Sketch) : Type 0 where
  pub code : sketch.code ≤ max_code
  pub glyph : Glyph
  pub is : IsGlyphOf sketch glyph

-- and so can that of a character with this fate
abbrev pub CanBeMade : Fate → Type 0
CanBeMade (Drawn sketch) = CanBeDrawn sketch
CanBeMade (Unhinted notice sketch) = CanBeDrawn sketch
CanBeMade (LeftOut notice) = Unit {0}
