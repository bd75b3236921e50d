-- What the definitions of a strike imply.
use Rattle.std.specs.Prelude.{◌≡◌, ℕ, List, [], ◌∷◌, slice_get, Option, Ok, Contains}
use Rattle.fx_fixed.specs.Chain.{map_ok}
use Rattle.fx_request.specs.declared.request.OnRefused.TheVariants.{Stop}
use Rattle.fx_strike.specs.Strike.{Sketch, Plan, IsGlyphOf, AreGlyphsOf, checked_title, plan_of, one_of, strike_text, FontFileView}
use Rattle.fx_strike.specs.Strike.{Glyph, Mode, OnRefused, Title}

-- a sketch has one glyph
abbrev pub GlyphIsOne : Type 0
GlyphIsOne = (sketch : Sketch) (g h : Glyph) → IsGlyphOf sketch g → IsGlyphOf sketch h → g ≡ h

-- hence a strike has one text
abbrev pub TextIsOne : Type 0
TextIsOne = (plan : Plan) (gs hs : List Glyph) → AreGlyphsOf plan.sketches gs → AreGlyphsOf plan.sketches hs
    → strike_text plan gs ≡ strike_text plan hs

-- a strike has its glyphs: if no cause refuses it there is one, however much memory there is
abbrev pub StrikeExists : Type 0
StrikeExists =
    (file : FontFileView) (ppem : ℕ) (title : Title) (chars : List ℕ) (mode : Mode) (refused : OnRefused) (plan : Plan)
    → plan_of file ppem title chars mode refused ≡ Ok plan → (gs : List Glyph) × AreGlyphsOf plan.sketches gs

-- a character's part depends on the font, the size, the mode, what becomes of refused characters, and its code point alone: it is
-- the same in all strikes of those
abbrev pub PartIsOne : Type 0
PartIsOne =
    (file : FontFileView) (ppem : ℕ) (mode : Mode) (refused : OnRefused) (title other_title : Title) (chars other_chars : List ℕ)
    (plan other : Plan)
    → plan_of file ppem title chars mode refused ≡ Ok plan → plan_of file ppem other_title other_chars mode refused ≡ Ok other
    → (s t : Sketch) → Contains plan.sketches s → Contains other.sketches t → s.code ≡ t.code → s ≡ t

-- the first sketch of a strike, if it has one
abbrev pub only_sketch : Plan → Option Sketch
only_sketch plan = slice_get plan.sketches 0

-- one character is the part of a strike of that character alone, or is refused as that strike is, whatever its title
abbrev pub OneIsOfStrike : Type 0
OneIsOfStrike =
    (file : FontFileView) (ppem : ℕ) (title : Title) (code : ℕ) (mode : Mode) → checked_title title ≡ Ok tt
    → one_of file ppem code mode ≡ map_ok only_sketch (plan_of file ppem title (code ∷ []) mode Stop)
