-- Simple glyphs that are made once and kept. What becomes of one depends on hinting, the size, its number, metrics and bytes alone.
use Rattle.std.specs.Prelude.{◌≡◌, ◌≤◌, ℕ, Bool, true, List, [], ◌∷◌, length, Ok, Option, Some, None}
use Rattle.std.specs.List.{All}
use Rattle.fx_sfnt.specs.declared.records.Metrics.{Metrics}
use Rattle.fx_glyf.specs.declared.glyph.Glyph.TheVariants.{Simple}
use Rattle.fx_glyf.specs.Shapes.{SimpleView}
use Rattle.fx_glyf.specs.Glyphs.{glyph_of}
use Rattle.fx_scale.specs.declared.scale.Scale.{Scale}
use Rattle.fx_vary.specs.Shape.{own_bearings}
use Rattle.fx_machine.specs.declared.usage.Usage.{Usage}
use Rattle.fx_hint.specs.declared.made.Made.{Made}
use Rattle.fx_hint.specs.Hinting.{Hinting}
use Rattle.fx_hint.specs.Limits.{max_kept_points, max_kept_bytes}
use Rattle.fx_hint.specs.Outlines.{scaled_simple}
use Rattle.fx_hint.specs.Runs.{ProgramRun}

-- the bytes of glyph g are a simple glyph's; scaled, and with its program run, it is this one, and its program used up this much
pub record IsMadeAlone (h : Hinting) (s : Scale) (g : ℕ) (m : Metrics) (bytes : List ℕ) (made : Made) (usage : Usage) : Type 0 where
  pub shape : SimpleView
  pub read : glyph_of bytes g ≡ Ok (Simple shape)
  pub ran : h.run g shape.code (scaled_simple s h.on (own_bearings m (Simple shape)) shape) ≡ Ok (made, usage)

-- what is kept of a simple glyph: what it was made from, and what it became
pub record KeptGlyphView : Type 0 where
  pub g : ℕ
  pub scale : Scale
  pub metrics : Metrics
  pub bytes : List ℕ
  pub made : Made
  pub usage : Usage

-- what a place keeps is true; a place may be empty
abbrev pub IsTrueOf : Hinting → Option KeptGlyphView → Type 0
IsTrueOf h None = Unit {0}
IsTrueOf h (Some k) = IsMadeAlone h k.scale k.g k.metrics k.bytes k.made k.usage

-- what a place keeps is small, however large the font is
abbrev pub IsSmall : Option KeptGlyphView → Type 0
IsSmall None = Unit {0}
IsSmall (Some k) = (length k.bytes ≤ max_kept_bytes) × (length k.made.zone.points ≤ max_kept_points)
    × (length k.made.zone.ends ≤ max_kept_points)

-- the places of what is kept, and whether more is kept and what was kept is recalled
pub record KeptView : Type 0 where
  pub has_room : Bool
  pub places : List (Option KeptGlyphView)

-- what is kept is true of this hinting, and may be recalled: a program that does not run again leads to nothing that is seen
pub record IsKeptFor {S : Type 0} (Leads : S → List ProgramRun → S → Type 0) (h : Hinting) (kept : KeptView) : Type 0 where
  pub are_true : All (IsTrueOf h) kept.places
  pub unseen : kept.has_room ≡ true → (x : S) (run : ProgramRun) → Leads x (run ∷ []) x
