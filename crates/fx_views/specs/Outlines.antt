-- The outline of a glyph, which its bits are of, as a text; and what a call that writes it leaves.
use Rattle.std.specs.Prelude.{◌≡◌, ℕ, ◌+◌, ◌<◌, nat_lt, ℤ, Bool, true, false, List, [], ◌∷◌, ◌++◌, length, take, codes, Option, Some, None}
use Rattle.std.specs.Prelude.{Result, Ok, Err}
use Rattle.std.specs.Io.KnownBytes.{Appends, Keeps}
use Rattle.std.specs.List.{count_by}
use Rattle.std.specs.Fmt.{decimal, signed_decimal}
use Rattle.fx_fixed.specs.Chain.{◌>>=◌, map_ok}
use Rattle.fx_outline.specs.declared.points.OutlinePoint.{OutlinePoint}
use Rattle.fx_hint.specs.Outlines.{GlyphOutlineView}
use Rattle.fx_request.specs.declared.request.Choice.{Choice}
use Rattle.fx_request.specs.declared.refusal.Refusal.TheVariants.{OutOfMemory, WriteFailed}
use Rattle.fx_strike.specs.Faults.{Fails}
use Rattle.fx_strike.specs.Strike.{Opening, Setting, setting_in, setting_of, FontFileView, Mode, Refusal}
use Rattle.fx_strike.specs.Numbered.{outlined_with}
use Rattle.fx_strike.specs.Headline.{Late, Change}
use Rattle.fx_views.specs.Choices.{chosen_glyph, opened_choice_of}

-- ---- an outline

-- the outline of a glyph of a font file at a size, by its number; or the first cause
unfoldable pub outline_numbered_of : FontFileView → ℕ → ℕ → Mode → Result GlyphOutlineView Refusal
outline_numbered_of file ppem glyph mode = do
  setting ← setting_of file ppem mode
  outlined_with setting glyph

-- the outline of a glyph; none if there is no glyph
abbrev pub outlined_for : Setting → Option ℕ → Result (Option GlyphOutlineView) Refusal
outlined_for setting None = Ok None
outlined_for setting (Some glyph) = map_ok Some (outlined_with setting glyph)

-- that of the glyph chosen, of a font file at a size; none if the font lacks the character; or the first cause
unfoldable pub outlined_of : FontFileView → ℕ → Choice → Mode → Result (Option GlyphOutlineView) Refusal
outlined_of file ppem choice mode = do
  opened ← opened_choice_of file ppem choice
  setting ← setting_in opened mode
  outlined_for setting (chosen_glyph setting.map choice)

-- ---- its text

-- the contour of a point, by its number: as many as end before it
abbrev pub contour_at : List ℕ → ℕ → ℕ
contour_at ends number = count_by (λ e. nat_lt e number) ends

abbrev pub curve_word : Bool → List ℕ
curve_word true = codes " on "
curve_word false = codes " off "

-- the line of a point: its contour, its number, whether it is on the curve, its x and y in 1/64 pixels
abbrev pub point_line : ℕ → ℕ → OutlinePoint → List ℕ
point_line contour number p =
    decimal contour ++ (32 ∷ (decimal number ++
    (curve_word p.on_curve ++ (signed_decimal p.x ++ (32 ∷ (signed_decimal p.y ++ 10 ∷ []))))))

-- the lines of the points from a number on
unfoldable pub point_lines : List ℕ → ℕ → List OutlinePoint → List ℕ
point_lines ends number [] = []
point_lines ends number (p ∷ ps) = point_line (contour_at ends number) number p ++ point_lines ends (number + 1) ps

-- the line of an advance in 1/64 pixels
abbrev pub advance_line : ℤ → List ℕ
advance_line advance = codes "advance " ++ (signed_decimal advance ++ 10 ∷ [])

-- a line for each point, and then the advance; `missing` if there is no glyph
abbrev pub outline_text : Option GlyphOutlineView → List ℕ
outline_text None = codes "missing\n"
outline_text (Some outline) = point_lines outline.ends 0 outline.points ++ advance_line outline.advance

-- ---- what a call that writes it leaves

-- the outline is due, its text was written, and the writer counted no fault
pub record IsOutlined (due : Result (Option GlyphOutlineView) Refusal) (change : Change) : Type 0 where
  pub outline : Option GlyphOutlineView
  pub is : due ≡ Ok outline
  pub written : Appends change.bytes_before change.bytes (outline_text outline)
  pub quiet : change.faults ≡ change.faults_before

-- out of memory, or the first cause was named; nothing was written, and the writer counted no fault
pub record IsNotOutlined (due : Result (Option GlyphOutlineView) Refusal) (change : Change) (refusal : Refusal) : Type 0 where
  pub first : Fails refusal due
  pub kept : Keeps change.bytes_before change.bytes
  pub quiet : change.faults ≡ change.faults_before

-- the writer failed: the outline is due, exactly the first n bytes of its text were written, and the writer counted one fault
pub record IsOutlinedTo (due : Result (Option GlyphOutlineView) Refusal) (change : Change) (n : ℕ) : Type 0 where
  pub outline : Option GlyphOutlineView
  pub is : due ≡ Ok outline
  pub short : n < length (outline_text outline)
  pub written : Appends change.bytes_before change.bytes (take n (outline_text outline))
  pub fault : change.faults ≡ change.faults_before + 1

-- all of it, by the result; memory is taken late
abbrev pub Outlines : Opening → Result (Option GlyphOutlineView) Refusal → Change → Result (Unit {0}) Refusal → Type 0
Outlines opening due change (Ok _) = IsOutlined due change
Outlines opening due change (Err OutOfMemory) = Late opening × IsNotOutlined due change OutOfMemory
Outlines opening due change (Err (WriteFailed n)) = IsOutlinedTo due change n
Outlines opening due change (Err refusal) = IsNotOutlined due change refusal
