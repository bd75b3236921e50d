-- The strike of a font, a size and characters, or the first cause why there is none.
use Rattle.std.specs.Prelude.{◌≡◌, ◌↔◌, IsTrue, ℕ, ◌+◌, ◌*◌, nat_lt, ◌==◌, ◌&&◌, ◌||◌, not, ℤ, pos, ◌*ℤ◌, neg_ℤ, Bool}
use Rattle.std.specs.Prelude.{List, [], ◌∷◌, ◌++◌, length, map, filter, if◌then◌else◌, true, false, Option, Some, None, Result, Ok, Err}
use Rattle.std.specs.List.{list_any, count_by, flat_map}
use Rattle.fx_fixed.specs.Chain.{◌>>=◌, refuse, wanted, map_ok, map_fault, map_chain}
use Rattle.fx_fixed.specs.Numbers.{near_of}
use Rattle.fx_fixed.specs.Sizes.{ppem_of}
use Rattle.fx_sfnt.specs.Tables.{Face, font_of}
use Rattle.fx_sfnt.specs.Glyphs.{metrics_of}
use Rattle.fx_sfnt.specs.declared.records.Metrics.{Metrics}
use Rattle.fx_cmap.specs.Lookup.{map_of, glyph_for}
use Rattle.fx_cmap.specs.declared.mapping.Mapping.{Mapping}
use Rattle.fx_machine.specs.Known.{machine_of}
use Rattle.fx_machine.specs.declared.usage.Usage.{Usage}
use Rattle.fx_machine.specs.Usages.{no_usage}
use Rattle.fx_hint.specs.Hinting.{Hinting, no_hinting}
use Rattle.fx_hint.specs.Programmed.{hinting_of}
use Rattle.fx_hint.specs.declared.fault.HintFault.{HintFault}
use Rattle.fx_hint.specs.Outlines.{GlyphOutlineView, outline_with}
use Rattle.fx_raster.specs.declared.rule.Rule.{Rule}
use Rattle.fx_raster.specs.Rules.{Lower, Nearer}
use Rattle.fx_raster.specs.declared.rule.Rule.TheVariants.{Centres, Bridged}
use Rattle.fx_request.specs.declared.request.Dropout.{Dropout}
use Rattle.fx_request.specs.declared.request.Dropout.TheVariants.{Off, Left, Near, Font}
use Rattle.fx_gstate.specs.Scan.{wish_of}
use Rattle.fx_gstate.specs.declared.scan.ScanType as asked
use Rattle.fx_gstate.specs.declared.scan.ScanType.TheVariants as wish
use Rattle.fx_raster.specs.Rules.{ShapeView, IsPixelSet, shape_of}
use Rattle.fx_raster.specs.Work.{drawing_work}
use Rattle.fx_bdf.specs.declared.header.Header.{Header}
use Rattle.fx_bdf.specs.Glyphs.{IsTight, IsFormed, glyph_bit, bounds_of}
use Rattle.fx_bdf.specs.Properties.{PropertyView, first_bad}
use Rattle.fx_bdf.specs.Text.{is_name, header_text, glyph_text, end_text}
use Rattle.fx_bdf.specs.X11.{all_properties, summary_of}
use Rattle.fx_request.specs.declared.request.OnRefused.TheVariants.{Stop, LeaveOut, Unhinted}
use Rattle.fx_request.specs.declared.refusal.Refusal.TheVariants.{BadSize, BadChars, BadName, BadProperty, Halted, TooMuchWork}
use Rattle.fx_request.specs.Faults.{of_font, of_char_map, of_machine}
use Rattle.fx_strike.specs.declared.opened.Basis.{Basis}
use Rattle.fx_strike.specs.declared.fate.Fate.TheVariants as fate
use Rattle.fx_strike.specs.Faults.{of_hint, of_raster}
use Rattle.fx_strike.specs.Careful.{first_budget, is_font_over, over_in, programs_left}
-- what these definitions speak of, for all that speak of them
pub use Rattle.fx_sfnt.specs.Collections.{FontFileView}
pub use Rattle.fx_machine.specs.Known.{Known}
pub use Rattle.fx_bdf.specs.Glyphs.{Glyph}
unfoldable pub use Rattle.fx_request.specs.Characters.{rising}
pub use Rattle.fx_request.specs.Limits.{max_characters, max_code}
pub use Rattle.fx_request.specs.declared.notice.Notice.{Notice}
pub use Rattle.fx_request.specs.declared.request.Mode.{Mode}
pub use Rattle.fx_request.specs.declared.request.OnRefused.{OnRefused}
pub use Rattle.fx_request.specs.declared.refusal.Refusal.{Refusal}
pub use Rattle.fx_strike.specs.Faults.{Fails}
pub use Rattle.fx_strike.specs.Title.{Title}
pub use Rattle.fx_strike.specs.Sketches.{Sketch}
pub use Rattle.fx_strike.specs.Characters.{Mapped, mapped_of}
pub use Rattle.fx_strike.specs.declared.opened.Opened.{Opened}
pub use Rattle.fx_strike.specs.declared.fate.Fate.{Fate}

-- ---- a font at a size

-- the machine of a font at a size, in which `fpgm` ran, then `prep`; or the first halt. A careful strike bounds their work
unfoldable pub machine_within : Face → ℕ → Bool → Result Known Refusal
machine_within face ppem careful = do
  _ ← refuse (careful && is_font_over face ppem) TooMuchWork
  map_fault of_machine (machine_of face ppem)

-- the same with hinting on; none with hinting off
unfoldable pub machine_for : Face → ℕ → Bool → Bool → Result (Option Known) Refusal
machine_for face ppem false careful = Ok None
machine_for face ppem true careful = map_ok Some (machine_within face ppem careful)

-- all that a character's glyph depends on but its code point: a font, its character map, a size, drop-out control, the machine,
-- whether work is bounded, and which code points are refused since they take too much; and nothing that was made before
pub record Setting : Type 0 where
  pub font : Face
  pub map : Mapping
  pub ppem : ℕ
  pub dropout : Dropout
  pub machine : Option Known
  pub careful : Bool
  pub over : List ℕ

-- which pixels an outline sets, as its font's programs asked; the left or the lower one of a gap if they asked for nothing
abbrev pub asked_rule : Option asked.ScanType → Rule
asked_rule None = Bridged Lower
asked_rule (Some wish.Off) = Centres
asked_rule (Some wish.Leftmost) = Bridged Lower
asked_rule (Some wish.Nearest) = Bridged Nearer

-- which pixels an outline sets, with drop-out control or without; the same for all, or as its font asked
abbrev pub rule_for : Dropout → Option asked.ScanType → Rule
rule_for Off wish = Centres
rule_for Left wish = Bridged Lower
rule_for Near wish = Bridged Nearer
rule_for Font wish = asked_rule wish

-- the same in a setting
abbrev pub rule_in : Setting → Option asked.ScanType → Rule
rule_in setting wish = rule_for setting.dropout wish

abbrev pub basis_of : Opened → Mode → Basis
basis_of opened mode = record { opened = opened; dropout = mode.dropout; careful = mode.careful }

-- an opened font with drop-out control, the machine, and the code points that take too much work
abbrev pub setting_over : Basis → Option Known → List ℕ → Setting
setting_over basis machine over = record {
  font = basis.opened.font;
  map = basis.opened.map;
  ppem = basis.opened.ppem;
  dropout = basis.dropout;
  machine = machine;
  careful = basis.careful;
  over = over;
}

-- the same before any is known
abbrev pub setting_with : Basis → Option Known → Setting
setting_with basis machine = setting_over basis machine []

-- the setting of an opened font; or the first halt, or too much work
unfoldable pub setting_in : Opened → Mode → Result Setting Refusal
setting_in opened mode = do
  machine ← machine_for opened.font opened.ppem mode.hinting mode.careful
  Ok (setting_with (basis_of opened mode) machine)

-- what the machine adds to scaling; nothing without one
abbrev pub hinting_by : Option Known → Hinting
hinting_by None = no_hinting
hinting_by (Some known) = hinting_of known

-- what `fpgm` and `prep` used up
abbrev pub prelude_by : Option Known → Usage
prelude_by None = no_usage
prelude_by (Some known) = known.prelude

-- what `prep` left asked of drop-out control; nothing without a machine
abbrev pub wish_in : Option Known → Option asked.ScanType
wish_in None = None
wish_in (Some known) = wish_of known.prepared.graphics

-- ---- a character

-- an advance of FUnits in 1/1000 of an em, which is `em` FUnits
abbrev pub thousandths : ℕ → ℕ → ℤ
thousandths advance em = near_of (pos (advance * 1000)) (pos em)

-- a glyph's outline, scaled, and hinted if there is a machine
abbrev pub outline_in : Setting → ℕ → Result GlyphOutlineView HintFault
outline_in setting glyph = outline_with (hinting_by setting.machine) setting.font setting.ppem glyph

-- the sketch of a code point that has this outline, shape and metrics
abbrev pub sketch_from : Setting → ℕ → GlyphOutlineView → ShapeView → Metrics → Sketch
sketch_from setting code outline shape metrics = record {
  code = code;
  swidth = thousandths metrics.advance_width setting.font.head.units_per_em;
  dwidth = near_of outline.advance (pos 64);
  shape = shape;
  usage = outline.usage;
}

-- a code point takes too much work
abbrev pub is_over : Setting → ℕ → Bool
is_over setting code = list_any (λ c. c == code) setting.over

-- the sketch of a code point by its glyph's number, or the first cause why it has none
unfoldable pub glyph_sketch_of : Setting → ℕ → ℕ → Result Sketch Refusal
glyph_sketch_of setting code glyph = do
  _ ← refuse (is_over setting code) TooMuchWork
  outline ← map_fault of_hint (outline_in setting glyph)
  shape ← map_fault (of_raster glyph) (shape_of (rule_in setting outline.wish) outline.ends outline.points)
  metrics ← map_fault of_font (metrics_of setting.font glyph)
  Ok (sketch_from setting code outline shape metrics)

-- the font has no glyph for a code point
abbrev pub is_missing : Setting → ℕ → Bool
is_missing setting code = glyph_for setting.map code == 0

-- ---- characters that are refused

-- the sketch of a character with this fate (`src/fate.rt`), if it is in the strike
abbrev pub sketches_in : Fate → List Sketch
sketches_in (fate.Drawn sketch) = sketch ∷ []
sketches_in (fate.Unhinted notice sketch) = sketch ∷ []
sketches_in (fate.LeftOut notice) = []

-- what is told of it
abbrev pub notices_in : Fate → List Notice
notices_in (fate.Drawn sketch) = []
notices_in (fate.Unhinted notice sketch) = notice ∷ []
notices_in (fate.LeftOut notice) = notice ∷ []

-- a code point is left out for a cause
abbrev pub left_out_for : ℕ → Refusal → Fate
left_out_for code cause = fate.LeftOut (record { code = code; cause = cause; unhinted = false })

-- a code point whose program halted, by its sketch without hinting, or the cause why it has none even so
abbrev pub halted_by : ℕ → Refusal → Result Sketch Refusal → Fate
halted_by code halt (Ok sketch) = fate.Unhinted (record { code = code; cause = halt; unhinted = true }) sketch
halted_by code halt (Err cause) = left_out_for code cause

-- a code point that is refused for a cause, as the request says; `second` is its sketch without hinting, or the cause why it has
-- none
abbrev pub refused_by : OnRefused → ℕ → Result Sketch Refusal → Refusal → Result Fate Refusal
refused_by Stop code second cause = Err cause
refused_by LeaveOut code second cause = Ok (left_out_for code cause)
refused_by Unhinted code second (Halted halt) = Ok (halted_by code (Halted halt) second)
refused_by Unhinted code second cause = Ok (left_out_for code cause)

-- a code point by its sketch, or the first cause why it has none
abbrev pub fate_by : OnRefused → ℕ → Result Sketch Refusal → Result Sketch Refusal → Result Fate Refusal
fate_by refused code second (Ok sketch) = Ok (fate.Drawn sketch)
fate_by refused code second (Err cause) = refused_by refused code second cause

-- the setting without its machine
abbrev pub machineless : Setting → Setting
machineless setting = record setting { machine = None }

-- what becomes of a code point by its glyph's number
unfoldable pub glyph_fate_of : Setting → OnRefused → ℕ → ℕ → Result Fate Refusal
glyph_fate_of setting refused code glyph =
    fate_by refused code (glyph_sketch_of (machineless setting) code glyph) (glyph_sketch_of setting code glyph)

-- what becomes of a code point that the font has, or the cause that refuses the strike
abbrev pub fate_of : Setting → OnRefused → ℕ → Result Fate Refusal
fate_of setting refused code = glyph_fate_of setting refused code (glyph_for setting.map code)

-- ---- a careful strike

-- the work of drawing a character with this fate; nothing is drawn of one that is refused
abbrev pub drawing_by : Result Fate Refusal → ℕ
drawing_by (Ok (fate.Drawn sketch)) = drawing_work sketch.shape.rule sketch.shape.spans
drawing_by (Ok (fate.Unhinted notice sketch)) = drawing_work sketch.shape.rule sketch.shape.spans
drawing_by (Ok (fate.LeftOut notice)) = 0
drawing_by (Err cause) = 0

-- what the programs of a glyph leave of so much work; none if they do more
abbrev pub programs_in : Setting → ℕ → ℕ → Option ℕ
programs_in setting glyph work = programs_left setting.machine setting.font setting.ppem glyph work

-- the work of drawing a character, whatever takes too much
abbrev pub drawing_in : Setting → OnRefused → Mapped → ℕ
drawing_in setting refused m = drawing_by (glyph_fate_of (record setting { over = [] }) refused m.code m.glyph)

-- the code points of characters that take too much work, if work is bounded: of those that come first the budget pays first
abbrev pub over_among : Setting → OnRefused → List Mapped → List ℕ
over_among setting refused mapped =
    if setting.careful then over_in (programs_in setting) (drawing_in setting refused) mapped first_budget else []

-- the setting in which these are refused
unfoldable pub bounded : Setting → OnRefused → List Mapped → Setting
bounded setting refused mapped = record setting { over = over_among setting refused mapped }

-- those of these code points that the font has
abbrev pub bounded_for : Setting → OnRefused → List ℕ → Setting
bounded_for setting refused chars = bounded setting refused (mapped_of setting.map (rising chars))

-- ---- one character

-- the sketch of a code point by its glyph's number, for a call that is for it alone
unfoldable pub sketch_alone : Setting → ℕ → ℕ → Result Sketch Refusal
sketch_alone setting code glyph =
    glyph_sketch_of (bounded setting Stop (record { code = code; glyph = glyph } ∷ [])) code glyph

-- the sketch of one of the characters of a call, once it is known which of them take too much work; none if the font lacks it; or
-- the first cause
unfoldable pub one_among : Setting → ℕ → Result (Option Sketch) Refusal
one_among setting code =
    if is_missing setting code then Ok None else map_ok Some (glyph_sketch_of setting code (glyph_for setting.map code))

-- that of a character in a call for it alone
unfoldable pub one_with : Setting → ℕ → Result (Option Sketch) Refusal
one_with setting code =
    if is_missing setting code then Ok None else map_ok Some (sketch_alone setting code (glyph_for setting.map code))

-- ---- the strike

-- a strike before its bits, with what is told of refused characters, and what `fpgm` and `prep` used up and asked for
pub record Plan : Type 0 where
  pub name : List ℕ
  pub properties : List PropertyView
  pub x11 : Bool
  pub ppem : ℕ
  pub ascent : ℤ
  pub descent : ℤ
  pub sketches : List Sketch
  pub missing : ℕ
  pub notices : List Notice
  pub prelude : Usage
  pub wish : Option asked.ScanType

-- FUnits in pixels, rounded
abbrev pub pixels : ℤ → ℕ → ℕ → ℤ
pixels units ppem em = near_of (units *ℤ pos ppem) (pos em)

-- what becomes of code points that the font has
abbrev pub fates_of : Setting → OnRefused → List ℕ → Result (List Fate) Refusal
fates_of setting refused codes = map_chain (fate_of setting refused) (filter (λ c. not (is_missing setting c)) codes)

-- the strike of a title, of these characters with their fates
abbrev pub plan_from : Setting → Title → List ℕ → List Fate → Plan
plan_from setting title chars fates = record {
  name = title.name;
  properties = title.properties;
  x11 = title.x11;
  ppem = setting.ppem;
  ascent = pixels setting.font.hhea.ascender setting.ppem setting.font.head.units_per_em;
  descent = pixels (neg_ℤ setting.font.hhea.descender) setting.ppem setting.font.head.units_per_em;
  sketches = flat_map sketches_in fates;
  missing = count_by (is_missing setting) (rising chars);
  notices = flat_map notices_in fates;
  prelude = prelude_by setting.machine;
  wish = wish_in setting.machine;
}

-- the strike of a title and characters once it is known which take too much work, or the first cause why there is none
unfoldable pub plan_within : Setting → Title → List ℕ → OnRefused → Result Plan Refusal
plan_within setting title chars refused = do
  fates ← fates_of setting refused (rising chars)
  Ok (plan_from setting title chars fates)

-- the strike of a title and characters, or the first cause why there is none
unfoldable pub plan_with : Setting → Title → List ℕ → OnRefused → Result Plan Refusal
plan_with setting title chars refused =
    plan_within (bounded_for setting refused chars) title chars refused

-- ---- the order of causes

-- characters within their limits
unfoldable pub checked_chars : List ℕ → Result (Unit {0}) Refusal
checked_chars chars = refuse (nat_lt max_characters (length chars) || list_any (nat_lt max_code) chars) BadChars

-- no property is bad: the first that is has the index i, which the refusal counts from 1
abbrev pub refused_at : Option ℕ → Result (Unit {0}) Refusal
refused_at None = Ok tt
refused_at (Some i) = Err (BadProperty (i + 1))

unfoldable pub checked_properties : List PropertyView → Result (Unit {0}) Refusal
checked_properties properties = refused_at (first_bad properties)

-- a title within its limits
unfoldable pub checked_title : Title → Result (Unit {0}) Refusal
checked_title title = do
  _ ← refuse (not (is_name title.name)) BadName
  checked_properties title.properties

-- characters within their limits, and then a title
unfoldable pub checked_text : Title → List ℕ → Result (Unit {0}) Refusal
checked_text title chars = do
  _ ← checked_chars chars
  checked_title title

-- a font opened with its character map, or the first cause why it can't be
unfoldable pub font_with_map : FontFileView → Result (Face × Mapping) Refusal
font_with_map file = do
  face ← map_fault of_font (font_of file)
  mapping ← map_fault of_char_map (map_of face)
  Ok (face, mapping)

-- a valid size and an opened font with its character map, or the first cause why there is none
abbrev pub Opening : Type 0
Opening = Result Opened Refusal

-- what takes no memory: the size is valid, the checks of what is asked for pass, and the font and its character map open; or the
-- first cause
unfoldable pub opened_after : ℕ → Result (Unit {0}) Refusal → FontFileView → Opening
opened_after ppem checks file = do
  size ← wanted (ppem_of ppem) BadSize
  _ ← checks
  opened ← font_with_map file
  Ok (record { ppem = size; font = opened.0; map = opened.1 })

-- for a strike of a title and characters
abbrev pub opened_of : FontFileView → ℕ → Title → List ℕ → Opening
opened_of file ppem title chars = opened_after ppem (checked_text title chars) file

-- for characters that are made one by one
abbrev pub opened_many_of : FontFileView → ℕ → List ℕ → Opening
opened_many_of file ppem chars = opened_after ppem (checked_chars chars) file

-- for one character
abbrev pub opened_one_of : FontFileView → ℕ → ℕ → Opening
opened_one_of file ppem code = opened_many_of file ppem (code ∷ [])

-- for a striker, which is not asked for anything yet
abbrev pub opened_at : FontFileView → ℕ → Opening
opened_at file ppem = opened_after ppem (Ok tt) file

-- the setting of a font that was opened; or the first cause why there is none
unfoldable pub setting_after : Opening → Mode → Result Setting Refusal
setting_after opening mode = do
  opened ← opening
  setting_in opened mode

-- the setting of a font file at a size, or the first cause why there is none
unfoldable pub setting_of : FontFileView → ℕ → Mode → Result Setting Refusal
setting_of file ppem mode = do
  opened ← opened_at file ppem
  setting_in opened mode

-- the same for characters that are made one by one
unfoldable pub setting_for : FontFileView → ℕ → List ℕ → Mode → Result Setting Refusal
setting_for file ppem chars mode = do
  opened ← opened_many_of file ppem chars
  setting_in opened mode

-- the strike of an opened font, a title and characters, or the first cause why there is none
unfoldable pub plan_in : Opened → Title → List ℕ → Mode → OnRefused → Result Plan Refusal
plan_in opened title chars mode refused = do
  setting ← setting_in opened mode
  plan_with setting title chars refused

-- and of a font file
unfoldable pub plan_of : FontFileView → ℕ → Title → List ℕ → Mode → OnRefused → Result Plan Refusal
plan_of file ppem title chars mode refused = do
  opened ← opened_of file ppem title chars
  plan_in opened title chars mode refused

-- the sketch of a code point of an opened font, none if the font lacks it; or the first cause
unfoldable pub one_in : Opened → ℕ → Mode → Result (Option Sketch) Refusal
one_in opened code mode = do
  setting ← setting_in opened mode
  one_with setting code

-- and of a font file: it is refused as the strike of that one character is, but for its title
unfoldable pub one_of : FontFileView → ℕ → ℕ → Mode → Result (Option Sketch) Refusal
one_of file ppem code mode = do
  opened ← opened_one_of file ppem code
  one_in opened code mode

-- ---- its bits and its text

-- the glyph of a sketch: of all pixels of the plane exactly those are set whose centre is covered, with drop-out control also those
-- that close a gap, in their tight box
pub record IsGlyphOf (sketch : Sketch) (glyph : Glyph) : Type 0 where
  pub code : glyph.code ≡ sketch.code
  pub swidth : glyph.swidth ≡ sketch.swidth
  pub dwidth : glyph.dwidth ≡ sketch.dwidth
  pub bits : (col row : ℤ) → IsTrue (glyph_bit glyph col row) ↔ IsPixelSet sketch.shape.rule sketch.shape.spans col row
  pub tight : IsTight glyph.box (glyph_bit glyph)
  pub formed : IsFormed glyph

-- one for each sketch
abbrev pub AreGlyphsOf : List Sketch → List Glyph → Type 0
AreGlyphsOf [] [] = Unit {0}
AreGlyphsOf (s ∷ ss) (g ∷ gs) = IsGlyphOf s g × AreGlyphsOf ss gs
AreGlyphsOf _ _ = ⊥

-- the numbers in the lines before the glyphs
abbrev pub header_of : Plan → List Glyph → Header
header_of plan glyphs = record {
  ppem = plan.ppem;
  bounds = bounds_of (map (λ g. g.box) glyphs);
  ascent = plan.ascent;
  descent = plan.descent;
  glyphs = length plan.sketches;
}

-- the properties beside FONT_ASCENT and FONT_DESCENT
abbrev pub properties_of : Plan → List Glyph → List PropertyView
properties_of plan glyphs = all_properties plan.x11 plan.name plan.ppem (summary_of glyphs) plan.properties

-- the text of a strike with these glyphs
unfoldable pub strike_text : Plan → List Glyph → List ℕ
strike_text plan glyphs =
    header_text plan.name (properties_of plan glyphs) (header_of plan glyphs) ++ (flat_map glyph_text glyphs ++ end_text)
