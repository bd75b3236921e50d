-- What is seen of characters so far, before the first byte of a strike is written.
use Rattle.std.specs.Prelude.{◌≡◌, neg_ℤ, ℕ, ◌+◌, ◌*◌, ◌^◌, ◌<◌, ◌≤◌, nat_lt, false, List, [], length, map, Result, Ok, Err}
use Rattle.std.specs.List.{sum_by, flat_map, list_any}
use Rattle.fx_fixed.specs.Numbers.{counted}
use Rattle.fx_raster.specs.declared.region.Region.{Region}
use Rattle.fx_bdf.specs.Glyphs.{Box, Glyph, IsPlaced, no_box, joined, bounds_of}
use Rattle.fx_bdf.specs.Properties.{AreProperties}
use Rattle.fx_bdf.specs.Text.{IsName, glyph_text}
use Rattle.fx_machine.specs.Usages.{no_usage, usage_with}
use Rattle.fx_request.specs.Notices.{HearsAll}
pub use Rattle.fx_strike.specs.declared.first_pass.FirstPass.{FirstPass}
pub use Rattle.fx_strike.specs.declared.seen.Seen.{Seen}
use Rattle.fx_strike.specs.Strike.{Sketch, Setting, Plan, Fate, IsGlyphOf, AreGlyphsOf, sketches_in, notices_in, pixels}
use Rattle.fx_strike.specs.Strike.{plan_within, prelude_by, wish_in, rising, Refusal, max_characters, max_code, Notice, OnRefused, Title}
use Rattle.fx_strike.specs.declared.fate.Fate.TheVariants.{Drawn, Unhinted, LeftOut}
use Rattle.fx_strike.specs.Headline.{Surveyed, Survey}
use Rattle.fx_strike.specs.inner.Drawing.{IfDue}
use Rattle.fx_strike.specs.inner.Gathering.{IsGatheredOf, gathered_with, summary_with}
use Rattle.fx_strike.specs.inner.Keeping.{IsKept, Keeps, KeptBytes}
use Rattle.fx_strike.specs.inner.Mapping.{fates_in, mapped_fate_of, mapped_of, Mapped}
use Rattle.fx_strike.specs.inner.Writing.{AreMapped}

-- characters within their limits
pub record AreChars (chars : List ℕ) : Type 0 where
  pub few : length chars ≤ max_characters
  pub small : list_any (nat_lt max_code) chars ≡ false

-- a title within its limits
pub record IsChecked (title : Title) : Type 0 where
  pub name : IsName title.name
  pub properties : AreProperties title.properties

-- an advance has at most 2 ^ 25 pixels
abbrev pub IsNarrow : Seen → Type 0
IsNarrow seen = seen.gathered.total ≤ 2 ^ 25 * seen.glyphs

-- no character
pub record IsEmpty (new : Seen) : Type 0 where
  pub bounds : new.bounds ≡ no_box
  pub gathered : IsGatheredOf [] new.gathered
  pub glyphs : new.glyphs ≡ 0
  pub usage : new.usage ≡ no_usage

-- one character more: its sketch, and the box of the glyphs up to it
pub record AddsSketch (sketch : Sketch) (bounds : Box) (old new : Seen) : Type 0 where
  pub bounds_are : new.bounds ≡ bounds
  pub gathered : new.gathered ≡ gathered_with old.gathered sketch.code sketch.dwidth
  pub narrow : IsNarrow new
  pub glyphs : new.glyphs ≡ old.glyphs + 1
  pub usage : new.usage ≡ usage_with old.usage sketch.usage

-- the pixels of a box
abbrev pub region_of : Box → Region
region_of box = record { left = box.left; bottom = box.bottom; width = box.width; height = box.height }

-- the box of the glyph of a sketch is joined to a box
abbrev pub Joins : Sketch → Box → Box → Type 0
Joins sketch old new = (glyph : Glyph) × IsGlyphOf sketch glyph × (new ≡ joined old glyph.box) × IsPlaced new

-- a character more can be seen
pub record CanSee (seen : Seen) : Type 0 where
  pub few : seen.glyphs < max_characters
  pub placed : IsPlaced seen.bounds
  pub narrow : IsNarrow seen

-- the character of a sketch was seen, and its glyph's lines were kept, if there was room
pub record Has (sketch : Sketch) (old new : Seen) (before after : KeptBytes) : Type 0 where
  pub glyph : Glyph
  pub drawn : IsGlyphOf sketch glyph
  pub placed : IsPlaced new.bounds
  pub adds : AddsSketch sketch (joined old.bounds glyph.box) old new
  pub lines : Keeps (glyph_text glyph) before after

-- a character with this fate was seen
abbrev pub HasFate : Fate → Seen → Seen → KeptBytes → KeptBytes → Type 0
HasFate (Drawn sketch) old new before after = Has sketch old new before after
HasFate (Unhinted notice sketch) old new before after = Has sketch old new before after
HasFate (LeftOut notice) old new before after = (new ≡ old) × (after ≡ before)

-- a character was seen, if what becomes of it is due
abbrev pub SeesOne : Result Fate Refusal → Seen → Seen → KeptBytes → KeptBytes → Result (Unit {0}) Refusal → Type 0
SeesOne due old new before after result =
    IfDue (λ _. (fate : Fate) × (due ≡ Ok fate) × HasFate fate old new before after) due result

-- these characters were seen
pub record Holds (setting : Setting) (refused : OnRefused) (mapped : List Mapped) (seen : Seen) : Type 0 where
  pub fates : List Fate
  pub glyphs : List Glyph
  pub planned : fates_in setting refused mapped ≡ Ok fates
  pub drawn : AreGlyphsOf (flat_map sketches_in fates) glyphs
  pub bounds : seen.bounds ≡ bounds_of (map (λ g. g.box) glyphs)
  pub placed : IsPlaced seen.bounds
  pub gathered : IsGatheredOf glyphs seen.gathered
  pub narrow : IsNarrow seen
  pub count : seen.glyphs ≡ length (flat_map sketches_in fates)
  pub strays : seen.usage.strays ≡ counted (sum_by (λ s. s.usage.strays) (flat_map sketches_in fates))
  pub steps : seen.usage.steps ≡ counted (sum_by (λ s. s.usage.steps) (flat_map sketches_in fates))
  pub each : seen.glyphs ≤ length mapped

-- ---- what is told

abbrev pub notices_by : Result Fate Refusal → List Notice
notices_by (Ok fate) = notices_in fate
notices_by (Err cause) = []

-- a listener hears these if all went well, and else nothing
abbrev pub HearsBy : {L : Type 0} → (L → Notice → L → Type 0) → L → L → List Notice → Result (Unit {0}) Refusal → Type 0
HearsBy Hears was now notices (Ok _) = HearsAll Hears was notices now
HearsBy Hears was now notices (Err refusal) = now ≡ was

-- all that there is to tell of characters
abbrev pub notices_about : Setting → OnRefused → List Mapped → List Notice
notices_about setting refused mapped = flat_map (λ m. notices_by (mapped_fate_of setting refused m)) mapped

-- ---- a survey

-- the survey of the characters that were seen, with the number of those that the font lacks
abbrev pub survey_from : Setting → Seen → ℕ → Survey
survey_from setting seen missing = record {
  bounds = seen.bounds;
  summary = summary_with seen.gathered seen.glyphs;
  wish = wish_in setting.machine;
  ascent = pixels setting.font.hhea.ascender setting.ppem setting.font.head.units_per_em;
  descent = pixels (neg_ℤ setting.font.hhea.descender) setting.ppem setting.font.head.units_per_em;
  report = record {
    glyphs = seen.glyphs;
    missing = missing;
    usage = usage_with (prelude_by setting.machine) seen.usage;
  };
}

-- that of strikes that differ in their title alone
abbrev pub SurveysNameless : (Title → Result Plan Refusal) → Result Survey Refusal → Type 0
SurveysNameless strike result = (title : Title) → IfDue (Surveyed (strike title)) (strike title) result

-- ---- what the first pass leaves

-- the characters of a strike were seen, the lines of the first ones are kept, and this is their survey
pub record IsPassed (setting : Setting) (title : Title) (chars : List ℕ) (refused : OnRefused) (first : FirstPass) : Type 0 where
  pub mapped_are : first.mapped.items ≡ mapped_of setting.map (rising chars)
  pub within : AreMapped first.mapped.items
  pub lines : IsKept setting refused first.mapped.items first.kept
  pub surveyed : Surveyed (plan_within setting title chars refused) first.survey
