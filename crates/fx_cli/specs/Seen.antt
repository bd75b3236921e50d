-- What a front learns of the font of a run.
use Rattle.std.specs.Prelude.{◌≡◌, ◌⊎◌, ◌+◌, ◌==◌, ◌&&◌, ℕ, nat_lt, Bool, true, false, List, [], codes, length, take, slice_get, is_some}
use Rattle.std.specs.Prelude.{Option, Some, None, IfSome, option_map, Result, Ok, Err, if◌then◌else◌}
use Rattle.fx_sfnt.specs.Collections.{FontFileView}
use Rattle.fx_sfnt.specs.Tables.{Face, font_of, table_in}
use Rattle.fx_sfnt.specs.declared.fault.FontFault.{FontFault}
use Rattle.fx_cmap.specs.Lookup.{map_of}
use Rattle.fx_cmap.specs.Mapped.{mapped_below}
use Rattle.fx_cmap.specs.declared.fault.CharMapFault.{CharMapFault}
use Rattle.fx_cmap.specs.declared.mapping.Mapping.{Mapping}
use Rattle.fx_request.specs.Characters.{rising}
use Rattle.fx_request.specs.Limits.{max_characters, max_code}
use Rattle.fx_request.specs.declared.refusal.Refusal.{Refusal}
use Rattle.fx_request.specs.declared.request.Report.{Report}
use Rattle.fx_arguments.specs.Commands.{CharacterChoiceView, CommandView, MakeView, TaskView, listed, mapped, seen_characters, strike}
use Rattle.fx_arguments.specs.declared.done.Done.{Done}
use Rattle.fx_arguments.specs.declared.done.Done.TheVariants as done
use Rattle.fx_front.specs.declared.facts.FontFacts.{FontFacts}
use Rattle.fx_cli.specs.Bitmaps.{has_bitmaps}
use Rattle.fx_cli.specs.Missing.{Names, lacking, ranges_of}
use Rattle.fx_cli.specs.declared.seen.Made.{Made}

-- nothing
abbrev pub unseen : FontFacts
unseen = record {
  start = None;
  is_variable = false;
  has_bitmaps = false;
  missing = Some [];
  has_more = false;
  first = None;
  is_cut = false;
}

-- a task draws glyphs: of a variable font these are its default instance's
abbrev pub draws : Done → Bool
draws done.Listing = false
draws done.Faces = false
draws done.Explanation = false
draws _ = true

-- glyphs of a variable font were drawn
abbrev pub is_variable : Result Done Refusal → Result Face FontFault → Bool
is_variable (Ok done) (Ok font) = draws done && is_some (table_in font (codes "fvar"))
is_variable outcome font = false

-- ---- of a strike

-- a strike that was made: its counts, the size and the characters that were asked for, its font and the font's map
pub record MadeView : Type 0 where
  pub report : Report
  pub ppem : ℕ
  pub chars : CharacterChoiceView
  pub font : Face
  pub map : Mapping

abbrev pub seen_made : Made → MadeView
seen_made made = record {
  report = made.report;
  ppem = made.ppem;
  chars = seen_characters made.chars.now;
  font = made.font.now;
  map = made.map;
}

abbrev pub made_with : Report → MakeView → Face → Result Mapping CharMapFault → Option MadeView
made_with report make font (Ok map) =
    Some (record { report = report; ppem = make.ppem; chars = make.chars; font = font; map = map })
made_with report make font (Err fault) = None

-- the strike that a task came to
abbrev pub made_of : Result Done Refusal → TaskView → Result Face FontFault → Option MadeView
made_of (Ok (done.Strike report)) (strike make) (Ok font) = made_with report make font (map_of font)
made_of outcome task font = None

-- the font has bitmaps of its own at the strike's size
abbrev pub has_own_bitmaps : Option MadeView → Bool
has_own_bitmaps None = false
has_own_bitmaps (Some made) = has_bitmaps made.font made.ppem

-- the characters of a map
abbrev pub characters_of : Mapping → List ℕ
characters_of map = mapped_below map (max_code + 1)

-- the first character of the map, if the strike has no glyph
abbrev pub first_of : Option MadeView → Option ℕ
first_of None = None
first_of (Some made) = if made.report.glyphs == 0 then slice_get (characters_of made.map) 0 else None

-- all characters were asked for, and the map has more than a strike takes
abbrev pub takes_all : CharacterChoiceView → Bool
takes_all (listed chars) = false
takes_all mapped = true

abbrev pub has_too_many : Mapping → Bool
has_too_many map = nat_lt max_characters (length (characters_of map))

abbrev pub is_cut : Option MadeView → Bool
is_cut None = false
is_cut (Some made) = takes_all made.chars && has_too_many made.map

-- the characters of the list that the map lacks, as ranges, if the strike counts any
abbrev pub lacked_in : CharacterChoiceView → Mapping → List (ℕ × ℕ)
lacked_in (listed chars) map = ranges_of (lacking map (rising chars))
lacked_in mapped map = []

abbrev pub lacked_of : Option MadeView → List (ℕ × ℕ)
lacked_of None = []
lacked_of (Some made) = if nat_lt 0 made.report.missing then lacked_in made.chars made.map else []

-- what is seen of the font of a strike, if one was made; of the missing characters nothing, if there was no memory for them
pub record SeesStrike (made : Option MadeView) (names_all : Bool) (facts : FontFacts) : Type 0 where
  pub bitmaps : facts.has_bitmaps ≡ has_own_bitmaps made
  pub first : facts.first ≡ first_of made
  pub cut : facts.is_cut ≡ is_cut made
  pub missing : Names names_all (lacked_of made) facts.missing facts.has_more ⊎ Names names_all [] facts.missing facts.has_more

-- ---- of a run

-- the first bytes of the font's file, unless it is hexadecimal text; none if there was no memory for them
abbrev pub SeesStart : Bool → List ℕ → Option (List ℕ) → Type 0
SeesStart true bytes start = start ≡ None
SeesStart false bytes start = IfSome start (λ start. start ≡ take 12 bytes)

-- what is seen of the font of a command, whose task came to this
pub record Sees (command : CommandView) (font : FontFileView) (outcome : Result Done Refusal) (names_all : Bool)
    (facts : FontFacts)
    : Type 0 where
  pub start : SeesStart command.hex font.bytes (option_map (λ start. start.items) facts.start)
  pub variable : facts.is_variable ≡ is_variable outcome (font_of font)
  pub strike : SeesStrike (made_of outcome command.task (font_of font)) names_all facts
