-- What a call that makes a strike returns and leaves.
use Rattle.std.specs.Prelude.{◌≡◌, ℕ, ◌+◌, ◌<◌, List, [], ◌∷◌, length, take, Option, Some, None}
use Rattle.std.specs.Prelude.{Result, Ok, Err, IsOk, IfOk, IfErr, IsErrOf, ◌⊎◌}
use Rattle.std.specs.Io.KnownBytes.{Appends, Keeps}
use Rattle.std.specs.List.{sum_by}
pub use Rattle.fx_bdf.specs.declared.header.Header.{Header}
use Rattle.fx_bdf.specs.X11.{summary_of}
use Rattle.fx_fixed.specs.Numbers.{counted}
use Rattle.fx_fixed.specs.Chain.{◌>>=◌}
use Rattle.fx_request.specs.declared.refusal.Refusal.TheVariants.{WriteFailed, ReadFailed, BadHex, InputTooLarge, OutOfMemory}
use Rattle.fx_request.specs.declared.request.OnRefused.TheVariants.{Stop}
pub use Rattle.fx_request.specs.declared.request.Report.{Report}
use Rattle.fx_request.specs.declared.request.Request.{Request}
pub use Rattle.fx_strike.specs.declared.surveyed.Survey.{Survey}
pub use Rattle.fx_fixed.specs.Changes.{Change}
use Rattle.fx_strike.specs.Strike.{Sketch, Opening, Setting, Plan, IsGlyphOf, AreGlyphsOf, header_of, checked_chars, checked_text}
use Rattle.fx_strike.specs.Strike.{opened_of, one_with, plan_with, plan_of, strike_text, FontFileView, Glyph, Notice, Refusal}
use Rattle.fx_strike.specs.Title.{Title, no_title, title_of}

-- the requested strike of a font file, or the first cause why there is none
abbrev pub strike_of : FontFileView → Request → Result Plan Refusal
strike_of file request = plan_of file request.ppem (title_of request) request.chars.now request.mode request.on_refused

-- the outcome of a request before memory is taken: the size, the opened font and its character map; or the first cause
abbrev pub opening_of : FontFileView → Request → Opening
opening_of file request = opened_of file request.ppem (title_of request) request.chars.now

-- what is told of the refused characters of a strike, in rising order; nothing if there is no strike
abbrev pub notices_of : Result Plan Refusal → List Notice
notices_of (Ok plan) = plan.notices
notices_of (Err cause) = []

-- what is counted over a strike: `fpgm` and `prep` once, and each character once
pub record IsReportOf (plan : Plan) (report : Report) : Type 0 where
  pub glyphs : report.glyphs ≡ length plan.sketches
  pub missing : report.missing ≡ plan.missing
  pub strays : report.usage.strays ≡ counted (plan.prelude.strays + sum_by (λ s. s.usage.strays) plan.sketches)
  pub steps : report.usage.steps ≡ counted (plan.prelude.steps + sum_by (λ s. s.usage.steps) plan.sketches)

-- the strike exists, its text was written, and the writer counted no fault
pub record Text (strike : Result Plan Refusal) (change : Change) (report : Report) : Type 0 where
  pub plan : Plan
  pub glyphs : List Glyph
  pub is : strike ≡ Ok plan
  pub drawn : AreGlyphsOf plan.sketches glyphs
  pub written : Appends change.bytes_before change.bytes (strike_text plan glyphs)
  pub quiet : change.faults ≡ change.faults_before
  pub told : IsReportOf plan report

-- a refusal that names a cause: neither out of memory nor a fault of the writer, the reader or the input
abbrev pub IsCause : Refusal → Type 0
IsCause OutOfMemory = ⊥
IsCause (WriteFailed n) = ⊥
IsCause ReadFailed = ⊥
IsCause BadHex = ⊥
IsCause InputTooLarge = ⊥
IsCause _ = Unit {0}

-- the first cause was named, nothing was written, and the writer counted no fault
pub record Cause (strike : Result Plan Refusal) (change : Change) (refusal : Refusal) : Type 0 where
  pub cause : IsCause refusal
  pub first : strike ≡ Err refusal
  pub kept : Keeps change.bytes_before change.bytes
  pub quiet : change.faults ≡ change.faults_before

-- the strike exists, and exactly a beginning of n bytes of its text was written
pub record Begun (strike : Result Plan Refusal) (change : Change) (n : ℕ) : Type 0 where
  pub plan : Plan
  pub glyphs : List Glyph
  pub is : strike ≡ Ok plan
  pub drawn : AreGlyphsOf plan.sketches glyphs
  pub short : n < length (strike_text plan glyphs)
  pub written : Appends change.bytes_before change.bytes (take n (strike_text plan glyphs))

-- out of memory: nothing was written, or the strike exists and a beginning of its text was written; the writer counted no fault
pub record Memory (strike : Result Plan Refusal) (change : Change) : Type 0 where
  pub begun : Keeps change.bytes_before change.bytes ⊎ ((n : ℕ) × Begun strike change n)
  pub quiet : change.faults ≡ change.faults_before

-- memory is taken late: after the checks passed that take none
abbrev pub Late : {Y : Type 0} → Result Y Refusal → Type 0
Late checks = IsOk checks

-- the writer failed: the strike exists, exactly the first n bytes of its text were written, and the writer counted one fault
pub record Writer (strike : Result Plan Refusal) (change : Change) (n : ℕ) : Type 0 where
  pub begun : Begun strike change n
  pub fault : change.faults ≡ change.faults_before + 1

-- each refusal must name a cause, except out of memory and a fault of the writer
abbrev pub HasToName : Refusal → Type 0
HasToName OutOfMemory = ⊥
HasToName (WriteFailed n) = ⊥
HasToName _ = Unit {0}

-- a call that makes a strike: what it returns, and the change of its writer; `checks` are those before it takes memory
pub record Makes {Y : Type 0} (checks : Result Y Refusal) (strike : Result Plan Refusal) (change : Change)
    (result : Result Report Refusal) : Type 0 where
  -- the strike exists, its text was written, and the writer counted no fault
  pub text : IfOk result (Text strike change)
  -- the first cause was named, nothing was written, and the writer counted no fault
  pub cause : IfErr result (λ refusal. HasToName refusal → Cause strike change refusal)
  -- nothing was written, or the strike exists and a beginning of its text was written; and the writer counted no fault
  pub memory : IsErrOf result OutOfMemory → Memory strike change
  -- the checks passed
  pub late : IsErrOf result OutOfMemory → Late checks
  -- the strike exists, exactly the first n bytes of its text were written, and the writer counted one fault
  pub writer : (n : ℕ) → IsErrOf result (WriteFailed n) → Writer strike change n

-- all of it, by the result
abbrev pub Leaves : {Y : Type 0} → Result Y Refusal → Result Plan Refusal → Change → Result Report Refusal → Type 0
Leaves checks strike change (Ok report) = Text strike change report
Leaves checks strike change (Err OutOfMemory) = Late checks × Memory strike change
Leaves checks strike change (Err (WriteFailed n)) = Writer strike change n
Leaves checks strike change (Err refusal) = Cause strike change refusal

-- ---- a survey

-- the numbers in the lines before the glyphs, as a survey has them
abbrev pub surveyed_header : ℕ → Survey → Header
surveyed_header ppem survey = record {
  ppem = ppem;
  bounds = survey.bounds;
  ascent = survey.ascent;
  descent = survey.descent;
  glyphs = survey.report.glyphs;
}

-- the strike exists, and these are the numbers of its header, what its glyphs settle of its properties, and what is counted over it
pub record Surveyed (strike : Result Plan Refusal) (survey : Survey) : Type 0 where
  pub plan : Plan
  pub glyphs : List Glyph
  pub is : strike ≡ Ok plan
  pub drawn : AreGlyphsOf plan.sketches glyphs
  pub header : surveyed_header plan.ppem survey ≡ header_of plan glyphs
  pub summary : survey.summary ≡ summary_of glyphs
  pub wish : survey.wish ≡ plan.wish
  pub told : IsReportOf plan survey.report

-- ---- one character

-- the glyph of a sketch that is due; none if the font lacks the character
abbrev pub IsOneOf : Result (Option Sketch) Refusal → Option Glyph → Type 0
IsOneOf due None = due ≡ Ok None
IsOneOf due (Some glyph) = (sketch : Sketch) × (due ≡ Ok (Some sketch)) × IsGlyphOf sketch glyph

-- ---- with a striker, for which the first refused character refuses the strike

-- the strike of a title and characters, or the first cause why there is none
unfoldable pub strike_with : Setting → Title → List ℕ → Result Plan Refusal
strike_with setting title chars = do
  _ ← checked_text title chars
  plan_with setting title chars Stop

-- that of characters, whatever its title
unfoldable pub nameless_with : Setting → List ℕ → Result Plan Refusal
nameless_with setting chars = do
  _ ← checked_chars chars
  plan_with setting no_title chars Stop

-- the sketch of a code point, none if the font lacks it; or the first cause
unfoldable pub character_with : Setting → ℕ → Result (Option Sketch) Refusal
character_with setting code = do
  _ ← checked_chars (code ∷ [])
  one_with setting code
