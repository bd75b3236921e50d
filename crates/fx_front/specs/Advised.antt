-- The two lines of advice after a run.
use Rattle.std.specs.Prelude.{ℕ, ◌==◌, ◌&&◌, ◌-◌, ◌+◌, nat_lt, nat_eq, Bool, false, List, [], ◌∷◌, ◌++◌, codes, not, Option, Some, None, option_map, unwrap_or}
use Rattle.std.specs.Prelude.{if◌then◌else◌}
use Rattle.std.specs.Fmt.{decimal}
use Rattle.std.specs.Int.{w32, from_be_bytes}
use Rattle.std.specs.List.{ends_with, list_any}
use Rattle.std.specs.Str.{bytes_eq}
use Rattle.fx_fixed.specs.Lines.{hexadecimal}
use Rattle.fx_words.specs.Parts.{PartsView, Text, has, value_in}
use Rattle.fx_front.specs.Lines.{shown_text, shown_with}
use Rattle.fx_front.specs.Places.{is_named}
use Rattle.fx_front.specs.Asked.{names_glyph}
use Rattle.fx_front.specs.Kinds.{known_kind}
use Rattle.fx_front.specs.Listed.{list_said}
use Rattle.fx_front.specs.Mistaken.{usage_said}
use Rattle.fx_front.specs.declared.facts.Counts.{Counts}
use Rattle.fx_front.specs.declared.facts.Facts.{Facts}
use Rattle.fx_front.specs.declared.facts.RefusalFacts.{RefusalFacts}

-- ---- after a strike

-- the endings of names of files of other formats
unfoldable pub endings : List Text
endings =
    codes ".psf" ∷ codes ".psfu" ∷ codes ".pcf" ∷ codes ".otb" ∷ codes ".png" ∷ codes ".pbm" ∷ codes ".h" ∷ codes ".c"
    ∷ codes ".gz" ∷ codes ".pf2" ∷ codes ".fnt" ∷ codes ".fon" ∷ codes ".hex" ∷ codes ".ttf" ∷ []

abbrev pub ends_in : List Text → Text → Bool
ends_in endings name = list_any (λ ending. ends_with nat_eq name ending) endings

abbrev pub is_other : Option Text → Bool
is_other None = false
is_other (Some name) = ends_in endings name

-- a file whose name promises another format; a variable font; a font with bitmaps of its own
abbrev pub file_said : Facts → Bool → Option Text → List ℕ
file_said facts is_make output =
    if is_make && is_other output
    then shown_with
    (codes "'%' is BDF, like every strike; strike --format of the package python3-mkstrike makes psf, pcf, otb, png, c and gfx")
    (unwrap_or output [])
    else (if facts.font.is_variable then shown_text (codes "the font is a variable font, and this is its default instance")
    else (if facts.font.has_bitmaps
    then shown_text
    (codes "the font has bitmaps of its own at this size, which are not used: the strike is drawn from its outlines")
    else []))

-- the first line: only a run that is done has one
abbrev pub first_line : Facts → ℕ → PartsView → List ℕ
first_line facts status parts = if status == 0 then file_said facts parts.is_make parts.output else []

-- the list of characters among the words
abbrev pub list_of : PartsView → Option Text
list_of parts = value_in (if parts.is_make then codes "--chars" else codes "--char") parts.words

-- why a strike has no glyph: how many characters are missing, their list, and the words
abbrev pub why_no_glyph : ℕ → Option Text → List Text → Text
why_no_glyph missing list words =
    if nat_lt 0 missing
    then codes "the font has none of the requested characters; --chars is hexadecimal, and the letter A is 41"
    else (if is_named list [] then codes "the list of characters is empty"
    else (if has words (codes "--all") then codes "the font has no character, or all are refused"
    else codes "the requested characters are refused"))

-- where the characters of a font begin that has none of the requested ones
abbrev pub code_said : ℕ → List ℕ
code_said first = shown_text (codes "; the font's characters begin at U+") ++ shown_text (hexadecimal 4 first)

abbrev pub first_said : ℕ → Option ℕ → List ℕ
first_said missing None = []
first_said missing (Some first) = if nat_lt 0 missing then code_said first else []

abbrev pub no_glyph_said : Facts → Counts → PartsView → List ℕ
no_glyph_said facts counts parts =
    shown_with (codes "the strike has no glyph: %") (why_no_glyph counts.missing (list_of parts) parts.words)
    ++ first_said counts.missing facts.font.first

-- which characters are missing, as far as they are named
abbrev pub codes_said : List ℕ → Bool → List ℕ
codes_said missing has_more =
    shown_text (codes ": ") ++ (shown_text missing ++ (if has_more then shown_text (codes ",..; --missing names all") else []))

abbrev pub named_said : Option (List ℕ) → Bool → List ℕ
named_said (Some (b ∷ missing)) has_more = codes_said (b ∷ missing) has_more
named_said missing has_more = []

abbrev pub are_missing : ℕ → Text
are_missing count =
    if count == 1 then codes " of the requested characters is missing in the font"
    else codes " of the requested characters are missing in the font"

abbrev pub missing_said : ℕ → Option (List ℕ) → Bool → List ℕ
missing_said count missing has_more =
    shown_text (decimal count) ++ (shown_text (are_missing count) ++ named_said missing has_more)

abbrev pub strike_said : Facts → Counts → Bool → PartsView → List ℕ
strike_said facts counts is_blank parts =
    if facts.font.is_cut
    then shown_text (
    codes "the font has more than 65,536 characters, and the strike has only the first of them; --chars chooses others"
    )
    else (if counts.glyphs == 0
    then no_glyph_said facts counts parts
    else (if nat_lt 0 counts.missing then missing_said counts.missing facts.font.missing facts.font.has_more
    else (if is_blank then shown_text (codes "no pixel of the strike is set: its characters are blank") else [])))

-- ---- after a refusal

-- the number is among these
abbrev pub is_from : ℕ → ℕ → ℕ → Bool
is_from low high number = nat_lt (low - 1) number && nat_lt number (high + 1)

-- what can be done after a halt: of a glyph's program while a strike is made; of a trace, which always runs the programs
abbrev pub after_halt : Bool → Bool → Bool → Text → List ℕ
after_halt is_make is_glyph is_trace advice =
    (if is_make && is_glyph then shown_text (codes "--refused unhinted draws such characters without hinting; ") else [])
    ++ ((if not is_trace then shown_text (codes "with --unhinted no program of the font runs; ") else [])
    ++ shown_with (codes "to fix the font, %") advice)

-- what a file that is no TrueType font looks like and what to do, if its first bytes are known and tell it
abbrev pub not_truetype : Option (List ℕ) → Text → Text
not_truetype None advice = advice
not_truetype (Some start) advice = unwrap_or (known_kind start) advice

-- the number of fonts in a collection, in the last four of its first twelve bytes
abbrev pub fonts_in : List ℕ → Option ℕ
fonts_in (t ∷ u ∷ v ∷ w ∷ _ ∷ _ ∷ _ ∷ _ ∷ a ∷ b ∷ c ∷ d ∷ []) =
    if bytes_eq (t ∷ u ∷ v ∷ w ∷ []) (codes "ttcf") then Some (from_be_bytes w32 (a ∷ b ∷ c ∷ d ∷ [])) else None
fonts_in start = None

-- how many faces a file has; none, if it is no collection
abbrev pub several_said : ℕ → List ℕ
several_said count =
    shown_text (codes "the collection has ") ++ (shown_text (decimal count)
    ++ (shown_text (codes " fonts: --face takes 0 to ") ++ shown_text (decimal (count - 1))))

abbrev pub fonts_said : Option ℕ → List ℕ
fonts_said None = shown_text (codes "the file is no collection: leave --face out")
fonts_said (Some count) =
    if count == 0 then shown_text (codes "the collection has no font")
    else (if count == 1 then shown_text (codes "the collection has one font: leave --face out") else several_said count)

abbrev pub faces_said : Option (List ℕ) → Text → List ℕ
faces_said None advice = shown_text advice
faces_said (Some start) advice = fonts_said (fonts_in start)

-- what to do after a refusal, by the first bytes of the font's file, the words, and what is wrong first with a list of characters
abbrev pub refusal_said : RefusalFacts → Option (List ℕ) → Bool → PartsView → (Text → List ℕ) → List ℕ
refusal_said refused start is_trace parts wrong_item =
    if refused.number == 10 then shown_text (not_truetype start refused.advice.now)
    else (if is_from 17 23 refused.number && parts.is_make
    then shown_with (codes "%; --refused leave-out does so") refused.advice.now
    else (if refused.number == 24 && names_glyph parts.words refused.glyph
    then shown_text (codes "the font has no glyph of that number")
    else (if refused.number == 25 then faces_said start refused.advice.now
    else (if is_from 30 41 refused.number then after_halt parts.is_make refused.is_halted_glyph is_trace refused.advice.now
    else (if refused.number == 61
    then list_said wrong_item parts.is_make parts.listed (list_of parts) refused.advice.now
    else shown_text refused.advice.now)))))

-- ---- after any run

-- the first bytes of the font's file, if they are known
abbrev pub start_of : Facts → Option (List ℕ)
start_of facts = option_map (λ start. start.items) facts.font.start

-- the second line after a run that is done
abbrev pub done_said : Facts → Bool → PartsView → Option Counts → List ℕ
done_said facts is_blank parts None = []
done_said facts is_blank parts (Some counts) = strike_said facts counts is_blank parts

-- the second line after status 1
abbrev pub refused_said : Facts → Bool → PartsView → (Text → List ℕ) → Option RefusalFacts → List ℕ
refused_said facts is_trace parts wrong_item None = []
refused_said facts is_trace parts wrong_item (Some refused) = refusal_said refused (start_of facts) is_trace parts wrong_item

-- the second line: of a strike, of a refusal, or after a wrong command line
unfoldable pub second_line : Facts → ℕ → Bool → PartsView → Option Text → (List Text → Text) → (Text → List ℕ) → List ℕ
second_line facts status is_blank parts command wrong wrong_item =
    if status == 0 then done_said facts is_blank parts facts.strike
    else (if status == 1 then refused_said facts (is_named command (codes "trace")) parts wrong_item facts.refused
    else usage_said wrong parts command)
