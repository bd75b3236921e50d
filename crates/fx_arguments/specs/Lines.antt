-- The lines for people: the program's name and words, each after a space, and LF.
use Rattle.std.specs.Prelude.{ℕ, Bool, true, false, List, [], ◌∷◌, ◌++◌, codes, Result, Ok, Err}
use Rattle.std.specs.List.{flat_map}
use Rattle.std.specs.Fmt.{decimal}
use Rattle.fx_fixed.specs.declared.sink.WriteFailed.{WriteFailed as Failed}
use Rattle.fx_fixed.specs.Changes.{Change}
use Rattle.fx_fixed.specs.Lines.{hexadecimal}
use Rattle.fx_fixed.specs.Wrote.{Wrote}
use Rattle.fx_machine.specs.declared.halt.Halt.{Halt}
use Rattle.fx_machine.specs.declared.program.FontProgram.{FontProgram}
use Rattle.fx_machine.specs.declared.program.FontProgram.TheVariants.{Fpgm, Prep, Glyph}
use Rattle.fx_request.specs.declared.location.Location.{Location}
use Rattle.fx_request.specs.declared.location.Location.TheVariants as location
use Rattle.fx_request.specs.declared.notice.Notice.{Notice}
use Rattle.fx_request.specs.declared.refusal.Refusal.{Refusal}
use Rattle.fx_request.specs.declared.request.Report.{Report}
use Rattle.fx_request.specs.Refusals.{number_of, name_of, location_of}
use Rattle.fx_arguments.specs.declared.done.Done.{Done}
use Rattle.fx_arguments.specs.declared.done.Done.TheVariants.{Strike, Picture, Outline, Listing, Trace, Faces, Explanation}
use Rattle.fx_arguments.specs.declared.fault.Fault.{Fault}
use Rattle.fx_arguments.specs.declared.fault.Fault.TheVariants.{Usage, Early, Late}

-- words, each after a space
abbrev pub spaced : List (List ℕ) → List ℕ
spaced words = flat_map (λ word. 32 ∷ word) words

-- the line of these words
abbrev pub line_of : List (List ℕ) → List ℕ
line_of words = codes "mkstrike:" ++ (spaced words ++ 10 ∷ [])

-- the line of a bad command line
abbrev pub usage_line : List ℕ
usage_line = line_of (codes "usage" ∷ [])

-- ---- a strike

-- the counts of a strike
abbrev pub counts_of : Report → List (List ℕ)
counts_of report =
    codes "glyphs" ∷ decimal report.glyphs ∷ codes "missing" ∷ decimal report.missing ∷
    codes "strays" ∷ decimal report.usage.strays ∷ codes "steps" ∷ decimal report.usage.steps ∷ []

-- the line of a report
abbrev pub report_line : Report → List ℕ
report_line report = line_of (counts_of report)

-- ---- a refusal

-- which program of the font
abbrev pub program_words : FontProgram → List (List ℕ)
program_words Fpgm = codes "fpgm" ∷ []
program_words Prep = codes "prep" ∷ []
program_words (Glyph g) = codes "glyph" ∷ decimal g ∷ []

-- the program that was started, the program that halted, the address in it and the opcode there in two digits
abbrev pub halt_words : Halt → List (List ℕ)
halt_words halt =
    (codes "during" ∷ program_words halt.during) ++
    ((codes "in" ∷ program_words halt.program) ++
    (codes "at" ∷ decimal halt.address ∷ codes "opcode" ∷ hexadecimal 2 halt.opcode ∷ []))

-- where it is: a table's tag, the number of a glyph, the position of a property, the number of bytes written, or where a program
-- halted
abbrev pub location_words : Location → List (List ℕ)
location_words location.Nowhere = []
location_words (location.Table tag) = tag ∷ []
location_words (location.Glyph g) = decimal g ∷ []
location_words (location.Property i) = decimal i ∷ []
location_words (location.Bytes n) = decimal n ∷ []
location_words (location.Halt halt) = halt_words halt

-- the number, the name and the location
abbrev pub refusal_words : Refusal → List (List ℕ)
refusal_words refusal = decimal (number_of refusal) ∷ name_of refusal ∷ location_words (location_of refusal)

-- the line of a refusal
abbrev pub refusal_line : Refusal → List ℕ
refusal_line refusal = line_of (refusal_words refusal)

-- ---- a character that was refused, while its strike was made

-- what became of it
abbrev pub fate_words : Bool → List (List ℕ)
fate_words true = codes "unhinted" ∷ []
fate_words false = codes "left" ∷ codes "out" ∷ []

-- a code point in at least four hexadecimal digits
abbrev pub code_word : ℕ → List ℕ
code_word code = codes "U+" ++ (hexadecimal 4 code ++ codes ":")

-- the line of a refused character: what became of it, its code point, and why
abbrev pub notice_line : Notice → List ℕ
notice_line notice = line_of (fate_words notice.unhinted ++ code_word notice.code ∷ refusal_words notice.cause)

-- ---- a run

-- the line of a character that the font lacks
abbrev pub missing_line : List ℕ
missing_line = line_of (codes "missing" ∷ [])

-- the line of what a run did: only a strike has one, and the trace of a missing character
abbrev pub done_line : Done → List ℕ
done_line (Strike report) = report_line report
done_line Picture = []
done_line Outline = []
done_line Listing = []
done_line (Trace true) = []
done_line (Trace false) = missing_line
done_line Faces = []
done_line Explanation = []

-- the line of how a run ended
abbrev pub outcome_line : Result Done Fault → List ℕ
outcome_line (Ok done) = done_line done
outcome_line (Err Usage) = usage_line
outcome_line (Err (Early refusal)) = refusal_line refusal
outcome_line (Err (Late refusal)) = refusal_line refusal

-- the status: 0 done, 1 refused, 2 usage
abbrev pub status_of : Result Done Fault → ℕ
status_of (Ok done) = 0
status_of (Err Usage) = 2
status_of (Err _) = 1

-- a text was written, and nothing else; or exactly its first n bytes, with one fault more
abbrev pub Tells : List ℕ → Change → Type 0
Tells text err =
    (result : Result (Unit {0}) Failed) × Wrote err text result
