-- What is written for help, the version and the meaning of a refusal.
use Rattle.std.specs.Prelude.{◌≡◌, ◌⊎◌, ◌++◌, ℕ, [], map, codes, Option, Some, None, Ok, Err}
use Rattle.fx_fixed.specs.Changes.{Change}
use Rattle.fx_fixed.specs.Wrote.{Wrote}
use Rattle.fx_fixed.specs.declared.sink.WriteFailed.{WriteFailed}
use Rattle.fx_words.specs.Parts.{Text}
use Rattle.fx_words.specs.Sets.{Table, value_of}
use Rattle.fx_front.specs.Lines.{IsSilent, Tells, shown_text}
use Rattle.fx_front.specs.Meant.{usual_for}
use Rattle.fx_front.specs.Asked.{AskedView, help, version, refusal, run}
use Rattle.fx_front.specs.declared.help.TheConstants.{HELPS, OVERVIEW, REFUSALS, VERSION}

-- all of a text was written and the status is 0, or its first bytes with a fault and it is 1
abbrev pub Prints : Change → Text → ℕ → Type 0
Prints out text status = (Wrote out text (Ok tt) × (status ≡ 0))
    ⊎ ((fault : WriteFailed) × Wrote out text (Err fault) × (status ≡ 1))

-- the help of each command that has one
abbrev pub helps : Table
helps = map (λ row. (row.0.now, row.1.now)) HELPS

-- that there is no help for a command
abbrev pub no_help : Text → Text
no_help command = shown_text (codes "there is no help for '")
    ++ (shown_text command ++ (shown_text (codes "'; 'mkstrike help' lists the commands") ++ []))

-- the help in a row was printed; without one two lines say so, the status is 2, and nothing else was written
abbrev pub HelpsBy : {E : Type 0} → Option Text → Text → Change → (E → E → Change) → E → E → Option ℕ → Type 0
HelpsBy (Some text) command out told was now status =
    (own : ℕ) × (status ≡ Some own) × Prints out text own × IsSilent (told was now)
HelpsBy {E} None command out told was now status = (status ≡ Some 2) × IsSilent out
    × ((between : E) × Tells (told was between) (codes "usage") × Tells (told between now) (no_help command))

-- what each refusal means, by its number and its name
abbrev pub meanings : Table
meanings = map (λ row. (row.0.now, row.1.now)) REFUSALS

unfoldable pub meaning_of : Text → Option Text
meaning_of word = usual_for meanings word []

-- that there is no such refusal
abbrev pub no_refusal : Text → Text
no_refusal word = shown_text (codes "no refusal has the number or the name '")
    ++ (shown_text word ++ (shown_text (codes "'; docs/REFUSALS.md has all") ++ []))

-- the meaning in a row was printed; without one a line says so, the status is 1, and nothing else was written
abbrev pub ExplainsBy : Option Text → Text → Change → Change → Option ℕ → Type 0
ExplainsBy (Some text) word out err status = (own : ℕ) × (status ≡ Some own) × Prints out text own × IsSilent err
ExplainsBy None word out err status = (status ≡ Some 1) × IsSilent out × Tells err (no_refusal word)

-- what was written for what is asked, and the status; no status for a run, before which nothing is written
abbrev pub Answered : {E : Type 0} → AskedView → Change → (E → E → Change) → E → E → Option ℕ → Type 0
Answered version out told was now status =
    (own : ℕ) × (status ≡ Some own) × Prints out VERSION.now own × IsSilent (told was now)
Answered (help None) out told was now status =
    (own : ℕ) × (status ≡ Some own) × Prints out OVERVIEW.now own × IsSilent (told was now)
Answered (help (Some command)) out told was now status =
    HelpsBy (value_of helps command) command out told was now status
Answered (refusal word) out told was now status = ExplainsBy (meaning_of word) word out (told was now) status
Answered run out told was now status = (status ≡ None) × IsSilent out × IsSilent (told was now)
