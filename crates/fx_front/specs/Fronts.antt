-- What a run that a command line asks for came to: standard error with its lines, the file of the output, and the status.
use Rattle.std.specs.Prelude.{◌≡◌, ◌⊎◌, ◌&&◌, ℕ, not, Bool, true, false, List, [], ◌++◌, codes, drop, length, take, Option, Some, None}
use Rattle.std.specs.Prelude.{is_some, unwrap_or, if◌then◌else◌}
use Rattle.std.specs.Str.{bytes_eq}
use Rattle.fx_fixed.specs.Changes.{Change}
use Rattle.fx_words.specs.Parts.{PartsView, Text, has_byte, parts_of}
use Rattle.fx_words.specs.Sets.{lists_in}
use Rattle.fx_front.specs.Asked.{asked_by, command_in, font_of, is_explained}
use Rattle.fx_front.specs.Answered.{Answered}
use Rattle.fx_front.specs.Kinds.{package_of}
use Rattle.fx_front.specs.Lines.{SaysLine, Tells, shown_text, unwritten}
use Rattle.fx_front.specs.Places.{RunsTo, ended_status, is_named}
use Rattle.fx_front.specs.Told.{told_first, told_second}
use Rattle.fx_front.specs.declared.facts.Facts.{Facts}
use Rattle.fx_front.specs.declared.run.Ended.{Ended}

-- ---- the words

-- how many words there are up to the command that takes a font; without one, all
abbrev pub count_before : Option Text → Bool → List Text → ℕ
count_before None explained words = length words
count_before (Some command) explained words = if explained then 3 else 2

abbrev pub words_before : List Text → ℕ
words_before words = count_before (command_in words) (is_explained words) words

-- the list that `--set` and `--chars` of `make` stand for among the words after it
abbrev pub listed_after : Bool → List Text → Option Text
listed_after is_make words = if is_make then lists_in words else None

-- the words up to the command and those after it, parted
abbrev pub parted_by : Bool → List Text → List Text → PartsView
parted_by is_make before after = parts_of before is_make (listed_after is_make after) after

abbrev pub parted : List Text → PartsView
parted words = parted_by (is_named (command_in words) (codes "make")) (take (words_before words) words)
    (drop (words_before words) words)

-- the words name a font and an output: their command takes a font, and they are not only explained
abbrev pub names_files : Option Text → Bool → Bool
names_files command explained = is_some command && not explained

-- ---- the lines before a run

-- that the font is read from a terminal
abbrev pub hint : Option Text → Bool → Text
hint font is_terminal = if not (is_some font) && is_terminal
    then codes "the font is read from standard input, which is a terminal here" else []

-- why a font of this name can't be opened
abbrev pub unopened : Text → Text → List ℕ
unopened name why =
    shown_text (codes "can't open the font '") ++ (shown_text name ++ (shown_text (codes "': ") ++ (shown_text why ++ [])))

-- how a font is named: by the first word that no option takes, or, if its name has no folder, by its file
abbrev pub words_named_how : Bool → Text → List ℕ
words_named_how true command =
    shown_text (codes "the first word that is neither an option nor its value names the font; 'mkstrike help ")
    ++ (shown_text command ++ (shown_text (codes "' shows how it is written") ++ []))
words_named_how false command = shown_text (
    codes "the first word that is neither an option nor its value names the font's file; 'fc-list' shows the "
    ++ codes "files of the installed fonts"
    ) ++ []

-- how to install it, or how a font is named
abbrev pub named_how : Option Text → Text → Option Text → List ℕ
named_how (Some advice) name command = shown_text advice ++ []
named_how None name command = words_named_how (has_byte 47 name) (unwrap_or command [])

abbrev pub after_unopened : Text → Text → Option Text → List ℕ
after_unopened name why command =
    named_how (if bytes_eq why (codes "there is no such file") then package_of name else None) name command

-- ---- the run

-- a program ran from one moment to another, of an input, a place and standard error, and ended so; then two lines followed, perhaps
-- without bytes
pub record RunsFrom {R P N E : Type 0} (Ran : Change → Change → Change → ℕ → Facts → Type 0) (read : R → R → Change)
    (Names : P → Option (List ℕ) → P → Type 0) (works : P → Bool) (fresh : Option (List ℕ)) (contents : N → Option (List ℕ))
    (told : E → E → Change)
    (wrong : List Text → Text) (wrong_item : Text → List ℕ) (facts : Facts) (parts : PartsView) (command : Option Text)
    (was now : E) (status : ℕ) (input after : R) (place placed : P)
    : Type 0 where
  pub said : E
  pub between : E
  pub own : Ended
  pub ran : RunsTo (λ sink own. Ran (read input after) sink (told was said) own facts) Names works fresh contents place placed
      (is_named command (codes "trace")) facts own
  pub ended : status ≡ ended_status own.status own.is_named
  pub first : Tells (told said between) (told_first facts own parts)
  pub second : Tells (told between now) (told_second facts own parts command wrong wrong_item)
  pub first_line : SaysLine (told said between)
  pub second_line : SaysLine (told between now)

-- the input of a run whose words name none: standard input, or nothing if that can't be opened or the words are only explained
abbrev pub InputBy : {R : Type 0} → (Option Text → R → Type 0) → (Option Text → Text → Type 0) → (R → Type 0) → Bool → R → Type 0
InputBy Opens Unopened IsEmpty true input = IsEmpty input
InputBy Opens Unopened IsEmpty false input = Opens None input ⊎ ((why : Text) × Unopened None why × IsEmpty input)

-- the program; and what the system answers of a name: that it opens as this input, or why not; that it is this place, or why not
module _ {R P N E : Type 0} (Ran : PartsView → Change → Change → Change → ℕ → Facts → Type 0) (wrong : List Text → Text)
    (wrong_item : Text → List ℕ) (read : R → R → Change) (Names : P → Option (List ℕ) → P → Type 0) (works : P → Bool)
    (fresh : Option (List ℕ)) (contents : N → Option (List ℕ)) (Opens : Option Text → R → Type 0)
    (Unopened : Option Text → Text → Type 0) (IsEmpty : R → Type 0)
    (Places : Option Text → P → Type 0) (Unplaced : Option Text → Text → Type 0) (told : E → E → Change) (facts : Facts)
  where
    -- it ran on these words
    abbrev pub RunsOn : PartsView → Option Text → E → E → ℕ → R → P → Type 0
    RunsOn parts command was now status input place = (after : R) × (placed : P)
        × RunsFrom (Ran parts) read Names works fresh contents told wrong wrong_item facts parts command was now status input after
        place placed

    -- it did not run: the output is not written, as a line says
    abbrev pub IsUnplaced : PartsView → E → E → ℕ → Type 0
    IsUnplaced parts was now status =
        (why : Text) × Unplaced parts.output why × Tells (told was now) (unwritten (unwrap_or parts.output []) why) × (status ≡ 1)

    -- it did not run: the font can't be opened, as two lines say
    abbrev pub IsUnopened : PartsView → Option Text → Text → E → E → ℕ → Type 0
    IsUnopened parts command why was now status = (between : E)
        × Tells (told was between) (unopened (unwrap_or parts.font []) why)
        × Tells (told between now) (after_unopened (unwrap_or parts.font []) why command)
        × SaysLine (told was between) × SaysLine (told between now) × (status ≡ 1)

    -- the font can't be opened: lines say so, unless the words are wrong. If they are, the program ran on nothing, and said so
    abbrev pub RefusesFont : PartsView → Option Text → E → E → ℕ → Type 0
    RefusesFont parts command was now status = (why : Text) × Unopened (font_of parts.font) why
        × (((wrong (drop 1 parts.words) ≡ []) × IsUnopened parts command why was now status)
        ⊎ ((wrong (drop 1 parts.words) ≡ [] → ⊥) × ((input : R) × (place : P) × RunsOn parts command was now status input place
        × IsEmpty input × Places None place)))

    -- a run on FONT and to FILE
    unfoldable pub RunsNamed : PartsView → Option Text → E → E → ℕ → Type 0
    RunsNamed parts command was now status =
        ((input : R) × (place : P) × RunsOn parts command was now status input place × Opens (font_of parts.font) input
        × Places parts.output place)
        ⊎ IsUnplaced parts was now status
        ⊎ RefusesFont parts command was now status

    unfoldable pub RunsUnnamed : PartsView → Option Text → Bool → E → E → ℕ → Type 0
    RunsUnnamed parts command explained was now status = (input : R) × (place : P)
        × RunsOn parts command was now status input place × InputBy Opens Unopened IsEmpty explained input × Places None place

    -- a run of either kind. Before one on a font from a terminal a line says so
    unfoldable pub RunsBy : Bool → Bool → PartsView → Option Text → Bool → E → E → ℕ → Type 0
    RunsBy true is_terminal parts command explained was now status =
        (hinted : E) × Tells (told was hinted) (shown_text (hint (font_of parts.font) is_terminal) ++ [])
        × SaysLine (told was hinted) × RunsNamed parts command hinted now status
    RunsBy false is_terminal parts command explained was now status = RunsUnnamed parts command explained was now status

    abbrev pub RunsWords : Bool → List Text → E → E → ℕ → Type 0
    RunsWords is_terminal words was now status =
        RunsBy (names_files (command_in words) (is_explained words)) is_terminal (parted words) (command_in words)
        (is_explained words) was now status

    -- help, the version or the meaning of a refusal was the answer, with a status; or it was a run
    abbrev pub AnsweredBy : Option ℕ → Bool → List Text → E → E → ℕ → Type 0
    AnsweredBy (Some own) is_terminal words was now status = (status ≡ own) × (now ≡ was)
    AnsweredBy None is_terminal words was now status = RunsWords is_terminal words was now status

    -- what a command line came to
    abbrev pub CameTo : Bool → List Text → Change → E → E → ℕ → Type 0
    CameTo is_terminal words out was now status = (own : Option ℕ) × (between : E)
        × Answered (asked_by words is_terminal) out told was between own
        × AnsweredBy own is_terminal words between now status
