-- The lines that a front writes for people.
use Rattle.std.specs.Prelude.{◌≡◌, ◌⊎◌, ◌<◌, ◌==◌, ◌||◌, ℕ, nat_lt, List, [], ◌∷◌, ◌++◌, map, codes, Option, Some, None, option_map, IfSome, Result}
use Rattle.std.specs.Prelude.{if◌then◌else◌}
use Rattle.std.specs.Borrow.{Bor}
use Rattle.std.specs.List.{All, after_first, before_first, flat_map}
use Rattle.std.specs.Io.KnownBytes.{Keeps}
use Rattle.fx_fixed.specs.Changes.{Change}
use Rattle.fx_fixed.specs.Wrote.{Wrote}
use Rattle.fx_fixed.specs.declared.sink.WriteFailed.{WriteFailed}

-- a text of one line: no control character is in it, so no LF
abbrev pub IsLine : List ℕ → Type 0
IsLine text = All (λ b. 31 < b) text

-- a byte as it is shown: `?` for a control character
abbrev pub shown : ℕ → ℕ
shown byte = if nat_lt byte 32 || byte == 127 then 63 else byte

-- a text as it is shown
abbrev pub shown_text : List ℕ → List ℕ
shown_text bytes = map shown bytes

-- pieces as they are shown, one after the other
abbrev pub shown_pieces : List (Bor (List ℕ)) → List ℕ
shown_pieces pieces = flat_map (λ piece. shown_text piece.now) pieces

-- a pattern as it is shown, with a text in place of its first `%` (37)
abbrev pub shown_with : List ℕ → List ℕ → List ℕ
shown_with pattern text = shown_text (before_first (λ b. b == 37) pattern)
    ++ (shown_text text ++ (shown_text (after_first (λ b. b == 37) pattern) ++ []))

-- more was added to a text, or memory ran out, now or before
abbrev pub Says : Option (List ℕ) → Option (List ℕ) → List ℕ → Type 0
Says old new more = IfSome new (λ text. option_map (λ front. front ++ more) old ≡ Some text)

-- the line of a text: the program's name, the text and LF
abbrev pub line_of : List ℕ → List ℕ
line_of text = codes "mkstrike: " ++ (text ++ 10 ∷ [])

-- nothing was written
abbrev pub IsSilent : Change → Type 0
IsSilent err = Keeps err.bytes_before err.bytes × (err.faults ≡ err.faults_before)

-- the line of a text was written, or the first bytes of it with a fault; or nothing: the text has no bytes, a fault came before, or
-- memory ran out
abbrev pub Tells : Change → List ℕ → Type 0
Tells err text = IsSilent err ⊎ ((result : Result (Unit {0}) WriteFailed) × Wrote err (line_of text) result)

-- the same of a text that memory may have run out for
abbrev pub TellsText : Change → Option (List ℕ) → Type 0
TellsText err None = IsSilent err
TellsText err (Some text) = Tells err text

-- nothing was written, or one line, or the first bytes of one with a fault
abbrev pub SaysLine : Change → Type 0
SaysLine err = IsSilent err
    ⊎ ((text : List ℕ) × IsLine text × ((result : Result (Unit {0}) WriteFailed) × Wrote err (line_of text) result))

-- why an output of this name is not written
abbrev pub unwritten : List ℕ → List ℕ → List ℕ
unwritten name why =
    shown_text (codes "can't write '") ++ (shown_text name ++ (shown_text (codes "': ") ++ (shown_text why ++ [])))
