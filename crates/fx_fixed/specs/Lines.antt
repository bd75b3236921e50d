-- Texts in lines.
use Rattle.std.specs.Prelude.{ℕ, ◌-◌, List, [], ◌∷◌, ◌++◌, true, length, replicate}
use Rattle.std.specs.Fmt.{digits}

-- a line before a text: its words, one space between two, and LF
abbrev pub line_before : List (List ℕ) → List ℕ → List ℕ
line_before [] text = 10 ∷ text
line_before (word ∷ []) text = word ++ 10 ∷ text
line_before (word ∷ words) text = word ++ 32 ∷ line_before words text

-- lines in turn
abbrev pub text_of : List (List (List ℕ)) → List ℕ
text_of [] = []
text_of (words ∷ lines) = line_before words (text_of lines)

-- a number in upper case hexadecimal digits, with zeros before them if it has fewer than `least`
unfoldable pub hexadecimal : ℕ → ℕ → List ℕ
hexadecimal least n = replicate (least - length (digits 16 true n)) 48 ++ digits 16 true n
