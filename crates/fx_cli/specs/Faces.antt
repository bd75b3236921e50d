-- The faces of a font file, with their names.
-- OpenType, "name", "Name IDs".
use Rattle.std.specs.Prelude.{◌*◌, ◌^◌, ℕ, zero, suc, List, [], ◌∷◌, ◌++◌, nat_le, length, codes, Option, Some, None, Result, Ok, Err}
use Rattle.std.specs.Prelude.{if◌then◌else◌}
use Rattle.std.specs.Fmt.{decimal}
use Rattle.std.specs.Option.{option_or}
use Rattle.fx_fixed.specs.Chain.{◌>>=◌, map_fault}
use Rattle.fx_sfnt.specs.Collections.{face_count_of, face_in}
use Rattle.fx_sfnt.specs.Tables.{Face, font_of}
use Rattle.fx_sfnt.specs.declared.fault.FontFault.{FontFault}
use Rattle.fx_names.specs.Names.{name_of}
use Rattle.fx_request.specs.Faults.{of_font}
use Rattle.fx_request.specs.declared.refusal.Refusal.{Refusal}
use Rattle.fx_front.specs.Lines.{shown_text}

-- how many bytes a name has at most that is shown
abbrev pub longest_name : ℕ
longest_name = 1024

-- a name as a line shows it, with `?` for each control character; without one, or with one that is too long, another text
abbrev pub name_said : Option (List ℕ) → List ℕ → List ℕ
name_said None otherwise = otherwise
name_said (Some name) otherwise = if nat_le (length name) longest_name then shown_text name else otherwise

-- the typographic family and subfamily of a face, or else its family and subfamily, with a tab (9) between them
abbrev pub names_said : Face → List ℕ
names_said face = name_said (option_or (name_of face 16) (name_of face 1)) (codes "-")
    ++ 9 ∷ name_said (option_or (name_of face 17) (name_of face 2)) (codes "Regular")

-- the same of a face that may be refused
abbrev pub face_said : Result Face FontFault → List ℕ
face_said (Ok face) = names_said face
face_said (Err fault) = codes "-" ++ 9 ∷ codes "-"

-- the line of a face: its number, a tab and its names
unfoldable pub face_line : List ℕ → ℕ → List ℕ
face_line bytes face = decimal face ++ 9 ∷ (face_said (font_of (face_in bytes face)) ++ 10 ∷ [])

-- the lines of the first n faces
unfoldable pub face_lines : List ℕ → ℕ → List ℕ
face_lines bytes zero = []
face_lines bytes (suc n) = face_lines bytes n ++ face_line bytes n

-- how many bytes the lines of the most faces have at most
abbrev pub longest_lines : ℕ
longest_lines = 4096 * 2 ^ 32

-- the lines of all faces of a file; or why its first face is refused
unfoldable pub faces_of : List ℕ → Result (List ℕ) Refusal
faces_of bytes = do
  _ ← map_fault of_font (font_of (face_in bytes 0))
  count ← map_fault of_font (face_count_of bytes)
  Ok (face_lines bytes count)
