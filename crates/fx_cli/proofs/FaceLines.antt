-- The lines of all faces are those before one, its own and those after it: `lines_parted`. They are few enough for an exact count.
-- Serves `put_faces`, which writes them one after another.
use Rattle.std.proofs.Common.{◌≡◌, ◌∙◌, ℕ, zero, suc, ◌+◌, ◌*◌, ◌^◌, ◌<◌, ◌≤◌, List, [], ◌∷◌, ◌++◌, length, Bool, true, false}
use Rattle.std.proofs.Common.{Option, Some, None, Result, Ok, Err, sym, ap, arith, append_assoc, append-nil, length-append, inl, inr}
use Rattle.std.proofs.Common.{drop, get_or, lit<, refl, set, take}
use Rattle.std.specs.Prelude.{codes, nat_le, if◌then◌else◌}
use Rattle.std.specs.Fmt.{decimal}
use Rattle.std.specs.Option.{option_or}
use Rattle.std.proofs.lemmas.Bool.{cases_lt, leb-true}
use Rattle.std.proofs.lemmas.Fmt.{length-decimal-le}
use Rattle.std.proofs.lemmas.List.{drop-set-lt, drop_more, get_or_append_left, length-map, map_more, take_more_set}
use Rattle.fx_sfnt.specs.Collections.{face_in}
use Rattle.fx_sfnt.specs.Tables.{Face, font_of}
use Rattle.fx_sfnt.specs.declared.fault.FontFault.{FontFault}
use Rattle.fx_names.specs.Names.{name_of}
use Rattle.fx_front.specs.Lines.{shown, shown_text}
use Rattle.fx_cli.specs.Faces.{face_line, face_lines, face_said, longest_lines, longest_name, name_said}

-- ---- one after another

-- one line more
pub lines_more : (bytes : List ℕ) (i : ℕ) → face_lines bytes i ++ face_line bytes i ≡ face_lines bytes (i + 1)
unfolding face_lines
lines_more bytes i = let next : suc i ≡ i + 1 = omega arith in ap (face_lines bytes) next

pub lines_parted : (bytes : List ℕ) (i n : ℕ) → i < n
    → (rest : List ℕ) × (face_lines bytes i ++ (face_line bytes i ++ rest) ≡ face_lines bytes n)
unfolding face_lines
lines_parted bytes i zero h = absurd (omega arith)
lines_parted bytes i (suc n) h = elim (cases_lt i n) [
  | inl low ↦
      let before = lines_parted bytes i n low in (
        before.0 ++ face_line bytes n,
        ap (λ (t : List ℕ). face_lines bytes i ++ t) (sym (append_assoc (face_line bytes i) before.0 (face_line bytes n)))
            ∙ sym (append_assoc (face_lines bytes i) (face_line bytes i ++ before.0) (face_line bytes n))
            ∙ ap (λ (t : List ℕ). t ++ face_line bytes n) before.1,
      )
  | inr high ↦
      let here : i ≡ n = omega arith in (
        [],
        ap (λ (t : List ℕ). face_lines bytes i ++ t) (append-nil (face_line bytes i))
            ∙ ap (λ (k : ℕ). face_lines bytes k ++ face_line bytes k) here,
      )
]

-- ---- a name

-- a byte more of a name that was put at the front of a buffer is shown
pub byte_shown : (name old buffer new : List ℕ) (i v : ℕ) → new ≡ name ++ old → i < length name → i < length buffer
    → drop i buffer ≡ drop i new → take i buffer ≡ shown_text (take i name) → v ≡ shown (get_or buffer i 0)
    → (take (i + 1) (set buffer i v) ≡ shown_text (take (i + 1) name)) × (drop (i + 1) (set buffer i v) ≡ drop (i + 1) new)
byte_shown name old buffer new i v n low within rest so_far is =
    let long : i < length new = omega (arith, ap length n, length-append name old, low) in
    let here : get_or buffer i 0 ∷ drop (i + 1) buffer ≡ get_or new i 0 ∷ drop (i + 1) new
    = sym (drop_more buffer i 0 within) ∙ rest ∙ drop_more new i 0 long in
    let head : get_or buffer i 0 ≡ get_or new i 0 = cc in
    let tail : drop (i + 1) buffer ≡ drop (i + 1) new = cc in
    let same : get_or new i 0 ≡ get_or name i 0 = ap (λ (t : List ℕ). get_or t i 0) n ∙ get_or_append_left name old 0 i low in
    let value : v ≡ shown (get_or name i 0) = is ∙ ap shown (head ∙ same) in (
      take_more_set buffer i v within ∙ (λ k. so_far k ++ value k ∷ []) ∙ sym (map_more shown name i 0 low),
      drop-set-lt (i + 1) buffer i v (omega arith) ∙ tail,
    )

-- ---- their length

name_short : (name : Option (List ℕ)) (otherwise : List ℕ) → length otherwise ≤ longest_name
    → length (name_said name otherwise) ≤ longest_name
name_short None otherwise low = low
name_short (Some name) otherwise low = by_test (nat_le (length name) longest_name) (leb-true (length name) longest_name)
  where
    by_test : (t : Bool) → (t ≡ true → length name ≤ longest_name)
        → length (if t then shown_text name else otherwise) ≤ longest_name
    by_test true fits = omega (arith, length-map name shown, fits refl)
    by_test false fits = low

said_short : (face : Result Face FontFault) → length (face_said face) ≤ 2 * longest_name + 1
said_short (Ok face) =
    let family = name_said (option_or (name_of face 16) (name_of face 1)) (codes "-") in
    let style = name_said (option_or (name_of face 17) (name_of face 2)) (codes "Regular") in
    let few = name_short (option_or (name_of face 16) (name_of face 1)) (codes "-") (omega arith) in
    let more = name_short (option_or (name_of face 17) (name_of face 2)) (codes "Regular") (omega arith) in
    omega (arith, length-append family (9 ∷ style), few, more)
said_short (Err fault) = omega arith

line_short : (bytes : List ℕ) (face : ℕ) → face < 2 ^ 32 → length (face_line bytes face) ≤ 4096
unfolding face_line
line_short bytes face low =
    let said = face_said (font_of (face_in bytes face)) in
    let digits = length-decimal-le 10 face (lit< tt) (omega arith) (omega arith) in
    omega (
      arith,
      length-append (decimal face) (9 ∷ (said ++ 10 ∷ [])),
      length-append said (10 ∷ []),
      digits,
      said_short (font_of (face_in bytes face)),
    )

lines_few : (bytes : List ℕ) (n : ℕ) → n ≤ 2 ^ 32 → length (face_lines bytes n) ≤ 4096 * n
unfolding face_lines
lines_few bytes zero low = omega arith
lines_few bytes (suc n) low =
    omega (
      arith,
      length-append (face_lines bytes n) (face_line bytes n),
      lines_few bytes n (omega arith),
      line_short bytes n (omega arith),
    )

pub lines_short : (bytes : List ℕ) (n : ℕ) → n < 2 ^ 32 → length (face_lines bytes n) ≤ longest_lines
lines_short bytes n low = omega (arith, lines_few bytes n (omega arith))
