-- A header and a program are read as the grammar describes them: `found_header`, `found_program`, `only_program`.
-- For the clauses of `read`.
use Rattle.std.proofs.Common.{◌≡◌, ℕ, ◌≤◌, List, ◌++◌, length, take, drop, Some, refl, sym, ap, ◌∙◌, arith, subst}
use Rattle.std.proofs.Common.{append_assoc, length-append}
use Rattle.std.specs.Prelude.{ℤ}
use Rattle.std.specs.Int.{w16, cast_signed}
use Rattle.std.proofs.lemmas.Option.{same_Some}
use Rattle.std.proofs.lemmas.Bool.{ltb-false, le-ltb}
use Rattle.std.proofs.lemmas.List.{take-append-drop, length-take-le, take_at, drop_at}
use Rattle.byteorder.specs.Endian.{big_number}
use Rattle.byteorder.specs.Numbers.{big_from-take, big_from-append}
use Rattle.fx_sfnt.specs.Fields.{field}
use Rattle.fx_glyf.specs.Words.{program_of}
use Rattle.fx_glyf.specs.Glyphs.{x_min_of}
use Rattle.fx_glyf.specs.Grammar.{SpellsProgram, IsHeader}
use Rattle.fx_glyf.proofs.EndPoints.{guarded}
use Rattle.fx_glyf.proofs.ComponentRecords.{field-taken}
use Rattle.fx_glyf.proofs.ComponentRecordsDescribed.{field-front}

-- a program that is read
pub record ProgramFound (bytes code rest : List ℕ) : Type 0 where
  pub front : List ℕ
  pub split : bytes ≡ front ++ rest
  pub spells : SpellsProgram code front

pub found_program : (bytes : List ℕ) (p : List ℕ × List ℕ) → program_of bytes ≡ Some p → ProgramFound bytes p.0 p.1
unfolding program_of field
found_program bytes p e =
    let a = guarded _ _ _ e in
    let b = guarded _ _ _ a.1 in
    let two : 2 ≤ length bytes = ltb-false _ _ a.0 in
    let long : big_number 2 bytes ≤ length (drop 2 bytes) = ltb-false _ _ b.0 in
    let P : List ℕ × List ℕ → Type 0 = λ q. ProgramFound bytes q.0 q.1 in
    subst P (same_Some _ _ b.1) (record {
      front = take 2 bytes ++ take (big_number 2 bytes) (drop 2 bytes);
      split = sym (take-append-drop 2 bytes)
          ∙ ap (λ (x : List ℕ). take 2 bytes ++ x) (sym (take-append-drop (big_number 2 bytes) (drop 2 bytes)))
          ∙ sym (append_assoc (take 2 bytes) (take (big_number 2 bytes) (drop 2 bytes)) (drop (big_number 2 bytes) (drop 2 bytes)));
      spells = record {
        size = take 2 bytes;
        size_is = length-take-le 2 bytes two;
        code_is = length-take-le (big_number 2 bytes) (drop 2 bytes) long ∙ sym (big_from-take 0 2 2 bytes (omega arith));
        split = refl;
      };
    })

program_there : (bytes code rest : List ℕ) → 2 ≤ length bytes → drop 2 bytes ≡ code ++ rest → field 2 bytes 0 ≡ length code
    → program_of bytes ≡ Some (code, rest)
unfolding program_of
program_there bytes code rest two tail size = grind (arith, length-append, le-ltb, take_at, drop_at)

-- a program that is described is read
pub only_program : (code front rest : List ℕ) → SpellsProgram code front → program_of (front ++ rest) ≡ Some (code, rest)
unfolding field
only_program code front rest d =
    let bytes : front ++ rest ≡ d.size ++ (code ++ rest) = ap (λ (x : List ℕ). x ++ rest) d.split ∙ append_assoc d.size code rest in
    let long = length-append d.size (code ++ rest) in
    let two : 2 ≤ length (d.size ++ (code ++ rest)) = omega (arith, d.size_is) in
    let size : big_number 2 (d.size ++ (code ++ rest)) ≡ length code =
    big_from-append 2 d.size (code ++ rest) (omega (arith, d.size_is)) ∙ sym d.code_is in
    ap program_of bytes ∙ program_there (d.size ++ (code ++ rest)) code rest two (drop_at d.size (code ++ rest) 2 d.size_is) size

-- ten bytes are a header
pub found_header : (bytes : List ℕ) → 10 ≤ length bytes → IsHeader (take 10 bytes) (field 2 bytes 0) (x_min_of bytes)
found_header bytes h = record {
  size = length-take-le 10 bytes h;
  contours_are = sym (field-taken 0 10 bytes (omega arith));
  x_min_is = ap (cast_signed w16) (sym (field-taken 2 10 bytes (omega arith)));
}

-- what a header tells of the bytes that it begins
pub record Headed (bytes rest : List ℕ) (contours : ℕ) (x_min : ℤ) : Type 0 where
  pub long : 10 ≤ length bytes
  pub contours_are : field 2 bytes 0 ≡ contours
  pub x_min_is : x_min_of bytes ≡ x_min
  pub rest_is : drop 10 bytes ≡ rest

pub headed : (bytes header rest : List ℕ) (contours : ℕ) (x_min : ℤ) → bytes ≡ header ++ rest → IsHeader header contours x_min
    → Headed bytes rest contours x_min
headed bytes header rest contours x_min e h =
    let long = length-append header rest in
    let P : List ℕ → Type 0 = λ xs. Headed xs rest contours x_min in
    subst P (sym e) (record {
      long = omega (arith, h.size);
      contours_are = field-front 0 header rest (omega (arith, h.size)) ∙ sym h.contours_are;
      x_min_is = ap (cast_signed w16) (field-front 2 header rest (omega (arith, h.size))) ∙ sym h.x_min_is;
      rest_is = drop_at header rest 10 h.size;
    })
