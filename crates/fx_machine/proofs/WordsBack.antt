-- Numbers, points and functions come back from their words: `numbers_back`, `points_back`, `functions_back`.
-- For what prep left, which comes back from a block.
use Rattle.std.proofs.Common.{◌≡◌, ℕ, suc, ◌+◌, ◌-◌, ◌*◌, ◌/◌, ◌%◌, ◌<◌, ◌==◌, List, [], ◌∷◌, ◌++◌, length, map, refl}
use Rattle.std.proofs.Common.{arith, Bool, true, false, Option, Some, None}
use Rattle.std.specs.Prelude.{ℤ, All}
use Rattle.std.specs.List.{flat_map}
use Rattle.std.specs.Int.RustNames.{FitsSigned}
use Rattle.std.proofs.lemmas.Int.{to_z-of_z}
use Rattle.std.proofs.lemmas.Grind.{common_steps}
use mir.Syntax.{w32}
use Rattle.fx_zone.specs.declared.point.ZonePoint.{ZonePoint}
use Rattle.fx_machine.specs.declared.definitions.Function.{Function}
use Rattle.fx_machine.specs.declared.program.Program.{Program}
use Rattle.fx_machine.specs.declared.program.Program.TheVariants.{Font, Prep, Glyph}
use Rattle.fx_machine.specs.Words.{number_word, number_in, bit_of, point_words, point_in, points_in, IsPoint, ArePoints}
use Rattle.fx_machine.specs.Words.{AreNumbers, program_number, program_in, function_word, function_in}

first_of : {X : Type 0} (P : X → Type 0) (x : X) (xs : List X) → All P (x ∷ xs) → P x
first_of P x xs h = h 0 x (omega arith)

rest_of : {X : Type 0} (P : X → Type 0) (x : X) (xs : List X) → All P (x ∷ xs) → All P xs
rest_of P x xs h = λ k d l. h (suc k) d (omega arith)

pub numbers_back : (ns : List ℤ) → AreNumbers ns → map number_in (map number_word ns) ≡ ns
numbers_back [] h = refl
numbers_back (n ∷ ns) h =
    rw (to_z-of_z w32 n (first_of (λ m. FitsSigned w32 m) n ns h), numbers_back ns (rest_of (λ m. FitsSigned w32 m) n ns h)) refl

mark_bits : (a b c : Bool) → ((bit_of a + (bit_of b * 2 + bit_of c * 4)) % 2 == 1 ≡ a)
    × ((bit_of a + (bit_of b * 2 + bit_of c * 4)) / 2 % 2 == 1 ≡ b)
    × ((bit_of a + (bit_of b * 2 + bit_of c * 4)) / 4 % 2 == 1 ≡ c)
mark_bits true true true = (refl, refl, refl)
mark_bits true true false = (refl, refl, refl)
mark_bits true false true = (refl, refl, refl)
mark_bits true false false = (refl, refl, refl)
mark_bits false true true = (refl, refl, refl)
mark_bits false true false = (refl, refl, refl)
mark_bits false false true = (refl, refl, refl)
mark_bits false false false = (refl, refl, refl)

pub point_back : (p : ZonePoint) (rest : List ℕ) → IsPoint p → point_in (point_words p ++ rest) ≡ p
point_back p rest h =
    let m = mark_bits p.on p.touched_x p.touched_y in
    rw (
      to_z-of_z w32 p.org.x h.org_x,
      to_z-of_z w32 p.org.y h.org_y,
      to_z-of_z w32 p.cur.x h.cur_x,
      to_z-of_z w32 p.cur.y
          h.cur_y,
      m.0,
      m.1,
      m.2,
    ) refl

pub points_back : (ps : List ZonePoint) (rest : List ℕ) → ArePoints ps
    → points_in (length ps) (flat_map point_words ps ++ rest) ≡ ps
points_back [] rest h = refl
points_back (p ∷ ps) rest h =
    rw (point_back p (flat_map point_words ps ++ rest) (first_of IsPoint p ps h), points_back ps rest (rest_of IsPoint p ps h))
    refl

program_back : (p : Program) → program_in (program_number p) ≡ p
program_back Font = refl
program_back Prep = refl
program_back Glyph = refl

number_small : (p : Program) → program_number p < 3
number_small Font = omega arith
number_small Prep = omega arith
number_small Glyph = omega arith

address_back : (a k : ℕ) → k < 3 → (a * 3 + k + 1 - 1) / 3 ≡ a
address_back a k h = omega arith

kind_back : (a k : ℕ) → k < 3 → (a * 3 + k + 1 - 1) % 3 ≡ k
kind_back a k h = omega arith

not_zero : (n : ℕ) → (n + 1 == 0) ≡ false
not_zero n = grind (arith, common_steps)

pub function_back : (f : Option Function) → function_in (function_word f) ≡ f
function_back None = refl
function_back (Some f) =
    rw (
      not_zero (f.address * 3 + program_number f.program),
      address_back f.address (program_number f.program) (number_small f.program),
      kind_back f.address (program_number f.program) (number_small f.program),
      program_back f.program,
    ) refl

pub functions_back : (fs : List (Option Function)) → map function_in (map function_word fs) ≡ fs
functions_back [] = refl
functions_back (f ∷ fs) = rw (function_back f, functions_back fs) refl
