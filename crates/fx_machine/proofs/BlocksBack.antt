-- What `prep` left comes back from its words, list by list: `storage_back`, `cvt_back`, `twilight_back`, `functions_all_back`.
-- For a machine that is made of a block.
use Rattle.std.proofs.Common.{◌≡◌, ℕ, ◌+◌, ◌*◌, ◌^◌, ◌≤◌, ◌==◌, List, [], ◌∷◌, ◌++◌, length, map, refl}
use Rattle.std.proofs.Common.{sym, arith, append_assoc, length-append, Bool, true, false, Option, Some, None}
use Rattle.std.specs.Prelude.{unsigned_abs}
use Rattle.std.specs.List.{flat_map}
use Rattle.std.proofs.lemmas.Int.{to_z-of_z, to_z_pos}
use Rattle.std.proofs.lemmas.Nat.{div-add-mod'}
use Rattle.std.proofs.lemmas.List.{length-map, take_at, drop_at, append-nil}
use mir.Syntax.{w32}
use Rattle.fx_zone.specs.declared.point.ZonePoint.{ZonePoint}
use Rattle.fx_gstate.specs.declared.scan.ScanType.{ScanType}
use Rattle.fx_gstate.specs.declared.scan.ScanType.TheVariants.{Off, Leftmost, Nearest}
use Rattle.fx_machine.specs.declared.usage.Usage.{Usage}
use Rattle.fx_machine.specs.declared.prepared.Prepared.{Prepared}
use Rattle.fx_machine.specs.Words.{number_word, number_in, bit_of, point_words, function_word}
use Rattle.fx_machine.specs.Blocks.{IsNumbered, SaysAll, state_words}
use Rattle.fx_machine.specs.Blocks.{count_of, sizes_of, usage_in, start_in, flags_in, prepared_in}
use Rattle.fx_machine.specs.Prepared.{carried}
use Rattle.fx_machine.specs.Blocks.{control_in, control_word, type_in, type_word}
use Rattle.fx_machine.specs.Blocks.{storage_words, cvt_words, twilight_words, functions_words, opcodes_words}
use Rattle.fx_machine.proofs.WordsBack.{numbers_back, points_back, functions_back}

bit_back : (b : Bool) → (bit_of b == 1) ≡ b
bit_back true = refl
bit_back false = refl

shift_back : (s : ℕ) → s ≤ 6 → unsigned_abs (number_in s) ≡ s
shift_back s h = rw (to_z_pos w32 s (omega arith)) refl

control_back : (c : Option Bool) → control_in (control_word c) ≡ c
control_back None = refl
control_back (Some false) = refl
control_back (Some true) = refl

type_back : (d : ScanType) → type_in (type_word d) ≡ d
type_back Off = refl
type_back Leftmost = refl
type_back Nearest = refl

five_each : (ps : List ZonePoint) → length (flat_map point_words ps) ≡ 5 * length ps
five_each [] = refl
five_each (p ∷ ps) = rw (five_each ps) (omega arith)

module _ (p : Prepared) (rest : List ℕ) where
  -- the words after each part
  unfoldable from_opcodes : List ℕ
  from_opcodes = map function_word p.definitions.opcodes ++ rest

  unfoldable from_functions : List ℕ
  from_functions = map function_word p.definitions.functions ++ from_opcodes

  unfoldable from_twilight : List ℕ
  from_twilight = flat_map point_words p.twilight.points ++ from_functions

  unfoldable from_cvt : List ℕ
  from_cvt = map number_word p.cvt ++ from_twilight

  module _ (u : Usage) where
    abbrev words : List ℕ
    words = state_words p u ++ rest

    at_storage : storage_words words ≡ map number_word p.storage ++ from_cvt
    unfolding from_cvt from_twilight from_functions from_opcodes
    at_storage = simp append_assoc

    at_cvt : cvt_words (sizes_of p) words ≡ from_cvt
    at_cvt = rw at_storage (drop_at (map number_word p.storage) from_cvt (length p.storage) (length-map p.storage number_word))

    at_twilight : twilight_words (sizes_of p) words ≡ from_twilight
    unfolding from_cvt
    at_twilight = rw at_cvt (drop_at (map number_word p.cvt) from_twilight (length p.cvt) (length-map p.cvt number_word))

    at_functions : functions_words (sizes_of p) words ≡ from_functions
    unfolding from_twilight
    at_functions = rw at_twilight (drop_at (flat_map point_words p.twilight.points) from_functions _ (five_each p.twilight.points))

    at_opcodes : opcodes_words (sizes_of p) words ≡ from_opcodes
    unfolding from_functions
    at_opcodes = rw at_functions (drop_at (map function_word p.definitions.functions) from_opcodes _
        (length-map p.definitions.functions function_word))

    storage_back : IsNumbered p → (prepared_in (sizes_of p) words).storage ≡ p.storage
    storage_back h =
        rw (at_storage, take_at (map number_word p.storage) from_cvt (length p.storage) (length-map p.storage number_word))
        (numbers_back p.storage h.storage)

    cvt_back : IsNumbered p → (prepared_in (sizes_of p) words).cvt ≡ p.cvt
    unfolding from_cvt
    cvt_back h = rw (at_cvt, take_at (map number_word p.cvt) from_twilight (length p.cvt) (length-map p.cvt number_word))
        (numbers_back p.cvt h.cvt)

    twilight_back : IsNumbered p → (prepared_in (sizes_of p) words).twilight.points ≡ p.twilight.points
    unfolding from_twilight
    twilight_back h =
        rw (at_twilight, take_at (flat_map point_words p.twilight.points) from_functions _ (five_each p.twilight.points))
        (rw append-nil at (points_back p.twilight.points [] h.twilight))

    functions_all_back : (prepared_in (sizes_of p) words).definitions.functions ≡ p.definitions.functions
    unfolding from_functions
    functions_all_back =
        rw (at_functions, take_at _ from_opcodes _ (length-map p.definitions.functions function_word))
        (functions_back p.definitions.functions)

    opcodes_back : (prepared_in (sizes_of p) words).definitions.opcodes ≡ p.definitions.opcodes
    unfolding from_opcodes
    opcodes_back = rw (at_opcodes, take_at _ rest _ (length-map p.definitions.opcodes function_word))
        (functions_back p.definitions.opcodes)

    start_back : IsNumbered p → carried p.graphics ≡ p.graphics → start_in words ≡ p.graphics
    start_back h c = rw (
      bit_back p.graphics.auto_flip,
      to_z-of_z w32 p.graphics.cut_in h.start.cut_in,
      to_z-of_z w32 p.graphics.minimum_distance h.start.minimum_distance,
      to_z-of_z w32 p.graphics.single_width h.start.single_width,
      to_z-of_z w32 p.graphics.single_width_cut_in h.start.single_width_cut_in,
      to_z-of_z w32 p.graphics.delta_base h.start.delta_base,
      shift_back p.graphics.delta_shift h.start.delta_shift,
      control_back p.graphics.scan_control,
      type_back p.graphics.scan_type,
    ) c

    flags_back : flags_in words ≡ p.flags
    flags_back = rw (bit_back p.flags.no_programs, bit_back p.flags.default_state) refl

-- what prep left comes back from its words
pub prepared_back : (p : Prepared) (u : Usage) (rest : List ℕ) → IsNumbered p → p.twilight.ends ≡ []
    → carried p.graphics ≡ p.graphics
    → prepared_in (sizes_of p) (state_words p u ++ rest) ≡ p
prepared_back p u rest h e c = λ i. record {
  storage = storage_back p rest u h i;
  cvt = cvt_back p rest u h i;
  twilight = record { points = twilight_back p rest u h i; ends = sym e i };
  graphics = start_back p rest u h c i;
  definitions = record { functions = functions_all_back p rest u i; opcodes = opcodes_back p rest u i };
  flags = flags_back p rest u i;
}

pub usage_back : (p : Prepared) (u : Usage) (rest : List ℕ) → usage_in (state_words p u ++ rest) ≡ u
usage_back p u rest = rw (div-add-mod' u.steps (2 ^ 32), div-add-mod' u.strays (2 ^ 32)) refl

length_is : (p : Prepared) (u : Usage) (rest : List ℕ) → length (state_words p u ++ rest) ≡ count_of (sizes_of p) + length rest
length_is p u rest = simp (length-append, length-map, five_each) (omega arith)

-- and they say all of it
pub all_said : (p : Prepared) (u : Usage) (rest : List ℕ) → IsNumbered p → SaysAll (sizes_of p) (state_words p u ++ rest)
all_said p u rest h =
    let l = length_is p u rest in
    record { head = omega (arith, l); sizes = refl; enough = omega (arith, l); shift = h.start.delta_shift }
