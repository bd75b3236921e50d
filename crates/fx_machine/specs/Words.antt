-- Numbers, points and functions as words of 32 bits.
use Rattle.std.specs.Prelude.{ℕ, zero, suc, ◌+◌, ◌-◌, ◌*◌, ◌/◌, ◌%◌, ◌==◌, ℤ, if◌then◌else◌, Bool, true, false, nat_lt}
use Rattle.std.specs.Prelude.{List, [], ◌∷◌, ◌++◌, drop, slice_index, Option, Some, None, All}
use Rattle.std.specs.Int.{cast_unsigned, cast_signed}
use Rattle.std.specs.Int.RustNames.{FitsSigned}
use mir.Syntax.{w32}
use Rattle.fx_fixed.specs.declared.places.Place.{Place}
use Rattle.fx_zone.specs.declared.point.ZonePoint.{ZonePoint}
use Rattle.fx_machine.specs.declared.definitions.Function.{Function}
use Rattle.fx_machine.specs.declared.program.Program.{Program}
use Rattle.fx_machine.specs.declared.program.Program.TheVariants.{Font, Prep, Glyph}

-- ---- a number: two's complement

abbrev pub number_word : ℤ → ℕ
number_word z = cast_unsigned w32 z

abbrev pub number_in : ℕ → ℤ
number_in w = cast_signed w32 w

abbrev pub bit_of : Bool → ℕ
bit_of true = 1
bit_of false = 0

-- ---- a point: five words

abbrev pub marks_of : ZonePoint → ℕ
marks_of p = bit_of p.on + (bit_of p.touched_x * 2 + bit_of p.touched_y * 4)

abbrev pub place_words : Place → List ℕ
place_words p = number_word p.x ∷ number_word p.y ∷ []

abbrev pub point_words : ZonePoint → List ℕ
point_words p = place_words p.org ++ (place_words p.cur ++ marks_of p ∷ [])

abbrev pub point_in : List ℕ → ZonePoint
point_in ws = record {
  org = record { x = number_in (slice_index ws 0); y = number_in (slice_index ws 1) };
  cur = record { x = number_in (slice_index ws 2); y = number_in (slice_index ws 3) };
  on = slice_index ws 4 % 2 == 1;
  touched_x = slice_index ws 4 / 2 % 2 == 1;
  touched_y = slice_index ws 4 / 4 % 2 == 1;
}

-- n points
abbrev pub points_in : ℕ → List ℕ → List ZonePoint
points_in zero ws = []
points_in (suc n) ws = point_in ws ∷ points_in n (drop 5 ws)

-- ---- a function: one word

abbrev pub program_number : Program → ℕ
program_number Font = 0
program_number Prep = 1
program_number Glyph = 2

abbrev pub program_in : ℕ → Program
program_in n = if n == 0 then Font else if n == 1 then Prep else Glyph

abbrev pub function_word : Option Function → ℕ
function_word None = 0
function_word (Some f) = f.address * 3 + program_number f.program + 1

abbrev pub function_in : ℕ → Option Function
function_in w = if w == 0 then None else Some (record { program = program_in ((w - 1) % 3); address = (w - 1) / 3 })

-- whether it has a word
abbrev pub is_near : Option Function → Bool
is_near None = true
is_near (Some f) = nat_lt f.address 1073741824

-- ---- what has words

-- a point's numbers are those of 32 bits
pub record IsPoint (p : ZonePoint) : Type 0 where
  pub org_x : FitsSigned w32 p.org.x
  pub org_y : FitsSigned w32 p.org.y
  pub cur_x : FitsSigned w32 p.cur.x
  pub cur_y : FitsSigned w32 p.cur.y

abbrev pub ArePoints : List ZonePoint → Type 0
ArePoints ps = All IsPoint ps

abbrev pub AreNumbers : List ℤ → Type 0
AreNumbers ns = All (λ n. FitsSigned w32 n) ns
