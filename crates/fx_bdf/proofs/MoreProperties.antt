-- The properties of X11 before given ones make lines that are short enough: `lines_with_x11`.
-- Serves `fields_from`, `push_untaken`, `x11_properties` and `all_properties`.
use Rattle.std.proofs.Common.{◌≡◌, ℕ, ◌^◌, ◌<◌, ◌≤◌, zero, suc, Bool, true, not, List, length, arith, ℤ, pos, negsuc}
use Rattle.std.proofs.Common.{FitsSigned, w32, length-append}
use Rattle.std.specs.Prelude.{filter, nat_le}
use Rattle.std.specs.List.{after_first, list_all}
use Rattle.std.proofs.lemmas.Bool.Decides.{nat_tests}
use Rattle.std.proofs.lemmas.Int.{ints}
use Rattle.std.proofs.lemmas.List.{length-drop, length-take}
use Rattle.std.proofs.lemmas.List.Elements.{All-filter}
use Rattle.std.proofs.lemmas.List.Folds.{list_all-append}
use Rattle.std.proofs.lemmas.List.Sums.{AllPass-from_list_all, count_by-le-length, length-filter, list_all-from_AllPass}
use Rattle.fx_bdf.specs.declared.property.Property.{Property}
use Rattle.fx_bdf.specs.declared.summary.Summary.{Summary}
use Rattle.fx_bdf.specs.Properties.{AreLines, AreProperties, PropertyView, is_integer, is_line, is_taken, longest_string}
use Rattle.fx_bdf.specs.Properties.{seen_properties}
use Rattle.fx_bdf.specs.Text.{IsName}
use Rattle.fx_bdf.specs.X11.{before_given, default_properties, fields_from, is_hyphen}
use Rattle.fx_bdf.specs.X11.{name_properties, part_of, size_properties, width_properties, x11_properties}
use Rattle.fx_bdf.proofs.GoodProperties.{few_and_short}
use Rattle.fx_bdf.proofs.Parts.{name_short}

-- ---- those whose names are free

abbrev pub untaken : List PropertyView → List Property → List PropertyView
untaken given more = filter (λ p. not (is_taken given p.name)) (seen_properties more)

-- ---- how long they are

fields_short : (n : ℕ) (xs : List ℕ) → length (fields_from n xs) ≤ length xs
fields_short zero xs = omega arith
fields_short (suc n) xs = grind (arith, fields_short n (after_first is_hyphen xs), length-drop)

part_short : (n : ℕ) (instead name : List ℕ) → length instead ≤ 255 → length name ≤ 255
    → nat_le (length (part_of n instead name)) longest_string ≡ true
unfolding part_of
part_short n instead name few small = grind (arith, nat_tests, few, small, fields_short n name, length-take)

-- an integer of 32 bits has a short line
fits_integer : (n : ℤ) → FitsSigned w32 n → is_integer n ≡ true
fits_integer (pos n) h = grind (arith, ints, nat_tests)
fits_integer (negsuc n) h = grind (arith, ints, nat_tests)

name_lines : (name : List ℕ) → IsName name → list_all is_line (name_properties name) ≡ true
name_lines name named = grind (arith, nat_tests, named, name_short, part_short)

size_lines : (ppem : ℕ) → ppem < 2 ^ 16 → list_all is_line (size_properties ppem) ≡ true
size_lines ppem small = grind (arith, nat_tests, small)

width_lines : (summary : Summary) → FitsSigned w32 summary.average_width → list_all is_line (width_properties summary) ≡ true
width_lines summary fits = grind (arith, nat_tests, fits, fits_integer)

default_lines : (replacement space : Bool) → (list_all is_line (default_properties replacement space) ≡ true)
    × (length (default_properties replacement space) ≤ 1)
default_lines replacement space = grind (arith, nat_tests)

all-filter : (p q : PropertyView → Bool) (xs : List PropertyView) → list_all p xs ≡ true → list_all p (filter q xs) ≡ true
all-filter p q xs h = list_all-from_AllPass p (filter q xs) (All-filter q (λ x. p x ≡ true) xs (AllPass-from_list_all p xs h))

-- the lines of X11's properties are short
x11_lines : (name : List ℕ) (ppem : ℕ) (summary : Summary) → IsName name → ppem < 2 ^ 16
    → FitsSigned w32 summary.average_width → list_all is_line (x11_properties name ppem summary) ≡ true
x11_lines name ppem summary named small fits =
    grind (arith, nat_tests, named, small, fits, list_all-append, name_lines, size_lines, width_lines, default_lines)

-- and so are those of all properties
more_lines : (more given : List PropertyView) → length more ≤ 12 → list_all is_line more ≡ true → AreProperties given
    → AreLines (before_given more given)
unfolding before_given
more_lines more given few short good =
    grind (
      arith,
      nat_tests,
      few_and_short given good,
      few,
      short,
      all-filter,
      list_all-append,
      length-append,
      length-filter,
      count_by-le-length,
    )

pub lines_with_x11 : (name : List ℕ) (ppem : ℕ) (summary : Summary) (given : List PropertyView) → IsName name → ppem < 2 ^ 16
    → FitsSigned w32 summary.average_width → AreProperties given
    → AreLines (before_given (x11_properties name ppem summary) given)
lines_with_x11 name ppem summary given named small fits good =
    more_lines (x11_properties name ppem summary) given (omega (arith, (default_lines summary.has_replacement summary.has_space).1))
    (x11_lines name ppem summary named small fits) good

pub given_lines : (given : List PropertyView) → AreProperties given → AreLines given
given_lines given good = grind (arith, few_and_short given good)
