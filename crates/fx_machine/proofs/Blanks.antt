-- There is a control value for every two bytes of `cvt ` (`controls_count`), and numbers of words fit (`all_numbers_fit`).
-- For `State::blank` and `Machine::of_block`.
use Rattle.std.proofs.Common.{◌≡◌, ℕ, ◌/◌, List, length, map, FitsSigned, arith}
use Rattle.std.specs.Prelude.{codes}
use Rattle.std.specs.Int.{w32}
use Rattle.std.proofs.lemmas.Grind.{common_steps}
use Rattle.std.proofs.lemmas.List.Elements.{All-map}
use Rattle.std.proofs.lemmas.List.FromFn.{length-map-range_with_len}
use Rattle.fx_sfnt.specs.Tables.{Face, table_or_empty}
use Rattle.fx_scale.specs.declared.scale.Scale.{Scale}
use Rattle.fx_scale.specs.Controls.{control_value, control_values}
use Rattle.fx_stackops.specs.Table.{AreNumbers}
use Rattle.fx_machine.specs.Known.{controls_of}
use Rattle.fx_machine.specs.Words.{number_in}

pub controls_count : (face : Face) (scale : Scale)
    → length (controls_of face scale) ≡ length (table_or_empty face (codes "cvt ")) / 2
unfolding control_values
controls_count face scale = length-map-range_with_len (control_value scale (table_or_empty face (codes "cvt "))) 0 _

-- ---- numbers of words

number_fits : (w : ℕ) → FitsSigned w32 (number_in w)
number_fits w = grind (arith, common_steps)

pub all_numbers_fit : (ws : List ℕ) → AreNumbers (map number_in ws)
all_numbers_fit ws = All-map (FitsSigned w32) number_in ws (λ k d h. number_fits _)
