use Rattle.std.proofs.Common.{◌≡◌, ◌*◌, ◌-◌, ◌≤◌}
use Rattle.std.specs.Prelude.{option_map}
use Rattle.fx_tuples.specs.Numbers.{numbers_from, start, state}
use Rattle.fx_tuples.proofs.numbers.skip_numbers.Given as goal

-- after the numbers that are left comes what comes after all
abbrev pub invariant-numbers : goal.invariant-numbers
invariant-numbers l = record {
  same : option_map (λ r. r.1) (numbers_from (l.count - l.k)
      (state l.cursor.again l.cursor.is_wide l.cursor.number l.cursor.bytes.now))
      ≡ option_map (λ r. r.1) (numbers_from l.count (start l.bytes));
  small : l.cursor.number ≤ 65535 * l.k;
}
