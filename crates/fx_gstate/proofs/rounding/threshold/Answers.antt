use Rattle.std.proofs.Common.{◌≡◌, ◌≢◌, ◌∙◌, ℕ, ◌<◌, ◌≤◌, ◌*◌, ◌%◌, ℤ, pos, negsuc, ◌+ℤ◌, ◌-ℤ◌, ◌*ℤ◌, ◌≤ℤ◌, unsigned_abs}
use Rattle.std.proofs.Common.{arith, w32, to_z, of_z}
use Rattle.std.proofs.lemmas.Int.{ints, to_z-of_z}
use Rattle.std.proofs.lemmas.Bool.Decides.{nat_tests}
use Rattle.fx_fixed.proofs.Linear.{signed_linear}
use Rattle.std.specs.Int.{int_div_euclid}
use Rattle.fx_gstate.specs.Rounding.{threshold_of}
use Rattle.fx_fixed.proofs.Bounds.{product_size}
use Rattle.fx_gstate.proofs.rounding.threshold.Goals as goal

part_of_period_size : (k p : ℕ) → k < 16 → p ≤ 128 → unsigned_abs ((pos k -ℤ pos 4) *ℤ pos p) ≤ 12 * 128
part_of_period_size k p h b = product_size 12 128 (pos k -ℤ pos 4) (pos p) (omega (arith, ints)) (omega (arith, ints))

eighth : (n : ℤ) → unsigned_abs n ≤ 12 * 128
    → (pos 0 ≤ℤ (int_div_euclid n (pos 8) +ℤ pos 256)) × (int_div_euclid n (pos 8) ≤ℤ pos 256)
eighth (pos n) h = (omega (arith, ints), omega (arith, ints))
eighth (negsuc n) h = (omega (arith, ints), omega (arith, ints))

eighths : (p low : ℕ) → low % 16 ≢ 0 → int_div_euclid ((pos (low % 16) -ℤ pos 4) *ℤ pos p) (pos 8) ≡ threshold_of p low
eighths p low h = grind (arith, nat_tests)

pub overflow_mul-from : goal.overflow_mul-from
overflow_mul-from c =
    let a : to_z w32 (of_z w32 (to_z w32 (of_z w32 c.from.result) -ℤ pos 4)) ≡ pos (c.args.low % 16) -ℤ pos 4 =
    omega (arith, signed_linear) in
    let b : to_z w32 c.args.period ≡ pos c.args.period = omega (arith, ints) in
    rw (a, b) (omega (arith, signed_linear, part_of_period_size (c.args.low % 16) c.args.period (omega arith) c.requires.bound))

result : (c : goal.After-div_euclid)
    → to_z w32 (of_z w32 c.div_euclid.result) ≡ int_div_euclid ((pos (c.args.low % 16) -ℤ pos 4) *ℤ pos c.args.period) (pos 8)
result c =
    let n = part_of_period_size (c.args.low % 16) c.args.period (omega arith) c.requires.bound in
    let a : to_z w32 (of_z w32 (to_z w32 (of_z w32 c.from.result) -ℤ pos 4)) ≡ pos (c.args.low % 16) -ℤ pos 4 =
    omega (arith, signed_linear) in
    let b : to_z w32 c.args.period ≡ pos c.args.period = omega (arith, ints) in
    let d : to_z w32 (of_z w32 ((pos (c.args.low % 16) -ℤ pos 4) *ℤ pos c.args.period)) ≡ (pos (c.args.low % 16) -ℤ pos 4) *ℤ
    pos c.args.period =
    omega (arith, signed_linear) in
    let r : to_z w32 (of_z w32 c.div_euclid.result) ≡ c.div_euclid.result =
    to_z-of_z w32 c.div_euclid.result (record { sfits = c.div_euclid.type_inv }) in
    r ∙ rw (a, b, d) at c.div_euclid.ensures

pub returns-in_default-clause-value : goal.returns-in_default-clause-value
returns-in_default-clause-value c = rw (result c) (eighths c.args.period c.args.low (omega arith))

pub returns-in_default-clause-low : goal.returns-in_default-clause-low
returns-in_default-clause-low c =
    let n = part_of_period_size (c.args.low % 16) c.args.period (omega arith) c.requires.bound in
    rw (result c) ((eighth ((pos (c.args.low % 16) -ℤ pos 4) *ℤ pos c.args.period) n).0)

pub returns-in_default-clause-high : goal.returns-in_default-clause-high
returns-in_default-clause-high c =
    let n = part_of_period_size (c.args.low % 16) c.args.period (omega arith) c.requires.bound in
    rw (result c) ((eighth ((pos (c.args.low % 16) -ℤ pos 4) *ℤ pos c.args.period) n).1)
