-- A floored number is the greatest multiple of 64 not above it: `floored_is_greatest`; a ceiled one: `ceiled_is_least`.
-- Serves `laws::multiples`.
use Rattle.std.proofs.Common.{◌≡◌, arith, pos, neg_ℤ, ◌-ℤ◌}
use Rattle.std.proofs.lemmas.Int.{ints}
use Rattle.fx_gstate.proofs.Rounded.{greatest_by_rem}
use Rattle.fx_stackops.specs.Rows.{FlooredIsGreatest, CeiledIsLeast}

pub floored_is_greatest : FlooredIsGreatest
floored_is_greatest a =
    let e : a -ℤ pos 0 ≡ a = omega (arith, ints) in
    rw e at (greatest_by_rem (pos 64) (pos 0) a (omega (arith, ints)))

pub ceiled_is_least : CeiledIsLeast
ceiled_is_least a =
    let g = floored_is_greatest (neg_ℤ a) in record {
      member = record { index = neg_ℤ g.member.index; is = omega (arith, ints, g.member.is) };
      not_below = omega (arith, ints, g.not_above);
      least = λ k p l.
          let q =
          g.greatest (neg_ℤ k) (record { index = neg_ℤ p.index; is = omega (arith, ints, p.is) }) (omega (arith, ints, l))
          in
          omega (arith, ints, q);
    }
