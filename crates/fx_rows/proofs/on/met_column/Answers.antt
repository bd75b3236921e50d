use Rattle.std.proofs.Common.{◌≡◌, ◌<◌, Bool, false, not, IsTrue, refl, w32, to_z, of_z, arith}
use Rattle.fx_fixed.proofs.Linear.{signed_linear}
use Rattle.fx_rows.proofs.Contacts.{one_on}
use Rattle.fx_rows.proofs.on.met_column.Goals as goal

is_met : (met : Bool) → not met ≡ false → IsTrue met
is_met met e = grind arith

pub returns : goal.returns
returns c = λ s all.
    let k = c.args.edge.at in
    let to : k < c.args.strip.stop = omega arith in
    one_on s c.args.strip k (to_z w32 (of_z w32 c.column.result)) to (omega (arith, signed_linear))
    ((all k to).1 (refl, is_met c.args.edge.met c.if-not-edge.false)) (λ j l on. ((all j l).0 on).0)
