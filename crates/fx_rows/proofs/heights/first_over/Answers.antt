use Rattle.std.proofs.Common.{◌≡◌, pos, ◌+ℤ◌, arith, w32, to_z, of_z}
use Rattle.fx_fixed.proofs.Linear.{signed_linear}
use Rattle.fx_rows.proofs.heights.first_over.Goals as goal

pub returns : goal.returns
returns c =
    let next : to_z w32 (of_z w32 (to_z w32 (of_z w32 c.args.y) +ℤ pos 1)) ≡ c.args.y +ℤ pos 1 =
    omega (arith, signed_linear, c.requires.near) in
    let at = c.first_at.ensures in
    record {
      from = at.from;
      to = at.to;
      below = λ r h l. let b = at.below r h l in omega (arith, signed_linear, b, next);
      rest = λ r h l. let b = at.rest r h l in omega (arith, signed_linear, b, next);
    }
