use Rattle.std.proofs.Common.{◌≡◌, arith, w32, to_z, of_z}
use Rattle.fx_fixed.proofs.Linear.{signed_linear}
use Rattle.fx_rows.proofs.heights.first_at.Goals as goal

pub returns : goal.returns
returns c =
    let same : to_z w32 (of_z w32 c.first_from.result) ≡ c.first_from.result =
    omega (arith, signed_linear, c.first_from.ensures.size) in
    let near : to_z w32 (of_z w32 c.args.y) ≡ c.args.y = omega (arith, signed_linear, c.requires.near) in
    let at = c.max.ensures in
    let most = c.min.ensures in
    record {
      from = omega (arith, at, most, c.args.rows.order);
      to = omega (arith, most);
      below = λ r h l. rw near at (c.first_from.ensures.before _ (rw same at (c.rows_below-under.ensures.below r
          (omega (arith, at, most, h, l)))));
      rest = λ r h l. rw near at (c.first_from.ensures.from _ (rw same at (c.rows_below-under.ensures.rest r
          (omega (arith, at, most, h, l)) (omega (arith, c.requires.rows, l)))));
    }
