use Rattle.std.proofs.Common.{◌≡◌, sym, subst, ℤ, arith, w32, to_z, of_z}
use Rattle.fx_fixed.proofs.Linear.{signed_linear}
use Rattle.fx_winding.specs.Winding.{span_of}
use Rattle.fx_rows.specs.inner.Upward.{AreAt}
use Rattle.fx_rows.proofs.Boxed.{IsNear, foot_near}
use Rattle.fx_rows.proofs.note_up.foot_columns.Goals as goal

pub columns_at-requires : goal.columns_at-requires
columns_at-requires c =
    let x = c.foot_x.result in
    let same : to_z w32 (of_z w32 x) ≡ x = omega (arith, signed_linear, c.foot_x.ensures.near) in
    let near = subst (IsNear c.args.placed.frame) (sym same) (foot_near (span_of c.args.piece.now) c.args.placed c.requires x
    c.foot_x.ensures.foot) in
    record {
      near = rw same c.foot_x.ensures.near;
      left = near.left;
      right = near.right;
    }

pub returns : goal.returns
returns c =
    let same : to_z w32 (of_z w32 c.foot_x.result) ≡ c.foot_x.result = omega (arith, signed_linear, c.foot_x.ensures.near) in
    record {
      x = c.foot_x.result;
      is = c.foot_x.ensures.foot;
      at = subst (λ (x : ℤ). AreAt c.args.placed.frame x c.columns_at.result) same c.columns_at.ensures;
    }
