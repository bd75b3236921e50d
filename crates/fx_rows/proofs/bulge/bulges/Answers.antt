use Rattle.std.proofs.Common.{◌≡◌, inl, refl, arith, w32, to_z, of_z}
use Rattle.fx_winding.specs.declared.point.Point.{Point}
use Rattle.fx_rows.proofs.Bulges.{beyond_same, or_else}
use Rattle.fx_rows.proofs.Values.{kept_within}
use Rattle.fx_rows.proofs.bulge.bulges.Goals as goal

own_x : (p : Point) → to_z w32 (of_z w32 p.x) ≡ p.x
own_x p = kept_within w32 p.x p.near_x (omega arith)

own_y : (p : Point) → to_z w32 (of_z w32 p.y) ≡ p.y
own_y p = kept_within w32 p.y p.near_y (omega arith)

pub returns-then-is_beyond : goal.returns-then-is_beyond
returns-then-is_beyond c =
    let x = beyond_same c.is_beyond.result (own_x c.args.a) (own_x c.args.b) (own_x c.args.c) c.is_beyond.ensures in
    (λ t. inl (x.0 c.if-is_beyond.true), λ h. refl)

pub returns : goal.returns
returns c =
    or_else c.is_beyond.result c.is_beyond-2.result c.if-is_beyond.false
    (beyond_same c.is_beyond.result (own_x c.args.a) (own_x c.args.b) (own_x c.args.c) c.is_beyond.ensures)
    (beyond_same c.is_beyond-2.result (own_y c.args.a) (own_y c.args.b) (own_y c.args.c) c.is_beyond-2.ensures)
