use Rattle.std.proofs.Common.{◌≡◌, ℤ, pos, negsuc, neg_ℤ, ◌-ℤ◌, ◌*ℤ◌, arith}
use Rattle.fx_fixed.proofs.Linear.{signed, signed_linear}
use Rattle.fx_rows.proofs.Sides.{sign_above, sign_below}
use Rattle.fx_rows.proofs.walk.turned_areas.Goals as goal

with_one : (s x : ℤ) → s ≡ pos 1 → x ≡ s *ℤ x
with_one s x e = rw e (omega (arith, signed))

with_minus : (s x y : ℤ) → s ≡ negsuc 0 → y ≡ neg_ℤ x → y ≡ s *ℤ x
with_minus s x y e n = rw e (omega (arith, signed, n))

pub returns-then-piece : goal.returns-then-piece
returns-then-piece c =
    let s = sign_above (c.args.piece.now.c.y -ℤ c.args.piece.now.a.y) (omega (arith, signed_linear)) in
    record { u = with_one _ _ s; v = with_one _ _ s; w = with_one _ _ s }

pub returns : goal.returns
returns c =
    let s = sign_below (c.args.piece.now.c.y -ℤ c.args.piece.now.a.y) (grind (arith, signed_linear, c.requires.slanted)) in
    let m = c.reversed.ensures in
    record { u = with_minus _ _ _ s m.u; v = with_minus _ _ _ s m.v; w = with_minus _ _ _ s m.w }
