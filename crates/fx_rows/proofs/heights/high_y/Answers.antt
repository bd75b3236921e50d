use Rattle.std.proofs.Common.{inl, arith}
use Rattle.std.proofs.lemmas.Int.{clamps}
use Rattle.fx_fixed.proofs.Linear.{signed_linear}
use Rattle.fx_winding.specs.Winding.{place_of, IsBelowHigh}
use Rattle.fx_rows.proofs.Extents.{here, is_below, near_heights}
use Rattle.fx_rows.proofs.heights.high_y.Goals as goal

pub returns-in-None-clause-above : goal.returns-in-None-clause-above
returns-in-None-clause-above c = λ y l.
    rw c.in-None.is (inl (omega (arith, signed_linear, clamps, l), tt, omega (arith, signed_linear, clamps, l)))

pub returns-in-Some-clause-above : goal.returns-in-Some-clause-above
returns-in-Some-clause-above c = λ y l.
    let p = c.args.piece.now in
    let b = c.in-Some.b in
    let near = c.high_of.ensures.near in
    rw c.in-Some.is (is_below (place_of p.a) (place_of b) (place_of p.c) y
    (here p.a.y b.y p.c.y (near_heights p.a b p.c) (λ a m e. ¬ (IsBelowHigh a m e y))
    (c.high_of.ensures.above y (omega (arith, signed_linear, l, near)))))
