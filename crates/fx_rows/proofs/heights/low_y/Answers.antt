use Rattle.std.proofs.Common.{inl, arith}
use Rattle.std.proofs.lemmas.Int.{clamps}
use Rattle.fx_fixed.proofs.Linear.{signed_linear}
use Rattle.fx_winding.specs.Winding.{place_of, IsAboveLow}
use Rattle.fx_rows.proofs.Extents.{here, is_above, near_heights}
use Rattle.fx_rows.proofs.heights.low_y.Goals as goal

pub returns-in-None-clause-below : goal.returns-in-None-clause-below
returns-in-None-clause-below c = λ y l.
    rw c.in-None.is (inl (omega (arith, signed_linear, clamps, l), tt, omega (arith, signed_linear, clamps, l)))

pub returns-in-Some-clause-below : goal.returns-in-Some-clause-below
returns-in-Some-clause-below c = λ y l.
    let p = c.args.piece.now in
    let b = c.in-Some.b in
    let near = c.low_of.ensures.near in
    rw c.in-Some.is (is_above (place_of p.a) (place_of b) (place_of p.c) y
    (here p.a.y b.y p.c.y (near_heights p.a b p.c) (λ a m e. ¬ (IsAboveLow a m e y))
    (c.low_of.ensures.below y (omega (arith, signed_linear, l, near)))))
