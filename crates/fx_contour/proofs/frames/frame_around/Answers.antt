use Rattle.std.proofs.Common.{subst, arith}
use Rattle.std.proofs.lemmas.Result.{err_from_is_err_and}
use Rattle.std.proofs.lemmas.Int.{ints}
use Rattle.fx_contour.specs.Bounds.{AreBoundsOf}
use Rattle.fx_contour.proofs.Framed.{same_pixels, same_none, no_box, no_columns, no_rows, too_large, is_frame}
use Rattle.fx_contour.proofs.frames.frame_around.Goals as goal

pub returns-in_default-clause-ok : goal.returns-in_default-clause-ok
returns-in_default-clause-ok c ss a = no_box c.args.bounds ss c.in_default.is a

pub returns-in_default-between-clause-ok : goal.returns-in_default-between-clause-ok
returns-in_default-between-clause-ok c ss a =
    let b = c.in-Some.bounds in
    no_columns b ss (subst (λ o. AreBoundsOf o ss) c.in-Some.is a)
    (same_none _ _ b.left b.right (omega (arith, ints)) (omega (arith, ints)) c.in_default-between.ensures)

pub returns-in_default-between-2-clause-ok : goal.returns-in_default-between-2-clause-ok
returns-in_default-between-2-clause-ok c ss a =
    let b = c.in-Some.bounds in
    no_rows b ss (subst (λ o. AreBoundsOf o ss) c.in-Some.is a)
    (same_none _ _ b.bottom b.top (omega (arith, ints)) (omega (arith, ints)) c.in_default-between-2.ensures)

pub returns-in_err-box_of-clause-fault : goal.returns-in_err-box_of-clause-fault
returns-in_err-box_of-clause-fault c ss a =
    let p = err_from_is_err_and c.from_residual.result c.from_residual.ensures.1 in
    let b = c.in-Some.bounds in
    let s = c.in-Some-between.columns in
    let r = c.in-Some-between-2.rows in
    let f = c.in_err-box_of.ensures.fault in
    rw (p.1, p.2) (
      f.0,
      too_large b ss s r (subst (λ o. AreBoundsOf o ss) c.in-Some.is a)
          (same_pixels s _ _ b.left b.right (omega (arith, ints)) (omega (arith, ints)) c.in-Some-between.ensures)
          (same_pixels r _ _ b.bottom b.top (omega (arith, ints)) (omega (arith, ints)) c.in-Some-between-2.ensures) f.1,
    )

pub returns-clause-ok : goal.returns-clause-ok
returns-clause-ok c ss a =
    let b = c.in-Some.bounds in
    let s = c.in-Some-between.columns in
    let r = c.in-Some-between-2.rows in
    let f = c.in_ok-box_of.ensures.ok in
    is_frame b ss s r _ (subst (λ o. AreBoundsOf o ss) c.in-Some.is a)
    (same_pixels s _ _ b.left b.right (omega (arith, ints)) (omega (arith, ints)) c.in-Some-between.ensures)
    (same_pixels r _ _ b.bottom b.top (omega (arith, ints)) (omega (arith, ints)) c.in-Some-between-2.ensures) f

pub returns-in_err-box_of-clause-ok : goal.returns-in_err-box_of-clause-ok
returns-in_err-box_of-clause-ok c ss a = rw (err_from_is_err_and c.from_residual.result c.from_residual.ensures.1).1 tt
