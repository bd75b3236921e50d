use Rattle.std.proofs.Common.{subst, arith}
use Rattle.std.proofs.lemmas.Int.{ints}
use Rattle.std.proofs.lemmas.Result.{err_from_is_err_and}
use Rattle.fx_contour.specs.Bounds.{AreBoundsOf}
use Rattle.fx_contour.proofs.DropoutFramed.{no_span, none_framed, none_frame, far_framed, large_framed, near_framed}
use Rattle.fx_contour.proofs.DropoutFramed.{same_kept, dropout_frame_is, frame_margin}
use Rattle.fx_contour.proofs.dropout_frames.dropout_frame_around.Goals as goal

pub returns-in_default-clause-exact : goal.returns-in_default-clause-exact
returns-in_default-clause-exact c ss a = none_framed ss (no_span c.args.bounds ss c.in_default.is a)

pub returns-in_default-clause-ok : goal.returns-in_default-clause-ok
returns-in_default-clause-ok c ss a = none_frame ss (no_span c.args.bounds ss c.in_default.is a)

pub returns-then-not-leaves_margin-clause-exact : goal.returns-then-not-leaves_margin-clause-exact
returns-then-not-leaves_margin-clause-exact c ss a =
    let b = c.in-Some.bounds in
    far_framed b ss c.leaves_margin.result (subst (λ o. AreBoundsOf o ss) c.in-Some.is a) c.leaves_margin.ensures
    c.if-not-leaves_margin.true

pub returns-in_err-box_of-clause-exact : goal.returns-in_err-box_of-clause-exact
returns-in_err-box_of-clause-exact c ss a =
    let p = err_from_is_err_and c.from_residual.result c.from_residual.ensures.1 in
    let b = c.in-Some.bounds in
    let columns =
    same_kept c.kept-columns.result _ _ b.left b.right (omega (arith, ints)) (omega (arith, ints)) c.kept-columns.ensures in
    let rows = same_kept c.kept-rows.result _ _ b.bottom b.top (omega (arith, ints)) (omega (arith, ints)) c.kept-rows.ensures in
    let f = c.in_err-box_of.ensures.fault in
    rw (p.1, p.2, f.0)
    (large_framed b ss c.kept-columns.result c.kept-rows.result (subst (λ o. AreBoundsOf o ss) c.in-Some.is a)
    (c.leaves_margin.ensures.0 c.if-not-leaves_margin.false) columns rows f.1)

pub returns-clause-exact : goal.returns-clause-exact
returns-clause-exact c ss a =
    let b = c.in-Some.bounds in
    let columns =
    same_kept c.kept-columns.result _ _ b.left b.right (omega (arith, ints)) (omega (arith, ints)) c.kept-columns.ensures in
    let rows = same_kept c.kept-rows.result _ _ b.bottom b.top (omega (arith, ints)) (omega (arith, ints)) c.kept-rows.ensures in
    near_framed b ss c.kept-columns.result c.kept-rows.result c.in_ok-box_of.field-0
    (subst (λ o. AreBoundsOf o ss) c.in-Some.is a) (c.leaves_margin.ensures.0 c.if-not-leaves_margin.false) columns rows
    c.in_ok-box_of.ensures.ok

pub returns-clause-ok : goal.returns-clause-ok
returns-clause-ok c ss a =
    let b = c.in-Some.bounds in
    let columns =
    same_kept c.kept-columns.result _ _ b.left b.right (omega (arith, ints)) (omega (arith, ints)) c.kept-columns.ensures in
    let rows = same_kept c.kept-rows.result _ _ b.bottom b.top (omega (arith, ints)) (omega (arith, ints)) c.kept-rows.ensures in
    dropout_frame_is b ss c.kept-columns.result c.kept-rows.result c.in_ok-box_of.field-0
    (subst (λ o. AreBoundsOf o ss) c.in-Some.is a) columns rows c.in_ok-box_of.ensures.ok

pub returns-clause-margin : goal.returns-clause-margin
returns-clause-margin c =
    let b = c.in-Some.bounds in
    let columns =
    same_kept c.kept-columns.result _ _ b.left b.right (omega (arith, ints)) (omega (arith, ints)) c.kept-columns.ensures in
    let rows = same_kept c.kept-rows.result _ _ b.bottom b.top (omega (arith, ints)) (omega (arith, ints)) c.kept-rows.ensures in
    frame_margin b c.kept-columns.result c.kept-rows.result c.in_ok-box_of.field-0
    (c.leaves_margin.ensures.0 c.if-not-leaves_margin.false) columns rows c.in_ok-box_of.ensures.ok

pub returns-in_err-box_of-clause-ok : goal.returns-in_err-box_of-clause-ok
returns-in_err-box_of-clause-ok c ss a = rw (err_from_is_err_and c.from_residual.result c.from_residual.ensures.1).1 tt

pub returns-in_err-box_of-clause-margin : goal.returns-in_err-box_of-clause-margin
returns-in_err-box_of-clause-margin c = rw (err_from_is_err_and c.from_residual.result c.from_residual.ensures.1).1 tt
