use Rattle.std.proofs.Common.{sym}
use Rattle.std.proofs.lemmas.Result.{err_from_is_err_and}
use Rattle.fx_raster.proofs.shape.Shape.of.Goals as goal

pub returns-in_err-frame : goal.returns-in_err-frame
returns-in_err-frame c =
    let p = err_from_is_err_and c.from_residual.result c.from_residual.ensures.1 in
    rw (p.1, p.2) (sym c.in_err-frame.ensures.fault)

pub returns : goal.returns
returns c = sym c.in_ok-frame.ensures.frame.shape
