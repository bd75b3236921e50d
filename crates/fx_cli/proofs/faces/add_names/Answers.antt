use Rattle.std.proofs.lemmas.Result.{err_from_is_err_and}
use Rattle.fx_fixed.proofs.Texts.{adds_out, adds_stopped, adds_then}
use Rattle.fx_cli.proofs.faces.add_names.Goals as goal

pub returns-in_err-add_name : goal.returns-in_err-add_name
returns-in_err-add_name g c =
    let p = err_from_is_err_and c.from_residual.result c.from_residual.ensures.1 in
    let family = rw (c.or.ensures, c.of.ensures, c.of-2.ensures) at c.in_err-add_name.ensures in
    adds_out (adds_stopped _ family) p.1 p.2

pub returns-in_err-add : goal.returns-in_err-add
returns-in_err-add g c =
    let p = err_from_is_err_and c.from_residual-in_err-add.result c.from_residual-in_err-add.ensures.1 in
    let family = rw (c.or.ensures, c.of.ensures, c.of-2.ensures) at c.in_ok-add_name.ensures in
    adds_out (adds_then family (adds_stopped _ c.in_err-add.ensures)) p.1 p.2

pub returns : goal.returns
returns g c =
    let family = rw (c.or.ensures, c.of.ensures, c.of-2.ensures) at c.in_ok-add_name.ensures in
    let style = rw (c.or-2.ensures, c.of-3.ensures, c.of-4.ensures) at c.add_name-2.ensures in
    adds_then family (adds_then c.in_ok-add.ensures style)
