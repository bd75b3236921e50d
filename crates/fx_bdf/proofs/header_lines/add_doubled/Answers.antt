use Rattle.std.proofs.Common.{sym}
use Rattle.std.proofs.lemmas.Result.{err_from_is_err_and}
use Rattle.fx_fixed.proofs.Writing.{parts, parts_more}
use Rattle.fx_fixed.proofs.Texts.{adds_piece, adds_then, adds_stopped, adds_text, adds_out}
use Rattle.fx_bdf.specs.Properties.{doubled}
use Rattle.fx_bdf.proofs.header_lines.add_doubled.Goals as goal

pub returns-in_err-add : goal.returns-in_err-add
returns-in_err-add g c =
    let p = err_from_is_err_and c.from_residual.result c.from_residual.ensures.1 in
    adds_out (adds_text (sym (parts doubled _ _ 0 c.characters-test.true))
    (adds_then c.characters.invariant (adds_stopped _ (adds_piece c.doubled.ensures c.in_err-add.ensures)))) p.1 p.2

pub characters-preserved : goal.characters-preserved
characters-preserved g c =
    adds_text (parts_more doubled _ _ 0 c.characters-test.true)
    (adds_then c.characters.invariant (adds_piece c.doubled.ensures c.in_ok-add.ensures))
