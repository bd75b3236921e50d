use Rattle.std.proofs.Common.{sym, Bor, List, ℕ}
use Rattle.std.proofs.lemmas.Result.{err_from_is_err_and}
use Rattle.fx_fixed.proofs.Writing.{parts, parts_more}
use Rattle.fx_fixed.proofs.Texts.{adds_then, adds_stopped, adds_text, adds_out}
use Rattle.fx_fixed.proofs.text.TextWriter.add.Goals as goal

pub returns-in_err-add_piece : goal.returns-in_err-add_piece
returns-in_err-add_piece g c =
    let p = err_from_is_err_and c.from_residual.result c.from_residual.ensures.1 in
    adds_out (adds_text (sym (parts (λ (p : Bor (List ℕ)). p.now) _ _ _ c.pieces-test.true))
    (adds_then c.pieces.invariant (adds_stopped _ c.in_err-add_piece.ensures))) p.1 p.2

pub pieces-preserved : goal.pieces-preserved
pieces-preserved g c =
    adds_text (parts_more (λ (p : Bor (List ℕ)). p.now) _ _ _ c.pieces-test.true)
    (adds_then c.pieces.invariant c.in_ok-add_piece.ensures)
