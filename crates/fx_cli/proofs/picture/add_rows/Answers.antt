use Rattle.std.proofs.Common.{sym, arith, ap, length, List, ℕ, [], ◌∷◌, ◌++◌, ◌<◌}
use Rattle.std.proofs.lemmas.Result.{err_from_is_err_and}
use Rattle.fx_bdf.specs.Glyphs.{Box}
use Rattle.fx_fixed.proofs.Writing.{parts, parts_more}
use Rattle.fx_fixed.proofs.Texts.{adds_then, adds_stopped, adds_text, adds_out}
use Rattle.fx_cli.specs.Pictures.{row_line}
use Rattle.fx_cli.proofs.picture.add_rows.Goals as goal

pub returns-in_err-add : goal.returns-in_err-add
returns-in_err-add g c =
    let p = err_from_is_err_and c.from_residual.result c.from_residual.ensures.1 in
    let high : c.rows.i < length c.args.glyph.now.rows =
    omega (arith, ap (λ (b : Box). b.height) c.bounds-i-end.ensures.value, c.bounds-i-end.ensures.formed.height) in
    let line = adds_text (ap (λ (t : List ℕ). t ++ 10 ∷ []) c.put_dots-width.ensures.dots) c.in_err-add.ensures in
    adds_out (adds_text (sym (parts row_line c.args.glyph.now.rows c.rows.i [] high))
    (adds_then c.rows.invariant (adds_stopped _ line))) p.1 p.2

pub rows-preserved : goal.rows-preserved
rows-preserved g c =
    let high : c.rows.i < length c.args.glyph.now.rows =
    omega (arith, ap (λ (b : Box). b.height) c.bounds-i-end.ensures.value, c.bounds-i-end.ensures.formed.height) in
    let line = adds_text (ap (λ (t : List ℕ). t ++ 10 ∷ []) c.put_dots-width.ensures.dots) c.in_ok-add.ensures in
    adds_text (parts_more row_line c.args.glyph.now.rows c.rows.i [] high) (adds_then c.rows.invariant line)
