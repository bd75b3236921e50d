use Rattle.std.proofs.Common.{◌+◌, ◌-◌, ◌*◌, ◌++◌, ◌∙◌, ap, arith, take, List, Bool, refl}
use Rattle.std.proofs.lemmas.Grind.{common_steps}
use Rattle.fx_bdf.specs.Text.{row_text}
use Rattle.fx_bdf.proofs.Waiting.{line_end, line_inside, lines_more}
use Rattle.fx_bdf.proofs.row_lines.put_lines.Goals as goal

pub rows-preserved : goal.rows-preserved
rows-preserved c =
    let first = c.args.first in
    let digits = c.digits-digits.result in
    let w = c.rows.invariant in
    let put = c.put_row-end.ensures in
    let p = (c.rows.i - first) * (digits + 1) in
    let before = take c.rows.end c.rows.bytes in
    let fits = c.last_fitting-last.ensures.room (c.rows.i - first) (omega (arith, c.rows-test.true, w.order)) in
    record {
      long = put.long ∙ w.long;
      within = line_inside c.args.start p digits c.rows.end _ _ w.end put.end (omega (arith, fits, c.requires, put.long, w.long));
      order = omega (arith, w.order);
      end = line_end c.args.start first c.rows.i digits c.rows.end _ w.order w.end put.end;
      text = lines_more c.args.rows.now first c.rows.i _ _ before _ w.order
          (omega (arith, c.rows-test.true, c.last_fitting-last.ensures.inside)) refl w.text
          (put.text ∙ ap (λ (row : List Bool). before ++ row_text row) c.row.ensures);
    }

pub returns : goal.returns
returns c = grind (arith, common_steps)
