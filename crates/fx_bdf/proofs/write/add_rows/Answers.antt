use Rattle.std.proofs.Common.{◌≡◌, ◌∙◌, ◌<◌, ap, arith, sym, length, take, [], ℕ}
use Rattle.std.specs.List.{flat_map}
use Rattle.std.proofs.lemmas.List.{take_all}
use Rattle.std.proofs.lemmas.Result.{err_from_is_err_and}
use Rattle.fx_fixed.proofs.Texts.{adds_then, adds_stopped, adds_text, adds_ended, adds_out}
use Rattle.fx_fixed.proofs.Writing.{parts, parts_more}
use Rattle.fx_bdf.specs.Text.{row_text}
use Rattle.fx_bdf.proofs.Waiting.{adds_lines, lines_split}
use Rattle.fx_bdf.proofs.write.add_rows.Goals as goal

pub returns-in_err-make_room : goal.returns-in_err-make_room
returns-in_err-make_room g c =
    let p = err_from_is_err_and c.from_residual.result c.from_residual.ensures.1 in
    adds_out (adds_text (lines_split c.rows-rows.result c.lines.i ∙ ap (flat_map row_text) c.rows-rows.ensures.value)
    (adds_then c.lines.invariant.added (adds_stopped _ c.in_err-make_room.ensures.adds))) p.1 p.2

pub returns-in_err-add_row : goal.returns-in_err-add_row
returns-in_err-add_row g c =
    let rows = c.rows-rows.result in
    let p = err_from_is_err_and c.from_residual-in_err-add_row.result c.from_residual-in_err-add_row.ensures.1 in
    let low : c.lines.i < length rows = omega (arith, c.lines-test.true, c.len.ensures) in
    let same : c.add_lines-next.result ≡ c.lines.i = omega (arith, c.if-i-next.false, c.add_lines-next.ensures.order) in
    adds_out (adds_text (sym (parts row_text rows c.lines.i [] low) ∙ ap (flat_map row_text) c.rows-rows.ensures.value)
    (adds_then (adds_text (ap (λ (n : ℕ). flat_map row_text (take n rows)) same)
    (adds_lines rows c.lines.i c.add_lines-next.result c.add_lines-next.ensures.order
    (adds_ended c.lines.invariant.added c.in_ok-make_room.ensures.adds) c.add_lines-next.ensures.text))
    (adds_stopped _ (adds_text (ap row_text c.row.ensures) c.in_err-add_row.ensures)))) p.1 p.2

pub lines-preserved-then-i-next : goal.lines-preserved-then-i-next
lines-preserved-then-i-next g c = record {
  added = adds_lines c.rows-rows.result c.lines.i c.add_lines-next.result c.add_lines-next.ensures.order
      (adds_ended c.lines.invariant.added c.in_ok-make_room.ensures.adds) c.add_lines-next.ensures.text;
  inside = c.add_lines-next.ensures.next;
}

pub lines-preserved : goal.lines-preserved
lines-preserved g c =
    let rows = c.rows-rows.result in
    let low : c.lines.i < length rows = omega (arith, c.lines-test.true, c.len.ensures) in
    let same : c.add_lines-next.result ≡ c.lines.i = omega (arith, c.if-i-next.false, c.add_lines-next.ensures.order) in
    record {
      added = adds_text (parts_more row_text rows c.lines.i [] low)
          (adds_then (adds_text (ap (λ (n : ℕ). flat_map row_text (take n rows)) same)
          (adds_lines rows c.lines.i c.add_lines-next.result c.add_lines-next.ensures.order
          (adds_ended c.lines.invariant.added c.in_ok-make_room.ensures.adds) c.add_lines-next.ensures.text))
          (adds_text (ap row_text c.row.ensures) c.in_ok-add_row.ensures));
      inside = omega (arith, low);
    }

pub returns : goal.returns
returns g c =
    adds_text (ap (flat_map row_text) (take_all _ _ (omega (arith, c.lines-test.false, c.len.ensures)) ∙ c.rows-rows.ensures.value))
    c.lines.invariant.added
