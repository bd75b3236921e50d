use Rattle.std.proofs.Common.{◌+◌, ◌-◌, ◌*◌, ◌++◌, ◌∷◌, [], ◌∙◌, List, ℕ, ap, arith, min, take}
use Rattle.std.proofs.lemmas.Result.{err_from_is_err_and}
use Rattle.fx_fixed.proofs.Texts.{adds_then, adds_stopped, adds_text, adds_more, adds_ended, adds_out}
use Rattle.fx_bdf.specs.inner.Lines.{digits_from}
use Rattle.fx_bdf.proofs.RowDigits.{digits_joined, digits_more, all_digits}
use Rattle.fx_bdf.proofs.rows.add_row.Goals as goal

pub returns-in_err-make_room : goal.returns-in_err-make_room
returns-in_err-make_room g c =
    let row = c.args.row.now in
    let n = min (8 * c.words.k) c.digits-count.result in
    let left = c.digits-count.result - n in
    let p = err_from_is_err_and c.from_residual.result c.from_residual.ensures.1 in
    adds_out (adds_stopped _ (adds_text
    (digits_joined row 0 n n left (omega arith) ∙ all_digits row (n + left) (omega (arith, c.digits-count.ensures)))
    (adds_then c.words.invariant (adds_stopped (digits_from row n left) c.in_err-make_room.ensures.adds)))) p.1 p.2

pub words-preserved : goal.words-preserved
words-preserved g c =
    let row = c.args.row.now in
    let n = min (8 * c.words.k) c.digits-count.result in
    let low = c.words-test.true in
    adds_text (ap (λ (t : List ℕ). digits_from row 0 n ++ take c.min.result t) c.word_lanes.ensures
    ∙ digits_more row c.word.result c.words.k n c.min.result _ c.word.ensures
    (omega (arith, low, c.len-k-end.ensures.value, c.digits-count.ensures)) (omega (arith, c.min.ensures))
    (omega (arith, low, c.len-k-end.ensures.value, c.digits-count.ensures, c.min.ensures)))
    (adds_then (adds_ended c.words.invariant c.in_ok-make_room.ensures.adds) (adds_more c.push_first.ensures))

pub returns : goal.returns
returns g c =
    adds_text (ap (λ (t : List ℕ). t ++ 10 ∷ []) (all_digits c.args.row.now (min (8 * c.words.k) c.digits-count.result)
    (omega (arith, c.words-test.false, c.len-k-end.ensures.value, c.digits-count.ensures))))
    (adds_then c.words.invariant c.add.ensures)
