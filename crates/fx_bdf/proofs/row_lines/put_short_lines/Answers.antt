use Rattle.std.proofs.Common.{◌≡◌, ◌<◌, ◌≤◌, ◌-◌, ◌+◌, ◌*◌, ◌++◌, ◌∙◌, ap, arith, length, refl, take, List, ℕ}
use Rattle.std.proofs.lemmas.Grind.{common_steps}
use Rattle.fx_bdf.proofs.Waiting.{line_end, line_inside, lines_more, row_by_word}
use Rattle.fx_bdf.proofs.row_lines.put_short_lines.Goals as goal

pub put_short_line-end-requires-in-pairs-clause-room : goal.put_short_line-end-requires-in-pairs-clause-room
put_short_line-end-requires-in-pairs-clause-room c =
    let i = c.pairs.i in
    let first = c.args.first in
    let digits = c.args.digits in
    let low : i < length c.args.rows.now = omega (arith, c.requires.inside, c.pairs-test.true) in
    let even = c.requires.digits i low in
    let fits = c.requires.room (i + 1 - first) (omega (arith, c.pairs.invariant.order, c.pairs-test.true)) in
    let end = line_end c.args.start first i digits c.pairs.end _ c.pairs.invariant.order c.pairs.invariant.end
    c.put_short_line-end.ensures.end in
    omega (arith, even, fits, end, c.put_short_line-end.ensures.long, c.pairs.invariant.long, c.if-digits-eq0.false)

pub pairs-preserved : goal.pairs-preserved
pairs-preserved c =
    let i = c.pairs.i in
    let first = c.args.first in
    let digits = c.args.digits in
    let rows = c.args.rows.now in
    let front = take c.args.start c.args.bytes.now in
    let before = take c.pairs.end c.pairs.bytes in
    let upper = c.put_short_line-end in
    let lower = c.put_short_line-end-in-pairs in
    let between = take upper.result upper.new.bytes in
    let order = c.pairs.invariant.order in
    let few : digits ≤ 8 = omega (arith, c.if-digits-gt8.false) in
    let high : i < length rows = omega (arith, c.requires.inside, c.pairs-test.true) in
    let low : i + 1 < length rows = omega (arith, c.requires.inside, c.pairs-test.true) in
    let two : i + 1 + 1 ≡ i + 2 = omega arith in
    let end = line_end c.args.start first i digits c.pairs.end upper.result order c.pairs.invariant.end upper.ensures.end in
    let fits = c.requires.room (i + 1 - first) (omega (arith, order, c.pairs-test.true)) in
    let long : length lower.new.bytes ≡ length c.args.bytes.now =
    lower.ensures.long ∙ upper.ensures.long ∙ c.pairs.invariant.long in
    record {
      within = line_inside c.args.start ((i + 1 - first) * (digits + 1)) digits upper.result lower.result _ end lower.ensures.end
          (omega (arith, fits, long));
      long = long;
      order = omega (arith, order);
      next = omega (arith, c.pairs-test.true);
      end = line_end c.args.start first (i + 1) digits upper.result lower.result (omega (arith, order)) end lower.ensures.end
          ∙ ap (λ (n : ℕ). c.args.start + (n - first) * (digits + 1)) two;
      text = lines_more rows first (i + 1) (i + 2) front between _ (omega (arith, order)) low two
          (lines_more rows first i (i + 1) front before between order high refl c.pairs.invariant.text
          (upper.ensures.text ∙ ap (λ (t : List ℕ). before ++ t) (row_by_word rows i digits c.word.result c.row.result
          c.two_lanes.result.0 c.row.ensures c.word.ensures few (c.requires.digits i high) c.two_lanes.ensures.first)))
          (lower.ensures.text ∙ ap (λ (t : List ℕ). between ++ t) (row_by_word rows (i + 1) digits c.word-in-pairs.result
          c.row-in-pairs.result c.two_lanes.result.1 c.row-in-pairs.ensures c.word-in-pairs.ensures few
          (c.requires.digits (i + 1) low) c.two_lanes.ensures.second));
    }

pub returns : goal.returns
returns c = c.pairs.invariant

pub pairs-init : goal.pairs-init
pairs-init c = grind (arith, common_steps)
