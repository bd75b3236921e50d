use Rattle.std.proofs.Common.{◌≡◌, ◌∙◌, ℕ, ◌+◌, ◌*◌, ℤ, ◌+ℤ◌, ap, arith, to_z, of_z, w32}
use Rattle.fx_fixed.proofs.Linear.{signed_linear}
use Rattle.fx_rows.specs.inner.Sums.{sum_of, count_bit}
use Rattle.fx_rows.proofs.Changes.{word_sum, settled_more, emptied_more, sum_same, untouched_more, touched_more}
use Rattle.fx_rows.proofs.settle.settle.Goals as goal

pub settle_word-requires-clause-small : goal.settle_word-requires-clause-small
settle_word-requires-clause-small c = λ n h.
    let w = c.words.w in
    let i = c.words.invariant in
    let e = word_sum c.args.diff.now c.args.line.now c.words.line (to_z w32 c.words.count-bits) w n i.settled in
    let d = sum_same c.args.diff.now c.words.diff (32 * w) n i.emptied.rest in
    let s = c.requires.small (32 * w + n) in
    (omega (arith, signed_linear, e, d, s), omega (arith, signed_linear, e, d, s))

pub words-preserved : goal.words-preserved
words-preserved c =
    let w = c.words.w in
    let i = c.words.invariant in
    let old = c.args.diff.now in
    let count : ℤ = to_z w32 c.words.count-bits in
    let same : (n : ℕ) → sum_of c.words.diff (32 * w) n ≡ sum_of old (32 * w) n =
    λ n. sum_same old c.words.diff (32 * w) n i.emptied.rest in
    let e = word_sum old c.args.line.now c.words.line count w 32 i.settled in
    let d = same 32 in
    let s = c.requires.small (32 * w + 32) in
    let n = c.settle_word.ensures.count in
    record {
      settled = settled_more old c.args.line.now c.words.line count (to_z w32 (of_z w32 c.settle_word.new.count)) w
          c.settle_word.result i.settled (omega arith)
          (λ k h. c.settle_word.ensures.bits k h ∙ ap (λ (z : ℤ). count_bit (count +ℤ z) 0) (same (k + 1)))
          (omega (arith, signed_linear, e, d, s, n));
      emptied = emptied_more old c.words.diff c.settle_word.new.diff w i.emptied c.settle_word.ensures.zeros
          c.settle_word.ensures.others;
      untouched = untouched_more c.words.touched w (omega arith) i.untouched;
      touched = touched_more c.args.touched.now c.words.touched w i.touched;
    }
