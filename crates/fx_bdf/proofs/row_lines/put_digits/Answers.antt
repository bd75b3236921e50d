use Rattle.std.proofs.Common.{◌≡◌, ◌<◌, ◌+◌, ◌-◌, ◌*◌, ◌∙◌, ◌++◌, ap, arith, length, List, ℕ, min, refl, take}
use Rattle.std.specs.List.{flat_map}
use Rattle.std.proofs.lemmas.List.{length-take-le}
use Rattle.std.proofs.lemmas.Simd.{length-put_chunk}
use Rattle.fx_bdf.specs.inner.Lines.{word_text}
use Rattle.fx_bdf.proofs.RowDigits.{all_digits, digits_more, digits_whole}
use Rattle.fx_bdf.proofs.Waiting.{fewer, joined, lanes_over}
use Rattle.fx_bdf.proofs.row_lines.put_digits.Goals as goal

pub words-preserved : goal.words-preserved
words-preserved c =
    let at = c.args.start + 8 * c.words.k in
    let digits = c.args.digits in
    let n = min (8 * c.words.k) digits in
    let more = min (digits - 8 * c.words.k) 8 in
    let some : 8 * c.words.k < digits = omega (arith, c.words-test.true, c.len-k-end.ensures.value, c.requires.digits) in
    let long = c.words.invariant.long in
    let here : at ≡ c.args.start + n = omega (arith, some) in
    record {
      long = grind (arith, long, length-put_chunk);
      text = lanes_over at more _ c.words.bytes _ _ c.word_lanes.ensures (omega (arith, c.requires.room, long, some)) (omega arith)
          (omega (arith, some))
          ∙ joined _ _ _ (ap (λ (i : ℕ). take i c.words.bytes) here ∙ c.words.invariant.text)
          (digits_more c.args.row.now c.word.result c.words.k n more _ c.word.ensures (omega (arith, some)) (omega arith)
          (omega (arith, some)));
    }

pub returns-clause-text : goal.returns-clause-text
returns-clause-text c =
    let n = min (8 * c.words.k) c.args.digits in
    let all : c.args.digits ≡ n = omega (arith, c.words-test.false, c.len-k-end.ensures.value, c.requires.digits) in
    ap (λ (i : ℕ). take (c.args.start + i) c.words.bytes) all
    ∙ c.words.invariant.text
    ∙ ap (λ (t : List ℕ). take c.args.start c.args.bytes.now ++ t)
    (all_digits c.args.row.now n (omega (arith, all, c.requires.digits)))

pub returns-in-Some-clause-text : goal.returns-in-Some-clause-text
returns-in-Some-clause-text c =
    let words = c.in-Some.words.now in
    fewer c.args.start c.args.digits _ (c.args.start + 8 * length words) c.put_words.new.bytes _ (flat_map word_text words)
    (length-take-le c.args.start c.args.bytes.now (omega (arith, c.requires.room))) refl
    (omega (arith, c.in-Some.ensures.count, c.requires.digits)) c.put_words.ensures.text
    ∙ ap (λ (t : List ℕ). take c.args.start c.args.bytes.now ++ t)
    (digits_whole c.args.row.now words c.args.digits c.in-Some.ensures c.requires.digits)
