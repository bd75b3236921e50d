use Rattle.std.proofs.Common.{◌+◌, ◌*◌, ◌∙◌, ap, arith, refl}
use Rattle.std.proofs.lemmas.List.{take_all}
use Rattle.std.specs.List.{flat_map}
use Rattle.fx_fixed.proofs.Writing.{parts_more}
use Rattle.fx_bdf.specs.inner.Lines.{word_text}
use Rattle.fx_bdf.proofs.Waiting.{joined, lanes_over, two_more}
use Rattle.fx_bdf.proofs.row_lines.put_words.Goals as goal

pub pairs-preserved : goal.pairs-preserved
pairs-preserved c =
    let k = c.pairs.k in
    let words = c.args.words.now in
    record {
      inside = omega arith;
      text = lanes_over (c.args.start + 8 * k) 16 _ c.pairs.bytes _ _ c.pair_lanes.ensures (omega (arith, c.requires))
          (omega arith) (omega arith)
          ∙ joined _ _ _ c.pairs.invariant.text (two_more word_text words k (k + 2) 0 refl (omega arith));
    }

pub returns-then-k-words-clause-text : goal.returns-then-k-words-clause-text
returns-then-k-words-clause-text c =
    let k = c.pairs.k in
    let words = c.args.words.now in
    lanes_over (c.args.start + 8 * k) 8 _ c.pairs.bytes _ _ c.word_lanes.ensures (omega (arith, c.requires)) (omega arith)
    (omega arith)
    ∙ joined _ _ _ c.pairs.invariant.text (parts_more word_text words k 0 (omega arith)
    ∙ ap (flat_map word_text) (take_all (k + 1) words (omega arith)))
