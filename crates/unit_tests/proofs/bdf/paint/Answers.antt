use Rattle.std.proofs.Common.{◌∙◌, ap, ℕ, List, length, arith}
use Rattle.fx_winding.specs.Bitmaps.{word_bit}
use Rattle.fx_winding.proofs.Grid.{word_zero}
use Rattle.unit_tests.proofs.bdf.paint.Goals as goal

pub loop-k-init : goal.loop-k-init
loop-k-init c = λ i h. ap (λ (l : List ℕ). word_bit l i) (c.fill.ensures.after (λ y e. e)) ∙ word_zero (length c.args.words.now) i

pub returns : goal.returns
returns c = record { count = omega arith; unused = λ i h l. c.loop-k.invariant i (omega arith) }
