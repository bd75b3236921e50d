use Rattle.std.proofs.Common.{refl, FitsSigned, pos}
use Rattle.std.specs.Int.{w32}
use Rattle.fx_machine.specs.Words.{number_word}
use Rattle.fx_machine.proofs.PointsMore.{all_more, words_more}
use Rattle.fx_machine.proofs.words.push_numbers.Goals as goal

pub numbers-preserved : goal.numbers-preserved
numbers-preserved c = record {
  done = words_more number_word c.args.numbers.now c.numbers.number-index _ _ _ _ _ c.numbers-test.true refl
      c.numbers.invariant.done c.in_ok-push_number.ensures.words;
  numbered = all_more (λ m. FitsSigned w32 m) c.args.numbers.now c.numbers.number-index (pos 0) c.numbers-test.true
      c.numbers.invariant.numbered c.in_ok-push_number.ensures.numbered;
}
