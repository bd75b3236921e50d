use Rattle.std.proofs.Common.{◌+◌, arith, refl, sym}
use Rattle.std.proofs.lemmas.Grind.{common_steps}
use Rattle.fx_arguments.proofs.Numerals.{numbers_from_zero, numbers_put}
use Rattle.fx_arguments.proofs.chars.put_range.Goals as goal

pub numbers-init : goal.numbers-init
numbers-init c = record {
  front = sym (numbers_from_zero c.args.low);
  size = refl;
}

pub numbers-preserved : goal.numbers-preserved
numbers-preserved c = record {
  front =
      numbers_put c.numbers.numbers c.args.low c.numbers.k (c.args.low + c.numbers.k) (omega arith) refl c.numbers.invariant.front;
  size = grind (arith, common_steps);
}
