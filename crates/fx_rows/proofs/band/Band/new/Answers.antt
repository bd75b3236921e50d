use Rattle.std.proofs.Common.{arith}
use Rattle.std.proofs.Math.Nat.{mul-le-mul_right}
use Rattle.fx_rows.proofs.band.Band.new.Goals as goal

pub with_words-requires : goal.with_words-requires
with_words-requires c = grind (arith, c.requires, c.words_for.ensures, mul-le-mul_right)
