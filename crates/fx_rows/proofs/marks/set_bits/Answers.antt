use Rattle.std.proofs.Common.{◌/◌, arith}
use Rattle.fx_rows.proofs.Marking.{set_inside, set_outside}
use Rattle.fx_rows.proofs.marks.set_bits.Goals as goal

pub returns-then-word-last : goal.returns-then-word-last
returns-then-word-last c = record {
  inside = grind (arith, c.between.ensures.inside, set_inside);
  outside = λ k h. set_outside c.args.line.now (c.args.first / 32) c.between.result k c.args.first c.args.last _ _ (omega arith)
      (omega arith) (omega arith) h c.between.ensures.outside;
}
