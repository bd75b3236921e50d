use Rattle.std.proofs.Common.{◌∙◌, arith}
use Rattle.fx_rows.proofs.Marking.{set_inside, set_outside}
use Rattle.fx_rows.proofs.marks.set_words.Goals as goal

pub words-preserved : goal.words-preserved
words-preserved c = record {
  inside = λ k h l m. set_inside c.words.line c.words.w c.between.result k c.args.first c.args.last
      c.saturating_sub-before.result c.saturating_sub-after.result c.saturating_sub-before.ensures c.saturating_sub-after.ensures
      (omega arith) h l m c.between.ensures.inside (c.words.invariant.inside k h l);
  outside = λ k h. set_outside c.words.line c.words.w c.between.result k c.args.first c.args.last
      c.saturating_sub-before.result c.saturating_sub-after.result c.saturating_sub-before.ensures c.saturating_sub-after.ensures
      (omega arith) h c.between.ensures.outside ∙ c.words.invariant.outside k h;
}
