use Rattle.std.proofs.Common.{◌-◌, arith}
use Rattle.fx_winding.proofs.Places.{clash}
use Rattle.fx_rows.proofs.Bends.{before_first}
use Rattle.fx_rows.proofs.search.cut_in.Goals as goal

pub returns-then-not-is_before : goal.returns-then-not-is_before
returns-then-not-is_before c = record {
  from = omega arith;
  to = omega (arith, c.requires.order);
  below = λ k h l. absurd (omega (arith, h, l));
  rest = λ k h l b. clash c.is_before.result c.if-not-is_before.true
      (c.is_before.ensures.1 (before_first c.args.cut c.args.g c.args.start c.args.start k c.requires.within (omega arith) h b));
}

pub returns-then-is_before : goal.returns-then-is_before
returns-then-is_before c = record {
  from = omega (arith, c.requires.order);
  to = omega arith;
  below = λ k h l. before_first c.args.cut c.args.g c.args.start k (c.args.stop - 1) c.requires.within h
      (omega (arith, l, c.requires.order)) (c.is_before-2.ensures.0 c.if-is_before.true);
  rest = λ k h l. absurd (omega (arith, h, l));
}

pub columns-init : goal.columns-init
columns-init c = record {
  order = omega (arith, c.requires.order);
  from = omega arith;
  within = omega (arith, c.requires.order);
  before = λ k h l. absurd (omega (arith, h, l));
  rest = λ k h l b. clash c.is_before-2.result c.if-is_before.false
      (c.is_before-2.ensures.1 (before_first c.args.cut c.args.g c.args.start (c.args.stop - 1) k c.requires.within
      (omega (arith, c.requires.order)) h b));
}

pub columns-preserved-then-is_before-2 : goal.columns-preserved-then-is_before-2
columns-preserved-then-is_before-2 c =
    let here = c.middle-here.result in
    record {
      order = omega (arith, c.middle-here.ensures.to);
      from = omega (arith, c.middle-here.ensures.from, c.columns.invariant.from);
      within = c.columns.invariant.within;
      before = λ k s l. before_first c.args.cut c.args.g c.args.start k here c.requires.within s (omega (arith, l))
          (c.is_before-in-columns.ensures.0 c.if-is_before-2.true);
      rest = c.columns.invariant.rest;
    }

pub columns-preserved : goal.columns-preserved
columns-preserved c =
    let here = c.middle-here.result in
    record {
      order = c.middle-here.ensures.from;
      from = c.columns.invariant.from;
      within = omega (arith, c.middle-here.ensures.to, c.columns.invariant.within);
      before = c.columns.invariant.before;
      rest = λ k h l b. clash c.is_before-in-columns.result c.if-is_before-2.false
          (c.is_before-in-columns.ensures.1 (before_first c.args.cut c.args.g c.args.start here k c.requires.within
          (omega (arith, c.middle-here.ensures.from, c.columns.invariant.from)) h b));
    }
