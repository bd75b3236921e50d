use Rattle.std.proofs.Common.{arith}
use Rattle.fx_winding.specs.Winding.{span_of}
use Rattle.fx_winding.proofs.Places.{clash}
use Rattle.fx_rows.specs.inner.Sides.{place_at}
use Rattle.fx_rows.proofs.Walks.{step_before, spot_within}
use Rattle.fx_rows.proofs.walk.to_end.Goals as goal

pub beside-here-requires-clause-step : goal.beside-here-requires-clause-step
beside-here-requires-clause-step c = c.requires.at.arc.next (place_at c.args.strip 0) c.args.cuts.spot.k

pub right-init : goal.right-init
right-init c =
    let column = c.beside-here.ensures.column in
    record {
      at = c.beside-here.ensures.at;
      inside = λ j h. c.requires.first j c.args.cuts.spot.k (omega (arith, h, column))
          (c.is_short.ensures.short c.if-is_short.true).1;
    }

pub beside-here-requires-in-right-clause-step : goal.beside-here-requires-in-right-clause-step
beside-here-requires-in-right-clause-step c = c.requires.at.arc.next (place_at c.args.strip 0) c.right.here.k

pub right-preserved : goal.right-preserved
right-preserved c =
    let column = c.beside-here-in-right.ensures.column in
    record {
      at = c.beside-here-in-right.ensures.at;
      inside = λ j h. c.requires.first j c.right.here.k (omega (arith, h, column))
          (c.is_short-in-right.ensures.short c.right-test.true).1;
    }

pub returns-then-is_short-clause-end : goal.returns-then-is_short-clause-end
returns-then-is_short-clause-end c = record {
  inside = c.right.invariant.inside;
  outside = λ j h l n. c.is_short-in-right.ensures.not (clash c.is_short-in-right.result c.right-test.false) (omega (arith, h, l))
      (c.requires.first c.right.here.k j h n);
}

pub returns-then-is_short-clause-within : goal.returns-then-is_short-clause-within
returns-then-is_short-clause-within c =
    spot_within c.args.piece.now c.args.strip c.right.here c.right.invariant.at

pub left-init : goal.left-init
left-init c = record {
  at = c.requires.at.spot;
  outside = λ j h l n. c.is_short.ensures.not (clash c.is_short.result c.if-is_short.false) (omega (arith, h, l))
      (c.requires.first c.args.cuts.spot.k j h n);
}

pub beside-left-requires-clause-step : goal.beside-left-requires-clause-step
beside-left-requires-clause-step c =
    step_before (span_of c.args.piece.now) (place_at c.args.strip 0) c.left.here.k c.args.cuts.arc.next c.reversed.result
    (omega arith) c.requires.at.arc.next c.reversed.ensures

pub beside-left-requires-clause-within : goal.beside-left-requires-clause-within
beside-left-requires-clause-within c =
    let within = spot_within c.args.piece.now c.args.strip c.left.here c.left.invariant.at in omega (arith, within)

pub returns-then-counts-clause-within : goal.returns-then-counts-clause-within
returns-then-counts-clause-within c =
    spot_within c.args.piece.now c.args.strip c.left.here c.left.invariant.at

pub returns-then-counts-clause-end : goal.returns-then-counts-clause-end
returns-then-counts-clause-end c =
    let column = c.beside-left.ensures.column in
    record {
      inside = λ j h. c.requires.first j c.beside-left.result.k (omega (arith, h, column)) (c.counts.ensures.0 c.if-counts.true);
      outside = c.left.invariant.outside;
    }

pub left-preserved : goal.left-preserved
left-preserved c = record {
  at = c.beside-left.ensures.at;
  outside = λ j h l n. clash c.counts.result c.if-counts.false (c.counts.ensures.1
      (c.requires.first c.beside-left.result.k j h n));
}
