use Rattle.std.proofs.Common.{sym, ap, subst, map, length, All, ℕ, ◌<◌, ◌↔◌, arith}
use Rattle.fx_fixed.proofs.Linear.{signed_linear}
use Rattle.fx_rows.proofs.Counted.{counted_all, counted_more, counted_start}
use Rattle.fx_winding.specs.Near.{IsNear}
use Rattle.fx_winding.specs.Winding.{span_of, IsCovered}
use Rattle.fx_dropout.specs.inner.Pairs.{seen_span, seen_spans}
use Rattle.fx_dropout.specs.inner.Places.{place_in, IsCoveredIn}
use Rattle.fx_dropout.proofs.Adding.{covered_by, seen_at, seen_length}
use Rattle.fx_dropout.proofs.nearer.places_of.Goals as goal

pub add_piece-requires-clause-near : goal.add_piece-requires-clause-near
add_piece-requires-clause-near c =
    let near = subst (All IsNear) (sym c.as_slice-piece-items.ensures.value) c.as_slice-piece-items.ensures.near in
    subst IsNear (sym c.piece-item.is) (near c.pieces.piece-index c.piece-item.result c.pieces-test.true)

pub add_piece-requires-clause-small : goal.add_piece-requires-clause-small
add_piece-requires-clause-small c = λ n l.
    let few = c.as_slice-piece-items.ensures.few in
    let same = ap length c.as_slice-piece-items.ensures.value in
    let size = (c.pieces.invariant.counted n l).size in
    omega (arith, signed_linear, few, same, size)

pub pieces-init : goal.pieces-init
pieces-init c = record {
  counted = λ n l. let e = c.new-places.ensures n l in counted_start _ _ _ _ e.1 e.0;
  tests = omega arith;
}

pub pieces-preserved : goal.pieces-preserved
pieces-preserved c =
    let ps = c.as_slice-piece-items.result.now in
    let ss = seen_spans c.args.is_turned (map span_of ps) in
    let up = c.args.is_turned in
    let k = c.pieces.piece-index in
    let inv = c.pieces.invariant in
    let count = inv.tests in
    let more = c.add_piece.ensures.count in
    record {
      counted = λ n l. counted_more ss k (seen_span up (span_of c.piece-item.result)) (place_in c.args.pair n) _ _ _ _
          (c.add_piece.ensures.added n l)
          (omega (arith, seen_length up ps))
          (seen_at up ps k c.piece-item.result c.piece-item.is)
          (inv.counted n l);
      tests = omega (arith, count, more);
    }

pub returns-clause-small : goal.returns-clause-small
returns-clause-small c = λ n l.
    let few = c.as_slice-piece-items.ensures.few in
    let same = ap length c.as_slice-piece-items.ensures.value in
    let size = (c.pieces.invariant.counted n l).size in
    omega (arith, signed_linear, few, same, size)

pub returns-clause-covered : goal.returns-clause-covered
returns-clause-covered c =
    let ps = c.as_slice-piece-items.result.now in
    subst (λ qs. (n : ℕ) → n < 128 → IsCoveredIn c.pieces.places n ↔ IsCovered (place_in c.args.pair n)
    (seen_spans c.args.is_turned (map span_of qs))) c.as_slice-piece-items.ensures.value (λ n l.
    covered_by (place_in c.args.pair n) (seen_spans c.args.is_turned (map span_of ps)) _ _
    (counted_all (place_in c.args.pair n) _ c.pieces.piece-index _ _ (omega (arith, seen_length c.args.is_turned ps))
    (c.pieces.invariant.counted n l)))

pub returns-clause-count : goal.returns-clause-count
returns-clause-count c =
    let count = c.pieces.invariant.tests in
    let same = ap length c.as_slice-piece-items.ensures.value in
    omega (arith, count, same)
