use Rattle.std.proofs.Common.{◌+◌, sym, arith}
use Rattle.std.proofs.lemmas.Result.{err_from_is_err_and}
use Rattle.fx_moves.proofs.TupleSteps.{tuples_short, tuples_off, tuples_on, tuples_end}
use Rattle.fx_moves.proofs.Sums.{within_more}
use Rattle.fx_moves.proofs.folding.add_tuples.Goals as goal

pub returns-in_err-tuple-clause-value : goal.returns-in_err-tuple-clause-value
returns-in_err-tuple-clause-value c =
    let p = err_from_is_err_and c.from_residual.result c.from_residual.ensures.1 in
    rw (p.1, p.2)
    (tuples_short _ _ _ _ _ _ _ _ _ c.tuples-test.true c.tuples.invariant.same _ (sym c.in_err-tuple.ensures))

pub returns-in_err-add_tuple-clause-value : goal.returns-in_err-add_tuple-clause-value
returns-in_err-add_tuple-clause-value c =
    let p = err_from_is_err_and c.from_residual-in_err-add_tuple.result c.from_residual-in_err-add_tuple.ensures.1 in
    rw (p.1, p.2)
    (tuples_off _ _ _ _ _ _ _ _ _ c.tuples-test.true c.tuples.invariant.same (c.in_ok-tuple.tuple, c.in_ok-tuple.next) _
    (sym c.in_ok-tuple.ensures) (sym c.in_err-add_tuple.ensures.value))

pub tuples-preserved : goal.tuples-preserved
tuples-preserved c = record {
  same = tuples_on _ _ _ _ _ _ _ _ _ c.tuples-test.true c.tuples.invariant.same (c.in_ok-tuple.tuple, c.in_ok-tuple.next) _
      (sym c.in_ok-tuple.ensures) (sym c.in_ok-add_tuple.ensures.value);
  room = c.add_tuple.ensures.grown c.tuples.k c.tuples.invariant.room;
}

pub returns-clause-value : goal.returns-clause-value
returns-clause-value c = tuples_end _ _ _ _ _ _ _ _ _ c.tuples-test.false c.tuples.invariant.same

pub returns-in_err-tuple-clause-room : goal.returns-in_err-tuple-clause-room
returns-in_err-tuple-clause-room c =
    within_more c.tuples.k 4095 _ (omega (arith, c.tuples-test.true, c.requires.count)) c.tuples.invariant.room

pub returns-in_err-add_tuple-clause-room : goal.returns-in_err-add_tuple-clause-room
returns-in_err-add_tuple-clause-room c =
    within_more (c.tuples.k + 1) 4095 _ (omega (arith, c.tuples-test.true, c.requires.count))
    (c.add_tuple.ensures.grown c.tuples.k c.tuples.invariant.room)

pub returns-clause-room : goal.returns-clause-room
returns-clause-room c =
    within_more c.tuples.k 4095 _ (omega (arith, c.tuples.auto.k-end, c.requires.count)) c.tuples.invariant.room
