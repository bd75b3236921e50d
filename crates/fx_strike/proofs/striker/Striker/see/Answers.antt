use Rattle.std.proofs.Common.{◌∙◌, arith}
use Rattle.std.proofs.lemmas.List.{length-take-le}
use Rattle.fx_strike.proofs.Exits.{came}
use Rattle.fx_strike.proofs.Keeping.{kept_at, kept_none}
use Rattle.fx_strike.proofs.Seeing.{code_fits, holds_none, seen_at, refused_at}
use Rattle.fx_strike.proofs.Telling.{heard_at, told_so_far}
use Rattle.fx_strike.proofs.striker.Striker.see.Goals as goal

pub mapped-init : goal.mapped-init
mapped-init g c = grind (arith, c.requires.none, c.new-seen.ensures, kept_none, holds_none)

pub returns-in_err-see_one-clause-seen : goal.returns-in_err-see_one-clause-seen
returns-in_err-see_one-clause-seen g c =
    let f = rw c.mapped.invariant.kept at (c.in_err-see_one.ensures).seen in
    rw (came c.from_residual.result c.from_residual.ensures.1)
    (refused_at _ _ c.args.mapped.now c.mapped.m-index c.mapped.seen c.in_err-see_one.field-0.0
    c.mapped-test.true c.mapped.invariant.held f)

pub returns-in_err-see_one-clause-heard : goal.returns-in_err-see_one-clause-heard
returns-in_err-see_one-clause-heard g c =
    let f = rw c.mapped.invariant.kept at (c.in_err-see_one.ensures).seen in
    rw (came c.from_residual.result c.from_residual.ensures.1)
    (told_so_far _ _ c.args.mapped.now c.mapped.m-index c.in_err-see_one.field-0.0 c.mapped.invariant.heard
    (c.in_err-see_one.ensures).heard
    (refused_at _ _ c.args.mapped.now c.mapped.m-index c.mapped.seen c.in_err-see_one.field-0.0
    c.mapped-test.true c.mapped.invariant.held f))

pub mapped-preserved : goal.mapped-preserved
mapped-preserved g c =
    let d = rw c.mapped.invariant.kept at (c.in_ok-see_one.ensures).seen in
    let t = rw c.mapped.invariant.kept at (c.in_ok-see_one.ensures).heard in
    record {
      kept = (c.in_ok-see_one.ensures).kept ∙ c.mapped.invariant.kept;
      lines = kept_at c.args.mapped.now c.mapped.m-index c.mapped.seen c.see_one.new.seen c.mapped-test.true
          c.mapped.invariant.lines d c.count_one.ensures;
      held = seen_at _ _ c.args.mapped.now c.mapped.m-index c.mapped.seen c.see_one.new.seen _ _
          c.mapped-test.true c.mapped.invariant.held d;
      heard = heard_at _ _ _ _ _ _ c.args.mapped.now c.mapped.m-index c.mapped-test.true
          c.mapped.invariant.heard t;
    }

pub see_one-requires-clause-code : goal.see_one-requires-clause-code
see_one-requires-clause-code g c = code_fits c.args.mapped.now c.mapped.m-index c.requires.mapped c.mapped-test.true

pub count_one-requires : goal.count_one-requires
count_one-requires g c =
    omega (
      arith,
      c.mapped.invariant.lines.few,
      length-take-le c.mapped.m-index c.args.mapped.now (omega (arith, c.mapped-test.true)),
      c.mapped-test.true,
      c.requires.mapped.few,
    )

pub see_one-requires-clause-seen : goal.see_one-requires-clause-seen
see_one-requires-clause-seen g c = record {
  few = omega (
    arith,
    c.mapped.invariant.held.each,
    length-take-le c.mapped.m-index c.args.mapped.now (omega (arith, c.mapped-test.true)),
    c.mapped-test.true,
    c.requires.mapped.few,
  );
  placed = c.mapped.invariant.held.placed;
  narrow = c.mapped.invariant.held.narrow;
}
