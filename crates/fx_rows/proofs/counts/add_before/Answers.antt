use Rattle.std.proofs.Common.{◌∙◌, arith, ◌+◌, ◌^◌}
use Rattle.fx_fixed.proofs.Linear.{signed_linear}
use Rattle.fx_rows.proofs.Sums.{first_set}
use Rattle.fx_rows.proofs.counts.add_before.Goals as goal

pub add-requires-clause-small : goal.add-requires-clause-small
add-requires-clause-small c = λ k. let e =
    c.add_at.ensures.raised.grown (2 ^ 28) c.requires.small k in omega (arith, signed_linear, e)

pub returns-clause-raised : goal.returns-clause-raised
returns-clause-raised c =
    let start = c.add_at.ensures.raised in
    let stop = c.add.ensures.raised in
    record {
      inside = λ k l.
          let a = start.high (c.args.first + k + 1) (omega arith) in
          let b = stop.low (c.args.first + k + 1) (omega (arith, l)) in
          omega (arith, signed_linear, a, b, c.requires.value);
      outside = λ k l.
          let a = start.high (c.args.first + k + 1) (omega arith) in
          let b = stop.high (c.args.first + k + 1) (omega (arith, l)) in
          omega (arith, signed_linear, a, b, c.requires.value);
      under = λ n h. stop.low n (omega (arith, h)) ∙ start.low n h;
      grown = λ n w k. let e = stop.grown (n + 1) (start.grown n w) k in omega (arith, signed_linear, e);
    }

pub returns-clause-touched : goal.returns-clause-touched
returns-clause-touched c = λ t. c.add.ensures.touched
    (first_set c.args.diff.now c.add_at.new.diff c.args.touched.now c.args.first c.requires.start c.add_at.ensures.others t)
