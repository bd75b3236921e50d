use Rattle.std.proofs.Common.{inr, arith}
use Rattle.std.proofs.lemmas.Int.{clamps}
use Rattle.fx_fixed.proofs.Linear.{signed_linear}
use Rattle.fx_winding.specs.Winding.{IsBeforeTurn}
use Rattle.fx_rows.proofs.Extents.{here, low_plain, low_turned}
use Rattle.fx_rows.proofs.extent.low_of.Goals as goal

pub returns-then-b-ends-clause-from : goal.returns-then-b-ends-clause-from
returns-then-b-ends-clause-from c = λ x l.
    let near = c.requires in
    low_plain c.args.a c.args.b c.args.c x (λ m. omega (arith, signed_linear, clamps, near, l, m))

pub returns-clause-below : goal.returns-clause-below
returns-clause-below c = λ x l.
    let size = c.least_of.ensures.size in
    let near = c.requires in
    low_turned c.args.a c.args.b c.args.c x
    (omega (arith, signed_linear, size, near, l)) (omega (arith, signed_linear, size, near, l))
    (here c.args.a c.args.b c.args.c near (λ a b e. ¬ (IsBeforeTurn a b e x))
    (c.least_of.ensures.before x (omega (arith, signed_linear, size, near, l))))

pub returns-clause-from : goal.returns-clause-from
returns-clause-from c = λ x l.
    let size = c.least_of.ensures.size in
    let near = c.requires in
    let beyond = c.if-b-ends.false in
    inr (inr (
      omega (arith, signed_linear, clamps, near, beyond),
      omega (arith, signed_linear, clamps, near, beyond),
      here c.args.a c.args.b c.args.c near (λ a b e. IsBeforeTurn a b e x)
          (c.least_of.ensures.from x (omega (arith, signed_linear, size, near, l))),
    ))
