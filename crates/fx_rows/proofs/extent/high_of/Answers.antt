use Rattle.std.proofs.Common.{inr, arith}
use Rattle.std.proofs.lemmas.Int.{clamps}
use Rattle.fx_fixed.proofs.Linear.{signed_linear}
use Rattle.fx_winding.specs.Winding.{IsBeforeTurn}
use Rattle.fx_rows.proofs.Extents.{here, high_plain, high_turned}
use Rattle.fx_rows.proofs.extent.high_of.Goals as goal

pub returns-then-b-ends-clause-to : goal.returns-then-b-ends-clause-to
returns-then-b-ends-clause-to c = λ x l.
    let near = c.requires in
    high_plain c.args.a c.args.b c.args.c x (λ m. omega (arith, signed_linear, clamps, near, l, m))

pub returns-clause-above : goal.returns-clause-above
returns-clause-above c = λ x l.
    let size = c.greatest_of.ensures.size in
    let near = c.requires in
    high_turned c.args.a c.args.b c.args.c x
    (omega (arith, signed_linear, size, near, l)) (omega (arith, signed_linear, size, near, l))
    (here c.args.a c.args.b c.args.c near (λ a b e. ¬ (IsBeforeTurn a b e x))
    (c.greatest_of.ensures.after x (omega (arith, signed_linear, size, near, l))))

pub returns-clause-to : goal.returns-clause-to
returns-clause-to c = λ x l.
    let size = c.greatest_of.ensures.size in
    let near = c.requires in
    let beyond = c.if-b-ends.false in
    inr (inr (
      omega (arith, signed_linear, clamps, near, beyond),
      omega (arith, signed_linear, clamps, near, beyond),
      here c.args.a c.args.b c.args.c near (λ a b e. IsBeforeTurn a b e x)
          (c.greatest_of.ensures.to x (omega (arith, signed_linear, size, near, l))),
    ))
