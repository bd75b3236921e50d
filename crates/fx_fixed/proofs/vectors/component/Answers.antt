use Rattle.std.proofs.Common.{◌≡◌, unsigned_abs, arith}
use Rattle.std.proofs.lemmas.Int.{ints}
use Rattle.fx_fixed.proofs.Units.{component_signed}
use Rattle.fx_fixed.proofs.vectors.component.Goals as goal

pub returns-then-coordinate-lt0-clause-component : goal.returns-then-coordinate-lt0-clause-component
returns-then-coordinate-lt0-clause-component c =
    let e : c.unsigned_abs.result ≡ unsigned_abs c.args.coordinate = omega (arith, ints) in
    component_signed c.args.coordinate c.args.square c.greatest-size.result _ c.requires.positive
    (rw e at c.greatest-size.ensures.value) (λ l. omega (arith, ints)) (λ l. absurd (omega (arith, ints)))

pub returns-else-coordinate-lt0-clause-component : goal.returns-else-coordinate-lt0-clause-component
returns-else-coordinate-lt0-clause-component c =
    let e : c.unsigned_abs.result ≡ unsigned_abs c.args.coordinate = omega (arith, ints) in
    component_signed c.args.coordinate c.args.square c.greatest-size.result _ c.requires.positive
    (rw e at c.greatest-size.ensures.value) (λ l. absurd (omega (arith, ints))) (λ l. omega (arith, ints))
