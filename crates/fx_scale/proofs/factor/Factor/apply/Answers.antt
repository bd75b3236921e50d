use Rattle.std.proofs.Common.{◌∙◌, FitsSigned, to_z-of_z, arith, sym}
use Rattle.std.specs.Int.{w32}
use Rattle.fx_scale.proofs.Exact.{exact_of}
use Rattle.fx_scale.proofs.Factors.{multiplied}
use Rattle.fx_scale.proofs.factor.Factor.apply.Goals as goal

pub overflow_mul-parts : goal.overflow_mul-parts
overflow_mul-parts c =
    let s = c.args.self.now in
    let fits : FitsSigned w32 c.args.v = c.ranges.v in
    let q = multiplied c.args.v s.parts s.ppem s.units_per_em s.size s.units c.requires s.counted in
    rw (c.from.ensures ∙ to_z-of_z fits) q.product_fits

pub overflow_add-parts : goal.overflow_add-parts
overflow_add-parts c =
    let s = c.args.self.now in
    let fits : FitsSigned w32 c.args.v = c.ranges.v in
    let q = multiplied c.args.v s.parts s.ppem s.units_per_em s.size s.units c.requires s.counted in
    rw (c.from.ensures ∙ to_z-of_z fits) q.fits

pub returns-clause-value : goal.returns-clause-value
returns-clause-value c =
    let s = c.args.self.now in
    let fits : FitsSigned w32 c.args.v = c.ranges.v in
    let q = multiplied c.args.v s.parts s.ppem s.units_per_em s.size s.units c.requires s.counted in
    let few = c.requires in
    rw (c.from.ensures ∙ to_z-of_z fits, q.value)
    (q.cast ∙ sym (exact_of c.args.v s.ppem s.units_per_em (omega (arith, few)) s.size s.units))

pub returns-clause-size : goal.returns-clause-size
returns-clause-size c =
    let s = c.args.self.now in
    let fits : FitsSigned w32 c.args.v = c.ranges.v in
    let q = multiplied c.args.v s.parts s.ppem s.units_per_em s.size s.units c.requires s.counted in
    rw (c.from.ensures ∙ to_z-of_z fits, q.value, q.cast) q.small
