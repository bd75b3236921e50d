use Rattle.std.proofs.Common.{◌≡◌, ◌∙◌, ℤ, pos, ◌+ℤ◌, ◌-ℤ◌, unsigned_abs, to_z, of_z, arith, ap}
use Rattle.std.proofs.lemmas.Int.{ints}
use Rattle.std.specs.Int.{w64, w128}
use Rattle.fx_fixed.specs.Numbers.{wrapped_of}
use Rattle.fx_zone.specs.Interpolation.{in_proportion}
use Rattle.fx_zone.proofs.Multiplying.{near_positive}
use Rattle.fx_zone.proofs.interpolation.in_proportion.Goals as goal

pub returns-then-whole-le-MAX_SHORT : goal.returns-then-whole-le-MAX_SHORT
unfolding in_proportion
returns-then-whole-le-MAX_SHORT c =
    let part = c.difference-part.ensures in
    let whole = c.difference-whole.ensures in
    let apart = c.difference-apart.ensures in
    let low = c.if-apart-le-MAX_SHORT.true in
    let few = c.if-whole-le-MAX_SHORT.true in
    let up = c.if-whole-ge0.true in
    let above = c.requires.above in
    let below = c.requires.below in
    let m = unsigned_abs (to_z w64 (of_z w64 c.difference-part.result)) in
    let n = unsigned_abs (to_z w64 (of_z w64 c.difference-whole.result)) in
    let k = unsigned_abs (to_z w64 (of_z w64 c.difference-apart.result)) in
    let p : c.args.o -ℤ c.args.lo_org ≡ pos m = omega (arith, ints) in
    let q : c.args.hi_cur -ℤ c.args.lo_cur ≡ pos n = omega (arith, ints) in
    let d : c.args.hi_org -ℤ c.args.lo_org ≡ pos k = omega (arith, ints) in
    let near = near_positive (c.args.o -ℤ c.args.lo_org) (c.args.hi_cur -ℤ c.args.lo_cur) (c.args.hi_org -ℤ c.args.lo_org)
    m n k p q d in
    let moved = c.from.ensures ∙ ap pos c.short_quotient-moved.ensures in
    let same : to_z w128 (of_z w128 c.from.result) ≡ c.from.result = omega (arith, ints) in
    c.sum.ensures ∙ ap (λ (z : ℤ). wrapped_of (c.args.lo_cur +ℤ z)) (same ∙ moved ∙ near)
