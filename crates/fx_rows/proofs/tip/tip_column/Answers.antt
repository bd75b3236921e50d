use Rattle.std.proofs.Common.{◌≡◌, inl, inr, subst, ◌+◌, pos, ℤ, ◌*ℤ◌, ◌<ℤ◌, Option, arith}
use Rattle.fx_fixed.proofs.Linear.{signed}
use Rattle.fx_fixed.proofs.Order.{below_same_above}
use Rattle.fx_winding.specs.Meets.{IsTip, IsTipPart}
use Rattle.fx_winding.specs.Winding.{place_of, maybe_place_of}
use Rattle.fx_winding.specs.declared.point.Point.{Point}
use Rattle.fx_rows.specs.inner.Sides.{place_at}
use Rattle.fx_rows.proofs.tip.tip_column.Goals as goal

-- the slope from column to column has the sign of the slope
above : (s z : ℤ) → s ≡ pos 128 *ℤ z → pos 0 <ℤ z → pos 0 <ℤ s
above s z e h = omega (arith, signed, e, h)

not_above : (s z : ℤ) → s ≡ pos 128 *ℤ z → z <ℤ pos 0 → ¬ (pos 0 <ℤ s)
not_above s z e h l = omega (arith, signed, e, h, l)

pub returns-clause-only : goal.returns-clause-only
returns-clause-only c = λ k l tip.
    let p = c.args.piece.now in
    let s = c.args.strip in
    let is : IsTip (place_of p.a) (place_of c.args.b) (place_of p.c) (place_at s k) (place_at s (k + 1)) =
    subst (λ (b : Option Point). IsTipPart (place_of p.a) (maybe_place_of b) (place_of p.c) (place_at s k) (place_at s (k + 1)))
    c.requires.middle tip in
    elim (below_same_above (k + 1) c.cut_in.result) [
      | inl o ↦ absurd (not_above _ _ (c.gaps_of.ensures.slopes (k + 1)) is.falls (c.cut_in.ensures.below (k + 1) (omega arith) o))
      | inr (inl e) ↦ e
      | inr (inr o) ↦
          absurd (c.cut_in.ensures.rest k (omega (arith, o)) (omega (arith, l)) (above _ _ (c.gaps_of.ensures.slopes k) is.rises))
    ]
